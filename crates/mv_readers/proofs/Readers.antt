-- New tables for the readers of a net, one after the other.
use Rattle.std.proofs.Common.{◌≡◌, ◌∙◌, ℕ, ◌+◌, ◌<◌, ◌≤◌, true, false, ◌||◌, cond, not, nat_eq, List, [], ◌∷◌, ◌++◌, length, map, take, get_or, Option, Some, None, IsTrue, is_some, refl, sym, ap, subst, ⊎_elim, eqb-true, arith}
use Rattle.std.specs.Option.{option_or}
use Rattle.std.proofs.lemmas.Bool.{cases_Bool, or_parts, or_cases, false≢true, false_from_ne_true, and_from}
use Rattle.std.proofs.lemmas.List.{take_more, take_all, map-append}
use Rattle.std.proofs.lemmas.Option.{same_Some}
use Rattle.mv_base.specs.declared.number.NetId.{NetId}
use Rattle.mv_cover.specs.declared.cover.Cover.{Cover}
use Rattle.mv_graph.specs.Nets.{has_id, all_differ, ids_ascend, IsAscending}
use Rattle.mv_graph.proofs.Nets.{has_id-append, has_id-at, has_id-more, above_first, ascend_tail}
use Rattle.mv_meaning.specs.Rewriting.{IsReader, SetsReaders}
use Rattle.mv_meaning.proofs.Rewired.{reader_reads}
use Rattle.mv_net.specs.declared.change.NewTable.{NewTable}
use Rattle.mv_net.specs.declared.parts.FlatNet.{FlatNet}
use Rattle.mv_net.specs.declared.parts.NetParts.{NetParts}
use Rattle.mv_net.specs.Changes.{table_for, AreHeldOnce, Fits}
use Rattle.mv_net.specs.Index.{is_held}
use Rattle.mv_net.specs.Nets.{slot, table_in, table_reads, net_reads, reads_in}
use Rattle.mv_readers.specs.Readers.{AreTablesFor, AreRewritten, EachReader}

-- ---- tables that are given

-- no table is given to a net that isn't listed
pub unlisted : (ts : List NewTable) (n : ℕ) → has_id (map (λ (t : NewTable). t.net) ts) n ≡ false → table_for n ts ≡ None
unlisted [] n h = refl
unlisted (t ∷ ts) n h =
    let parts = or_parts (nat_eq t.net.0 n) (has_id (map (λ (u : NewTable). u.net) ts) n) h in
    ap (λ b. cond b (Some t.table) (table_for n ts)) parts.0 ∙ unlisted ts n parts.1

-- the table that is given first counts
given_first : (xs ys : List NewTable) (n : ℕ) → table_for n (xs ++ ys) ≡ option_or (table_for n xs) (table_for n ys)
given_first [] ys n = refl
given_first (x ∷ xs) ys n =
    ⊎_elim
    (λ (y : nat_eq x.net.0 n ≡ true). rw y refl)
    (λ (other : nat_eq x.net.0 n ≡ false). rw other (given_first xs ys n))
    (cases_Bool (nat_eq x.net.0 n))

-- a net with a table is held
pub tabled_held : (nets : List (Option FlatNet)) (n : ℕ) → is_some (table_in (slot nets n)) ≡ true → IsTrue (is_held nets n)
tabled_held nets n h = by (slot nets n) h
  where
    by : (o : Option FlatNet) → is_some (table_in o) ≡ true → is_some o ≡ true
    by None t = absurd (false≢true t)
    by (Some f) t = refl

-- ---- one reader after the other

pub tables_none : (nets : List (Option FlatNet)) (new : Cover → Cover) (n : ℕ) → AreTablesFor nets new n [] []
tables_none nets new n = record { given = refl; tables = λ m c h r. absurd (false≢true h) }

-- a reader more has its new table
pub tables_more : (nets : List (Option FlatNet)) (new : Cover → Cover) (n : ℕ) (list : List NetId) (set : List NewTable) (r : NetId) (c : Cover) → IsReader nets n r.0 c
    → AreTablesFor nets new n list set → AreTablesFor nets new n (list ++ r ∷ []) (set ++ record { net = r; table = new c } ∷ [])
tables_more nets new n list set r c reader are = record { given = map-append _ set _ ∙ ap (λ l. l ++ r ∷ []) are.given; tables = all }
  where
    last : List NewTable
    last = record { net = r; table = new c } ∷ []

    all : (m : ℕ) (d : Cover) → has_id (list ++ r ∷ []) m ≡ true → IsReader nets n m d → table_for m (set ++ last) ≡ Some (new d)
    all m d h is =
        given_first set last m
        ∙ ⊎_elim
        (λ (before : has_id list m ≡ true). ap (λ o. option_or o (table_for m last)) (are.tables m d before is))
        (λ (absent : has_id list m ≡ false).
        let here : nat_eq r.0 m ≡ true = only absent in
        let same = eqb-true r.0 m here in
        let tables = same_Some c d (sym reader.table ∙ (ap (λ k. table_in (slot nets k)) same ∙ is.table)) in
        ap (λ o. option_or o (table_for m last)) (unlisted set m (ap (λ l. has_id l m) are.given ∙ absent))
        ∙ (ap (λ b. cond b (Some (new c)) None) here ∙ ap (λ e. Some (new e)) tables))
        (cases_Bool (has_id list m))
      where
        only : has_id list m ≡ false → nat_eq r.0 m ≡ true
        only absent =
            ⊎_elim
            (λ (before : has_id list m ≡ true). absurd (false≢true (sym absent ∙ before)))
            (λ (last_one : (nat_eq r.0 m || false) ≡ true). ⊎_elim (λ (y : nat_eq r.0 m ≡ true). y) (λ (f : false ≡ true). absurd (false≢true f)) (or_cases (nat_eq r.0 m) false last_one))
            (or_cases (has_id list m) (nat_eq r.0 m || false) (sym (has_id-append list (r ∷ []) m) ∙ h))

-- ---- all readers

pub sets_readers : (nets : List (Option FlatNet)) (new : Cover → Cover) (n : ℕ) (set : List NewTable) → AreRewritten nets new n set → SetsReaders new n nets set
sets_readers nets new n set are = record {
  readers = λ m c r. are.tables.tables m c (are.ascending.members m ∙ reader_reads nets n m c r) r;
  others = λ m u. unlisted set m (ap (λ l. has_id l m) are.tables.given ∙ (are.ascending.members m ∙ u));
}

-- ascending nets differ
differ : (ns : List NetId) → ids_ascend ns ≡ true → all_differ ns ≡ true
differ [] h = refl
differ (n ∷ ns) h = and_from (not (has_id ns n.0)) (all_differ ns) (ap not (false_from_ne_true _ (λ y. let low = above_first n ns n.0 h y in absurd (omega arith)))) (differ ns (ascend_tail n ns h))

-- they are held, and each stands in the list once
pub readers_held : (net : NetParts) (new : Cover → Cover) (n : ℕ) (set : List NewTable) → AreRewritten net.nets new n set → AreHeldOnce net.nets (map (λ (t : NewTable). t.net) set)
readers_held net new n set are = record {
  held = λ m h. reader_held m (sym (are.ascending.members m) ∙ (sym (ap (λ l. has_id l m) are.tables.given) ∙ h));
  once = ap all_differ are.tables.given ∙ differ are.readers are.ascending.ascending;
}
  where
    held_at : (o : Option FlatNet) → table_reads (table_in o) n ≡ true → is_some o ≡ true
    held_at None h = absurd (false≢true h)
    held_at (Some f) h = refl

    reader_held : (m : ℕ) → reads_in net.nets m n ≡ true → IsTrue (is_held net.nets m)
    reader_held m h = held_at (slot net.nets m) h

-- a change of new tables for readers, and of nets that go, which are none of them
pub fits_tables : (net : NetParts) (new : Cover → Cover) (n : ℕ) (set : List NewTable) (gone : List NetId) → AreRewritten net.nets new n set → AreHeldOnce net.nets gone
    → ((m : ℕ) → has_id gone m ≡ true → reads_in net.nets m n ≡ false) → Fits net (record { add = []; set = set; values = []; gone = gone })
fits_tables net new n set gone are held apart = record {
  set = readers_held net new n set are;
  values = record { held = λ m h. absurd (false≢true h); once = refl };
  gone = held;
  apart = λ m h. (ap (λ l. has_id l m) are.tables.given ∙ (are.ascending.members m ∙ apart m h), refl);
  names = λ k m w h g. let bad : None ≡ Some h.net = h.held in absurd cc;
}

-- ---- the readers of a list

-- one of the readers reads
pub listed_reads : (nets : List (Option FlatNet)) (n : ℕ) (readers : List NetId) (i : ℕ) (d : NetId) → i < length readers → IsAscending (λ m. net_reads (slot nets m) n) readers
    → net_reads (slot nets (get_or readers i d).0) n ≡ true
listed_reads nets n readers i d low is = sym (is.members (get_or readers i d).0) ∙ has_id-at readers i d low

-- so it has a table
pub listed_table : (nets : List (Option FlatNet)) (n : ℕ) (readers : List NetId) (i : ℕ) (d : NetId) → i < length readers → IsAscending (λ m. net_reads (slot nets m) n) readers
    → is_some (table_in (slot nets (get_or readers i d).0)) ≡ true
listed_table nets n readers i d low is = by (table_in (slot nets (get_or readers i d).0)) (listed_reads nets n readers i d low is)
  where
    by : (t : Option Cover) → table_reads t n ≡ true → is_some t ≡ true
    by None h = absurd (false≢true h)
    by (Some c) h = refl

pub listed_reader_is : (nets : List (Option FlatNet)) (n : ℕ) (readers : List NetId) (i : ℕ) (d : NetId) (outer : Cover) → i < length readers → IsAscending (λ m. net_reads (slot nets m) n) readers
    → table_in (slot nets (get_or readers i d).0) ≡ Some outer → IsReader nets n (get_or readers i d).0 outer
listed_reader_is nets n readers i d outer low is held = record {
  table = held;
  reads = sym (ap (λ t. table_reads t n) held) ∙ listed_reads nets n readers i d low is;
}

-- the next reader's table comes behind those of the readers before it
pub tables_next : (nets : List (Option FlatNet)) (new : Cover → Cover) (n : ℕ) (readers : List NetId) (i : ℕ) (d : NetId) (set more : List NewTable) (outer table : Cover)
    → i < length readers → IsAscending (λ m. net_reads (slot nets m) n) readers → table_in (slot nets (get_or readers i d).0) ≡ Some outer
    → table ≡ new outer → more ≡ set ++ record { net = get_or readers i d; table = table } ∷ [] → AreTablesFor nets new n (take i readers) set → AreTablesFor nets new n (take (i + 1) readers) more
tables_next nets new n readers i d set more outer table low is held made pushed are =
    let P : List NewTable → Type 0 = λ s. AreTablesFor nets new n (take (i + 1) readers) s in
    let Q : List NetId → Type 0 = λ l. AreTablesFor nets new n l (set ++ record { net = get_or readers i d; table = new outer } ∷ []) in
    subst P (sym (pushed ∙ ap (λ t. set ++ record { net = get_or readers i d; table = t } ∷ []) made))
    (subst Q (sym (take_more readers i d low))
    (tables_more nets new n (take i readers) set (get_or readers i d) outer (listed_reader_is nets n readers i d outer low is held) are))

-- at the end all readers have theirs
pub rewritten_all : (nets : List (Option FlatNet)) (new : Cover → Cover) (n : ℕ) (readers : List NetId) (i : ℕ) (set : List NewTable) → length readers ≤ i → IsAscending (λ m. net_reads (slot nets m) n) readers
    → AreTablesFor nets new n (take i readers) set → AreRewritten nets new n set
rewritten_all nets new n readers i set past is are =
    record { readers = readers; ascending = is; tables = subst (λ l. AreTablesFor nets new n l set) (take_all i readers past) are }

-- ---- what holds of the tables of all readers

pub each_none : (nets : List (Option FlatNet)) (n : ℕ) (Is : Cover → Type 0) → EachReader nets n (has_id []) Is
each_none nets n Is = record { each = λ m c h r. absurd (false≢true h) }

-- it holds of one more
pub each_next : (nets : List (Option FlatNet)) (n : ℕ) (Is : Cover → Type 0) (readers : List NetId) (i : ℕ) (d : NetId) (outer : Cover) → i < length readers → table_in (slot nets (get_or readers i d).0) ≡ Some outer → Is outer
    → EachReader nets n (has_id (take i readers)) Is → EachReader nets n (has_id (take (i + 1) readers)) Is
each_next nets n Is readers i d outer low held is before = record {
  each = λ m c h r.
      ⊎_elim
      (λ (old : has_id (take i readers) m ≡ true). before.each m c old r)
      (λ (here : nat_eq (get_or readers i d).0 m ≡ true).
      let same = eqb-true (get_or readers i d).0 m here in
      let tables = same_Some outer c (sym held ∙ (ap (λ k. table_in (slot nets k)) same ∙ r.table)) in
      subst Is tables is)
      (or_cases (has_id (take i readers) m) (nat_eq (get_or readers i d).0 m) (sym (has_id-more readers i (get_or readers i d) d m low refl) ∙ h));
}

-- at the end of all
pub each_all : (nets : List (Option FlatNet)) (n : ℕ) (Is : Cover → Type 0) (readers : List NetId) (i : ℕ) → length readers ≤ i → IsAscending (λ m. net_reads (slot nets m) n) readers
    → EachReader nets n (has_id (take i readers)) Is → EachReader nets n (λ m. reads_in nets m n) Is
each_all nets n Is readers i past is before = record { each = λ m c h r. before.each m c (ap (λ l. has_id l m) (take_all i readers past) ∙ (is.members m ∙ h)) r }

-- if it holds of all, it does of this one
pub each_at : (nets : List (Option FlatNet)) (n : ℕ) (Is : Cover → Type 0) (readers : List NetId) (i : ℕ) (d : NetId) (outer : Cover) → i < length readers → IsAscending (λ m. net_reads (slot nets m) n) readers
    → table_in (slot nets (get_or readers i d).0) ≡ Some outer → EachReader nets n (λ m. reads_in nets m n) Is → Is outer
each_at nets n Is readers i d outer low is held all = all.each (get_or readers i d).0 outer (listed_reads nets n readers i d low is) (listed_reader_is nets n readers i d outer low is held)
