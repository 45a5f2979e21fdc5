-- Nets of which those that read a net have new tables: which nets they are, and when the network with them is well formed and
-- means what it meant.
use Rattle.std.proofs.Common.{◌≡◌, ◌∙◌, ◌⊎◌, ℕ, zero, suc, true, false, List, [], ◌∷◌, map, Option, Some, None, is_some, inl, inr, refl, sym, ap, subst, ⊎_elim, ◌≤◌, nat_eq, length, arith, eqb-true, eq-eqb}
use Rattle.std.proofs.lemmas.Bool.{cases_Bool, cond_both, cond-true, cond-false, false≢true, false_from_ne_true, or_cases, or_left}
use Rattle.mv_base.specs.Meaning.{SameMeaning}
use Rattle.mv_base.specs.declared.number.NetId.{NetId}
use Rattle.mv_cover.specs.declared.cover.Cover.{Cover}
use Rattle.mv_cover.specs.Covers.{allowed, cover_reads}
use Rattle.mv_cover.specs.Covering.{IsPoint}
use Rattle.mv_graph.specs.Above.{IsAbove}
use Rattle.mv_graph.specs.Nets.{has_id, IsAscending}
use Rattle.mv_net.specs.declared.parts.FlatNet.{FlatNet}
use Rattle.mv_net.specs.declared.parts.NetParts.{NetParts}
use Rattle.mv_net.specs.Nets.{slot, values_in, table_in, table_reads, net_reads, reads_in}
use Rattle.mv_net.specs.Formed.{IsCover, WellFormed}
use Rattle.mv_net.specs.Allowed.{net_allows, net_table_allows, Agrees, of_net}
use Rattle.mv_net.specs.Changes.{with_nets}
use Rattle.mv_meaning.specs.Rewriting.{rewired_table, rewired, rewritten, IsAlike, IsReformed, IsReader, HasOneReader, AgreesUnread}
use Rattle.mv_meaning.proofs.Reformed.{IsAlike-refl, same_tables}
use Rattle.mv_meaning.proofs.Following.{along_formed}

-- ---- which nets they are

pub slot-rewritten : (new : Cover → Cover) (n : ℕ) (nets : List (Option FlatNet)) (m : ℕ) → slot (rewritten new n nets) m ≡ rewired new n (slot nets m)
unfolding rewritten
slot-rewritten new n [] m = refl
slot-rewritten new n (f ∷ fs) zero = refl
slot-rewritten new n (f ∷ fs) (suc m) = slot-rewritten new n fs m

table-rewired : (new : Cover → Cover) (n : ℕ) (f : Option FlatNet) → table_in (rewired new n f) ≡ rewired_table new n (table_in f)
table-rewired new n None = refl
table-rewired new n (Some f) = refl

pub table-rewritten : (new : Cover → Cover) (n : ℕ) (nets : List (Option FlatNet)) (m : ℕ) → table_in (slot (rewritten new n nets) m) ≡ rewired_table new n (table_in (slot nets m))
table-rewritten new n nets m = ap table_in (slot-rewritten new n nets m) ∙ table-rewired new n (slot nets m)

-- a table that doesn't read n stays, and so does its net
rewired_table-unread : (new : Cover → Cover) (n : ℕ) (t : Option Cover) → table_reads t n ≡ false → rewired_table new n t ≡ t
rewired_table-unread new n None unread = refl
rewired_table-unread new n (Some c) unread = rw unread refl

rewired-unread : (new : Cover → Cover) (n : ℕ) (f : Option FlatNet) → net_reads f n ≡ false → rewired new n f ≡ f
rewired-unread new n None unread = refl
rewired-unread new n (Some f) unread = let e = rewired_table-unread new n f.table unread in λ i. Some (record f { table = e i })

pub slot-unread : (new : Cover → Cover) (n : ℕ) (nets : List (Option FlatNet)) (m : ℕ) → reads_in nets m n ≡ false → slot (rewritten new n nets) m ≡ slot nets m
slot-unread new n nets m unread = slot-rewritten new n nets m ∙ rewired-unread new n (slot nets m) unread

-- a table that reads n gives way
pub table-reader : (new : Cover → Cover) (n : ℕ) (nets : List (Option FlatNet)) (m : ℕ) (c : Cover) → IsReader nets n m c → table_in (slot (rewritten new n nets) m) ≡ Some (new c)
table-reader new n nets m c r =
    table-rewritten new n nets m ∙ (ap (rewired_table new n) r.table ∙ ap (λ d. Some d) (cond-true (cover_reads c n) (new c) c r.reads))

-- a net that reads n has a table that does
pub reader_at : (nets : List (Option FlatNet)) (n m : ℕ) → reads_in nets m n ≡ true → (c : Cover) × IsReader nets n m c
reader_at nets n m reads = by_table (table_in (slot nets m)) refl reads
  where
    by_table : (t : Option Cover) → table_in (slot nets m) ≡ t → table_reads t n ≡ true → (c : Cover) × IsReader nets n m c
    by_table None e h = absurd (false≢true h)
    by_table (Some c) e h = (c, record { table = e; reads = h })

pub reader_reads : (nets : List (Option FlatNet)) (n m : ℕ) (c : Cover) → IsReader nets n m c → reads_in nets m n ≡ true
reader_reads nets n m c r = ap (λ t. table_reads t n) r.table ∙ r.reads

-- no net of a well-formed network reads itself
pub itself_unread : (net : NetParts) (n : ℕ) → WellFormed net → reads_in net.nets n n ≡ false
itself_unread net n formed = false_from_ne_true _ (λ r. formed.acyclic.none n (record { path = []; goes = r }))

-- a table of these nets is made of one that read n, or stayed
pub record IsMadeOf (new : Cover → Cover) (n : ℕ) (nets : List (Option FlatNet)) (m : ℕ) (d : Cover) : Type 0 where
  pub was : Cover
  pub reader : IsReader nets n m was
  pub is : d ≡ new was

pub record HasStayed (n : ℕ) (nets : List (Option FlatNet)) (m : ℕ) (d : Cover) : Type 0 where
  pub table : table_in (slot nets m) ≡ Some d
  pub unread : cover_reads d n ≡ false

pub rewritten_from : (new : Cover → Cover) (n : ℕ) (nets : List (Option FlatNet)) (m : ℕ) (d : Cover) → table_in (slot (rewritten new n nets) m) ≡ Some d → IsMadeOf new n nets m d ⊎ HasStayed n nets m d
rewritten_from new n nets m d e = by_table (table_in (slot nets m)) refl (sym (table-rewritten new n nets m) ∙ e)
  where
    by_table : (t : Option Cover) → table_in (slot nets m) ≡ t → rewired_table new n t ≡ Some d → IsMadeOf new n nets m d ⊎ HasStayed n nets m d
    by_table None was h = cc
    by_table (Some c) was h =
        ⊎_elim
        (λ (y : cover_reads c n ≡ true).
        let here : Some (new c) ≡ Some d = sym (ap (λ b. Some b) (cond-true (cover_reads c n) (new c) c y)) ∙ h in
        inl (record { was = c; reader = record { table = was; reads = y }; is = cc }))
        (λ (f : cover_reads c n ≡ false).
        let here : Some c ≡ Some d = sym (ap (λ b. Some b) (cond-false (cover_reads c n) (new c) c f)) ∙ h in
        let same : c ≡ d = cc in
        inr (record { table = was ∙ here; unread = subst (λ b. cover_reads b n ≡ false) same f }))
        (cases_Bool (cover_reads c n))

-- ---- they differ in their tables alone

tabled-rewired : (new : Cover → Cover) (n : ℕ) (t : Option Cover) → is_some (rewired_table new n t) ≡ is_some t
tabled-rewired new n None = refl
tabled-rewired new n (Some c) = refl

IsAlike-rewired : (new : Cover → Cover) (n : ℕ) (f : Option FlatNet) → IsAlike f (rewired new n f)
IsAlike-rewired new n None = IsAlike-refl None
IsAlike-rewired new n (Some f) = record { kind = refl; name = refl; values = refl; value_names = refl; tabled = tabled-rewired new n f.table }

pub IsReformed-rewritten : (new : Cover → Cover) (n : ℕ) (nets : List (Option FlatNet)) → IsReformed nets (rewritten new n nets)
IsReformed-rewritten new n nets = record { each = λ m. subst (λ g. IsAlike (slot nets m) g) (sym (slot-rewritten new n nets m)) (IsAlike-rewired new n (slot nets m)) }

-- ---- well formed

-- a table of a well-formed network is a cover
pub cover_at : (net : NetParts) (n : ℕ) (c : Cover) → WellFormed net → table_in (slot net.nets n) ≡ Some c → IsCover net.nets (values_in (slot net.nets n)) c
cover_at net n c formed e = by_slot (slot net.nets n) refl e
  where
    by_slot : (f : Option FlatNet) → slot net.nets n ≡ f → table_in f ≡ Some c → IsCover net.nets (values_in f) c
    by_slot None held table = cc
    by_slot (Some f) held table = (formed.nets n f held).cover c table

-- each new table is a cover, and what it reads is above the reader
pub rewritten_formed : (net : NetParts) (n : ℕ) (new : Cover → Cover) → WellFormed net
    → ((m : ℕ) (c : Cover) → IsReader net.nets n m c → IsCover net.nets (values_in (slot net.nets m)) (new c))
    → ((m : ℕ) (c : Cover) (k : ℕ) → IsReader net.nets n m c → cover_reads (new c) k ≡ true → IsAbove (reads_in net.nets) k m)
    → WellFormed (with_nets net (rewritten new n net.nets))
rewritten_formed net n new formed covers above =
    along_formed net (rewritten new n net.nets) formed (IsReformed-rewritten new n net.nets)
    (record { each = λ m d e. subst (λ k. IsCover net.nets k d) (sym ((IsReformed-rewritten new n net.nets).each m).values) (cover m d e) })
    (record { along = along })
  where
    cover : (m : ℕ) (d : Cover) → table_in (slot (rewritten new n net.nets) m) ≡ Some d → IsCover net.nets (values_in (slot net.nets m)) d
    cover m d e =
        ⊎_elim
        (λ (made : IsMadeOf new n net.nets m d). subst (λ b. IsCover net.nets (values_in (slot net.nets m)) b) (sym made.is) (covers m made.was made.reader))
        (λ (left : HasStayed n net.nets m d). cover_at net m d formed left.table)
        (rewritten_from new n net.nets m d e)

    along : (m k : ℕ) → reads_in (rewritten new n net.nets) m k ≡ true → IsAbove (reads_in net.nets) k m
    along m k reads =
        let r = reader_at (rewritten new n net.nets) k m reads in
        ⊎_elim
        (λ (made : IsMadeOf new n net.nets m r.0). above m made.was k made.reader (subst (λ b. cover_reads b k ≡ true) made.is r.1.reads))
        (λ (left : HasStayed n net.nets m r.0). record { path = []; goes = ap (λ t. table_reads t k) left.table ∙ r.1.reads })
        (rewritten_from new n net.nets m r.0 r.1.table)

-- ---- the same meaning

-- an assignment that agrees with the nets so agrees with those of the network that don't read n
agrees_unread : (new : Cover → Cover) (n : ℕ) (nets : List (Option FlatNet)) (x : ℕ → ℕ) → Agrees (rewritten new n nets) x ⊎ Agrees nets x → AgreesUnread nets n x
agrees_unread new n nets x either = record {
  each = λ m unread.
      ⊎_elim
      (λ (a : Agrees (rewritten new n nets) x). ap (λ f. net_allows f x (x m)) (sym (slot-unread new n nets m unread)) ∙ a.each m)
      (λ (a : Agrees nets x). a.each m)
      either;
}

-- where the nets that don't read n have such values that each new table allows what the old one does, the network means what it
-- meant
pub rewritten_means : (net : NetParts) (n : ℕ) (new : Cover → Cover)
    → ((x : ℕ → ℕ) → AgreesUnread net.nets n x → IsPoint (map values_in net.nets) x → (m : ℕ) (c : Cover) → IsReader net.nets n m c → allowed (new c) x (x m) ≡ allowed c x (x m))
    → SameMeaning (of_net (with_nets net (rewritten new n net.nets))) (of_net net)
rewritten_means net n new same =
    same_tables net (rewritten new n net.nets) (IsReformed-rewritten new n net.nets)
    (λ x point either m.
    ap (λ t. net_table_allows t x (x m)) (table-rewritten new n net.nets m) ∙ by_table x point (agrees_unread new n net.nets x either) m (table_in (slot net.nets m)) refl)
  where
    by_table : (x : ℕ → ℕ) → IsPoint (map values_in net.nets) x → AgreesUnread net.nets n x → (m : ℕ) (t : Option Cover) → table_in (slot net.nets m) ≡ t → net_table_allows (rewired_table new n t) x (x m) ≡ net_table_allows t x (x m)
    by_table x point a m None e = refl
    by_table x point a m (Some c) e =
        cond_both (cover_reads c n) (new c) c (λ d. allowed d x (x m) ≡ allowed c x (x m)) (λ y. same x a point m c (record { table = e; reads = y })) (λ f. refl)

-- ---- how many readers

-- a net whose list of readers is short has one reader at most, and one if the list has any
pub one_reader : (nets : List (Option FlatNet)) (n : ℕ) (list : List NetId) → IsAscending (λ m. net_reads (slot nets m) n) list → length list ≤ 1 → HasOneReader nets n
one_reader nets n [] is few = record { one = λ m k r _. absurd (false≢true (is.members m ∙ r)) }
one_reader nets n (a ∷ []) is few = record { one = λ m k r s. sym (at m r) ∙ at k s }
  where
    at : (m : ℕ) → reads_in nets m n ≡ true → a.0 ≡ m
    at m r =
        ⊎_elim (λ (y : nat_eq a.0 m ≡ true). eqb-true a.0 m y) (λ (bad : false ≡ true). absurd (false≢true bad)) (or_cases (nat_eq a.0 m) false (is.members m ∙ r))
one_reader nets n (a ∷ b ∷ list) is few = absurd (omega (arith, few))

pub some_reader : (nets : List (Option FlatNet)) (n : ℕ) (a : NetId) (list : List NetId) → IsAscending (λ m. net_reads (slot nets m) n) (a ∷ list) → reads_in nets a.0 n ≡ true
some_reader nets n a list is = sym (is.members a.0) ∙ or_left (nat_eq a.0 a.0) (has_id list a.0) (eq-eqb a.0 a.0 refl)
