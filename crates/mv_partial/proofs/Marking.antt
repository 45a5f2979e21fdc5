-- The nets from which on some table isn't total: by their readers, one net after the other.
use Rattle.std.proofs.Common.{◌≡◌, ◌∙◌, ◌⊎◌, ℕ, ◌+◌, ◌<◌, ◌≤◌, Bool, true, false, not, nat_eq, List, [], ◌∷◌, length, min, take, drop, drop-cons, take-append-drop, set, get_or, Option, Some, None, is_some, add-one, inl, inr, refl, sym, ap, subst, ⊎_elim, eqb-true, arith}
use Rattle.std.specs.Prelude.{MatchBool}
use Rattle.std.proofs.lemmas.Bool.{cases_eq, false≢true, or_cases}
use Rattle.std.proofs.lemmas.List.{drop_all, get_or-set_same, get_or-set_other, get_or-take, length-set, length-take, take_all}
use Rattle.std.proofs.lemmas.Option.{slice_get-get_or}
use Rattle.mv_base.specs.declared.number.NetId.{NetId}
use Rattle.mv_dag.proofs.Differing.{places_differ}
use Rattle.mv_graph.specs.Above.{GoesOn, IsAbove}
use Rattle.mv_graph.specs.Marks.{is_marked}
use Rattle.mv_graph.specs.Nets.{has_id, IsAscending}
use Rattle.mv_graph.proofs.Columns.{id_at}
use Rattle.mv_graph.proofs.Nets.{has_id-append, has_id-at, has_id-more}
use Rattle.mv_graph.proofs.Paths.{above_first, above_more}
use Rattle.mv_meaning.specs.Narrowing.{AreTotalBelow}
use Rattle.mv_net.specs.declared.parts.FlatNet.{FlatNet}
use Rattle.mv_net.specs.declared.parts.NetParts.{NetParts}
use Rattle.mv_net.specs.Index.{is_held}
use Rattle.mv_net.specs.Nets.{slot, net_reads, reads_in}
use Rattle.mv_net.specs.Order.{IsOrder}
use Rattle.mv_net.specs.Total.{IsTotalNet}
use Rattle.mv_net.proofs.Known.{is_held_below}
use Rattle.mv_partial.specs.Partial.{AreMarked, HasMarkedReaders, ArePartial, IsPartialMark, IsTotalDown}

-- ---- the readers of one net

-- a net below n is a reader of n, or below one
record IsBelowReader (reads : ℕ → ℕ → Bool) (n m : ℕ) : Type 0 where
  reader : ℕ
  reads_it : reads reader n ≡ true
  below : IsAbove reads reader m

below_last : (reads : ℕ → ℕ → Bool) (n m : ℕ) (path : List ℕ) → GoesOn reads n m path → (reads m n ≡ true) ⊎ IsBelowReader reads n m
below_last reads n m [] goes = inl goes
below_last reads n m (k ∷ path) goes =
    ⊎_elim
    (λ (r : reads k n ≡ true). inr (record { reader = k; reads_it = r; below = record { path = []; goes = goes.0 } }))
    (λ (b : IsBelowReader reads n k). inr (record { reader = b.reader; reads_it = b.reads_it; below = above_first reads m k b.reader goes.0 b.below }))
    (below_last reads n k path goes.1)

module _ (nets : List (Option FlatNet)) (n : ℕ) where
  -- a reader from which on some table isn't total
  pub partial_by : (m : ℕ) → reads_in nets m n ≡ true → (IsTotalDown nets m → ⊥) → AreTotalBelow nets n → ⊥
  partial_by m reads partial total = partial (record {
    here = total.each m (record { path = []; goes = reads });
    below = record { each = λ k above. total.each k (above_more (reads_in nets) k m n above reads) };
  })

  -- no such reader
  pub total_by : ((m : ℕ) → reads_in nets m n ≡ true → IsTotalDown nets m) → AreTotalBelow nets n
  total_by each = record {
    each = λ m above.
        ⊎_elim
        (λ (r : reads_in nets m n ≡ true). (each m r).here)
        (λ (b : IsBelowReader (reads_in nets) n m). (each b.reader b.reads_it).below.each m b.below)
        (below_last (reads_in nets) n m above.path above.goes);
  }

-- a reader reads the net
pub reader_reads : (nets : List (Option FlatNet)) (n : ℕ) (list : List NetId) (i : ℕ) (d : NetId) → IsAscending (λ m. net_reads (slot nets m) n) list → i < length list → reads_in nets (get_or list i d).0 n ≡ true
reader_reads nets n list i d is low = sym (is.members (get_or list i d).0) ∙ has_id-at list i d low

-- from each of these nets on all tables are total
pub record AreTotalDown (nets : List (Option FlatNet)) (list : List NetId) : Type 0 where
  pub each : (m : ℕ) → has_id list m ≡ true → IsTotalDown nets m

pub total_none : (nets : List (Option FlatNet)) → AreTotalDown nets []
total_none nets = record { each = λ m h. absurd (false≢true h) }

-- one reader more
pub total_more : (nets : List (Option FlatNet)) (list : List NetId) (i : ℕ) (d : NetId) → i < length list → AreTotalDown nets (take i list) → IsTotalDown nets (get_or list i d).0 → AreTotalDown nets (take (i + 1) list)
total_more nets list i d low total here = record {
  each = λ m h.
      ⊎_elim
      (λ (before : has_id (take i list) m ≡ true). total.each m before)
      (λ (y : nat_eq (get_or list i d).0 m ≡ true). subst (IsTotalDown nets) (eqb-true (get_or list i d).0 m y) here)
      (or_cases (has_id (take i list) m) (nat_eq (get_or list i d).0 m) (sym (has_id-more list i (get_or list i d) d m low refl) ∙ h));
}

-- where all readers are such, all tables below are total
pub all_total : (nets : List (Option FlatNet)) (n : ℕ) (list : List NetId) (i : ℕ) → IsAscending (λ m. net_reads (slot nets m) n) list → length list ≤ i → AreTotalDown nets (take i list) → AreTotalBelow nets n
all_total nets n list i is past total =
    total_by nets n (λ m reads. total.each m (ap (λ l. has_id l m) (take_all i list past) ∙ (is.members m ∙ reads)))

-- ---- marks of one net

pub marked_partial : (nets : List (Option FlatNet)) (n : ℕ) (mark : Bool) → mark ≡ true → IsPartialMark nets n mark → IsTotalDown nets n → ⊥
marked_partial nets n true e partial = partial
marked_partial nets n false e total = absurd (false≢true e)

pub unmarked_total : (nets : List (Option FlatNet)) (n : ℕ) (mark : Bool) → mark ≡ false → IsPartialMark nets n mark → IsTotalDown nets n
unmarked_total nets n true e partial = absurd (false≢true (sym e))
unmarked_total nets n false e total = total

-- a net below which some table isn't total
pub below_marks : (nets : List (Option FlatNet)) (n : ℕ) → (AreTotalBelow nets n → ⊥) → IsPartialMark nets n true
below_marks nets n partial = λ t. partial t.below

-- below another one its own table decides
pub here_marks : (nets : List (Option FlatNet)) (n : ℕ) (total : Bool) → AreTotalBelow nets n → MatchBool total (IsTotalNet nets n) (IsTotalNet nets n → ⊥) → IsPartialMark nets n (not total)
here_marks nets n true below t = record { here = t; below = below }
here_marks nets n false below t = λ d. t d.here

-- ---- all nets, each behind its readers

pub none_marked : (nets : List (Option FlatNet)) (order : List NetId) (marks : List Bool) (k : ℕ) → length order ≤ k → length marks ≡ length nets → AreMarked nets (drop k order) marks
none_marked nets order marks k past long =
    record { long = long; each = λ n h. absurd (false≢true (sym (ap (λ l. has_id l n) (drop_all k order past)) ∙ h)) }

-- what reads a net is held
reads_held : (f : Option FlatNet) (n : ℕ) → net_reads f n ≡ true → is_some f ≡ true
reads_held None n h = absurd (false≢true h)
reads_held (Some f) n h = refl

-- the net at a place
abbrev at_place : List NetId → ℕ → NetId
at_place order i = let none : NetId = record { 0 = 0 } in get_or order i none

-- a net that stands among the first of a list stands at a place there
record IsBefore (order : List NetId) (k m : ℕ) : Type 0 where
  place : ℕ
  early : place < k
  within : place < length order
  is : (at_place order place).0 ≡ m

is_before : (order : List NetId) (k m : ℕ) → has_id (take k order) m ≡ true → IsBefore order k m
is_before order k m h =
    let none : NetId = record { 0 = 0 } in
    let at = id_at (take k order) m h in
    let short : length (take k order) ≡ min k (length order) = length-take k order in
    let early : at.0 < k = omega (arith, at.1, short) in
    record {
      place = at.0;
      early = early;
      within = omega (arith, at.1, short);
      is = ap (λ (x : NetId). x.0) (sym (get_or-take k order at.0 none early)) ∙ at.2;
    }

module _ (net : NetParts) (order : List NetId) (is : IsOrder net.nets order) (i : ℕ) (low : i < length order) where
  abbrev next : ℕ
  next = (at_place order i).0

  pub next_held : is_held net.nets next ≡ true
  next_held = let none : NetId = record { 0 = 0 } in sym (is.members next) ∙ has_id-at order i none low

  -- it doesn't stand among those before it
  not_before : (k : ℕ) → k ≤ i → has_id (take k order) next ≡ true → ⊥
  not_before k within h =
      let none : NetId = record { 0 = 0 } in
      let b = is_before order k next h in
      places_differ order b.place i none is.once (omega (arith, b.early)) low (sym b.is)

  -- what reads the net stands behind it
  reader_behind : (m : ℕ) → reads_in net.nets m next ≡ true → has_id (drop (i + 1) order) m ≡ true
  reader_behind m reads =
      ⊎_elim
      (λ (front : has_id (take (i + 1) order) m ≡ true). absurd (before (is_before order (i + 1) m front)))
      (λ (back : has_id (drop (i + 1) order) m ≡ true). back)
      (or_cases (has_id (take (i + 1) order) m) (has_id (drop (i + 1) order) m)
      (sym (has_id-append (take (i + 1) order) (drop (i + 1) order) m) ∙ (ap (λ l. has_id l m) (take-append-drop (i + 1) order) ∙ (is.members m ∙ reads_held (slot net.nets m) next reads))))
    where
      before : IsBefore order (i + 1) m → ⊥
      before b =
          let none : NetId = record { 0 = 0 } in
          let here : net_reads (slot net.nets (at_place order b.place).0) next ≡ true = ap (λ k. reads_in net.nets k next) b.is ∙ reads in
          not_before b.place (omega (arith, b.early)) (is.behind b.place (at_place order b.place) next (slice_get-get_or order b.place none b.within) here)

  -- its readers were marked
  pub readers_marked : (marks : List Bool) → AreMarked net.nets (drop (i + 1) order) marks → HasMarkedReaders net.nets next marks
  readers_marked marks marked = record { each = λ m reads. marked.each m (reader_behind m reads) }

  -- and it is marked
  pub marked_more : (marks new : List Bool) (partial : Bool) → AreMarked net.nets (drop (i + 1) order) marks → new ≡ set marks next partial → IsPartialMark net.nets next partial
      → AreMarked net.nets (drop i order) new
  marked_more marks new partial marked new_is here = record {
    long = ap length new_is ∙ (length-set marks next partial ∙ marked.long);
    each = λ m h.
        ⊎_elim
        (λ (e : m ≡ next). subst (λ k. IsPartialMark net.nets k (is_marked new k)) (sym e) (subst (IsPartialMark net.nets next) (sym written) here))
        (λ (ne : m ≡ next → ⊥).
        ⊎_elim
        (λ (y : nat_eq next m ≡ true). absurd (ne (sym (eqb-true next m y))))
        (λ (behind : has_id (drop (i + 1) order) m ≡ true). subst (IsPartialMark net.nets m) (sym (ap (λ l. is_marked l m) new_is ∙ get_or-set_other marks next m partial false ne)) (marked.each m behind))
        (or_cases (nat_eq next m) (has_id (drop (i + 1) order) m) (ap (λ l. has_id l m) (sym cons) ∙ h)))
        (cases_eq m next);
  }
    where
      written : is_marked new next ≡ partial
      written =
          let inside : next < length net.nets = is_held_below net.nets next next_held in
          let long = marked.long in
          ap (λ l. is_marked l next) new_is ∙ get_or-set_same marks next partial false (omega (arith, inside, long))

      cons : drop i order ≡ at_place order i ∷ drop (i + 1) order
      cons = let none : NetId = record { 0 = 0 } in drop-cons order i none low ∙ ap (λ k. at_place order i ∷ drop k order) (sym (add-one i))

-- all are marked then
pub has_marks : (net : NetParts) (order : List NetId) (marks : List Bool) (k : ℕ) → IsOrder net.nets order → k ≡ 0 → AreMarked net.nets (drop k order) marks → ArePartial net.nets marks
has_marks net order marks k is first marked =
    record { each = λ n held. marked.each n (ap (λ j. has_id (drop j order) n) first ∙ (is.members n ∙ held)) }

-- so the readers of each net are
pub readers_of : (net : NetParts) (n : ℕ) (marks : List Bool) → ArePartial net.nets marks → HasMarkedReaders net.nets n marks
readers_of net n marks marked = record { each = λ m reads. marked.each m (reads_held (slot net.nets m) n reads) }

-- ---- what a mark says

pub told : (n : ℕ) (marks : List Bool) (mark : Bool) → mark ≡ is_marked marks n → (nets : List (Option FlatNet)) → ArePartial nets marks → is_held nets n ≡ true → IsPartialMark nets n mark
told n marks mark e nets right held = subst (IsPartialMark nets n) (sym e) (right.each n held)
