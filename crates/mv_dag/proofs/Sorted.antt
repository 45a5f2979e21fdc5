-- Entries in the order of their labels: what a sort and a removal of repeats leave, and that their labels rise.
use Rattle.std.proofs.Common.{◌≡◌, ℕ, ◌<◌, Bool, true, ◌&&◌, nat_eq, List, [], ◌++◌, length, get_or, map, refl, sym, ap, ◌∙◌, ⊎_elim, arith, All, Contains, IsPermutation, nat_cmp}
use Rattle.std.specs.declared.cmp.Ordering.TheVariants.{Less, Equal, Greater}
use Rattle.std.specs.Cmp.{IsTotalOrder, IsEquivalence, on_total, then_total, on_equiv, and_equiv, nat_cmp_total, nat_eq_equiv, unsigned_ties, both_tied}
use Rattle.std.specs.Ordering.{eq_by_cmp, ordering_then}
use Rattle.std.specs.List.Sorted.{IsSorted, IsStrictlySortedBy}
use Rattle.std.specs.List.Retain.{IsFiltered, DiffersFromLast}
use Rattle.std.proofs.lemmas.Bool.{cases_order, or_cases, or_left, or_right, and_parts, eqb-true}
use Rattle.std.proofs.lemmas.List.{get_or-map, length-map}
use Rattle.std.proofs.lemmas.Option.{slice_get_within, get_or_from_slice_get}
use Rattle.std.proofs.lemmas.List.Elements.{All-append, All-map, Contains-append_left, Contains-append_right}
use Rattle.std.proofs.lemmas.List.Filters.{dedup_is, All-dedup}
use Rattle.std.proofs.lemmas.List.Kept.{IsStrictlySortedBy-dedup, Contains-dedup}
use Rattle.std.proofs.lemmas.List.Sorted.{All-permutation, Contains-permutation}
use Rattle.std.proofs.lemmas.Map.Keys.{Less-from_sorted}
use Rattle.mv_base.specs.declared.number.NetId.{NetId}
use Rattle.mv_base.proofs.Lists.{found}
use Rattle.mv_graph.specs.Nets.{has_id}
use Rattle.mv_graph.proofs.Nets.{has_id-at}
use Rattle.mv_dag.specs.declared.moves.Entry.{Entry}
use Rattle.mv_dag.specs.Ordered.{at}
use Rattle.mv_dag.specs.Moves.{entry_cmp, entry_of, in_either, AreEntries}
use Rattle.mv_dag.proofs.Compared.{cmp_equal, cmp_greater}
use Rattle.mv_dag.proofs.Places.{Rises}
use Rattle.mv_dag.proofs.Written.{no_entry, label_at}

-- ---- the order and the equality of entries

abbrev pub entry_eq : Entry → Entry → Bool
entry_eq x y = nat_eq x.label y.label && nat_eq x.net.0 y.net.0

entries_total : IsTotalOrder entry_cmp
entries_total = then_total (on_total (λ (e : Entry). e.label) nat_cmp_total) (on_total (λ (e : Entry). e.net.0) nat_cmp_total)

entries_equiv : IsEquivalence entry_eq
entries_equiv = and_equiv (on_equiv (λ (e : Entry). e.label) nat_eq_equiv) (on_equiv (λ (e : Entry). e.net.0) nat_eq_equiv)

entry_ties : (x y : Entry) → entry_eq x y ≡ eq_by_cmp entry_cmp x y
entry_ties x y = both_tied _ _ _ _ (unsigned_ties x.label y.label) (unsigned_ties x.net.0 y.net.0)

same_entry : (x y : Entry) → entry_eq x y ≡ true → x ≡ y
same_entry x y e =
    let p = and_parts (nat_eq x.label y.label) (nat_eq x.net.0 y.net.0) e in
    λ i. record { label = eqb-true x.label y.label p.0 i; net = record { 0 = eqb-true x.net.0 y.net.0 p.1 i } }

-- ---- what a sort and a removal of repeats leave

abbrev pub IsOneOf : List ℕ → List NetId → List NetId → Entry → Type 0
IsOneOf labels above below e = (in_either above below e.net.0 ≡ true) × (e.label ≡ at labels e.net.0)

same_id : (m n : NetId) → m.0 ≡ n.0 → m ≡ n
same_id m n e = λ i. record { 0 = e i }

contains_id : (nets : List NetId) (n : NetId) → has_id nets n.0 ≡ true → Contains nets n
contains_id nets n h =
    let f = found (λ (m : NetId). nat_eq m.0 n.0) nets h in
    (f.place, slice_get_within nets f.place f.item f.at, get_or_from_slice_get nets f.place f.item n f.at ∙ same_id f.item n (eqb-true f.item.0 n.0 f.passes))

contains_map : {X Y : Type 0} (f : X → Y) (xs : List X) (x : X) → Contains xs x → Contains (map f xs) (f x)
contains_map f xs x c = (c.0, (let l = c.1 in simp length-map l), get_or-map f xs c.0 x (f x) c.1 ∙ ap f c.2)

listed_each : (labels : List ℕ) (above below : List NetId) → All (IsOneOf labels above below) (map (entry_of labels) above ++ map (entry_of labels) below)
listed_each labels above below =
    All-append (IsOneOf labels above below) (map (entry_of labels) above) (map (entry_of labels) below)
    (All-map (IsOneOf labels above below) (entry_of labels) above (λ k d l. (or_left _ _ (has_id-at above k d l), refl)))
    (All-map (IsOneOf labels above below) (entry_of labels) below (λ k d l. (or_right (has_id above (get_or below k d).0) _ (has_id-at below k d l), refl)))

listed_all : (labels : List ℕ) (above below : List NetId) (n : NetId) → in_either above below n.0 ≡ true → Contains (map (entry_of labels) above ++ map (entry_of labels) below) (entry_of labels n)
listed_all labels above below n h =
    ⊎_elim
    (λ (y : has_id above n.0 ≡ true). Contains-append_left (map (entry_of labels) above) (map (entry_of labels) below) (entry_of labels n) (contains_map (entry_of labels) above n (contains_id above n y)))
    (λ (y : has_id below n.0 ≡ true). Contains-append_right (map (entry_of labels) above) (map (entry_of labels) below) (entry_of labels n) (contains_map (entry_of labels) below n (contains_id below n y)))
    (or_cases (has_id above n.0) (has_id below n.0) h)

pub are_entries : (labels : List ℕ) (above below : List NetId) (listed sorted kept : List Entry) → listed ≡ map (entry_of labels) above ++ map (entry_of labels) below
    → IsPermutation listed sorted → IsSorted entry_cmp sorted → IsFiltered (DiffersFromLast entry_eq) [] sorted kept → AreEntries labels above below kept
are_entries labels above below listed sorted kept is p s f =
    let e = dedup_is entry_eq sorted kept f in
    record {
      sorted = rw e (IsStrictlySortedBy-dedup entries_total entry_ties sorted s);
      each = rw e (All-dedup entry_eq (IsOneOf labels above below) sorted (All-permutation (IsOneOf labels above below) listed sorted p (rw is (listed_each labels above below))));
      all = λ n h. rw e (Contains-dedup entries_equiv same_entry sorted (entry_of labels n) (Contains-permutation listed sorted (entry_of labels n) p (rw is (listed_all labels above below n h))));
    }

-- ---- labels rise

-- no label is that of two nets
abbrev pub AreDistinct : List ℕ → List NetId → List NetId → Type 0
AreDistinct labels above below = (x y : ℕ) → in_either above below x ≡ true → in_either above below y ≡ true → at labels x ≡ at labels y → x ≡ y

entry_less : (labels : List ℕ) (above below : List NetId) (x y : Entry) → AreDistinct labels above below → IsOneOf labels above below x → IsOneOf labels above below y → entry_cmp x y ≡ Less → x.label < y.label
entry_less labels above below x y distinct a b less =
    ⊎_elim
    (λ (e : x.label ≡ y.label).
    let same : x.net.0 ≡ y.net.0 = distinct x.net.0 y.net.0 a.0 b.0 (sym a.1 ∙ (e ∙ b.1)) in
    let level : entry_cmp x y ≡ Equal = ap (λ c. ordering_then c (nat_cmp x.net.0 y.net.0)) (cmp_equal x.label y.label e) ∙ cmp_equal x.net.0 y.net.0 same in
    cc)
    (⊎_elim
    (λ (l : x.label < y.label). l)
    (λ (g : y.label < x.label).
    let more : entry_cmp x y ≡ Greater = ap (λ c. ordering_then c (nat_cmp x.net.0 y.net.0)) (cmp_greater x.label y.label g) in
    cc))
    (cases_order x.label y.label)

pub labels_rise : (labels : List ℕ) (above below : List NetId) (entries : List Entry) → AreDistinct labels above below → IsStrictlySortedBy entry_cmp entries → All (IsOneOf labels above below) entries → Rises (label_at entries) (length entries)
labels_rise labels above below entries distinct sorted each i j h l =
    entry_less labels above below (get_or entries i no_entry) (get_or entries j no_entry) distinct (each i no_entry (omega arith)) (each j no_entry l)
    (Less-from_sorted entry_cmp entries i j no_entry sorted h l)
