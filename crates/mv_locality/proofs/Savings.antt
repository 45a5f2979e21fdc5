-- Whether a collapse brings more literals than it takes away depends on the net and its readers.
use Rattle.std.proofs.Common.{◌≡◌, ◌↔◌, ◌∙◌, ℕ, zero, suc, ◌+◌, ◌<◌, ◌≤◌, Bool, true, false, ◌&&◌, nat_lt, nat_eq, Option, None, List, [], ◌∷◌, ◌++◌, length, map, inl, inr, refl, sym, ap, subst, ⊎_elim, eq-eqb, arith}
use Rattle.std.specs.Prelude.{option_map}
use Rattle.std.specs.List.{sum_by}
use Rattle.std.proofs.lemmas.Bool.{cases_Bool, cases_lt, false≢true, lt-ltb, le-ltb, or_left, or_right}
use Rattle.std.proofs.lemmas.List.{get_or_past}
use Rattle.std.proofs.lemmas.List.Sums.{sum_by-cons}
use Rattle.mv_base.specs.declared.number.NetId.{NetId}
use Rattle.mv_composite.specs.declared.inner.Inner.{Inner}
use Rattle.mv_composite.specs.Composite.{composed}
use Rattle.mv_cover.specs.declared.cover.Cover.{Cover}
use Rattle.mv_cover.specs.Covers.{literal_count}
use Rattle.mv_graph.specs.Nets.{has_id, IsAscending}
use Rattle.mv_graph.proofs.Nets.{IsAscending-same, IsAscending-push, IsAscending-skip}
use Rattle.mv_meaning.proofs.Rewired.{reader_at}
use Rattle.mv_net.specs.declared.parts.FlatNet.{FlatNet}
use Rattle.mv_net.specs.declared.parts.NetParts.{NetParts}
use Rattle.mv_net.specs.Behind.{literals_at}
use Rattle.mv_net.specs.Formed.{WellFormed}
use Rattle.mv_net.specs.Nets.{values_in, table_in, table_literals, literals_in, net_reads, reads_in}
use Rattle.mv_plans.specs.Collapsing.{IsInnerOf, collapsed}
use Rattle.mv_plans.specs.Composites.{composite_count}
use Rattle.mv_plans.proofs.CompositeLiterals.{collapsed_literals}
use Rattle.mv_locality.specs.Same.{StaysAt, KeepsNet, KeepsReaders}
use Rattle.mv_locality.proofs.Tables.{composed_kept, IsInnerOf-same}
use Rattle.mv_locality.proofs.Places.{reads-same, readers_back, place_kept}

-- ---- the list of a net's readers

-- those below a number, which ascend
below : (test : ℕ → Bool) (k : ℕ) → (list : List NetId) × IsAscending (λ m. nat_lt m k && test m) list
below test zero = ([], record { ascending = refl; members = λ m. sym (ap (λ b. b && test m) (le-ltb m 0 (omega arith))) })
below test (suc k) =
    let before = below test k in
    let next : ℕ → Type 0 = λ j. (list : List NetId) × IsAscending (λ m. nat_lt m j && test m) list in
    let more : k + 1 ≡ suc k = omega arith in
    subst next more
    (⊎_elim
    (λ (y : test k ≡ true). (before.0 ++ record { 0 = k } ∷ [], IsAscending-push test (record { 0 = k }) before.0 before.1 y))
    (λ (f : test k ≡ false). (before.0, IsAscending-skip test k before.0 before.1 f))
    (cases_Bool (test k)))

-- no net past the last reads anything
reader_below : (nets : List (Option FlatNet)) (n k : ℕ) → reads_in nets k n ≡ true → k < length nets
reader_below nets n k reads =
    ⊎_elim
    (λ (low : k < length nets). low)
    (λ (past : length nets ≤ k). absurd (false≢true (sym (ap (λ g. net_reads g n) (get_or_past nets k None past)) ∙ reads)))
    (cases_lt k (length nets))

pub readers_of : (nets : List (Option FlatNet)) (n : ℕ) → (list : List NetId) × IsAscending (λ k. reads_in nets k n) list
readers_of nets n =
    let all = below (λ k. reads_in nets k n) (length nets) in
    (all.0, IsAscending-same (λ k. nat_lt k (length nets) && reads_in nets k n) (λ k. reads_in nets k n) all.0 each all.1)
  where
    each : (k : ℕ) → (nat_lt k (length nets) && reads_in nets k n) ≡ reads_in nets k n
    each k =
        ⊎_elim
        (λ (y : reads_in nets k n ≡ true). ap (λ b. b && reads_in nets k n) (lt-ltb k (length nets) (reader_below nets n k y)))
        (λ (f : reads_in nets k n ≡ false). ap (λ b. nat_lt k (length nets) && b) f ∙ (both (nat_lt k (length nets)) ∙ sym f))
        (cases_Bool (reads_in nets k n))
      where
        both : (b : Bool) → (b && false) ≡ false
        both true = refl
        both false = refl

-- ---- sums over them

-- sums over lists whose members have the same
sum_same : (f g : NetId → ℕ) (rs : List NetId) → ((r : NetId) → has_id rs r.0 ≡ true → f r ≡ g r) → sum_by f rs ≡ sum_by g rs
sum_same f g [] each = refl
sum_same f g (r ∷ rs) each =
    let here : f r ≡ g r = each r (or_left (nat_eq r.0 r.0) (has_id rs r.0) (eq-eqb r.0 r.0 refl)) in
    let rest = sum_same f g rs (λ s h. each s (or_right (nat_eq r.0 s.0) (has_id rs s.0) h)) in
    omega (arith, here, rest, sum_by-cons f r rs, sum_by-cons g r rs)

module _ (old new : List (Option FlatNet)) (n : ℕ) (keeps : KeepsReaders old new n) where
  -- a reader is as it was
  reader_kept : (k : ℕ) → reads_in old k n ≡ true → KeepsNet old new k
  reader_kept k reads =
      elim (keeps.readers k) [
        | inl same ↦ same
        | inr unread ↦ absurd (false≢true (sym unread.0 ∙ reads))
      ]

-- and so is its composite
count_kept : (old new : List (Option FlatNet)) (inner : Inner) (k : ℕ) → KeepsReaders old new inner.net.0 → IsInnerOf old inner
    → reads_in old k inner.net.0 ≡ true → composite_count old inner k ≡ composite_count new inner k
unfolding composite_count
count_kept old new inner k keeps is reads =
    let same = reader_kept old new inner.net.0 keeps k reads in
    let r = reader_at old inner.net.0 k reads in
    ap (λ t. table_literals (option_map (composed (map values_in old) inner) t)) r.1.table
    ∙ (ap (λ (c : Cover). literal_count c.lines) (composed_kept old new inner k r.0 is keeps.net same r.1.table)
    ∙ sym (ap (λ t. table_literals (option_map (composed (map values_in new) inner) t)) (ap table_in same.same ∙ r.1.table)))

-- ---- what a collapse saves

-- it changes the number of literals by as many in both networks
pub change_same : (old new : NetParts) (inner : Inner) → WellFormed old → WellFormed new → KeepsReaders old.nets new.nets inner.net.0 → IsInnerOf old.nets inner
    → literals_in (collapsed new inner).nets + literals_in old.nets ≡ literals_in (collapsed old inner).nets + literals_in new.nets
change_same old new inner was now keeps is =
    let n = inner.net.0 in
    let list = readers_of old.nets n in
    let rs = list.0 in
    let also : IsAscending (λ k. reads_in new.nets k n) rs = IsAscending-same (λ k. reads_in old.nets k n) (λ k. reads_in new.nets k n) rs (λ k. sym (reads-same old.nets new.nets n keeps k)) list.1 in
    let reads : (r : NetId) → has_id rs r.0 ≡ true → reads_in old.nets r.0 n ≡ true = λ r h. sym (list.1.members r.0) ∙ h in
    let own : literals_at new.nets inner.net ≡ literals_at old.nets inner.net = ap (λ f. table_literals (table_in f)) keeps.net.same in
    let gone = sum_same (literals_at new.nets) (literals_at old.nets) rs (λ r h. ap (λ f. table_literals (table_in f)) (reader_kept old.nets new.nets n keeps r.0 (reads r h)).same) in
    let counted : NetParts → NetId → ℕ = λ net r. composite_count net.nets inner r.0 in
    let come = sum_same (counted old) (counted new) rs (λ r h. count_kept old.nets new.nets inner r.0 keeps is (reads r h)) in
    omega (arith, collapsed_literals old inner rs was is list.1, collapsed_literals new inner rs now (IsInnerOf-same old.nets new.nets inner keeps.net is) also, own, gone, come)

pub saving_same : (old new : NetParts) (inner : Inner) → WellFormed old → WellFormed new → KeepsReaders old.nets new.nets inner.net.0 → IsInnerOf old.nets inner
    → literals_in (collapsed old inner).nets ≤ literals_in old.nets → literals_in (collapsed new inner).nets ≤ literals_in new.nets
saving_same old new inner was now keeps is saves = omega (arith, change_same old new inner was now keeps is, saves)

-- both ways
pub saving_both : (old new : NetParts) (inner : Inner) → WellFormed old → StaysAt old new inner.net.0 → IsInnerOf old.nets inner
    → (literals_in (collapsed new inner).nets ≤ literals_in new.nets) ↔ (literals_in (collapsed old inner).nets ≤ literals_in old.nets)
saving_both old new inner was stays is =
    let keeps = (place_kept old new inner.net.0 stays).around in (
      saving_same new old inner stays.formed was (readers_back old.nets new.nets inner.net.0 keeps) (IsInnerOf-same old.nets new.nets inner keeps.net is),
      saving_same old new inner was stays.formed keeps is,
    )
