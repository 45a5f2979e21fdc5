-- An assignment that is given values at some nets.
use Rattle.std.proofs.Common.{◌≡◌, ◌∙◌, ℕ, ◌<◌, true, false, not, nat_eq, nat_lt, Option, Some, List, [], ◌∷◌, map, IsTrue, refl, sym, ap, subst, eq-eqb, eqb-true}
use Rattle.std.specs.Prelude.{if◌then◌else◌}
use Rattle.std.proofs.lemmas.Bool.{and_parts, cond-true, cond-false, cond_both, false_from_ne_true, false≢true, ltb-true, not-true, or_left, or_parts, or_right}
use Rattle.mv_base.specs.Meaning.{Port}
use Rattle.mv_base.specs.declared.number.NetId.{NetId}
use Rattle.mv_graph.specs.Nets.{has_id, all_differ}
use Rattle.mv_net.specs.declared.parts.FlatNet.{FlatNet}
use Rattle.mv_net.specs.declared.parts.NetParts.{NetParts}
use Rattle.mv_net.specs.Allowed.{net_table_allows, net_allows, Agrees}
use Rattle.mv_net.specs.Formed.{WellFormed}
use Rattle.mv_net.specs.Nets.{slot, values_in, port_of}
use Rattle.mv_blif_rules.proofs.Looks.{count_alike}

-- ---- values of some nets

-- each of these values is one of its net's
abbrev pub AreLow : List (Option FlatNet) → List NetId → List ℕ → Type 0
AreLow nets [] [] = Unit {0}
AreLow nets [] (_ ∷ _) = ⊥
AreLow nets (_ ∷ _) [] = ⊥
AreLow nets (n ∷ ns) (v ∷ vs) = (v < values_in (slot nets n.0)) × AreLow nets ns vs

-- what an assignment that agrees gives a net is one of its values
pub agreeing_value : (nets : List (Option FlatNet)) (y : ℕ → ℕ) (n : ℕ) (f : FlatNet) → Agrees nets y → slot nets n ≡ Some f → y n < values_in (slot nets n)
agreeing_value nets y n f agrees held =
    let allows : IsTrue (net_allows (Some f) y (y n)) = sym (ap (λ g. net_allows g y (y n)) held) ∙ agrees.each n in
    subst (λ (g : Option FlatNet). y n < values_in g) (sym held) (ltb-true (y n) f.values (and_parts (nat_lt (y n) f.values) (net_table_allows f.table y (y n)) allows).0)

-- values of nets are values of those that look like them
pub low_alike : (b a : NetParts) (y : ℕ → ℕ) (ks ns : List NetId) → WellFormed b → WellFormed a → map (port_of b.nets) ks ≡ map (port_of a.nets) ns → ((k : NetId) → has_id ks k.0 ≡ true → y k.0 < values_in (slot b.nets k.0))
    → AreLow a.nets ns (map (λ (k : NetId). y k.0) ks)
low_alike b a y [] [] formed_b formed_a same low = tt
low_alike b a y [] (n ∷ ns) formed_b formed_a same low = cc
low_alike b a y (k ∷ ks) [] formed_b formed_a same low = cc
low_alike b a y (k ∷ ks) (n ∷ ns) formed_b formed_a same low =
    let port : port_of b.nets k ≡ port_of a.nets n = cc in
    let rest : map (port_of b.nets) ks ≡ map (port_of a.nets) ns = cc in
    let count = count_alike b a k.0 n.0 formed_b formed_a (ap (λ (p : Port). p.values) port) in (
      subst (λ c. y k.0 < c) count (low k (or_left (nat_eq k.0 k.0) (has_id ks k.0) (eq-eqb k.0 k.0 refl))),
      low_alike b a y ks ns formed_b formed_a rest (λ m h. low m (or_right (nat_eq k.0 m.0) (has_id ks m.0) h)),
    )

-- ---- an assignment with them

-- the assignment with these values at these nets
abbrev pub given : List NetId → List ℕ → (ℕ → ℕ) → ℕ → ℕ
given [] vs x m = x m
given (n ∷ ns) [] x m = x m
given (n ∷ ns) (v ∷ vs) x m = if nat_eq n.0 m then v else given ns vs x m

-- it is as it was elsewhere
pub given_other : (ns : List NetId) (vs : List ℕ) (x : ℕ → ℕ) (m : ℕ) → has_id ns m ≡ false → given ns vs x m ≡ x m
given_other [] vs x m h = refl
given_other (n ∷ ns) [] x m h = refl
given_other (n ∷ ns) (v ∷ vs) x m h =
    let p = or_parts (nat_eq n.0 m) (has_id ns m) h in
    cond-false (nat_eq n.0 m) v (given ns vs x m) p.0 ∙ given_other ns vs x m p.1

-- a net has one of its values, if it had
pub given_low : (nets : List (Option FlatNet)) (ns : List NetId) (vs : List ℕ) (x : ℕ → ℕ) (m : ℕ) → AreLow nets ns vs → x m < values_in (slot nets m) → given ns vs x m < values_in (slot nets m)
given_low nets [] vs x m all low = low
given_low nets (n ∷ ns) [] x m all low = low
given_low nets (n ∷ ns) (v ∷ vs) x m all low =
    cond_both (nat_eq n.0 m) v (given ns vs x m) (λ w. w < values_in (slot nets m))
    (λ e. subst (λ k. v < values_in (slot nets k)) (eqb-true n.0 m e) all.0)
    (λ e. given_low nets ns vs x m all.1 low)

-- what is as it is at these nets has these values there
pub given_at : (nets : List (Option FlatNet)) (ns : List NetId) (vs : List ℕ) (x z : ℕ → ℕ) → all_differ ns ≡ true → AreLow nets ns vs → ((m : ℕ) → has_id ns m ≡ true → z m ≡ given ns vs x m) → map (λ (n : NetId). z n.0) ns ≡ vs
given_at nets [] [] x z once all same = refl
given_at nets [] (v ∷ vs) x z once all same = absurd all
given_at nets (n ∷ ns) [] x z once all same = absurd all
given_at nets (n ∷ ns) (v ∷ vs) x z once all same =
    let apart = and_parts (not (has_id ns n.0)) (all_differ ns) once in
    let other : (m : ℕ) → has_id ns m ≡ true → nat_eq n.0 m ≡ false =
    λ m h. false_from_ne_true (nat_eq n.0 m) (λ e. false≢true (sym (not-true (has_id ns n.0) apart.0) ∙ (ap (has_id ns) (eqb-true n.0 m e) ∙ h))) in
    let own : nat_eq n.0 n.0 ≡ true = eq-eqb n.0 n.0 refl in
    let here : z n.0 ≡ v = same n.0 (or_left (nat_eq n.0 n.0) (has_id ns n.0) own) ∙ cond-true (nat_eq n.0 n.0) v (given ns vs x n.0) own in
    let rest = given_at nets ns vs x z apart.1 all.1 (λ m h. same m (or_right (nat_eq n.0 m) (has_id ns m) h) ∙ cond-false (nat_eq n.0 m) v (given ns vs x m) (other m h)) in
    λ i. here i ∷ rest i
