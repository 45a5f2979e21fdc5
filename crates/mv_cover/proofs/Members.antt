-- Members of sets, found.
use Rattle.std.proofs.Common.{◌≡◌, ◌∙◌, ℕ, zero, suc, ◌+◌, ◌<◌, ◌≤◌, ◌^◌, ◌*◌, true, false, not, ◌⊎◌, ◌≢◌, Some, None, List, [], ◌∷◌, nat_eq, inl, inr, refl, sym, ap, arith, below_more}
use Rattle.std.proofs.lemmas.Bool.{cases_Bool, false≢true, and_parts, and_from, not-true, eq-eqb, ne_eqb}
use Rattle.std.proofs.lemmas.Nat.{pow_pos}
use Rattle.std.proofs.Math.Nat.{pow-suc}
use Rattle.mv_base.specs.Set.{has, empty}
use Rattle.mv_base.proofs.Sets.{has-empty, has_above, same_set}
use Rattle.std.specs.List.{list_all}
use Rattle.mv_cover.specs.Literal.{Lit}
use Rattle.mv_cover.specs.Cubes.{holds, matches}
use Rattle.mv_cover.specs.Meets.{literal_at}
use Rattle.mv_cover.proofs.Covering.{changed, changed-agrees}
use Rattle.mv_cover.proofs.Meets.{order, Rises, matches-from}

-- a member below k, or none there
search_below : (k s : ℕ) → ((v : ℕ) × (has s v ≡ true)) ⊎ ((v : ℕ) → v < k → has s v ≡ false)
search_below zero s = inr (λ v low. absurd (omega arith))
search_below (suc k) s =
    elim (search_below k s) [
      | inl m ↦ inl m
      | inr none ↦
          elim (cases_Bool (has s k)) [
            | inl t ↦ inl (k, t)
            | inr f ↦ inr (λ v low. below_more (λ u. has s u ≡ false) k none f v (omega arith))
          ]
    ]

-- a number is below the power of 2 of it
below_pow : (s : ℕ) → s < 2 ^ s
below_pow zero = pow_pos 0
below_pow (suc s) =
    let ih = below_pow s in
    let double : 2 ^ suc s ≡ 2 ^ s * 2 = pow-suc 2 s in
    omega (arith, double)

-- a set that isn't empty has a member
pub member_of : (s : ℕ) → nat_eq s empty ≡ false → (v : ℕ) × (has s v ≡ true)
member_of s some =
    elim (search_below s s) [
      | inl m ↦ m
      | inr none ↦
          let nowhere : (v : ℕ) → has s v ≡ has empty v = λ v.
          elim (order v s) [
            | inl y ↦ none v y.1 ∙ sym (has-empty v)
            | inr n ↦ has_above s s v (below_pow s) n.1 ∙ sym (has-empty v)
          ] in
          absurd (false≢true (sym some ∙ eq-eqb s empty (same_set s empty nowhere)))
    ]

-- an assignment at which the literals hold, which is 0 off their nets
pub record PointOf (c : List Lit) : Type 0 where
  pub at : ℕ → ℕ
  pub there : matches at c ≡ true
  pub zeros : (n : ℕ) → literal_at c n ≡ None → at n ≡ 0

pub point_of : (k : ℕ) (c : List Lit) → Rises k c → list_all (λ l. not (nat_eq l.set empty)) c ≡ true → PointOf c
point_of k [] r some = record { at = λ _. 0; there = refl; zeros = λ n e. refl }
point_of k (l ∷ ls) r some =
    let p = and_parts (not (nat_eq l.set empty)) (list_all (λ (m : Lit). not (nat_eq m.set empty)) ls) some in
    let member = member_of l.set (not-true (nat_eq l.set empty) p.0) in
    let rest = point_of (l.net.0 + 1) ls r.1 p.1 in
    let at = changed l.net.0 member.0 rest.at in
    let agree = changed-agrees l.net.0 member.0 rest.at in
    let here : has l.set (at l.net.0) ≡ true = ap (has l.set) agree.here ∙ member.1 in
    let others : (n : ℕ) → l.net.0 + 1 ≤ n → at n ≡ rest.at n = λ n above. agree.others n (ne_eqb n l.net.0 (λ e. absurd (omega arith))) in
    record {
      at = at;
      there = and_from (holds at l) (matches at ls) here (matches-from (l.net.0 + 1) ls at rest.at r.1 others ∙ rest.there);
      zeros = λ n e.
          elim (cases_Bool (nat_eq l.net.0 n)) [
            | inl t ↦ let no : Some l.set ≡ None = rw t at e in absurd (cc)
            | inr f ↦
                let ne : l.net.0 ≢ n = λ same. false≢true (sym f ∙ eq-eqb l.net.0 n same) in
                agree.others n (ne_eqb n l.net.0 (λ same. ne (sym same))) ∙ rest.zeros n (rw f at e)
          ];
    }
