-- The first place that passes a test which no free place passes.
use Rattle.std.proofs.Common.{◌≡◌, ℕ, zero, suc, ◌<◌, ◌≤◌, Bool, true, false, cond, List, [], ◌∷◌, Option, None, Some, length, position, refl, sym, ap, ◌∙◌, true≢false, inl, inr, arith}
use Rattle.std.specs.List.{position_or_len}
use Rattle.std.proofs.lemmas.Bool.{lt-ltb, le-ltb, cases_lt}
use Rattle.std.proofs.lemmas.List.Sums.{position_or_len_is, fails_before_first}
use Rattle.mv_pool.specs.Places.{item_at}

module _ {T : Type 0} (p : Option T → Bool) (free : p None ≡ false) where
  -- a place that passes is within the list
  pub passes_within : (ps : List (Option T)) (n : ℕ) → p (item_at ps n) ≡ true → n < length ps
  passes_within [] n h = absurd (true≢false (sym h ∙ free))
  passes_within (x ∷ ps) zero h = omega arith
  passes_within (x ∷ ps) (suc n) h = let rest = passes_within ps n h in omega arith

  -- the first place that passes
  pub position_is : (ps : List (Option T)) (n : ℕ) → p (item_at ps n) ≡ true → ((k : ℕ) → k < n → p (item_at ps k) ≡ false) → position p ps ≡ Some n
  position_is ps n h before =
      let within : n < length ps = passes_within ps n h in
      let is : position_or_len p ps ≡ n = position_or_len_is p ps n None (omega arith) before (λ _. h) in
      rw (is, lt-ltb n (length ps) within)

  -- no place passes
  pub position_none : (ps : List (Option T)) → ((k : ℕ) → p (item_at ps k) ≡ false) → position p ps ≡ None
  position_none ps fails =
      let is : position_or_len p ps ≡ length ps = position_or_len_is p ps (length ps) None (omega arith) (λ k _. fails k) (λ h. absurd (omega arith)) in
      rw (is, le-ltb (length ps) (length ps) (omega arith))

  -- where there is no first place that passes, none passes
  pub fails_each : (ps : List (Option T)) → position p ps ≡ None → (k : ℕ) → p (item_at ps k) ≡ false
  fails_each ps none k = elim (cases_lt (position_or_len p ps) (length ps)) [
    | inl less ↦ absurd (apart (sym (ap (λ b. cond b (Some (position_or_len p ps)) None) (lt-ltb _ _ less)) ∙ none))
    | inr more ↦ by (p (item_at ps k)) refl more
  ]
    where
      apart : {A : Type 0} {x : A} → Some x ≡ None → ⊥
      apart e = cc

      by : (b : Bool) → p (item_at ps k) ≡ b → length ps ≤ position_or_len p ps → p (item_at ps k) ≡ false
      by false e more = e
      by true e more = fails_before_first p ps k None (let within : k < length ps = passes_within ps k e in omega arith)
