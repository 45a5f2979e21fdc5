-- Where items are found, in places that change.
use Rattle.std.proofs.Common.{◌≡◌, ℕ, ◌<◌, ◌≤◌, ◌≢◌, ◌⊎◌, Bool, true, false, cond, List, Option, None, Some, position, refl, sym, ap, ◌∙◌, inl, inr, arith}
use Rattle.std.specs.Cmp.{IsEquivalence}
use Rattle.std.proofs.lemmas.Bool.{cases_lt, cases_order}
use Rattle.std.proofs.lemmas.List.Quantifiers.{position-Some}
use Rattle.mv_pool.specs.Places.{item_at, stands, place_of, AreDistinct}
use Rattle.mv_pool.proofs.Positions.{position_is, position_none, fails_each}

-- a place that was free has an item, and each other place is as before
pub record Gains {T : Type 0} (ps qs : List (Option T)) (n : ℕ) (x : T) : Type 0 where
  pub there : item_at qs n ≡ Some x
  pub free : item_at ps n ≡ None
  pub others : (k : ℕ) → k ≢ n → item_at qs k ≡ item_at ps k

-- each place is as before, or free
pub record Loses {T : Type 0} (ps qs : List (Option T)) : Type 0 where
  pub each : (k : ℕ) → (item_at qs k ≡ item_at ps k) ⊎ (item_at qs k ≡ None)

module _ {T : Type 0} (p : Option T → Bool) (free : p None ≡ false) where
  -- places that are alike to the test
  pub position_same : (ps qs : List (Option T)) → ((k : ℕ) → p (item_at qs k) ≡ p (item_at ps k)) → position p qs ≡ position p ps
  position_same ps qs same = by (position p ps) refl
    where
      by : (r : Option ℕ) → position p ps ≡ r → position p qs ≡ position p ps
      by None e = position_none p free qs (λ k. same k ∙ fails_each p free ps e k) ∙ sym e
      by (Some n) e =
          let at = position-Some p ps n None e in
          position_is p free qs n (same n ∙ at.1) (λ k h. same k ∙ at.2 k h) ∙ sym e

module _ {T : Type 0} (eq : T → T → Bool) (laws : IsEquivalence eq) where
  -- equal items stand at the same places
  pub stands_same : (x q : T) → eq x q ≡ true → (o : Option T) → stands eq q o ≡ stands eq x o
  stands_same x q e None = refl
  stands_same x q e (Some z) = sym (laws.congr x q z e)

  -- an item stands where it is
  pub stands_there : (x : T) (o : Option T) → o ≡ Some x → stands eq x o ≡ true
  stands_there x o e = ap (stands eq x) e ∙ laws.refl x

  -- a new item is found at its place
  pub found_new : (ps qs : List (Option T)) (n : ℕ) (x q : T) → Gains ps qs n x → place_of eq x ps ≡ None → eq x q ≡ true → place_of eq q qs ≡ Some n
  found_new ps qs n x q gains new e =
      position_is (stands eq q) refl qs n (stands_same x q e (item_at qs n) ∙ stands_there x (item_at qs n) gains.there)
      (λ k h. ap (stands eq q) (gains.others k (λ same. absurd (omega (arith, same)))) ∙ stands_same x q e (item_at ps k) ∙ fails_each (stands eq x) refl ps new k)

  -- another item is found where it was
  pub found_other : (ps qs : List (Option T)) (n : ℕ) (x q : T) → Gains ps qs n x → eq x q ≡ false → place_of eq q qs ≡ place_of eq q ps
  found_other ps qs n x q gains e = position_same (stands eq q) refl ps qs (λ k. elim (cases_order k n) [ inl same ↦ here k same | inr apart ↦ elim apart [ inl less ↦ ap (stands eq q) (gains.others k (λ same. absurd (omega (arith, same)))) | inr more ↦ ap (stands eq q) (gains.others k (λ same. absurd (omega (arith, same)))) ] ])
    where
      here : (k : ℕ) → k ≡ n → stands eq q (item_at qs k) ≡ stands eq q (item_at ps k)
      here k same = rw same (ap (stands eq q) gains.there ∙ laws.symm q x ∙ e ∙ sym (ap (stands eq q) gains.free))

  -- where each item is found
  pub found_each : (ps qs : List (Option T)) (n : ℕ) (x q : T) → Gains ps qs n x → place_of eq x ps ≡ None → place_of eq q qs ≡ cond (eq x q) (Some n) (place_of eq q ps)
  found_each ps qs n x q gains new = by (eq x q) refl
    where
      by : (b : Bool) → eq x q ≡ b → place_of eq q qs ≡ cond (eq x q) (Some n) (place_of eq q ps)
      by true e = found_new ps qs n x q gains new e ∙ sym (ap (λ b. cond b (Some n) (place_of eq q ps)) e)
      by false e = found_other ps qs n x q gains e ∙ sym (ap (λ b. cond b (Some n) (place_of eq q ps)) e)

  -- items stay distinct where a new one comes
  pub AreDistinct-gains : (ps qs : List (Option T)) (n : ℕ) (x : T) → Gains ps qs n x → place_of eq x ps ≡ None → AreDistinct eq ps → AreDistinct eq qs
  AreDistinct-gains ps qs n x gains new apart k y h = elim (cases_order k n) [ inl same ↦ here same | inr less ↦ elim less [ inl l ↦ there (λ same. absurd (omega (arith, same))) | inr m ↦ there (λ same. absurd (omega (arith, same))) ] ]
    where
      same_some : (a b : T) → Some a ≡ Some b → a ≡ b
      same_some a b e = cc

      here : k ≡ n → place_of eq y qs ≡ Some k
      here same =
          let at : item_at qs n ≡ Some y = rw same at h in
          let is : x ≡ y = same_some x y (sym gains.there ∙ at) in
          found_new ps qs n x y gains new (ap (eq x) (sym is) ∙ laws.refl x) ∙ ap Some (sym same)

      there : k ≢ n → place_of eq y qs ≡ Some k
      there other =
          let was : item_at ps k ≡ Some y = sym (gains.others k other) ∙ h in
          found_other ps qs n x y gains (sym (ap (stands eq x) was) ∙ fails_each (stands eq x) refl ps new k) ∙ apart k y was

  -- and where some go
  pub AreDistinct-loses : (ps qs : List (Option T)) → Loses ps qs → AreDistinct eq ps → AreDistinct eq qs
  AreDistinct-loses ps qs loses apart n x h = elim (loses.each n) [ inl same ↦ found (sym same ∙ h) | inr gone ↦ absurd (none (sym gone ∙ h)) ]
    where
      none : None ≡ Some x → ⊥
      none e = cc

      fails : (k : ℕ) → stands eq x (item_at ps k) ≡ false → stands eq x (item_at qs k) ≡ false
      fails k e = elim (loses.each k) [ inl same ↦ ap (stands eq x) same ∙ e | inr gone ↦ ap (stands eq x) gone ]

      found : item_at ps n ≡ Some x → place_of eq x qs ≡ Some n
      found was =
          let at = position-Some (stands eq x) ps n None (apart n x was) in
          position_is (stands eq x) refl qs n (stands_there x (item_at qs n) h) (λ k less. fails k (at.2 k less))

  -- the first places, up to an item, don't hold it
  pub new_there : (ps qs : List (Option T)) (n : ℕ) (x : T) → Loses ps qs → ((k : ℕ) → n ≤ k → item_at qs k ≡ None) → item_at ps n ≡ Some x → AreDistinct eq ps → place_of eq x qs ≡ None
  new_there ps qs n x loses past there apart = position_none (stands eq x) refl qs (λ k. elim (cases_lt k n) [ inl less ↦ low k less | inr more ↦ ap (stands eq x) (past k more) ])
    where
      low : (k : ℕ) → k < n → stands eq x (item_at qs k) ≡ false
      low k less =
          let at = position-Some (stands eq x) ps n None (apart n x there) in
          elim (loses.each k) [ inl same ↦ ap (stands eq x) same ∙ at.2 k less | inr gone ↦ ap (stands eq x) gone ]
