-- Places as they are filled.
use Rattle.std.proofs.Common.{◌≡◌, ℕ, zero, suc, ◌+◌, ◌<◌, ◌≤◌, ◌≢◌, true, false, List, [], ◌∷◌, ◌++◌, Option, None, Some, length, is_none, is_some, refl, sym, inl, inr, arith}
use Rattle.std.proofs.Math.ListN.{set}
use Rattle.std.proofs.lemmas.Grind.{common_steps}
use Rattle.std.proofs.lemmas.Bool.{cases_lt}
use Rattle.std.proofs.lemmas.List.Sums.{fails_before_first}
use Rattle.mv_pool.specs.Places.{item_at, least_free, held_in, with_item}

module _ {T : Type 0} where
  -- an item at a free place is written there
  pub with_item-set : (ps : List (Option T)) (x : T) → least_free ps < length ps → with_item ps x ≡ set ps (least_free ps) (Some x)
  with_item-set [] x h = absurd (omega arith)
  with_item-set (None ∷ ps) x h = refl
  with_item-set (Some y ∷ ps) x h = let rest = with_item-set ps x in grind arith

  -- an item behind all
  pub with_item-push : (ps : List (Option T)) (x : T) → length ps ≤ least_free ps → with_item ps x ≡ ps ++ Some x ∷ []
  with_item-push [] x h = refl
  with_item-push (None ∷ ps) x h = absurd (omega arith)
  with_item-push (Some y ∷ ps) x h = let rest = with_item-push ps x in grind arith

  -- the same, at a number that is known to be the least free place
  pub written : (ps : List (Option T)) (x : T) (n : ℕ) → n ≡ least_free ps → n < length ps → set ps n (Some x) ≡ with_item ps x
  written ps x n e h = rw e (sym (with_item-set ps x (omega arith)))

  pub pushed : (ps : List (Option T)) (x : T) (n : ℕ) → n ≡ least_free ps → length ps ≤ n → ps ++ Some x ∷ [] ≡ with_item ps x
  pushed ps x n e h = sym (with_item-push ps x (omega arith))

  -- there is no item at the least free place
  pub free_there : (ps : List (Option T)) → item_at ps (least_free ps) ≡ None
  free_there [] = refl
  free_there (None ∷ ps) = refl
  free_there (Some y ∷ ps) = let rest = free_there ps in grind arith

  -- it is the least
  pub held_below : (ps : List (Option T)) (k : ℕ) → k < least_free ps → is_none (item_at ps k) ≡ false
  held_below ps k h = fails_before_first is_none ps k None h

  -- a free place isn't below it
  pub least-le : (ps : List (Option T)) (k : ℕ) → item_at ps k ≡ None → least_free ps ≤ k
  least-le [] k h = omega arith
  least-le (None ∷ ps) k h = omega arith
  least-le (Some y ∷ ps) zero h = absurd (cc)
  least-le (Some y ∷ ps) (suc k) h = let rest = least-le ps k h in omega arith

  -- where all places below are held, it is no less
  pub least-ge : (ps : List (Option T)) (n : ℕ) → ((k : ℕ) → k < n → is_none (item_at ps k) ≡ false) → n ≤ least_free ps
  least-ge ps n held = elim (cases_lt (least_free ps) n) [ inl less ↦ absurd (both (held (least_free ps) less)) | inr more ↦ more ]
    where
      both : is_none (item_at ps (least_free ps)) ≡ false → ⊥
      both e = let free = free_there ps in grind arith

  -- a held place that isn't above it is below it
  pub least-more : (ps : List (Option T)) (n : ℕ) → n ≤ least_free ps → is_some (item_at ps n) ≡ true → n + 1 ≤ least_free ps
  least-more ps n h e = elim (cases_lt n (least_free ps)) [ inl less ↦ omega arith | inr more ↦ absurd (both (omega arith)) ]
    where
      both : n ≡ least_free ps → ⊥
      both same = let free = free_there ps in let held : is_some (item_at ps (least_free ps)) ≡ true = rw same at e in grind arith

  -- the item stands at the least free place
  pub item_at-with : (ps : List (Option T)) (x : T) → item_at (with_item ps x) (least_free ps) ≡ Some x
  item_at-with [] x = refl
  item_at-with (None ∷ ps) x = refl
  item_at-with (Some y ∷ ps) x = let rest = item_at-with ps x in grind arith

  -- each other place is as before
  pub item_at-with_other : (ps : List (Option T)) (x : T) (n : ℕ) → n ≢ least_free ps → item_at (with_item ps x) n ≡ item_at ps n
  item_at-with_other [] x zero h = absurd (h refl)
  item_at-with_other [] x (suc n) h = refl
  item_at-with_other (None ∷ ps) x zero h = absurd (h refl)
  item_at-with_other (None ∷ ps) x (suc n) h = refl
  item_at-with_other (Some y ∷ ps) x zero h = refl
  item_at-with_other (Some y ∷ ps) x (suc n) h = item_at-with_other ps x n (λ e. h (omega (arith, e)))

  -- one item more is held
  pub held_in-with : (ps : List (Option T)) (x : T) → held_in (with_item ps x) ≡ held_in ps + 1
  held_in-with [] x = refl
  held_in-with (None ∷ ps) x = grind (arith, common_steps)
  held_in-with (Some y ∷ ps) x = let rest = held_in-with ps x in grind (arith, common_steps)

  -- there is a place for each item
  pub least-le-held : (ps : List (Option T)) → least_free ps ≤ held_in ps
  least-le-held [] = omega arith
  least-le-held (None ∷ ps) = omega arith
  least-le-held (Some y ∷ ps) = let rest = least-le-held ps in grind (arith, common_steps)

  -- the list grows by a place at most, and then ends behind the item
  pub length-with : (ps : List (Option T)) (x : T) (n : ℕ) → length ps ≤ n → least_free ps < n → length (with_item ps x) ≤ n
  length-with [] x n h l = omega arith
  length-with (None ∷ ps) x n h l = h
  length-with (Some y ∷ ps) x zero h l = absurd (omega arith)
  length-with (Some y ∷ ps) x (suc n) h l = let rest : length (with_item ps x) ≤ n = length-with ps x n (omega arith) (omega arith) in omega arith
