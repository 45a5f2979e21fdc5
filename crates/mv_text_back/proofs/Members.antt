-- The members of a set below a count, and the set that they make together.
use Rattle.std.proofs.Common.{◌≡◌, ◌∙◌, ℕ, zero, suc, ◌+◌, Bool, true, false, ◌&&◌, ◌||◌, List, [], ◌∷◌, filter, refl, sym, ap, ⊎_elim, arith}
use Rattle.std.specs.Prelude.{nat_eq, nat_lt, nat_le}
use Rattle.std.specs.List.{list_all, list_any, range_with_len}
use Rattle.std.proofs.Math.Bool.{or-false, or_assoc}
use Rattle.std.proofs.lemmas.Bool.{cases_Bool, and_from, and_right, lt-ltb, ltb-true}
use Rattle.std.proofs.lemmas.Bool.Decides.{nat_tests}
use Rattle.mv_base.specs.Set.{has, empty, one, full, join, Within}
use Rattle.mv_base.proofs.Sets.{has-empty, has-one, has-full, has-join, same_set}
use Rattle.mv_text_back.proofs.Passes.{picked-pass}

-- the numbers below a count that are members
abbrev pub members : ℕ → ℕ → List ℕ
members count set = filter (λ v. has set v) (range_with_len 0 count)

-- a set with these members besides
abbrev pub joined : ℕ → List ℕ → ℕ
joined set [] = set
joined set (m ∷ ms) = joined (join set (one m)) ms

pub members-below : (count set : ℕ) → list_all (λ m. nat_lt m count) (members count set) ≡ true
members-below count set = picked-pass (λ v. has set v) (λ m. nat_lt m count) 0 count count (omega arith) (λ m low member. lt-ltb m count low)

-- a number stands among those that pass where it is in the range and passes
one_more : (b : Bool) (a k v : ℕ) → (v ≡ a → b ≡ true) → (nat_eq v a || (b && (nat_le (a + 1) v && nat_lt v ((a + 1) + k)))) ≡ (b && (nat_le a v && nat_lt v (a + suc k)))
one_more true a k v h = grind (arith, nat_tests)
one_more false a k v h = grind (arith, nat_tests)

one_less : (b : Bool) (a k v : ℕ) → (v ≡ a → b ≡ false) → (b && (nat_le (a + 1) v && nat_lt v ((a + 1) + k))) ≡ (b && (nat_le a v && nat_lt v (a + suc k)))
one_less true a k v h = grind (arith, nat_tests)
one_less false a k v h = refl

passing-any : (p : ℕ → Bool) (a k v : ℕ) → list_any (λ m. nat_eq v m) (filter p (range_with_len a k)) ≡ (p v && (nat_le a v && nat_lt v (a + k)))
passing-any p a zero v = sym (and_right (p v) _ (grind (arith, nat_tests)))
passing-any p a (suc k) v =
    ⊎_elim
    (λ (y : p a ≡ true). rw y (ap (λ b. nat_eq v a || b) (passing-any p (a + 1) k v) ∙ one_more (p v) a k v (λ e. ap p e ∙ y)))
    (λ (f : p a ≡ false). rw f (passing-any p (a + 1) k v ∙ one_less (p v) a k v (λ e. ap p e ∙ f)))
    (cases_Bool (p a))

has-joined : (ms : List ℕ) (set v : ℕ) → has (joined set ms) v ≡ (has set v || list_any (λ m. nat_eq v m) ms)
has-joined [] set v = sym (or-false (has set v))
has-joined (m ∷ ms) set v =
    has-joined ms (join set (one m)) v ∙ (ap (λ b. b || list_any (λ k. nat_eq v k) ms) (has-join set (one m) v ∙ ap (λ b. has set v || b) (has-one m v)) ∙ or_assoc (has set v) (nat_eq v m) (list_any (λ k. nat_eq v k) ms))

within_same : (b low : Bool) → (b ≡ true → low ≡ true) → (b && low) ≡ b
within_same true low h = h refl
within_same false low h = refl

-- a set within the values below a count is what its members there make
pub members-joined : (count set : ℕ) → Within set (full count) → joined empty (members count set) ≡ set
members-joined count set within =
    same_set _ _
    (λ v.
    has-joined (members count set) empty v ∙ (ap (λ b. b || list_any (λ m. nat_eq v m) (members count set)) (has-empty v) ∙ (passing-any (λ u. has set u) 0 count v ∙ within_same (has set v) (nat_le 0 v && nat_lt v (0 + count)) (λ y. and_from (nat_le 0 v) _ (grind (arith, nat_tests)) (let e : nat_lt v count ≡ true = sym (has-full count v) ∙ within v y in lt-ltb v (0 + count) (let low = ltb-true v count e in omega arith))))))
