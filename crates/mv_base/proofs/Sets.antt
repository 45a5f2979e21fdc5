-- Sets of values, value by value.
use Rattle.std.proofs.Common.{◌≡◌, ℕ, zero, suc, ◌+◌, ◌-◌, ◌*◌, ◌/◌, ◌%◌, ◌^◌, lit<, mod-lt, zero-mul, ◌<◌, ◌≤◌, ◌≢◌, Bool, true, false, not, ◌&&◌, ◌||◌, ltb, eqb, IsTrue, refl, sym, ◌∙◌, ap, arith, ⊎_elim}
use Rattle.std.specs.Prelude.{◌==◌, nat_lt, bit_and, bit_or, bit_xor, count_ones, ◌↔◌}
use Rattle.std.specs.Int.{bit_at}
use Rattle.std.proofs.lemmas.Nat.Bits.{bit_at-zero, bit_at_and, bit_at_or, bit_at_xor, bit_at-pow_same, bit_at-pow_other, bit_at_ones, bit_at_ones_above, bit_at-lt, bit_at_above, same_from_bits, bit_at_lowest, bit_at-suc, and_pow}
use Rattle.std.proofs.lemmas.Bool.{cases_eq}
use Rattle.std.proofs.Math.Nat.{pow-suc}
use Rattle.std.proofs.lemmas.Bool.Decides.{nat_tests, eqb_tells, leb_tells, Decides-eqb, Decides-ltb}
use Rattle.std.proofs.lemmas.Bool.{false≢true}
use Rattle.std.proofs.lemmas.Nat.{xor_lt, and_le_l, and_le_r, or_disjoint, ones_cat, div-add-mod', pow_pos, zero_from_ones}
use Rattle.std.specs.Int.Count.{ones-ones}
use Rattle.mv_base.specs.Set.{has, empty, one, full, meet, join, minus, Within, IsSet}
use Rattle.mv_base.specs.declared.limits.TheConstants.{MAX_VALUES}

bit_is : (n : ℕ) → n ≡ 1 → (n == 1) ≡ true
bit_is n e = grind (arith, nat_tests)

bit_isnt : (n : ℕ) → n ≡ 0 → (n == 1) ≡ false
bit_isnt n e = grind (arith, nat_tests)

same_bit : (m n : ℕ) → m < 2 → n < 2 → (m == 1) ≡ (n == 1) → m ≡ n
same_bit m n p q e = grind (arith, nat_tests)

-- the empty set has no member
pub has-empty : (v : ℕ) → has empty v ≡ false
unfolding has empty
has-empty v = bit_isnt _ (bit_at-zero v)

-- the set of u has u alone
pub has-one : (u v : ℕ) → has (one u) v ≡ (v == u)
unfolding has one
has-one u v =
    ⊎_elim
    (λ (y : (eqb v u ≡ true) × (v ≡ u)). bit_is _ (rw y.1 (bit_at-pow_same u)) ∙ sym y.0)
    (λ (n : (eqb v u ≡ false) × (v ≢ u)). bit_isnt _ (bit_at-pow_other u v n.1) ∙ sym n.0)
    (eqb_tells v u)

-- the full set has what is below
pub has-full : (k v : ℕ) → has (full k) v ≡ nat_lt v k
unfolding has full
has-full k v =
    ⊎_elim
    (λ (y : (ltb v k ≡ true) × (v < k)). bit_is _ (bit_at_ones k v y.1) ∙ sym y.0)
    (λ (n : (ltb v k ≡ false) × (k < suc v)). bit_isnt _ (bit_at_ones_above k v (omega arith)) ∙ sym n.0)
    (leb_tells (suc v) k)

pub has-meet : (a b v : ℕ) → has (meet a b) v ≡ (has a v && has b v)
unfolding has meet
has-meet a b v =
    let p = bit_at-lt a v in
    let q = bit_at-lt b v in
    rw (bit_at_and a b v) (grind (arith, nat_tests))

pub has-join : (a b v : ℕ) → has (join a b) v ≡ (has a v || has b v)
unfolding has join
has-join a b v =
    let p = bit_at-lt a v in
    let q = bit_at-lt b v in
    rw (bit_at_or a b v) (grind (arith, nat_tests))

pub has-minus : (a b v : ℕ) → has (minus a b) v ≡ (has a v && not (has b v))
unfolding has minus
has-minus a b v =
    let p = bit_at-lt a v in
    let q = bit_at-lt b v in
    rw (bit_at_xor a (bit_and a b) v, bit_at_and a b v) (grind (arith, nat_tests))

-- the members of a set that calls and other sets make
pub ruleset members = (has-empty, has-one, has-full, has-meet, has-join, has-minus)

-- a number below 2 ^ k has no member from k on
pub has_above : (k s v : ℕ) → s < 2 ^ k → k ≤ v → has s v ≡ false
unfolding has
has_above k s v small above = bit_isnt _ (bit_at_above s k v small above)

-- what the code tests past the limit is what the set has there
pub has_outside : (s v : ℕ) → s < 2 ^ MAX_VALUES → MAX_VALUES ≤ v → nat_lt v MAX_VALUES ≡ has s v
has_outside s v small above =
    let none = has_above MAX_VALUES s v small above in
    grind (arith, nat_tests)

-- sets with the same members are one set
pub same_set : (a b : ℕ) → ((v : ℕ) → has a v ≡ has b v) → a ≡ b
unfolding has
same_set a b h = same_from_bits a b (λ v. same_bit _ _ (bit_at-lt a v) (bit_at-lt b v) (h v))

both_first : (p q : Bool) → (IsTrue p → IsTrue q) → (p && q) ≡ p
both_first true q h = h refl
both_first false q h = refl

second : (p q : Bool) → (p && q) ≡ p → IsTrue p → IsTrue q
second true q e h = e
second false q e h = cc

either : {P : Type 0} (p q : Bool) → (IsTrue p → P) → (IsTrue q → P) → (p || q) ≡ true → P
either true q f g e = f refl
either false q f g e = g e

-- a set whose members are all in another is where the two meet
pub meet_of_Within : (a b : ℕ) → Within a b → meet a b ≡ a
meet_of_Within a b h = same_set _ _ (λ v. has-meet a b v ∙ both_first _ _ (h v))

-- and the other way round
pub Within-from_meet : (a b : ℕ) → meet a b ≡ a → Within a b
Within-from_meet a b e v h = second (has a v) (has b v) (sym (has-meet a b v) ∙ ap (λ s. has s v) e) h

-- a number below 2 ^ MAX_VALUES is a set of values
pub IsSet_from_bound : (s : ℕ) → s < 2 ^ MAX_VALUES → IsSet s
IsSet_from_bound s small = record {
  below = λ v h.
      ⊎_elim
      (λ (y : (ltb v MAX_VALUES ≡ true) × (v < MAX_VALUES)). y.1)
      (λ (n : (ltb v MAX_VALUES ≡ false) × (MAX_VALUES < suc v)). absurd (false≢true (sym (has_above MAX_VALUES s v small (omega arith)) ∙ h)))
      (leb_tells (suc v) MAX_VALUES);
}

-- the lowest bit of a set that isn't empty is its least member
pub record IsLeast (s v : ℕ) : Type 0 where
  pub member : IsTrue (has s v)
  pub least : (u : ℕ) → IsTrue (has s u) → v ≤ u

pub IsLeast-from_bits : (s v : ℕ) → bit_at s v ≡ 1 → ((i : ℕ) → i < v → bit_at s i ≡ 0) → IsLeast s v
unfolding has
IsLeast-from_bits s v here below = record {
  member = bit_is _ here;
  least = λ u h.
      ⊎_elim
      (λ (y : (ltb u v ≡ true) × (u < v)). absurd (false≢true (sym (bit_isnt _ (below u y.1)) ∙ h)))
      (λ (n : (ltb u v ≡ false) × (v < suc u)). omega arith)
      (leb_tells (suc u) v);
}

-- removing members keeps a set below the bound
pub minus_small : (k a b : ℕ) → a < 2 ^ k → bit_xor a (bit_and a b) < 2 ^ k
minus_small k a b small = xor_lt k a (bit_and a b) small (omega (arith, and_le_l a b))

-- the test by numbers is the test by members
pub within_test : (a b : ℕ) → IsTrue (bit_and a b == a) ↔ Within a b
unfolding meet
within_test a b = (
  λ h. Within-from_meet a b ((Decides-eqb (bit_and a b) a).0 h),
  λ h. (Decides-eqb (bit_and a b) a).1 (meet_of_Within a b h),
)

-- ---- sets of values: what calls make of them is one

-- a set of values is a number below 2 ^ MAX_VALUES: it is where it meets the full set
pub bound-from_IsSet : (s : ℕ) → IsSet s → s < 2 ^ MAX_VALUES
unfolding meet full
bound-from_IsSet s h =
    let all = 2 ^ MAX_VALUES - 1 in
    let inside : Within s (full MAX_VALUES) = λ v e. has-full MAX_VALUES v ∙ (Decides-ltb v MAX_VALUES).1 (h.below v e) in
    let same : bit_and s all ≡ s = meet_of_Within s (full MAX_VALUES) inside in
    omega (arith, and_le_r s all, same)

shifted : (s v : ℕ) → bit_at s 0 ≡ 0 → ((i : ℕ) → i < v → bit_at (s / 2) i ≡ 0) → (i : ℕ) → i < suc v → bit_at s i ≡ 0
shifted s v here below zero h = here
shifted s v here below (suc i) h = bit_at-suc s i ∙ below i (omega (arith, h))

-- a number that isn't 0 has a lowest bit
lowest_bit : (k s : ℕ) → 0 < s → s < 2 ^ k → (v : ℕ) × (bit_at s v ≡ 1) × ((i : ℕ) → i < v → bit_at s i ≡ 0)
lowest_bit zero s some small = absurd (omega (arith, some, small))
lowest_bit (suc k) s some small =
    let half = s / 2 in
    let split : s ≡ half * 2 + s % 2 = sym (div-add-mod' s 2) in
    let bit : s % 2 < 2 = mod-lt s (lit< tt) in
    let double : 2 ^ suc k ≡ 2 * 2 ^ k = grind (arith, pow-suc) in
    ⊎_elim
    (λ (odd : s % 2 ≡ 1). (0, bit_at_lowest s ∙ odd, λ i h. absurd (omega (arith, h))))
    (λ (even : s % 2 ≡ 1 → ⊥).
    let low = lowest_bit k half (omega (arith, split, bit, even, some)) (omega (arith, split, small, double)) in
    (suc low.0, bit_at-suc s low.0 ∙ low.1, shifted s low.0 (bit_at_lowest s ∙ omega (arith, bit, even)) low.2))
    (cases_eq (s % 2) 1)

lowest_of : (k s : ℕ) → 0 < s → s < 2 ^ k → (v : ℕ) × IsLeast s v
lowest_of k s some small = let low = lowest_bit k s some small in (low.0, IsLeast-from_bits s low.0 low.1 low.2)

-- a set of values that isn't empty has a least member
pub least_of : (s : ℕ) → IsSet s → s ≢ empty → (v : ℕ) × IsLeast s v
unfolding empty
least_of s h some = lowest_of MAX_VALUES s (omega (arith, some)) (bound-from_IsSet s h)

-- ---- how many members a set has

bit_zero : (n : ℕ) → n < 2 → (n == 1) ≡ false → n ≡ 0
bit_zero n small e = grind (arith, nat_tests)

even_more : (q : ℕ) → q % 2 ≡ 0 → count_ones (q + 1) ≡ count_ones q + 1
even_more q even =
    let half = q / 2 in
    let split = div-add-mod' q 2 in
    let low : q ≡ half * 2 ^ 1 + 0 = omega (arith, split, even) in
    let high : q + 1 ≡ half * 2 ^ 1 + 1 = omega (arith, split, even) in
    let below = ap count_ones low ∙ ones_cat 1 half 0 (lit< tt) in
    let above = ap count_ones high ∙ ones_cat 1 half 1 (lit< tt) in
    let none : count_ones 0 ≡ 0 = ones-ones 0 in
    let single : count_ones 1 ≡ 1 = ones-ones 1 in
    omega (arith, below, above, none, single)

pub count-empty : count_ones empty ≡ 0
unfolding empty
count-empty = ones-ones 0

-- the empty set adds nothing
pub join_empty : (s : ℕ) → join empty s ≡ s
join_empty s = same_set _ _ (λ v. has-join empty s v ∙ ap (λ b. b || has s v) (has-empty v))

-- one more member is one more
pub count-more : (s v : ℕ) → has s v ≡ false → count_ones (join s (one v)) ≡ count_ones s + 1
unfolding has join one
count-more s v new =
    let zero_there : bit_at s v ≡ 0 = bit_zero _ (bit_at-lt s v) new in
    let apart : bit_and s (2 ^ v) ≡ 0 = and_pow s v ∙ rw zero_there (zero-mul (2 ^ v)) in
    let high = s / 2 ^ v in
    let low = s % 2 ^ v in
    let fits : low < 2 ^ v = mod-lt s (pow_pos v) in
    let split : s ≡ high * 2 ^ v + low = sym (div-add-mod' s (2 ^ v)) in
    let more : bit_or s (2 ^ v) ≡ (high + 1) * 2 ^ v + low = or_disjoint s (2 ^ v) apart ∙ grind (arith, split) in
    let before : count_ones s ≡ count_ones high + count_ones low = ap count_ones split ∙ ones_cat v high low fits in
    let after : count_ones (bit_or s (2 ^ v)) ≡ count_ones (high + 1) + count_ones low = ap count_ones more ∙ ones_cat v (high + 1) low fits in
    omega (arith, before, after, even_more high zero_there)

-- a set without members is the empty one
pub empty_from_count : (s : ℕ) → count_ones s ≡ 0 → s ≡ empty
unfolding empty
empty_from_count s none = zero_from_ones s none

put_back : (p q : Bool) → (q ≡ true → p ≡ true) → ((p && not q) || q) ≡ p
put_back true true h = refl
put_back true false h = refl
put_back false true h = sym (h refl)
put_back false false h = refl

-- a member that is taken out and put back
pub join-minus : (s v : ℕ) → IsTrue (has s v) → join (minus s (one v)) (one v) ≡ s
join-minus s v member =
    same_set _ _
    (λ u.
    let same : has (one v) u ≡ true → has s u ≡ true = λ e. rw ((Decides-eqb u v).0 (sym (has-one v u) ∙ e)) member in
    has-join (minus s (one v)) (one v) u ∙ (ap (λ b. b || has (one v) u) (has-minus s (one v) u) ∙ put_back (has s u) (has (one v) u) same))

and_false : (p : Bool) → (p && false) ≡ false
and_false true = refl
and_false false = refl

-- a set without one of its members hasn't that
pub taken_out : (s v : ℕ) → has (minus s (one v)) v ≡ false
taken_out s v =
    let there : has (one v) v ≡ true = has-one v v ∙ (Decides-eqb v v).1 refl in
    has-minus s (one v) v ∙ rw there (and_false (has s v))

-- a set with one member alone is the set of that member
pub one_from_count : (s v : ℕ) → IsTrue (has s v) → count_ones s ≡ 1 → s ≡ one v
one_from_count s v member single =
    let others = minus s (one v) in
    let counted : count_ones s ≡ count_ones others + 1 = ap count_ones (sym (join-minus s v member)) ∙ count-more others v (taken_out s v) in
    let gone : others ≡ empty = empty_from_count others (omega (arith, counted, single)) in
    sym (join-minus s v member) ∙ (ap (λ r. join r (one v)) gone ∙ join_empty (one v))
