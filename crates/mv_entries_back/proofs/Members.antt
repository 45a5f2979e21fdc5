-- The values of a set: how great they are, and how many.
use Rattle.std.proofs.Common.{◌≡◌, ℕ, zero, suc, ◌+◌, ◌≤◌, Bool, true, false, length, filter, refl, arith, ⊎_elim}
use Rattle.std.specs.Prelude.{nat_lt}
use Rattle.std.specs.List.{list_all, range_with_len}
use Rattle.std.proofs.lemmas.Bool.{and_from, lt-ltb, cases_Bool}
use Rattle.mv_base.specs.Set.{has}
use Rattle.mv_base.specs.declared.limits.TheConstants.{MAX_VALUES}
use Rattle.mv_entry.specs.Entries.{members_below, members}

-- ---- what a filter keeps of numbers in a row

module _ (p : ℕ → Bool) where
  below : (a n m : ℕ) → a + n ≤ m → list_all (λ v. nat_lt v m) (filter p (range_with_len a n)) ≡ true
  below a zero m high = refl
  below a (suc n) m high =
      let rest = below (a + 1) n m (omega arith) in
      ⊎_elim
      (λ (y : p a ≡ true). rw y (and_from (nat_lt a m) _ (lt-ltb a m (omega arith)) rest))
      (λ (f : p a ≡ false). rw f rest)
      (cases_Bool (p a))

  counted : (a n : ℕ) → length (filter p (range_with_len a n)) ≤ n
  counted a zero = omega arith
  counted a (suc n) =
      let rest = counted (a + 1) n in
      ⊎_elim
      (λ (y : p a ≡ true). rw y (omega arith))
      (λ (f : p a ≡ false). rw f (omega arith))
      (cases_Bool (p a))

-- ---- the values of a set

small_below : (set n : ℕ) → list_all (λ v. nat_lt v n) (members_below set n) ≡ true
unfolding members_below
small_below set n = below (λ v. has set v) 0 n n (omega arith)

few_below : (set n : ℕ) → length (members_below set n) ≤ n
unfolding members_below
few_below set n = counted (λ v. has set v) 0 n

-- each is a value that a net may have
pub members_small : (set : ℕ) → list_all (λ v. nat_lt v MAX_VALUES) (members set) ≡ true
members_small set = small_below set MAX_VALUES

-- and there are no more of them than a net may have
pub members_few : (set : ℕ) → length (members set) ≤ MAX_VALUES
members_few set = few_below set MAX_VALUES
