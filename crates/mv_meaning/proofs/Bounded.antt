-- Ranks that fall from each net to each that it reads, none of them greater than the number of nets.
use Rattle.std.proofs.Common.{◌≡◌, ℕ, zero, suc, ◌+◌, ◌<◌, ◌≤◌, Bool, true, nat_lt, sym, subst, ⊎_elim, arith}
use Rattle.std.specs.Prelude.{if◌then◌else◌}
use Rattle.std.proofs.lemmas.Bool.{cases_lt, cond-true, cond-false, lt-ltb, le-ltb}
use Rattle.mv_graph.proofs.Ranks.{IsRanked}

-- ranks that are no greater than this
pub record IsRankedWithin (reads : ℕ → ℕ → Bool) (most : ℕ) : Type 0 where
  pub rank : ℕ → ℕ
  pub falls : (n m : ℕ) → reads n m ≡ true → rank m < rank n
  pub low : (n : ℕ) → rank n ≤ most

-- one for a rank below r
unfoldable one_below : ℕ → ℕ → ℕ
one_below rank r = if nat_lt rank r then 1 else 0

-- how many of the first numbers have a lower rank
abbrev lower : (ℕ → ℕ) → ℕ → ℕ → ℕ
lower rank zero r = 0
lower rank (suc k) r = one_below (rank k) r + lower rank k r

is_low : (rank : ℕ → ℕ) (k r : ℕ) → rank k < r → one_below (rank k) r ≡ 1
unfolding one_below
is_low rank k r l = cond-true (nat_lt (rank k) r) 1 0 (lt-ltb (rank k) r l)

not_low : (rank : ℕ → ℕ) (k r : ℕ) → r ≤ rank k → one_below (rank k) r ≡ 0
unfolding one_below
not_low rank k r l = cond-false (nat_lt (rank k) r) 1 0 (le-ltb (rank k) r l)

lower_most : (rank : ℕ → ℕ) (k r : ℕ) → lower rank k r ≤ k
lower_most rank zero r = omega arith
lower_most rank (suc k) r =
    let rest = lower_most rank k r in
    ⊎_elim
    (λ (l : rank k < r). let e = is_low rank k r l in omega arith)
    (λ (h : r ≤ rank k). let e = not_low rank k r h in omega arith)
    (cases_lt (rank k) r)

lower_fewer : (rank : ℕ → ℕ) (k r s : ℕ) → r ≤ s → lower rank k r ≤ lower rank k s
lower_fewer rank zero r s le = omega arith
lower_fewer rank (suc k) r s le =
    let rest = lower_fewer rank k r s le in
    ⊎_elim
    (λ (l : rank k < r). let e = is_low rank k r l in let f = is_low rank k s (omega arith) in omega arith)
    (λ (h : r ≤ rank k). let e = not_low rank k r h in omega arith)
    (cases_lt (rank k) r)

-- one of them has a rank between
lower_less : (rank : ℕ → ℕ) (k m s : ℕ) → m < k → rank m < s → lower rank k (rank m) < lower rank k s
lower_less rank zero m s low l = absurd (omega arith)
lower_less rank (suc k) m s low l =
    ⊎_elim
    (λ (before : m < k).
    let rest = lower_less rank k m s before l in
    ⊎_elim
    (λ (b : rank k < rank m). let e = is_low rank k (rank m) b in let f = is_low rank k s (omega arith) in omega arith)
    (λ (h : rank m ≤ rank k). let e = not_low rank k (rank m) h in omega arith)
    (cases_lt (rank k) (rank m)))
    (λ (behind : k ≤ m).
    let same : k ≡ m = omega arith in
    let rest = lower_fewer rank k (rank m) s (omega arith) in
    let e : one_below (rank k) (rank m) ≡ 0 = not_low rank k (rank m) (at same) in
    let f : one_below (rank k) s ≡ 1 = is_low rank k s (under same) in
    omega arith)
    (cases_lt m k)
  where
    at : k ≡ m → rank m ≤ rank k
    at e = subst (λ j. rank m ≤ rank j) (sym e) (omega arith)

    under : k ≡ m → rank k < s
    under e = subst (λ j. rank j < s) (sym e) l

-- ranks of nets that read nets below `size` alone can be made so
pub ranked_within : (reads : ℕ → ℕ → Bool) (size : ℕ) → ((n m : ℕ) → reads n m ≡ true → m < size) → IsRanked reads → IsRankedWithin reads size
ranked_within reads size below r = record {
  rank = λ n. lower r.rank size (r.rank n);
  falls = λ n m h. lower_less r.rank size m (r.rank n) (below n m h) (r.falls n m h);
  low = λ n. lower_most r.rank size (r.rank n);
}
