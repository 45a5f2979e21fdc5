-- What is counted of nets one by one: where none counts more than before, all together count no more, and less where one does.
use Rattle.std.proofs.Common.{◌≡◌, ℕ, zero, suc, ◌<◌, ◌≤◌, List, [], ◌∷◌, Option, None, arith}
use Rattle.std.specs.List.{sum_by}
use Rattle.std.proofs.lemmas.List.Sums.{sum_by-cons}
use Rattle.mv_net.specs.declared.parts.FlatNet.{FlatNet}
use Rattle.mv_net.specs.Nets.{slot}

-- a number that isn't held counts nothing
module _ (count : Option FlatNet → ℕ) (none : count None ≡ 0) where
  pub counts_most : (new old : List (Option FlatNet)) → ((k : ℕ) → count (slot new k) ≤ count (slot old k)) → sum_by count new ≤ sum_by count old
  counts_most [] old each = omega arith
  counts_most (f ∷ fs) [] each =
      let rest = counts_most fs [] (λ k. each (suc k)) in
      let here = each 0 in
      omega (arith, none, here, rest, sum_by-cons count f fs)
  counts_most (f ∷ fs) (g ∷ gs) each =
      let rest = counts_most fs gs (λ k. each (suc k)) in
      let here = each 0 in
      omega (arith, here, rest, sum_by-cons count f fs, sum_by-cons count g gs)

  pub counts_less : (new old : List (Option FlatNet)) (n : ℕ) → ((k : ℕ) → count (slot new k) ≤ count (slot old k)) → count (slot new n) < count (slot old n)
      → sum_by count new < sum_by count old
  counts_less new [] n each less = absurd (omega (arith, none, less))
  counts_less [] (g ∷ gs) zero each less = omega (arith, less, sum_by-cons count g gs)
  counts_less [] (g ∷ gs) (suc n) each less =
      let rest = counts_less [] gs n (λ k. each (suc k)) less in
      omega (arith, rest, sum_by-cons count g gs)
  counts_less (f ∷ fs) (g ∷ gs) zero each less =
      let rest = counts_most fs gs (λ k. each (suc k)) in
      omega (arith, less, rest, sum_by-cons count f fs, sum_by-cons count g gs)
  counts_less (f ∷ fs) (g ∷ gs) (suc n) each less =
      let rest = counts_less fs gs n (λ k. each (suc k)) less in
      let here = each 0 in
      omega (arith, here, rest, sum_by-cons count f fs, sum_by-cons count g gs)
