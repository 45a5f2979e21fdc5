-- What ascends is there once.
use Rattle.std.proofs.Common.{◌≡◌, Bool, false, List, [], ◌∷◌, Decides}
use Rattle.std.proofs.lemmas.Bool.{false_from_ne_true}
use Rattle.std.proofs.lemmas.List.Elements.{All-weaker, recursion_from_All}
use Rattle.std.proofs.lemmas.Map.Keys.{IsDistinct-cons, sorted_tail}
use Rattle.std.proofs.lemmas.Map.Views.{All-after_first}
use Rattle.std.specs.List.{IsDistinct}
use Rattle.std.specs.Cmp.{IsTotalOrder}
use Rattle.std.specs.declared.cmp.Ordering.{Ordering}
use Rattle.std.specs.declared.cmp.Ordering.TheVariants.{Less}
use Rattle.std.specs.List.Sorted.{IsStrictlySortedBy}
use Rattle.mv_cover.specs.Literal.{Lit}
use Rattle.mv_cover.specs.Cubes.{IsCube}
use Rattle.mv_cover.specs.Equal.{lit_eq}
use Rattle.mv_cover.specs.Keys.{lit_eq-Decides}
use Rattle.mv_kernels.specs.Order.{lit_cmp}
use Rattle.mv_kernels.proofs.Orders.{lit_total, Less-differs, sorted_cube}

pub sorted_once : {K : Type 0} (R : K → K → Ordering) (eq : K → K → Bool) → IsTotalOrder R → ((a b : K) → Decides (eq a b) (a ≡ b)) → (xs : List K) → IsStrictlySortedBy R xs → IsDistinct eq xs
unfolding IsDistinct
sorted_once R eq total same [] s = tt
sorted_once R eq total same (x ∷ xs) s =
    IsDistinct-cons eq x xs
    (recursion_from_All (λ y. eq x y ≡ false) xs
    (All-weaker (λ y. R x y ≡ Less) (λ y. eq x y ≡ false)
    (λ y less. false_from_ne_true (eq x y) (λ t. Less-differs R total x y less ((same x y).0 t))) xs (All-after_first R x xs s)))
    (sorted_once R eq total same xs (sorted_tail R x xs s))

pub literals_once : (c : List Lit) → IsCube c → IsDistinct lit_eq c
literals_once c f = sorted_once lit_cmp lit_eq lit_total lit_eq-Decides c (sorted_cube c f.ascending)
