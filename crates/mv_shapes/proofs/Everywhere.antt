-- Sets that have all values of columns.
use Rattle.std.proofs.Common.{◌≡◌, ℕ, ◌<◌, ◌≤◌, true, ◌⊎◌, inl, inr, List, [], ◌∷◌, refl, sym, ◌∙◌, ap, arith, length, drop, ⊎_elim}
use Rattle.std.specs.Prelude.{min}
use Rattle.std.proofs.lemmas.Bool.{cases_lt}
use Rattle.std.proofs.lemmas.List.{drop_all}
use Rattle.mv_shapes.specs.Rows.{are_full}

-- behind the columns or the sets there is nothing to look at
none_left : (counts : List ℕ) → are_full counts [] ≡ true
none_left [] = refl
none_left (n ∷ counts) = refl

pub full_at_end : (counts sets : List ℕ) (n : ℕ) → min (length counts) (length sets) ≤ n → true ≡ are_full (drop n counts) (drop n sets)
full_at_end counts sets n high =
    ⊎_elim (λ (l : length counts ≤ n). sym (ap (λ ns. are_full ns (drop n sets)) (drop_all n counts l)))
    (λ (l : length sets ≤ n). sym (ap (are_full (drop n counts)) (drop_all n sets l) ∙ none_left (drop n counts)))
    (either (length counts) (length sets) high)
  where
    either : (a b : ℕ) → min a b ≤ n → (a ≤ n) ⊎ (b ≤ n)
    either a b h = ⊎_elim (λ (g : n < a). inr (omega (arith, h, g))) (λ (l : a ≤ n). inl l) (cases_lt n a)
