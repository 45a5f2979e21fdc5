-- Sets joined, and sets within them.
use Rattle.std.proofs.Common.{◌≡◌, ◌∙◌, ℕ, Bool, true, false, ◌||◌, inl, inr, refl, sym, ap}
use Rattle.std.proofs.lemmas.Bool.{or_cases, or_left, or_right}
use Rattle.std.proofs.Math.Bool.{or-false}
use Rattle.mv_base.specs.Set.{has, empty, join, Within}
use Rattle.mv_base.proofs.Sets.{has-empty, has-join, same_set}

pub or_again : (x y z : Bool) → ((x || y) || z) ≡ (x || (y || z))
or_again true y z = refl
or_again false y z = refl

pub within_first : (a b : ℕ) → Within a (join a b)
within_first a b v h = has-join a b v ∙ or_left (has a v) (has b v) h

pub within_second : (a b : ℕ) → Within b (join a b)
within_second a b v h = has-join a b v ∙ or_right (has a v) (has b v) h

pub joined_within : (a b c : ℕ) → Within a c → Within b c → Within (join a b) c
joined_within a b c p q v h =
    elim (or_cases (has a v) (has b v) (sym (has-join a b v) ∙ h)) [
      | inl t ↦ p v t
      | inr t ↦ q v t
    ]

pub both_within : (a b c d : ℕ) → Within a c → Within b d → Within (join a b) (join c d)
both_within a b c d p q =
    joined_within a b (join c d) (λ v h. within_first c d v (p v h)) (λ v h. within_second c d v (q v h))

pub join-append : (a b c : ℕ) → join (join a b) c ≡ join a (join b c)
join-append a b c =
    same_set _ _
    (λ v.
    has-join (join a b) c v
    ∙ (ap (λ x. x || has c v) (has-join a b v)
    ∙ (or_again (has a v) (has b v) (has c v) ∙ (ap (λ x. has a v || x) (sym (has-join b c v)) ∙ sym (has-join a (join b c) v)))))

pub join-nothing : (a : ℕ) → join a empty ≡ a
join-nothing a = same_set _ _ (λ v. has-join a empty v ∙ (ap (λ x. has a v || x) (has-empty v) ∙ or-false (has a v)))
