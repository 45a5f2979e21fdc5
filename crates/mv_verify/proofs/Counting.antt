-- The sizes of a network, net by net.
use Rattle.std.proofs.Common.{◌≡◌, ◌∙◌, ℕ, ◌+◌, ◌-◌, ◌*◌, ◌<◌, None, Option, List, ◌∷◌, length, drop, min, sym, ap, add-one}
use Rattle.std.proofs.Math.Nat.{mul_assoc}
use Rattle.std.proofs.Math.Seq.{drop-cons}
use Rattle.mv_net.specs.declared.parts.FlatNet.{FlatNet}
use Rattle.mv_net.specs.Nets.{slot, values_in}
use Rattle.mv_net.specs.Window.{ways_in}
use Rattle.mv_net.proofs.Windows.{min_times}
use Rattle.mv_verify.specs.Sizes.{points_in, levels_in, own_levels_at, own_levels_in}

-- the net at a place and those behind it
next_net : (nets : List (Option FlatNet)) (n : ℕ) → n < length nets → drop n nets ≡ slot nets n ∷ drop (n + 1) nets
next_net nets n less = drop-cons nets n None less ∙ ap (λ k. slot nets n ∷ drop k nets) (sym (add-one n))

pub points_next : (nets : List (Option FlatNet)) (n points ways new top all : ℕ) → n < length nets → ways ≡ ways_in (slot nets n) → new ≡ min (points * ways) top → min (points * points_in (drop n nets)) top ≡ all → min (new * points_in (drop (n + 1) nets)) top ≡ all
points_next nets n points ways new top all less is e h =
    let rest = points_in (drop (n + 1) nets) in
    let here : points_in (drop n nets) ≡ ways * rest = ap points_in (next_net nets n less) ∙ ap (λ k. k * rest) (sym is) in
    ap (λ k. min (k * rest) top) e ∙ (min_times (points * ways) rest top ∙ (ap (λ k. min k top) (mul_assoc points ways rest ∙ ap (λ k. points * k) (sym here)) ∙ h))

pub levels_next : (nets : List (Option FlatNet)) (n : ℕ) → n < length nets → levels_in (drop n nets) ≡ (values_in (slot nets n) - 1) + levels_in (drop (n + 1) nets)
levels_next nets n less = ap levels_in (next_net nets n less)

pub own_levels_next : (nets : List (Option FlatNet)) (n : ℕ) → n < length nets → own_levels_in (drop n nets) ≡ own_levels_at (slot nets n) + own_levels_in (drop (n + 1) nets)
own_levels_next nets n less = ap own_levels_in (next_net nets n less)
