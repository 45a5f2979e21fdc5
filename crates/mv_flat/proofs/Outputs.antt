-- The nets of a table's outputs, one after the other.
use Rattle.std.proofs.Common.{◌≡◌, ℕ, List, [], ◌∷◌, map, Option, Some, refl, ap}
use Rattle.std.specs.List.{zip}
use Rattle.mv_cover.specs.declared.cover.Cover.{Cover}
use Rattle.mv_design.specs.declared.design.Decl.{Decl}
use Rattle.mv_net.specs.declared.parts.FlatNet.{FlatNet}
use Rattle.mv_flat.specs.Built.{file_net, kind_of, output_nets}

-- the net of an output with its cover
abbrev pub net_of : List Decl → List ℕ × Cover → Option FlatNet
net_of ds p = file_net ds (kind_of p.0) (Some p.1) p.0

pub nets_zipped : (ds : List Decl) (ws : List (List ℕ)) (cs : List Cover) → map (net_of ds) (zip ws cs) ≡ output_nets ds ws cs
nets_zipped ds [] cs = refl
nets_zipped ds (w ∷ ws) [] = refl
nets_zipped ds (w ∷ ws) (c ∷ cs) = ap (λ ns. file_net ds (kind_of w) (Some c) w ∷ ns) (nets_zipped ds ws cs)
