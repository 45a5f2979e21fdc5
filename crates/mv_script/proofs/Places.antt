-- The places of the items that stand in no braces, part by part.
use Rattle.std.proofs.Common.{◌≡◌, ℕ, List, ◌∷◌, ◌++◌, sym, append_assoc}
use Rattle.mv_script.specs.declared.part.Part.{Part}
use Rattle.mv_script.specs.Parts.{outside, outermost, depth_behind}

-- one part more
pub outside_more : (front : List ℕ) (p : Part) (ps : List Part) (d : ℕ) → front ++ outermost (p ∷ ps) d ≡ (front ++ outside p d) ++ outermost ps (depth_behind p.kind d)
outside_more front p ps d = sym (append_assoc front (outside p d) (outermost ps (depth_behind p.kind d)))

pub ruleset places = (outside_more)
