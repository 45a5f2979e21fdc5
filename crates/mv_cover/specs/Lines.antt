-- What the lines of a well-formed cover are like: each gives some values of its net, and none
-- stands twice.
use Rattle.std.specs.Prelude.{◌≡◌, ℕ, Bool, true, ◌&&◌, not, List, [], ◌∷◌}
use Rattle.std.specs.List.{list_any}
use Rattle.mv_base.specs.Set.{empty, full, Within}
use Rattle.mv_cover.specs.declared.line.Line.{Line}
use Rattle.mv_cover.specs.Equal.{line_eq}

-- some of the values of a net that has this many
pub record IsOutput (values set : ℕ) : Type 0 where
  pub some : set ≡ empty → ⊥
  pub within : Within set (full values)

-- no line is equal to a later one
abbrev pub lines_differ : List Line → Bool
lines_differ [] = true
lines_differ (l ∷ ls) = not (list_any (line_eq l) ls) && lines_differ ls
