-- The table that says one value for each point: rows for 1 and else 0, or rows for 0 and else 1.
use Rattle.std.specs.Prelude.{ℕ, Bool, not, Some, List, [], ◌∷◌, if◌then◌else◌}
use Rattle.mv_base.specs.Set.{has, one}
use Rattle.mv_cover.specs.declared.line.Line.{Line}
use Rattle.mv_cover.specs.declared.cover.Cover.{Cover}
use Rattle.mv_cover.specs.Covers.{default_gives}

-- the line gives 1, or doesn't
abbrev pub gives_one : Line → Bool
gives_one l = has l.out 1

abbrev pub lacks_one : Line → Bool
lacks_one l = not (has l.out 1)

-- the cubes of the lines that pass the test, each with this one value
abbrev pub lines_for : (Line → Bool) → ℕ → List Line → List Line
lines_for test value [] = []
lines_for test value (l ∷ ls) =
    if test l then record { cube = l.cube; out = one value } ∷ lines_for test value ls
    else lines_for test value ls

-- where the default doesn't give 1, the cubes of the lines that do say 1, and 0 is said elsewhere;
-- where it does, the cubes of the lines that don't say 0, and 1 is said elsewhere
unfoldable pub binary_choice : Cover → Cover
binary_choice c =
    if default_gives c.default 1
    then record { lines = lines_for lacks_one 0 c.lines; default = Some (one 1) }
    else record { lines = lines_for gives_one 1 c.lines; default = Some (one 0) }
