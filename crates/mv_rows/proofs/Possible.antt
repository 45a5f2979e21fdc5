-- What the cube of a row tells: whether the row matches something, and whether it matches everything.
use Rattle.std.proofs.Common.{◌≡◌, ℕ, Bool, false, not, nat_eq, List, length, Option, Some, None, MatchOption, sym, ap}
use Rattle.std.specs.Option.{is_some}
use Rattle.mv_cover.specs.Literal.{Lit}
use Rattle.mv_rows.specs.declared.column.Column.{Column}
use Rattle.mv_rows.specs.Cubes.{AreColumns, FitRow, HasNoPoint, IsRowCube}
use Rattle.mv_rows.specs.Marked.{matches_all, matches_none}
use Rattle.mv_rows.proofs.Marked.{not_none, none_from_nowhere, not_everywhere, bare-cube}

pub possible_from_cube : (cs : List Column) (sets : List ℕ) (o : Option (List Lit)) → AreColumns cs → FitRow cs sets → MatchOption o (HasNoPoint cs sets) (λ cube. IsRowCube cs sets cube) → is_some o ≡ not (matches_none cs sets)
possible_from_cube cs sets None columns fit none = sym (ap not (none_from_nowhere cs sets columns fit none))
possible_from_cube cs sets (Some cube) columns fit is = sym (ap not (not_none cs sets is.point))

-- a cube has no literal, if there is a cube
abbrev pub bare_cube : Option (List Lit) → Bool
bare_cube None = false
bare_cube (Some cube) = nat_eq (length cube) 0

pub bare_from_cube : (cs : List Column) (sets : List ℕ) (o : Option (List Lit)) → AreColumns cs → FitRow cs sets → MatchOption o (HasNoPoint cs sets) (λ cube. IsRowCube cs sets cube) → bare_cube o ≡ matches_all cs sets
bare_from_cube cs sets None columns fit none = sym (not_everywhere cs sets columns fit none)
bare_from_cube cs sets (Some cube) columns fit is = bare-cube cs sets cube columns fit is
