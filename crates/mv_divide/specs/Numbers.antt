-- The numbers by which cubes are found: a literal has what it hashes to, and a cube the sum of
-- those of its literals. So the number of a join of cubes without a common symbol is the sum of
-- theirs.
use Rattle.std.specs.Prelude.{ℕ, List, fold}
use Rattle.std.specs.List.{sum_by}
use Rattle.std.specs.Hash.FoldHasher.{initial, write, finish}
use Rattle.mv_cover.specs.Literal.{Lit}
use Rattle.mv_cover.specs.Equal.{lit_fed}

-- what the literal hashes to
unfoldable pub lit_number : Lit → ℕ
lit_number l = finish (fold write initial (lit_fed l))

-- the sum over the literals
abbrev pub cube_number : List Lit → ℕ
cube_number cube = sum_by lit_number cube
