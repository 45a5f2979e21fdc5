-- Equality of literals, cubes and lines as tests.
use Rattle.std.specs.Prelude.{Bool, ◌&&◌, nat_eq, List, ◌++◌}
use Rattle.std.specs.Cmp.Lexicographic.{pointwise}
use Rattle.std.specs.Hash as fed
use Rattle.std.specs.Hash.{HashWrites}
use Rattle.mv_base.specs.Words.{kept_fed}
use Rattle.mv_cover.specs.Literal.{Lit}
use Rattle.mv_cover.specs.declared.line.Line.{Line}

-- the same net and the same set
abbrev pub lit_eq : Lit → Lit → Bool
lit_eq a b = nat_eq a.net.0 b.net.0 && nat_eq a.set b.set

-- the same literals, one by one
abbrev pub cube_eq : List Lit → List Lit → Bool
cube_eq a b = pointwise lit_eq a b

-- the same cube and the same output
abbrev pub line_eq : Line → Line → Bool
line_eq a b = cube_eq a.cube b.cube && nat_eq a.out b.out

-- what a hash is fed with: the net, then the set
abbrev pub lit_fed : Lit → HashWrites
lit_fed l = fed.u32 l.net.0 ++ kept_fed l.set

-- the number of literals, then each of them
abbrev pub cube_fed : List Lit → HashWrites
cube_fed c = fed.slice lit_fed c

-- the cube, then the output
abbrev pub line_fed : Line → HashWrites
line_fed l = cube_fed l.cube ++ kept_fed l.out
