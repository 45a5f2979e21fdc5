-- Lines as lists of literals on variables, in the order of these, and what they allow at a point.
-- What private functions alone cite.
use Rattle.std.specs.Prelude.{◌+◌, ◌&&◌, ℕ, Bool, true, not, nat_eq, nat_lt, List, [], ◌∷◌, slice_index, if◌then◌else◌}
use Rattle.std.specs.List.{list_any}
use Rattle.mv_base.specs.Set.{has, empty}
use Rattle.mv_cover.specs.Literal.{Lit}
use Rattle.mv_cover.specs.declared.line.Line.{Line}
use Rattle.mv_cover.specs.Cubes.{matches}
use Rattle.mv_diagram.specs.declared.cube.Literal.{Literal}
use Rattle.mv_diagram.specs.Sets.{Point}
use Rattle.mv_relation.specs.Relations.{assigned}

-- the literal on the variable of the net
abbrev pub literal_of : List ℕ → Lit → Literal
literal_of vars l = record { var = slice_index vars l.net.0; set = l.set }

-- how many literals stand before the first whose variable isn't below this one
abbrev pub place_of : ℕ → List Literal → ℕ
place_of var [] = 0
place_of var (l ∷ ls) = if nat_lt l.var var then place_of var ls + 1 else 0

-- the literals with one more, before the first whose variable isn't below its own
abbrev pub placed : Literal → List Literal → List Literal
placed x [] = x ∷ []
placed x (l ∷ ls) = if nat_lt l.var x.var then l ∷ placed x ls else x ∷ l ∷ ls

-- the literals with those of a cube
abbrev pub all_placed : List ℕ → List Lit → List Literal → List Literal
all_placed vars [] ls = ls
all_placed vars (c ∷ cs) ls = all_placed vars cs (placed (literal_of vars c) ls)

-- the literal of an output, if it is asked for
abbrev pub own_literals : Bool → ℕ → ℕ → List Literal
own_literals gives own out = if gives then record { var = own; set = out } ∷ [] else []

-- the literals of a line, and of its output if it is asked for
abbrev pub line_literals : List ℕ → ℕ → Bool → Line → List Literal
line_literals vars own gives l = all_placed vars l.cube (own_literals gives own l.out)

-- whether the line's cube holds at a point, and its output has the value of this variable if that
-- is asked
abbrev pub line_holds : List ℕ → ℕ → Bool → Point → Line → Bool
line_holds vars own gives p l =
    (if gives then has l.out (p own) else true) && matches (assigned vars p) l.cube

-- whether that is so of some line
abbrev pub some_holds : List ℕ → ℕ → Bool → Point → List Line → Bool
some_holds vars own gives p ls = list_any (λ (l : Line). line_holds vars own gives p l) ls

-- whether the line's cube holds at a point, and its output has a value
abbrev pub line_chooses : List ℕ → Point → Line → Bool
line_chooses vars p l = matches (assigned vars p) l.cube && not (nat_eq l.out empty)

-- whether that is so of some line
abbrev pub some_choose : List ℕ → Point → List Line → Bool
some_choose vars p ls = list_any (λ (l : Line). line_chooses vars p l) ls
