-- Cubes that can hold together, as a test of their literals.
use Rattle.std.specs.Prelude.{Bool, ◌||◌, not, nat_eq, List}
use Rattle.std.specs.List.{list_all}
use Rattle.mv_base.specs.Set.{empty, meet}
use Rattle.mv_cover.specs.Literal.{Lit}

-- the literals are on two nets, or their sets have a common value
abbrev pub lits_meet : Lit → Lit → Bool
lits_meet a b = not (nat_eq a.net.0 b.net.0) || not (nat_eq (meet a.set b.set) empty)

-- each literal of the one cube meets each of the other
abbrev pub cubes_meet : List Lit → List Lit → Bool
cubes_meet a b = list_all (λ l. list_all (lits_meet l) b) a
