-- The literals of a row: what the columns of each net leave it, one net after the other. For
-- private functions.
use Rattle.std.specs.Prelude.{◌≡◌, ℕ, ◌==◌, Bool, true, not, nat_eq, List, [], ◌∷◌, ◌++◌, if◌then◌else◌}
use Rattle.std.specs.List.{list_all}
use Rattle.mv_base.specs.Set.{empty, full, meet}
use Rattle.mv_cover.specs.Literal.{Lit}
use Rattle.mv_rows.specs.declared.column.Column.{Column}
use Rattle.mv_rows.specs.declared.column.Placed.{Placed}
use Rattle.mv_rows.specs.declared.cube.Group.{Group}
use Rattle.mv_rows.specs.Columns.{set_at}

-- the column's net with all of its values
abbrev pub opened : Column → Group
opened c = record { column = c; set = full c.count }

-- the net with one more set, or the column's net if it is another one
abbrev pub continued : Group → Column → ℕ → Group
continued o c s =
    if nat_eq c.net.0 o.column.net.0 then record { column = o.column; set = meet o.set s }
    else record { column = c; set = s }

-- the net's literal, if a value is left out
abbrev pub closed : Group → List Lit
closed o = if o.set == full o.column.count then []
    else record { net = o.column.net; set = o.set } ∷ []

-- the net's literal, if the column is of another net
abbrev pub ended : Group → Column → List Lit
ended o c = if nat_eq c.net.0 o.column.net.0 then [] else closed o

-- the literals of the net and of the columns behind it
abbrev pub literals_from : List ℕ → Group → List Placed → List Lit
literals_from sets o [] = closed o
literals_from sets o (p ∷ ps) = ended o p.column
    ++ literals_from sets (continued o p.column (set_at sets p)) ps

-- the literals of all columns
abbrev pub literals_of : List ℕ → List Placed → List Lit
literals_of sets [] = []
literals_of sets (p ∷ ps) = literals_from sets (opened p.column) (p ∷ ps)

-- no literal has the empty set
abbrev pub all_possible : List Lit → Bool
all_possible lits = list_all (λ (l : Lit). not (nat_eq l.set empty)) lits

-- a cube of these literals, none of which has the empty set
pub record ArePossible (lits cube : List Lit) : Type 0 where
  pub is : cube ≡ lits
  pub possible : all_possible cube ≡ true
