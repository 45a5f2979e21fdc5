-- What the tables of the net and of its readers become where values of the net are merged.
use Rattle.std.specs.Prelude.{ℕ, Bool, nat_eq, Option, Some, None, List, [], ◌∷◌, map, if◌then◌else◌}
use Rattle.std.specs.List.{flat_map, list_any}
use Rattle.mv_base.specs.Set.{empty, full}
use Rattle.mv_base.specs.declared.number.NetId.{NetId}
use Rattle.mv_cover.specs.Absorb.{absorbed}
use Rattle.mv_cover.specs.Literal.{Lit}
use Rattle.mv_cover.specs.declared.cover.Cover.{Cover}
use Rattle.mv_cover.specs.declared.line.Line.{Line}
use Rattle.mv_merging.specs.declared.merging.Merging.{Merging}
use Rattle.mv_merging.specs.Values.{merged_set}

-- ---- a reader's table

-- the literal of this set, on a net with so many values, unless it is full and asks nothing
abbrev pub asked_of : NetId → ℕ → ℕ → List Lit
asked_of net values set = if nat_eq set (full values) then []
    else record { net = net; set = set } ∷ []

-- what is left of a literal, where values of the net n are merged
abbrev pub literal_merged : Merging → ℕ → Lit → List Lit
literal_merged m n l = if nat_eq l.net.0 n then asked_of l.net m.left (merged_set m l.set)
    else l ∷ []

-- the literals of a cube behind the merge
abbrev pub cube_merged : Merging → ℕ → List Lit → List Lit
cube_merged m n cube = flat_map (literal_merged m n) cube

-- some literal has no value
abbrev pub some_empty : List Lit → Bool
some_empty cube = list_any (λ (l : Lit). nat_eq l.set empty) cube

-- the line of this cube and this output, unless some literal has no value
abbrev pub line_unless : List Lit → ℕ → List Line
line_unless cube out = if some_empty cube then [] else record { cube = cube; out = out } ∷ []

-- the line behind the merge
unfoldable pub line_merged : Merging → ℕ → Line → List Line
line_merged m n l = line_unless (cube_merged m n l.cube) l.out

-- the table of a reader of n behind the merge, absorbed
unfoldable pub reader_merged : Merging → ℕ → Cover → Cover
reader_merged m n c =
    absorbed (record { lines = flat_map (line_merged m n) c.lines; default = c.default })

-- ---- the net's own table

-- the line with its output behind the merge
abbrev pub output_merged : Merging → Line → Line
output_merged m l = record { cube = l.cube; out = merged_set m l.out }

-- the default behind the merge
abbrev pub default_merged : Merging → Option ℕ → Option ℕ
default_merged m None = None
default_merged m (Some out) = Some (merged_set m out)

-- the net's own table behind the merge, absorbed
unfoldable pub own_merged : Merging → Cover → Cover
own_merged m c =
    absorbed (record {
      lines = map (output_merged m) c.lines;
      default = default_merged m c.default;
    })
