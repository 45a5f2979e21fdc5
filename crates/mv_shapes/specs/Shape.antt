-- Columns over places in place of nets, and the nets at these places. For private functions.
use Rattle.std.specs.Prelude.{◌≡◌, ℕ, zero, suc, ◌+◌, ◌<◌, true, IfSome, List, [], ◌∷◌, ◌++◌, length, map, All}
use Rattle.std.specs.List.{flat_map}
use Rattle.std.specs.Option.{option_map}
use Rattle.mv_base.specs.declared.number.NetId.{NetId}
use Rattle.mv_graph.specs.Nets.{ids_ascend}
use Rattle.mv_cover.specs.Literal.{Lit}
use Rattle.mv_cover.specs.declared.line.Line.{Line}
use Rattle.mv_cover.specs.declared.cover.Cover.{Cover}
use Rattle.mv_rows.specs.declared.column.Column.{Column}
use Rattle.mv_rows.specs.declared.table.FlatTable.{FlatTable}
use Rattle.mv_shapes.specs.declared.shape.Shape.{Shape}

-- the number at a place of ascending ones, all of which are `base` or more; behind the last of them
-- come those that follow it
abbrev pub spread : ℕ → List NetId → ℕ → ℕ
spread base [] k = base + k
spread base (n ∷ ns) zero = n.0
spread base (n ∷ ns) (suc k) = spread (n.0 + 1) ns k

-- the net at a place
abbrev pub net_at : List NetId → ℕ → NetId
net_at nets k = record { 0 = spread 0 nets k }

-- a column, a literal, a line, a cover and covers of a table over places, over the nets there
abbrev pub column_over : List NetId → Column → Column
column_over nets c = record { net = net_at nets c.net.0; count = c.count }

abbrev pub lit_over : List NetId → Lit → Lit
lit_over nets l = record { net = net_at nets l.net.0; set = l.set }

abbrev pub line_over : List NetId → Line → Line
line_over nets l = record { cube = map (lit_over nets) l.cube; out = l.out }

abbrev pub cover_over : List NetId → Cover → Cover
cover_over nets c = record { lines = map (line_over nets) c.lines; default = c.default }

abbrev pub flat_over : List NetId → FlatTable → FlatTable
flat_over nets f =
    record { cover = cover_over nets f.cover; mark = option_map (cover_over nets) f.mark }

-- the net of a column
abbrev pub column_net : Column → NetId
column_net c = c.net

-- the literals of a line, of a cover and of covers are over places below an end
abbrev pub IsLowLine : ℕ → Line → Type 0
IsLowLine end line = All (λ (l : Lit). l.net.0 < end) line.cube

abbrev pub IsLowCover : ℕ → Cover → Type 0
IsLowCover end c = All (IsLowLine end) c.lines

pub record IsLowFlat (end : ℕ) (f : FlatTable) : Type 0 where
  pub cover : IsLowCover end f.cover
  pub mark : IfSome f.mark (IsLowCover end)

-- these columns and this mark over the places of their nets
pub record IsShape (columns : List Column) (mark : NetId) (s : Shape) : Type 0 where
  pub ascend : ids_ascend s.nets ≡ true
  pub columns_are : map (column_over s.nets) s.columns.items ≡ columns
  pub mark_is : net_at s.nets s.mark.0 ≡ mark
  pub low : All (λ (c : Column). c.net.0 < length s.nets) s.columns.items
  pub low_mark : s.mark.0 < length s.nets

-- a column as numbers
abbrev pub column_words : Column → List ℕ
column_words c = c.net.0 ∷ c.count ∷ []

-- columns and a mark as one list of numbers
abbrev pub coded : List Column → NetId → List ℕ
coded columns mark = flat_map column_words columns ++ mark.0 ∷ []
