-- The table that `.names` and the rows behind it say. Its rows say one output, where they match,
-- and its default the other.
use Rattle.std.specs.Prelude.{ℕ, ◌-◌, ◌==◌, List, [], ◌∷◌, length, map, take, drop, Some, None, if◌then◌else◌}
use Rattle.mv_base.specs.Set.{one, full}
use Rattle.mv_lex.specs.declared.lines.LexLine.{LexLine}
use Rattle.mv_design.specs.declared.table.Entry.TheVariants.{Set}
use Rattle.mv_design.specs.declared.table.Row.{Row}
use Rattle.mv_design.specs.declared.table.FileTable.{FileTable}
use Rattle.mv_line.specs.Words.{behind_first}
use Rattle.mv_blif_line.specs.Rows.{plane_of, output_of, value_of}

-- the values that a byte of a plane says of its input: `-` says both
abbrev pub byte_set : ℕ → ℕ
byte_set b = if b == 48 then one 0 else if b == 49 then one 1 else full 2

-- a row of these words
abbrev pub row_of : List (List ℕ) → Row
row_of words = record {
  ins = map byte_set (plane_of words);
  outs = Set (one (value_of (output_of words))) ∷ [];
}

-- the output where no row matches: the one that the rows don't say, or 0 where there are none
abbrev pub default_value : List LexLine → ℕ
default_value [] = 0
default_value (l ∷ rows) = 1 - value_of (output_of l.words)

-- the table of a first line and the rows behind it
unfoldable pub table_of : LexLine → List LexLine → FileTable
table_of head rows = record {
  line = head.number;
  inputs = take (length (behind_first head) - 1) (behind_first head);
  outputs = drop (length (behind_first head) - 1) (behind_first head);
  rows = map (λ l. row_of l.words) rows;
  default = Some (Set (one (default_value rows)) ∷ []);
}
