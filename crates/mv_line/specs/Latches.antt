-- The latch of a line.
use Rattle.std.specs.Prelude.{drop}
use Rattle.mv_lex.specs.declared.lines.LexLine.{LexLine}
use Rattle.mv_design.specs.declared.design.FileLatch.{FileLatch}
use Rattle.mv_line.specs.Words.{first_of, behind_first}

-- the latch that a line says: its input and its output
abbrev pub latch_of : LexLine → FileLatch
latch_of l =
    record {
      line = l.number;
      input = first_of (behind_first l);
      output = first_of (drop 1 (behind_first l));
    }
