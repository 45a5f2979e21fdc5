-- Why a network file is refused, and the line that says so.
use Rattle.std.specs.Prelude.{ℕ, List, codes}
use Rattle.mv_blif_read.specs.Told.{blif_line}
use Rattle.mv_fault.specs.Told.{parse_line, flat_line}
use Rattle.mv_lex.specs.declared.fault.LexFault.{LexFault}
use Rattle.mv_lex.specs.declared.fault.LexFault.TheVariants.{BadByte, LongWord, OpenBracket, TooLarge, Memory}
use Rattle.mv_format.specs.declared.fault.FileFault.{FileFault}
use Rattle.mv_format.specs.declared.fault.FileFault.TheVariants.{Lex, Parse, Blif, Flat}
use Rattle.mv_task.specs.Lines.{memory_line}
use Rattle.mv_format.specs.Lines.{number_line, numbers_line}

-- the line of a fault of the bytes. (Want of memory is none: no bytes have it.)
abbrev pub lex_line : LexFault → List ℕ
lex_line (BadByte line byte) = numbers_line (codes "# fault network 1 BadByte line ") line byte
lex_line (LongWord line) = number_line (codes "# fault network 2 LongWord line ") line
lex_line (OpenBracket line) = number_line (codes "# fault network 3 OpenBracket line ") line
lex_line (TooLarge line) = number_line (codes "# fault network 4 TooLarge line ") line
lex_line Memory = memory_line

-- the line of each fault
abbrev pub net_line : FileFault → List ℕ
net_line (Lex f) = lex_line f
net_line (Parse f) = parse_line f
net_line (Blif f) = blif_line f
net_line (Flat f) = flat_line f
