use Rattle.std.proofs.Common.{◌≡◌, drop}
use Rattle.mv_base.specs.Names.{is_bracketed}
use Rattle.mv_word.proofs.names.is_bracketed.Given as goal

abbrev pub invariant-loop-byte : goal.invariant-loop-byte
invariant-loop-byte l = is_bracketed (drop l.byte-index l.word) ≡ is_bracketed l.word
