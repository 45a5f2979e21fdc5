use Rattle.std.proofs.Common.{◌≡◌, take, true}
use Rattle.std.specs.List.{list_all}
use Rattle.mv_word.specs.Plain.{is_plain}
use Rattle.mv_word.proofs.names.are_plain.Given as goal

abbrev pub invariant-loop-byte : goal.invariant-loop-byte
invariant-loop-byte l = list_all is_plain (take l.byte-index l.word) ≡ true
