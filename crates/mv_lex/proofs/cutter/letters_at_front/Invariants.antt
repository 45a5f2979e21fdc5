use Rattle.std.proofs.Common.{◌≡◌, true, take}
use Rattle.std.specs.List.{list_all}
use Rattle.mv_lex.specs.Steps.{is_letter}
use Rattle.mv_lex.proofs.cutter.letters_at_front.Given as goal

abbrev pub invariant-loop-at : goal.invariant-loop-at
invariant-loop-at l = list_all is_letter (take l.at l.bytes) ≡ true
