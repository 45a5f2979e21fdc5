-- The bytes so far, and behind them those that are left, are all that is said.
use Rattle.std.proofs.Common.{◌≡◌, ◌++◌, false, drop}
use Rattle.mv_script.specs.Texts.{said_behind}
use Rattle.mv_script.proofs.said.said_text.Given as goal

abbrev pub invariant-loop-byte : goal.invariant-loop-byte
invariant-loop-byte l = l.bytes ++ said_behind l.comment (drop l.byte-index l.text) ≡ said_behind false l.text
