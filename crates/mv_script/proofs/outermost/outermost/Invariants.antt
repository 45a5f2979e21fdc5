-- The places so far, and behind them those of the parts that are left, are all places; and those parts are balanced.
use Rattle.std.proofs.Common.{◌≡◌, ◌++◌, drop}
use Rattle.mv_script.specs.Parts.{kinds, outermost, IsBalanced}
use Rattle.mv_script.proofs.outermost.outermost.Given as goal

abbrev pub invariant-loop-part : goal.invariant-loop-part
invariant-loop-part l = record {
  all : l.places ++ outermost (drop l.part-index l.parts) l.depth ≡ outermost l.parts 0;
  balanced : IsBalanced (kinds (drop l.part-index l.parts)) l.depth;
}
