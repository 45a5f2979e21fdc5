-- The parts left and those that were put together are all parts; and what was put together closes as many braces as wait.
use Rattle.std.proofs.Common.{◌≡◌, ◌++◌, length}
use Rattle.mv_script.specs.Scripts.{items_of}
use Rattle.mv_script.specs.Parts.{kinds, spread, IsBalanced}
use Rattle.mv_script.proofs.building.script_of.Given as goal

abbrev pub invariant-loop-part : goal.invariant-loop-part
invariant-loop-part l = record {
  all : kinds l.parts ++ spread (items_of l.inner) l.outer ≡ kinds l.fn.parts;
  closed : IsBalanced (spread (items_of l.inner) l.outer) (length l.outer);
}

abbrev pub decreases-loop-part : goal.decreases-loop-part
decreases-loop-part l = length l.parts
