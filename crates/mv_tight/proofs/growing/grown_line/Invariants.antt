use Rattle.std.proofs.Common.{ℕ}
use Rattle.mv_cover.specs.Covers.{cube_reads}
use Rattle.mv_flex.specs.Flex.{IsOverFanins, LineInFlex}
use Rattle.mv_flex.specs.Flexibilities.{IsFlex}
use Rattle.mv_net.specs.declared.window.Window.{Window}
use Rattle.mv_tight.specs.Growing.{IsUnderGrowth}
use Rattle.mv_tight.proofs.growing.grown_line.Given as goal

abbrev pub invariant-loop-literal : goal.invariant-loop-literal
invariant-loop-literal l =
    (w : Window) (n budget : ℕ) → IsFlex l.net w n budget l.flexibility → IsOverFanins l.net.nets n (cube_reads l.line.cube) → LineInFlex l.net.nets w n l.line → IsUnderGrowth l.net.nets w n l.line l.grown l.literal-index
