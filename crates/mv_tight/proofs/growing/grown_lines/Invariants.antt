use Rattle.std.proofs.Common.{◌≡◌, ℕ, Some, take}
use Rattle.mv_flex.specs.Flexibilities.{IsFlex}
use Rattle.mv_net.specs.Nets.{slot, table_in}
use Rattle.mv_net.specs.declared.window.Window.{Window}
use Rattle.mv_tight.specs.Growing.{AreGrown}
use Rattle.mv_tight.proofs.growing.grown_lines.Given as goal

abbrev pub invariant-loop-line : goal.invariant-loop-line
invariant-loop-line l =
    (w : Window) (n budget : ℕ) → IsFlex l.net w n budget l.flexibility → table_in (slot l.net.nets n) ≡ Some l.old → AreGrown l.net.nets w n (take l.line-index l.old.lines) l.grown
