use Rattle.std.proofs.Common.{◌&&◌, ℕ, Bool, List, take}
use Rattle.mv_diagram.specs.Sets.{Point}
use Rattle.mv_relation.specs.Relations.{assigned}
use Rattle.mv_wide.specs.Choosing.{AreChosen, all_hold_but}
use Rattle.mv_wide.proofs.choices.narrow_by_all.Given as goal

abbrev pub invariant-loop-literal : goal.invariant-loop-literal
invariant-loop-literal l = (counts : List ℕ) (test : Point → Bool) → AreChosen counts l.fn.choices.items test
    → AreChosen counts l.choices.items (λ p. test p && all_hold_but l.left_out (assigned l.vars p) (take l.literal-index l.cube))
