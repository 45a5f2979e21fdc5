-- The line allows a pair outside, or each of its pairs is in the flexibility.
use Rattle.std.proofs.lemmas.Bool.{MatchBool-at_true, MatchBool-at_false}
use Rattle.mv_flex.specs.Checks.{LineOutside}
use Rattle.mv_flex.proofs.Checking.{line_in, line_out}
use Rattle.mv_flex.proofs.flexibility.Flexibility.holds_line.Goals as goal

pub returns-then-branch-clause-ok : goal.returns-then-branch-clause-ok
returns-then-branch-clause-ok c =
    λ net w n budget flex over.
    line_out net w n budget c.args.self.now flex c.args.line.now over
    (MatchBool-at_true (LineOutside c.args.self.now c.args.line.now) (LineOutside c.args.self.now c.args.line.now → ⊥) c.if-branch.true c.in_ok-is_line_outside.ensures)

pub returns-clause-ok : goal.returns-clause-ok
returns-clause-ok c =
    λ net w n budget flex over.
    line_in net w n budget c.args.self.now flex c.args.line.now over
    (MatchBool-at_false (LineOutside c.args.self.now c.args.line.now) (LineOutside c.args.self.now c.args.line.now → ⊥) c.if-branch.false c.in_ok-is_line_outside.ensures)
