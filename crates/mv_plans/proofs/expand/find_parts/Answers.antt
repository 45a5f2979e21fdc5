-- What a part gives and isn't wanted is missed in all.
use Rattle.mv_cover.specs.declared.line.Line.{Line}
use Rattle.mv_cover.specs.Complement.{lines_for}
use Rattle.mv_cover.specs.Meets.{met}
use Rattle.mv_plans.proofs.Found.{found_none, found_next, found_all, missed_next}
use Rattle.mv_plans.proofs.expand.find_parts.Goals as goal

pub loop-part-init : goal.loop-part-init
loop-part-init c = found_none c.args.wanted.now.keys c.args.found.now.keys

pub loop-part-preserved : goal.loop-part-preserved
loop-part-preserved c =
    found_next (λ (k : Line). lines_for c.args.out.now (met c.args.rest.now k.cube)) c.args.parts.now c.loop-part.part-index c.part-item.result c.args.wanted.now.keys c.args.found.now.keys c.loop-part.found.keys
    c.find_part.new.found.keys c.loop-part-test.true c.part-item.is c.loop-part.invariant (rw c.if-not-branch.false at c.in_ok-find_part.ensures)

pub returns-then-not-branch : goal.returns-then-not-branch
returns-then-not-branch c =
    missed_next (λ (k : Line). lines_for c.args.out.now (met c.args.rest.now k.cube)) c.args.parts.now c.loop-part.part-index c.part-item.result c.args.wanted.now.keys c.loop-part-test.true c.part-item.is
    (rw c.if-not-branch.true at c.in_ok-find_part.ensures)

pub returns : goal.returns
returns c =
    found_all (λ (k : Line). lines_for c.args.out.now (met c.args.rest.now k.cube)) c.args.parts.now c.loop-part.part-index c.args.wanted.now.keys c.args.found.now.keys c.loop-part.found.keys c.loop-part-test.false
    c.loop-part.invariant
