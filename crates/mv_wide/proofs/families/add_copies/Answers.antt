use Rattle.std.proofs.Common.{◌≡◌, ◌+◌, ◌<◌, length, subst, arith}
use Rattle.mv_factors.specs.Families.{before}
use Rattle.mv_factors.proofs.Keeping.{Keeps-then}
use Rattle.mv_relation.proofs.Uniting.{before_fewer}
use Rattle.mv_wide.specs.Families.{AreCopies}
use Rattle.mv_wide.proofs.Gathering.{copies_more}
use Rattle.mv_wide.proofs.families.add_copies.Goals as goal

pub loop-offset-preserved : goal.loop-offset-preserved
loop-offset-preserved c =
    let long = c.loop-offset.invariant.long in
    let more = c.add_copy_but.ensures.long in
    let inside : c.args.from + c.loop-offset.offset < length c.args.factors.now.list = omega arith in
    record {
      keeps = Keeps-then _ _ _ (before (length c.args.factors.now.list)) c.loop-offset.invariant.keeps
          (before_fewer _ _ (length c.args.factors.now.list) (length c.loop-offset.factors.list) (omega arith) c.add_copy_but.ensures.keeps);
      long = omega arith;
      sets = copies_more c.args.factors.now c.loop-offset.factors _ c.args.from c.loop-offset.offset c.args.left_out
          c.loop-offset.invariant.sets long c.loop-offset.invariant.keeps c.add_copy_but.ensures.keeps inside c.add_copy_but.ensures.set;
    }

pub returns-clause-set : goal.returns-clause-set
returns-clause-set c =
    let e : c.loop-offset.offset ≡ c.args.count = omega arith in
    subst (λ n. AreCopies c.args.factors.now c.loop-offset.factors c.args.from n c.args.left_out (length c.args.factors.now.list))
    e c.loop-offset.invariant.sets
