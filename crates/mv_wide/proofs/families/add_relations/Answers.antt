use Rattle.std.proofs.Common.{◌≡◌, length, subst, arith}
use Rattle.mv_factors.specs.Families.{before}
use Rattle.mv_factors.proofs.Keeping.{Keeps-then}
use Rattle.mv_relation.proofs.Uniting.{before_fewer}
use Rattle.mv_wide.specs.Families.{AreRelations}
use Rattle.mv_wide.proofs.Gathering.{relations_more, vars_along}
use Rattle.mv_wide.proofs.families.add_relations.Goals as goal

pub add_relation-requires-clause-vars : goal.add_relation-requires-clause-vars
add_relation-requires-clause-vars c =
    vars_along c.args.net.now.nets c.args.factors.now.contents.counts c.loop-table.factors.contents.counts c.args.vars.now _
    c.loop-table.invariant.keeps.counts (c.requires.vars c.loop-table.table-index _ c.loop-table-test.true)

pub loop-table-preserved : goal.loop-table-preserved
loop-table-preserved c =
    let long = c.loop-table.invariant.long in
    let more = c.in-Ok.ensures.long in
    record {
      keeps = Keeps-then _ _ _ (before (length c.args.factors.now.list)) c.loop-table.invariant.keeps
          (before_fewer _ _ (length c.args.factors.now.list) (length c.loop-table.factors.list) (omega arith) c.add_relation.ensures.keeps);
      long = omega arith;
      sets = relations_more c.args.net.now.nets c.args.vars.now c.args.tables.now c.loop-table.table-index _ _
          (length c.args.factors.now.list) _ c.loop-table.invariant.sets long c.add_relation.ensures.keeps c.loop-table-test.true
          c.in-Ok.ensures.set;
    }

pub returns-in-Err-clause-keeps : goal.returns-in-Err-clause-keeps
returns-in-Err-clause-keeps c =
    let long = c.loop-table.invariant.long in
    Keeps-then _ _ _ (before (length c.args.factors.now.list)) c.loop-table.invariant.keeps
    (before_fewer _ _ (length c.args.factors.now.list) (length c.loop-table.factors.list) (omega arith) c.add_relation.ensures.keeps)

pub returns-clause-set : goal.returns-clause-set
returns-clause-set c =
    let e : c.loop-table.table-index ≡ length c.args.tables.now = omega arith in
    subst (λ n. AreRelations c.args.net.now.nets c.args.vars.now c.args.tables.now n c.loop-table.factors (length c.args.factors.now.list))
    e c.loop-table.invariant.sets
