use Rattle.std.proofs.Common.{◌∙◌, ap}
use Rattle.mv_diagram.specs.Cubes.{in_cube}
use Rattle.mv_relation.proofs.Ascending.{listed_all, these_ascend, these_within}
use Rattle.mv_relation.proofs.Holding.{in_line}
use Rattle.mv_relation.proofs.lines.add_line.Goals as goal

pub put_line-requires : goal.put_line-requires
put_line-requires c = listed_all c.args.factors.now.contents.counts c.args.vars.now c.args.own c.args.line.now.cube c.requires.apart

pub add_cube-requires-clause-vars : goal.add_cube-requires-clause-vars
add_cube-requires-clause-vars c =
    these_within c.args.factors.now.contents.counts c.args.vars.now c.args.own c.args.gives c.args.line.now c.as_slice.result.now
    (c.as_slice.ensures.value ∙ c.in-Ok.ensures) c.requires.own c.requires.apart

pub add_cube-requires-clause-ascends : goal.add_cube-requires-clause-ascends
add_cube-requires-clause-ascends c =
    these_ascend c.args.factors.now.contents.counts c.args.vars.now c.args.own c.args.gives c.args.line.now c.as_slice.result.now
    (c.as_slice.ensures.value ∙ c.in-Ok.ensures) c.lits.ensures.formed c.requires.apart

pub returns-in-Ok-add_cube-clause-set : goal.returns-in-Ok-add_cube-clause-set
returns-in-Ok-add_cube-clause-set c = λ p range.
    c.in-Ok-add_cube.ensures.set p range
    ∙ ap (λ ls. in_cube ls p) (c.as_slice.ensures.value ∙ c.in-Ok.ensures)
    ∙ in_line c.args.vars.now c.args.own c.args.gives c.args.line.now p
