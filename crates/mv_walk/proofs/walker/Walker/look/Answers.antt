use Rattle.std.proofs.Common.{arith}
use Rattle.std.proofs.lemmas.Result.{err_from_is_err_and}
use Rattle.mv_fault.specs.declared.flat.FlatFault.TheVariants.{Memory}
use Rattle.mv_fault.proofs.Firsts.{told_of}
use Rattle.mv_walk.specs.Commands.{model_at}
use Rattle.mv_walk.specs.Steps.{level_of, trail_of}
use Rattle.mv_walk.proofs.Listed.{nth_command}
use Rattle.mv_walk.proofs.Checks.{told_here, none_here, few_here}
use Rattle.mv_walk.proofs.walker.Walker.look.Goals as goal

pub returns-in_err-check-clause-faults : goal.returns-in_err-check-clause-faults
returns-in_err-check-clause-faults c =
    let d = c.args.known.now in
    let m = model_at d.models c.args.model in
    let l = level_of d m (trail_of c.args.self.now) in
    let nth = nth_command d.models m c.commands-command-items.result.now c.loop-command.command-index c.command-item.result c.commands-command-items.ensures c.loop-command-test.true c.command-item.is in
    let p = err_from_is_err_and c.from_residual.result c.from_residual.ensures.1 in
    rw (p.1, p.2) (told_of Memory c.in_err-check.field-0.0 _ _ (λ f e. told_here d l m c.args.self.now.count c.loop-command.count c.loop-command.command-index c.command-item.result f c.loop-command.invariant.faults nth e)
    (c.in_err-check.ensures d c.args.model c.requires.marked nth.command))

pub loop-command-preserved : goal.loop-command-preserved
loop-command-preserved c =
    let d = c.args.known.now in
    let m = model_at d.models c.args.model in
    let l = level_of d m (trail_of c.args.self.now) in
    let nth = nth_command d.models m c.commands-command-items.result.now c.loop-command.command-index c.command-item.result c.commands-command-items.ensures c.loop-command-test.true c.command-item.is in
    let none = c.in_ok-check.ensures d c.args.model c.requires.marked nth.command in
    record {
      count = omega arith;
      few = few_here d c.loop-command.count l c.command-item.result.instance.now none;
      faults = none_here d l m c.args.self.now.count c.loop-command.count c.loop-command.command-index c.command-item.result c.loop-command.invariant.faults nth none;
    }
