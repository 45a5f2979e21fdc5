-- Output by output.
use Rattle.std.proofs.Common.{◌∙◌, ap}
use Rattle.std.specs.List.{list_any}
use Rattle.std.proofs.lemmas.List.{take_all}
use Rattle.mv_base.specs.Set.{has}
use Rattle.mv_base.proofs.Sets.{has-empty}
use Rattle.mv_cover.specs.declared.line.Line.{Line}
use Rattle.mv_alike.proofs.Leaving.{output_more}
use Rattle.mv_alike.proofs.given.outputs.Goals as goal

pub loop-line-init : goal.loop-line-init
loop-line-init c = λ v. ap (λ s. has s v) c.empty-all.ensures ∙ has-empty v

pub loop-line-preserved : goal.loop-line-preserved
loop-line-preserved c = λ v.
    ap (λ s. has s v) c.join-all.ensures
    ∙ output_more c.args.lines.now c.loop-line.line-index c.line-item.result c.loop-line.all c.get.result v c.loop-line-test.true c.line-item.is c.get.ensures
    (c.loop-line.invariant v)

pub returns : goal.returns
returns c = λ v. c.loop-line.invariant v ∙ ap (list_any (λ (l : Line). has l.out v)) (take_all c.loop-line.line-index c.args.lines.now c.loop-line-test.false)
