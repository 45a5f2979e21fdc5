use Rattle.std.proofs.Common.{List, All, subst}
use Rattle.std.proofs.lemmas.Bool.{MatchBool-at_true}
use Rattle.std.proofs.lemmas.List.{take_all}
use Rattle.std.proofs.lemmas.List.Elements.{All-more}
use Rattle.mv_base.specs.declared.number.NetId.{NetId}
use Rattle.mv_net.specs.Total.{IsTotalNet}
use Rattle.mv_narrow.proofs.verdict.all_total.Goals as goal

pub loop-m-preserved : goal.loop-m-preserved
loop-m-preserved c =
    All-more (λ (m : NetId). IsTotalNet c.args.net.now.nets m.0) c.args.nets.now c.loop-m.m-index _ c.loop-m-test.true c.loop-m.invariant
    (MatchBool-at_true _ _ c.if-not-branch.false c.in_ok-is_total.ensures)

pub returns : goal.returns
returns c =
    subst (λ (l : List NetId). All (λ (m : NetId). IsTotalNet c.args.net.now.nets m.0) l)
    (take_all c.loop-m.m-index c.args.nets.now c.loop-m-test.false) c.loop-m.invariant
