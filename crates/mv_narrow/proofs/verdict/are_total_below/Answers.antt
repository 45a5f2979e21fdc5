use Rattle.std.proofs.Common.{List, All, Bool, IfOk, MatchBool, subst}
use Rattle.mv_base.specs.declared.number.NetId.{NetId}
use Rattle.mv_net.specs.Total.{IsTotalNet}
use Rattle.mv_narrow.proofs.Judging.{total_below}
use Rattle.mv_narrow.proofs.verdict.are_total_below.Goals as goal

pub returns : goal.returns
returns c =
    let P : NetId → Type 0 = λ (m : NetId). IsTotalNet c.args.net.now.nets m.0 in
    total_below c.all_total.result c.args.net.now.nets c.args.n.0 c.in_ok-below.below c.in_ok-below.ensures
    (subst (λ (l : List NetId). IfOk c.all_total.result (λ (t : Bool). MatchBool t (All P l) (All P l → ⊥))) c.as_slice.ensures c.all_total.ensures)
