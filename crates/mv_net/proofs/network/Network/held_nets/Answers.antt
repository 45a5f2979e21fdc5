use Rattle.std.proofs.Common.{◌∙◌, ◌+◌, ◌&&◌, List, nat_lt, sym, subst}
use Rattle.mv_base.specs.declared.number.NetId.{NetId}
use Rattle.mv_graph.specs.Nets.{IsAscending}
use Rattle.mv_graph.proofs.Nets.{IsAscending-push, IsAscending-skip}
use Rattle.mv_net.specs.Index.{is_held}
use Rattle.mv_net.proofs.network.Network.held_nets.Goals as goal
use Rattle.mv_net.proofs.network.Network.held_nets.Goals.{then-holds+in_ok-push, else-holds}

pub loop-number-preserved : goal.loop-number-preserved
loop-number-preserved c =
    let number = c.loop-number.number in
    let nets = c.args.self.now.nets in
    let id : NetId = record { 0 = number } in
    let P : List NetId → Type 0 = IsAscending (λ n. nat_lt n (number + 1) && is_held nets n) in
    elim c.if-holds.branch [
      | then-holds+in_ok-push w ↦ subst P (sym (w.nets-is ∙ w.in_ok-push.ensures.ok)) (IsAscending-push (is_held nets) id c.loop-number.nets c.loop-number.invariant (sym c.holds.ensures ∙ w.if-holds.true))
      | else-holds w ↦ subst P (sym w.nets-is) (IsAscending-skip (is_held nets) number c.loop-number.nets c.loop-number.invariant (sym c.holds.ensures ∙ w.if-holds.false))
    ]
