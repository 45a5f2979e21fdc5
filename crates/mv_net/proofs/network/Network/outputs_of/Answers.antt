-- One table more, which comes where it is seen or read by a net that is none of them.
use Rattle.std.proofs.Common.{Bool, List, length, get_or, ap, subst, arith}
use Rattle.std.specs.Prelude.{MatchBool}
use Rattle.std.proofs.lemmas.List.{take_all}
use Rattle.mv_base.specs.declared.number.NetId.{NetId}
use Rattle.mv_graph.specs.Nets.{has_id}
use Rattle.mv_net.specs.Window.{IsShown, IsWindowOutput}
use Rattle.mv_net.specs.Searching.{HasExactly, IsShownOf}
use Rattle.mv_net.proofs.Paths.{lists_sorted}
use Rattle.mv_net.proofs.Windows.{shown_yes, shown_no, outputs_exactly}
use Rattle.mv_net.proofs.network.Network.outputs_of.Goals.{then-is_shown+in_ok-push, else-is_shown}
use Rattle.mv_net.proofs.network.Network.outputs_of.Goals as goal

pub loop-net-preserved : goal.loop-net-preserved
loop-net-preserved c =
    let none : NetId = record { 0 = 0 } in
    let net = c.args.self.now in
    let i = c.loop-net.net-index in
    let tables = c.args.tables.now.keys in
    let keys = c.as_slice-net-items.ensures.keys in
    let x = get_or c.as_slice-net-items.result.now i none in
    let Says : Bool → Type 0 = λ b. MatchBool b (IsShown net (has_id tables) x.0) (IsShown net (has_id tables) x.0 → ⊥) in
    elim c.if-is_shown.branch [
      | then-is_shown+in_ok-push w ↦
          rw w.shown-is
          (shown_yes net (has_id tables) tables c.loop-net.shown.items w.push.new.self.items i x none (omega (arith, ap length keys)) (ap (λ l. get_or l i none) keys) (subst Says w.if-is_shown.true c.is_shown.ensures) w.in_ok-push.ensures.items c.loop-net.invariant)
      | else-is_shown w ↦
          rw w.shown-is
          (shown_no net (has_id tables) tables c.loop-net.shown.items i x none (omega (arith, ap length keys)) (ap (λ l. get_or l i none) keys) (subst Says w.if-is_shown.false c.is_shown.ensures) c.loop-net.invariant)
    ]

pub returns : goal.returns
returns c =
    let net = c.args.self.now in
    let tables = c.args.tables.now.keys in
    let all = take_all c.loop-net.net-index tables (omega (arith, ap length c.as_slice-net-items.ensures.keys)) in
    let P : List NetId → Type 0 = λ l. HasExactly (IsShownOf net (has_id tables) l) c.loop-net.shown.items in
    lists_sorted (IsWindowOutput net (has_id tables)) c.loop-net.shown.items c.ascending.result (outputs_exactly net tables c.loop-net.shown.items (subst P all c.loop-net.invariant)) c.ascending.ensures
