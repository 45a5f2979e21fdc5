-- The nets that a step leads to, and that lie between the labels, come one by one.
use Rattle.std.proofs.Common.{◌∙◌, ℕ, Bool, false, ◌≡◌, ◌&&◌, get_or, refl, sym}
use Rattle.std.proofs.lemmas.Bool.{and_from, and_left, and_right}
use Rattle.mv_base.specs.declared.number.NetId.{NetId}
use Rattle.mv_dag.specs.Searches.{leads_to}
use Rattle.mv_dag.specs.Finding.{is_in}
use Rattle.mv_dag.proofs.Gains.{gained_more, gained_past}
use Rattle.mv_dag.proofs.reach.follow.Goals.{then-is_in+then-is_step+in_ok-insert, else-is_in, else-is_in-via-then-is_in+else-is_step, else-is_in-via-else-is_in}
use Rattle.mv_dag.proofs.reach.follow.Goals as goal

pub loop-next-preserved : goal.loop-next-preserved
loop-next-preserved c =
    let none : NetId = record { 0 = 0 } in
    let net : NetId = get_or c.args.nets.now c.loop-next.next-index none in
    let lies : ℕ → Bool = is_in c.args.labels.now c.args.low c.args.high in
    let leads : ℕ → Bool = leads_to c.args.way c.args.fanins.now c.args.net.0 in
    elim c.if-is_in.branch [
      | then-is_in+then-is_step+in_ok-insert w ↦
          rw w.found-is
          (gained_more c.args.found.now.keys c.loop-next.found.keys w.insert.new.self.keys c.args.nets.now (λ n. lies n && leads n) c.loop-next.next-index net none c.loop-next-test.true refl
          (and_from (lies net.0) (leads net.0) (sym c.is_in.ensures ∙ w.if-is_in.true) (sym w.is_step.ensures ∙ w.if-is_step.true)) w.in_ok-insert.ensures.keys c.loop-next.invariant)
      | else-is_in w ↦
          let past : (lies net.0 && leads net.0) ≡ false =
          elim w.else-is_in.branch [
            | else-is_in-via-then-is_in+else-is_step v ↦ and_right (lies net.0) (leads net.0) (sym v.is_step.ensures ∙ v.if-is_step.false)
            | else-is_in-via-else-is_in v ↦ and_left (lies net.0) (leads net.0) (sym c.is_in.ensures ∙ v.if-is_in.false)
          ] in
          rw w.found-is
          (gained_past c.args.found.now.keys c.loop-next.found.keys c.args.nets.now (λ n. lies n && leads n) c.loop-next.next-index net none c.loop-next-test.true refl past c.loop-next.invariant)
    ]
