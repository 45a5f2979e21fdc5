-- Where another net stands at the place, or none, this one stands nowhere.
use Rattle.std.proofs.Common.{◌∙◌, sym, arith}
use Rattle.std.proofs.lemmas.Bool.{eqb-false}
use Rattle.mv_base.specs.declared.number.NetId.{NetId}
use Rattle.mv_dag.proofs.Sought.{gap-from}
use Rattle.mv_dag.proofs.readers.place_of.Goals.{else-place-nets-via-then-place-nets+else-eq, else-place-nets-via-else-place-nets}
use Rattle.mv_dag.proofs.readers.place_of.Goals as goal

pub returns-else-place-nets : goal.returns-else-place-nets
returns-else-place-nets c =
    let none : NetId = record { 0 = 0 } in
    let e = c.place_in-place.ensures in
    elim c.else-place-nets.branch [
      | else-place-nets-via-then-place-nets+else-eq w ↦
          gap-from c.args.nets.now c.args.net.0 c.place_in-place.result none c.requires e.within e.before e.behind (λ lt same. eqb-false _ _ (sym w.eq.ensures ∙ w.if-eq.false) same)
      | else-place-nets-via-else-place-nets w ↦
          gap-from c.args.nets.now c.args.net.0 c.place_in-place.result none c.requires e.within e.before e.behind (λ lt same. absurd (omega (arith, w.if-place-nets.false)))
    ]
