-- The net comes, and then the tables are divided by it.
use Rattle.std.proofs.Common.{ℕ, Ok, Err, sym, subst}
use Rattle.mv_net.specs.declared.parts.NetParts.{NetParts}
use Rattle.mv_extract.specs.Dividing.{IsReady}
use Rattle.mv_extract.specs.Steps.{next_net}
use Rattle.mv_extract.proofs.Leaving.{ready_added}
use Rattle.mv_extract.proofs.Taking.{taken}
use Rattle.mv_extract.proofs.extracting.take_out.Goals as goal

pub divide_each-requires : goal.divide_each-requires
divide_each-requires g c =
    let comes = c.in-Ok.ensures.comes in
    let ready = ready_added c.args.net.now comes.name c.args.divisor.now c.well_formed-2.ensures c.requires.over in
    subst (λ (k : ℕ). IsReady c.add_divisor.new.net.nets c.args.divisor.now (record { 0 = k }) 0) (sym c.next_number.ensures)
    (subst (λ (n : NetParts). IsReady n.nets c.args.divisor.now (next_net c.args.net.now) 0) (sym comes.new_is) ready)

pub returns-in-Ok-divide_each-clause-passes : goal.returns-in-Ok-divide_each-clause-passes
returns-in-Ok-divide_each-clause-passes g c =
    taken c.args.terms.free c.args.divisor.now c.args.net.now _ _ _ c.in-Ok.ensures.passes _ c.next_number.ensures _ _ (Ok tt) c.in-Ok-divide_each.ensures.passes

pub returns-in-Err-divide_each-clause-passes : goal.returns-in-Err-divide_each-clause-passes
returns-in-Err-divide_each-clause-passes g c =
    taken c.args.terms.free c.args.divisor.now c.args.net.now _ _ _ c.in-Ok.ensures.passes _ c.next_number.ensures _ _ (Err _) c.in-Err-divide_each.ensures.passes
