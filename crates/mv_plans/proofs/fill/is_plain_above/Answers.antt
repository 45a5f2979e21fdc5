-- The nets that are listed are those above.
use Rattle.std.proofs.Common.{List, All, IsTrue, subst}
use Rattle.std.specs.Prelude.{◌↔◌}
use Rattle.mv_base.specs.declared.number.NetId.{NetId}
use Rattle.mv_plans.specs.Filling.{IsPlainIfTabled}
use Rattle.mv_plans.proofs.Filled.{plain_answer}
use Rattle.mv_plans.proofs.fill.is_plain_above.Goals as goal

pub returns : goal.returns
returns c =
    let P : List NetId → Type 0 = λ ns. IsTrue c.all_plain.result ↔ All (λ (m : NetId). IsPlainIfTabled c.args.net.now.nets m.0) ns in
    plain_answer c.args.net.now.nets c.args.n.0 c.in_ok-above.above c.in_ok-above.ensures c.all_plain.result (subst P c.as_slice.ensures c.all_plain.ensures)
