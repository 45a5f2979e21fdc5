-- The last item is put before the others, until none is left.
use Rattle.std.proofs.Common.{◌∙◌, sym, ap}
use Rattle.mv_script.specs.Scripts.{items_of}
use Rattle.mv_script.specs.Copies.{chained}
use Rattle.mv_script.proofs.Copies.{chained-less}
use Rattle.mv_script.proofs.copying.linked.Goals as goal

pub loop-item-preserved : goal.loop-item-preserved
loop-item-preserved c =
    chained-less c.loop-item.list c.pop.new.self c.in-Some.item _ _ _ c.loop-item.invariant c.in-Some.ensures.some c.in_ok-rest.ensures

pub returns : goal.returns
returns c =
    ap (λ l. chained l (items_of c.loop-item.rest)) (sym c.in_default.ensures.none.0) ∙ c.loop-item.invariant
