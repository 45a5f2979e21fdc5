-- Each part may stand where it is put, and at the end no brace is left.
use Rattle.mv_script.proofs.Spreads.{next_stands, next_put, all_put}
use Rattle.mv_script.proofs.building.script_of.Goals as goal

pub put_before-requires : goal.put_before-requires
put_before-requires c =
    (next_stands c.args.parts c.loop-part.parts c.pop.new.self c.in-Some.part _ c.loop-part.outer c.requires c.loop-part.invariant.all c.loop-part.invariant.closed c.in-Some.ensures.some).can

pub loop-part-preserved : goal.loop-part-preserved
loop-part-preserved c =
    let put = next_put c.args.parts c.loop-part.parts c.pop.new.self c.in-Some.part _ _ c.loop-part.outer c.put_before.new.outer c.requires c.loop-part.invariant.all c.loop-part.invariant.closed c.in-Some.ensures.some c.in_ok-inner.ensures.spread c.in_ok-inner.ensures.height in
    record { all = put.whole; closed = put.closed }

pub returns : goal.returns
returns c =
    all_put c.args.parts c.loop-part.parts _ c.loop-part.outer c.in_default.ensures.none.0 c.loop-part.invariant.all c.requires c.loop-part.invariant.closed
