-- Each literal of the other cube splits what is left into the part outside it and the part inside.
use Rattle.std.proofs.Common.{◌∙◌, arith}
use Rattle.mv_cover.proofs.Sharps.{cut_none, cut_cube, cut_more, cut_all}
use Rattle.mv_cover.proofs.sharp.put_parts.Goals as goal

pub loop-l-init : goal.loop-l-init
loop-l-init c =
    cut_none c.args.counts.now c.args.cube.now c.args.other.now c.in_ok-lits.lits.items c.args.list.now.items
    (c.in_ok-lits.ensures ∙ c.lits.ensures.lits) c.lits.ensures.formed c.requires.cube c.requires.suited c.requires.meet

pub put_part-requires-clause-cube : goal.put_part-requires-clause-cube
put_part-requires-clause-cube c =
    cut_cube c.args.counts.now c.args.cube.now c.args.other.now c.args.list.now.items c.loop-l.list.items c.loop-l.lits.items c.loop-l.l-index c.loop-l.invariant

pub loop-l-preserved : goal.loop-l-preserved
loop-l-preserved c =
    cut_more c.args.counts.now c.args.cube.now c.args.other.now c.args.list.now.items c.loop-l.list.items c.put_part.new.list.items c.loop-l.lits.items c.put_part.new.lits.items c.loop-l.l-index c.l-item.result (omega arith) c.l-item.is c.in_ok-put_part.ensures.outside c.in_ok-put_part.ensures.inside c.loop-l.invariant

pub returns : goal.returns
returns c =
    cut_all c.args.counts.now c.args.cube.now c.args.other.now c.args.list.now.items c.loop-l.list.items c.loop-l.lits.items c.loop-l.l-index (omega arith) c.loop-l.invariant
