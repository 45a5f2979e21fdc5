-- Each literal gives what is left of it.
use Rattle.std.proofs.Common.{◌∙◌, ap}
use Rattle.std.specs.List.{flat_map}
use Rattle.std.proofs.lemmas.List.{take_all}
use Rattle.mv_merging.specs.Tables.{literal_merged}
use Rattle.mv_merging.proofs.Written.{piece_more}
use Rattle.mv_merging.proofs.tables.cube_merged.Goals as goal

pub loop-l-preserved : goal.loop-l-preserved
loop-l-preserved c =
    piece_more (literal_merged c.args.m c.args.n.0) c.args.lits.now c.loop-l.l-index c.l-item.result c.loop-l.all c.put_literal.new.all c.loop-l-test.true c.l-item.is c.loop-l.invariant
    c.in_ok-put_literal.ensures

pub returns : goal.returns
returns c = c.loop-l.invariant ∙ ap (flat_map (literal_merged c.args.m c.args.n.0)) (take_all c.loop-l.l-index c.args.lits.now c.loop-l-test.false)
