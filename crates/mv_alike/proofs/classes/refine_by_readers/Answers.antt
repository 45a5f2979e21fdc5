-- Reader by reader.
use Rattle.mv_base.specs.declared.number.NetId.{NetId}
use Rattle.mv_alike.proofs.Refining.{nets_tell, refined_begin, refined_more, refined_whole}
use Rattle.mv_alike.proofs.classes.refine_by_readers.Goals as goal

abbrev none : NetId
none = record { 0 = 0 }

pub loop-reader-init : goal.loop-reader-init
loop-reader-init c = refined_begin (nets_tell c.args.net.now.nets c.args.n.0) c.args.readers.now c.args.classes.now.items c.requires.numbered

pub refine_by_table-requires-clause-few : goal.refine_by_table-requires-clause-few
refine_by_table-requires-clause-few c = rw c.loop-reader.invariant.long c.requires.few

pub refine_by_table-requires-clause-numbered : goal.refine_by_table-requires-clause-numbered
refine_by_table-requires-clause-numbered c = c.loop-reader.invariant.numbered

pub loop-reader-preserved : goal.loop-reader-preserved
loop-reader-preserved c =
    refined_more (nets_tell c.args.net.now.nets c.args.n.0) c.args.readers.now c.loop-reader.reader-index none c.args.classes.now.items c.loop-reader.classes.items
    c.refine_by_table.new.classes.items c.loop-reader-test.true c.loop-reader.invariant c.in_ok-refine_by_table.ensures

pub returns : goal.returns
returns c =
    refined_whole (nets_tell c.args.net.now.nets c.args.n.0) c.args.readers.now c.loop-reader.reader-index c.args.classes.now.items c.loop-reader.classes.items
    c.loop-reader-test.false c.loop-reader.invariant
