use Rattle.std.proofs.Common.{◌∙◌, sym, arith}
use Rattle.mv_solve.proofs.Putting.{put_all, one_part}
use Rattle.mv_solve.proofs.way.find_way.Goals as goal

pub returns-then-end-way : goal.returns-then-end-way
returns-then-end-way c = one_part c.args.net.now.nets c.args.order.now c.args.known.now c.copy_from_slice.new.self c.start_once.new.starts c.requires.order c.copy_from_slice.ensures.after (omega (arith, c.requires.starts, c.put_parts-end.auto.starts, c.start_once.auto.starts)) c.start_once.ensures

pub returns-else-not-all_put : goal.returns-else-not-all_put
returns-else-not-all_put c = put_all c.args.net.now.nets c.args.order.now c.args.known.now c.put_parts-end.new.way c.put_parts-end.new.starts c.put_parts-end.new.places c.put_parts-end.result c.requires.order c.put_parts-end.ensures c.if-end-way.false (sym c.all_put.ensures ∙ c.if-not-all_put.false)
