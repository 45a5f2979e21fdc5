-- The frame, the room, and then the set.
use Rattle.std.proofs.Common.{◌∙◌, sym, subst, arith}
use Rattle.mv_wide.specs.declared.frame.Frame.{Frame}
use Rattle.mv_wide.specs.Windows.{IsFrameOf}
use Rattle.mv_wide.proofs.Finding.{framed, stops_in, tables_few}
use Rattle.mv_wide.proofs.find.find_in.Goals as goal

pub overflow_mul-room : goal.overflow_mul-room
overflow_mul-room c = omega (arith, tables_few c.args.net.now c.args.w.now c.args.n.0 c.requires.window, c.few.ensures)

pub overflow_add-room : goal.overflow_add-room
overflow_add-room c = omega (arith, tables_few c.args.net.now c.args.w.now c.args.n.0 c.requires.window, c.few.ensures)

pub restart-requires-clause-new : goal.restart-requires-clause-new
restart-requires-clause-new c =
    framed c.args.net.now c.args.w.now c.args.n.0 c.requires.window c.well_formed-2.ensures c.in-Ok.new c.in-Ok.ensures

pub put_outside-requires-clause-frame : goal.put_outside-requires-clause-frame
put_outside-requires-clause-frame c =
    subst (λ (f : Frame). IsFrameOf c.args.net.now.nets c.args.w.now c.args.n.0 f) (sym c.in-Ok-restart.ensures.frame) c.in-Ok.ensures

pub returns-clause-stop : goal.returns-clause-stop
returns-clause-stop c =
    let frame : IsFrameOf c.args.net.now.nets c.args.w.now c.args.n.0 c.restart.new.frame =
    subst (λ (f : Frame). IsFrameOf c.args.net.now.nets c.args.w.now c.args.n.0 f) (sym c.in-Ok-restart.ensures.frame) c.in-Ok.ensures in
    stops_in c.args.net.now.nets c.args.w.now c.args.factors.now.contents.cap c.put_outside.new.factors.contents c.restart.new.frame.vars.items
    c.restart.new.frame.counts.items c.put_outside.result frame.vars (c.put_outside.ensures.keeps.counts ∙ c.restart.ensures.ready.counts)
    (c.put_outside.ensures.keeps.cap ∙ c.restart.ensures.cap) c.put_outside.ensures.stop
