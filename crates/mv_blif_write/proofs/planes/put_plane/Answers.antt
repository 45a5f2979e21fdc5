use Rattle.std.proofs.Common.{◌+◌, drop, get_or, map, refl}
use Rattle.std.proofs.lemmas.List.{at_drop_all}
use Rattle.mv_base.proofs.Gains.{start, next, stop, finish}
use Rattle.mv_page.proofs.Adding.{adds}
use Rattle.mv_text.specs.Text.{numbers}
use Rattle.mv_write.specs.Walk.{literals_behind}
use Rattle.mv_blif_text.specs.BlifText.{plane_byte}
use Rattle.mv_blif_write.proofs.PlaneBytes.{behind-ascend, nets-later, plane-more}
use Rattle.mv_blif_write.proofs.planes.put_plane.Goals as goal

pub loop-n-init : goal.loop-n-init
loop-n-init g c = record { going = start adds _ _; literals = c.requires.literals; nets = c.requires.fanins }

pub plane_byte-requires : goal.plane_byte-requires
plane_byte-requires g c = c.loop-n.invariant.literals

pub returns-in_err-put : goal.returns-in_err-put
returns-in_err-put g c =
    let fanins = c.args.fanins.now in
    let left = c.loop-n.left.now in
    let i = c.loop-n.n-index in
    let m = (get_or fanins i (record { 0 = 0 })).0 in
    let more = plane-more fanins i c.loop-n-test.true c.loop-n.invariant.nets left (literals_behind left m) c.plane_byte.result c.plane_byte.ensures refl in
    stop adds (map (plane_byte (literals_behind left m)) (numbers (drop (i + 1) fanins))) _ _ c.loop-n.invariant.going more c.in_err-put.ensures c.from_residual.ensures.1

pub loop-n-preserved : goal.loop-n-preserved
loop-n-preserved g c =
    let fanins = c.args.fanins.now in
    let left = c.loop-n.left.now in
    let i = c.loop-n.n-index in
    record {
      going = next adds c.loop-n.invariant.going (plane-more fanins i c.loop-n-test.true c.loop-n.invariant.nets left c.behind-left.result.now c.plane_byte.result c.plane_byte.ensures c.behind-left.ensures) c.in_ok-put.ensures;
      literals = rw c.behind-left.ensures (behind-ascend left _ c.loop-n.invariant.literals);
      nets = nets-later fanins i c.loop-n-test.true c.loop-n.invariant.nets;
    }

pub returns : goal.returns
returns g c =
    finish adds c.loop-n.invariant.going (at_drop_all (λ ns. map (plane_byte c.loop-n.left.now) (numbers ns)) c.args.fanins.now c.loop-n.n-index c.loop-n-test.false)
