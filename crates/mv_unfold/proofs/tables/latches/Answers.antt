-- Place by place.
use Rattle.std.proofs.Common.{◌<◌, ◌++◌, length, map, sym, ◌∙◌, ap, arith}
use Rattle.mv_tree.specs.Places.{Place}
use Rattle.mv_tree.specs.Unfolded.{placed_latch}
use Rattle.mv_unfold.specs.Laid.{places_of}
use Rattle.mv_unfold.specs.Placed.{place_at}
use Rattle.mv_unfold.proofs.Laid.{places_long}
use Rattle.mv_unfold.proofs.OneModel.{flat_taken}
use Rattle.mv_unfold.proofs.tables.latches.Goals as goal

pub loop-number-preserved : goal.loop-number-preserved
loop-number-preserved c =
    let l = c.args.layout.now in
    let ps = places_of l in
    let n = c.loop-number.number in
    let p = place_at ps n in
    let long = places_long l c.requires in
    let lt : n < length ps = let e = c.len-number-end.ensures in let t = c.loop-number-test.true in omega arith in
    record {
      latches =
          c.in_ok-add_latches.ensures.is
          ∙ (ap (λ ls. ls ++ map (placed_latch p) p.model.latches) c.loop-number.invariant.latches
          ∙ sym (flat_taken (λ (q : Place). map (placed_latch q) q.model.latches) ps n lt));
      right = c.in_ok-add_latches.ensures.right;
    }
