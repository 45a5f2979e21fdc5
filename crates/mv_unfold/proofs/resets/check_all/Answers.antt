-- Place by place.
use Rattle.std.proofs.Common.{◌<◌, false, length, sym, ◌∙◌, ap, subst, arith}
use Rattle.std.proofs.lemmas.List.{get_or_read}
use Rattle.mv_unfold.specs.Laid.{places_of}
use Rattle.mv_unfold.specs.Resets.{AreLooked}
use Rattle.mv_unfold.specs.Placed.{place_at, model_at}
use Rattle.mv_unfold.proofs.Laid.{places_long}
use Rattle.mv_unfold.proofs.Looked.{placed_none, none_placed, faults_more, looked_more}
use Rattle.mv_unfold.proofs.resets.check_all.Goals as goal
use Rattle.mv_unfold.proofs.resets.check_all.Goals.{then-not-index+in_ok-check_place, else-not-index}

pub loop-number-preserved : goal.loop-number-preserved
loop-number-preserved c =
    let l = c.args.layout.now in
    let d = l.design.now in
    let ps = places_of l in
    let n = c.loop-number.number in
    let k = c.model-model.result in
    let long = places_long l c.requires in
    let lt : n < length ps = let e = c.len-number-end.ensures in let t = c.loop-number-test.true in omega arith in
    elim c.if-not-index.branch [
      | then-not-index+in_ok-check_place w ↦
          let none = w.in_ok-check_place.ensures in
          record {
            looked =
                looked_more d c.loop-number.looked.items c.if-not-index.looked.items k c.loop-number.invariant.looked c.model-model.ensures.below
                (none_placed (place_at ps n) (model_at d k) c.model-model.ensures.is none) (ap (λ v. v.items) w.looked-is);
            faults = faults_more ps n lt none ∙ c.loop-number.invariant.faults;
          }
      | else-not-index w ↦
          let kept = ap (λ v. v.items) w.looked-is in
          let below : k < length c.loop-number.looked.items = let a = c.loop-number.invariant.looked.long in let b = c.model-model.ensures.below in omega arith in
          let right = c.loop-number.invariant.looked.right k (sym (get_or_read c.loop-number.looked.items k c.index.result.now below c.index.ensures false) ∙ w.if-not-index.false) in
          record {
            looked = subst (AreLooked d) (sym kept) c.loop-number.invariant.looked;
            faults = faults_more ps n lt (placed_none (place_at ps n) (model_at d k) c.model-model.ensures.is right) ∙ c.loop-number.invariant.faults;
          }
    ]
