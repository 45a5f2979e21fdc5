use Rattle.std.proofs.Common.{◌∙◌, subst}
use Rattle.mv_factors.specs.Families.{Family}
use Rattle.mv_factors.specs.Seen.{IsSeen}
use Rattle.mv_factors.proofs.Sighting.{seen_more, work_then}
use Rattle.mv_factors.proofs.elimination.look_at_all.Goals as goal

pub look-requires-clause-rows : goal.look-requires-clause-rows
look-requires-clause-rows c = rw c.loop-place.invariant.same (c.loop-place.invariant.rows _ _ c.requires.rows)

pub loop-place-preserved : goal.loop-place-preserved
loop-place-preserved c = record {
  same = c.look.ensures.same ∙ c.loop-place.invariant.same;
  rows = λ places vars has. c.look.ensures.seen.has places vars (c.loop-place.invariant.rows places vars has);
  seen =
      let rows = c.loop-place.work.rows.items in
      seen_more c.args.factors.now c.args.from c.loop-place.place rows c.look.new.work.rows.items c.loop-place.invariant.seen
      (subst (λ (f : Family). IsSeen f c.loop-place.place rows c.look.new.work.rows.items) c.loop-place.invariant.same
      c.look.ensures.seen);
  work = work_then _ _ _ c.loop-place.invariant.work c.look.ensures.work;
}
