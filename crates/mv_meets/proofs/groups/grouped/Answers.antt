use Rattle.std.proofs.Common.{sym, subst}
use Rattle.std.specs.List.{IsDistinct}
use Rattle.mv_cover.specs.Equal.{lit_eq}
use Rattle.mv_meets.specs.Groups.{places_in}
use Rattle.mv_meets.proofs.Grouping.{groups_next}
use Rattle.mv_meets.proofs.Once.{literals_once}
use Rattle.mv_meets.proofs.groups.grouped.Goals as goal

pub note_all-requires : goal.note_all-requires
note_all-requires c = subst (IsDistinct lit_eq) (sym c.lits.ensures.lits) (literals_once c.index-cubes-place.result c.lits.ensures.formed)

pub loop-place-preserved : goal.loop-place-preserved
loop-place-preserved c =
    groups_next c.args.cubes.now c.args.low c.args.places.now c.loop-place.place-index c.index-cubes-place.result c.lits.result.now (places_in c.loop-place.groups) (places_in c.note_all.new.groups) c.loop-place-test.true (c.requires c.loop-place.place-index 0 c.loop-place-test.true) c.index-cubes-place.is c.lits.ensures.lits c.loop-place.invariant c.in_ok-note_all.ensures
