-- One more net of the list, and its columns.
use Rattle.std.proofs.Common.{◌+◌, List, length, subst, refl}
use Rattle.std.proofs.lemmas.Option.{slice_get_read}
use Rattle.std.proofs.lemmas.Result.{on_ok_weaker}
use Rattle.mv_base.specs.declared.number.NetId.{NetId}
use Rattle.mv_graph.proofs.Waiting.{columns_read}
use Rattle.mv_cycles.specs.Walking.{IsWalk, HasMarked}
use Rattle.mv_cycles.proofs.Walks.{listed_below, columns_within, walk_next}
use Rattle.mv_cycles.proofs.walk.Walk.step.Goals as goal

pub bounds-columns-above : goal.bounds-columns-above
bounds-columns-above c = listed_below c.args.columns.now c.args.net.0 c.args.place c.args.self.now c.index-above.result.now c.requires.walk c.requires.inside c.index-above.ensures

pub mark-requires : goal.mark-requires
mark-requires c =
    let low = listed_below c.args.columns.now c.args.net.0 c.args.place c.args.self.now c.index-above.result.now c.requires.walk c.requires.inside c.index-above.ensures in
    columns_within c.args.columns.now c.index-above.result.now.0 _ _ c.requires.below low (columns_read c.args.columns.now c.index-above.result.now.0 _ _ low c.index-columns-above.is c.as_slice.ensures) c.requires.walk.long

pub returns : goal.returns
returns c =
    let low = listed_below c.args.columns.now c.args.net.0 c.args.place c.args.self.now c.index-above.result.now c.requires.walk c.requires.inside c.index-above.ensures in
    let read = columns_read c.args.columns.now c.index-above.result.now.0 _ _ low c.index-columns-above.is c.as_slice.ensures in
    let P : List NetId → Type 0 = HasMarked c.args.self.now c.mark.new.self in
    on_ok_weaker {P = P c.as_slice.result.now} {Q = IsWalk c.args.columns.now c.args.net.0 c.mark.new.self (c.args.place + 1)} c.mark.result
    (λ h. walk_next c.args.columns.now c.args.net.0 c.args.place c.args.self.now c.mark.new.self c.index-above.result.now c.requires.below c.requires.walk
    (slice_get_read c.args.self.now.listed.items (length c.args.self.now.listed.items) c.args.place c.index-above.result.now refl c.requires.inside c.index-above.ensures)
    (subst P read h))
    c.mark.ensures
