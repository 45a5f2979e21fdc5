-- No place at first, and then one number more.
use Rattle.std.proofs.Common.{sym, subst}
use Rattle.mv_flex.specs.Places.{ArePlaces}
use Rattle.mv_flex.proofs.Needing.{places_none, places_more}
use Rattle.mv_flex.proofs.flexibility.Flexibility.places.Goals as goal

pub loop-number-init : goal.loop-number-init
loop-number-init c =
    subst (ArePlaces c.args.self.now c.args.default.now 0) (sym c.new-places.ensures) (places_none c.args.self.now c.args.default.now)

pub loop-number-preserved : goal.loop-number-preserved
loop-number-preserved c =
    places_more c.args.self.now c.args.default.now c.loop-number.number c.loop-number.places c.put_place.new.places c.loop-number.invariant c.in_ok-put_place.ensures
