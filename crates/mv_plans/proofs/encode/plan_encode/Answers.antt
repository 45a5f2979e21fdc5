-- A reader's table is too wide, or the numbers don't suffice; or the change brings the nets of the bits in place of the net.
use Rattle.std.proofs.Common.{inr}
use Rattle.mv_plans.proofs.Encoded.{are_fresh, planned, room_fails, wide_fails}
use Rattle.mv_plans.proofs.encode.plan_encode.Goals as goal

pub coding_change-requires-clause-fresh : goal.coding_change-requires-clause-fresh
coding_change-requires-clause-fresh c = are_fresh c.args.net.now.nets c.args.names.now c.in-Ok.ensures.fresh

pub returns-in-Err-Wide : goal.returns-in-Err-Wide
returns-in-Err-Wide c =
    inr (inr (c.in-Some.n.0, c.in-Some.ensures, wide_fails c.args.net.now c.in-Some.n.0 c.args.names.now c.args.codes.now c.in-Ok.ensures (c.in-Err-Wide.ensures.wide c.in-Err-Wide.field-0-is)))

pub returns-then-not-has_room : goal.returns-then-not-has_room
returns-then-not-has_room c =
    inr (inr (
      c.in-Some.n.0,
      c.in-Some.ensures,
      room_fails c.args.net.now c.in-Some.n.0 c.args.names.now c.args.codes.now c.in-Ok.ensures c.in-Ok-coding_change.ensures.narrow (rw c.if-not-has_room.true at c.has_room.ensures),
    ))

pub returns : goal.returns
returns c =
    planned c.args.net.now c.args.name.now c.in-Some.n.0 c.args.names.now c.args.codes.now c.in-Ok-coding_change.change c.well_formed-2.ensures c.in-Some.ensures c.in-Ok.ensures c.in-Ok-coding_change.ensures.narrow
    (rw c.if-not-has_room.false at c.has_room.ensures) c.in-Ok-coding_change.ensures.makes c.in-Ok-coding_change.ensures.fits c.in-Ok-coding_change.ensures.adds
