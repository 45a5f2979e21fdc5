use Rattle.std.proofs.Common.{◌≡◌, ◌∙◌, ℕ, ◌+◌, false, length, sym, subst, arith}
use Rattle.std.specs.Prelude.{slice_index}
use Rattle.mv_net.specs.declared.parts.NetParts.{NetParts}
use Rattle.mv_verify.specs.Prefixes.{Differs}
use Rattle.mv_verify.specs.Evidence.{IsPointOf}
use Rattle.mv_verify.proofs.Ports.{points_long, ports_long}
use Rattle.mv_verify.proofs.Choosing.{are_alike, points_alike, loses_nothing, is_lost}
use Rattle.mv_verify.proofs.by_points.lost_among.Goals as goal

pub find_difference-requires-clause-room_left : goal.find_difference-requires-clause-room_left
find_difference-requires-clause-room_left c = omega (arith, c.requires.room, ports_long c.args.a.now)

pub find_difference-requires-clause-room_right : goal.find_difference-requires-clause-room_right
find_difference-requires-clause-room_right c = omega (arith, c.requires.room, ports_long c.args.b.now, points_alike c.args.b.now c.args.a.now (are_alike c.args.b.now c.args.a.now c.well_formed-2.ensures c.well_formed-3.ensures c.requires.same))

pub returns-then-not-find_difference : goal.returns-then-not-find_difference
returns-then-not-find_difference c = loses_nothing c.args.b.now c.args.a.now (length c.args.values.now) c.well_formed-2.ensures c.well_formed-3.ensures c.requires.same c.requires.room c.if-not-find_difference.ensures.found

pub point_of-requires : goal.point_of-requires
point_of-requires c =
    let P : NetParts → Type 0 = λ n. length c.find_difference.new.values ≡ length n.inputs + length n.latches in
    let here : P c.args.a.now = omega (arith, c.find_difference.auto.values, c.requires.room, points_long c.args.a.now) in
    subst P (sym (c.net.ensures ∙ c.if-not-find_difference.ensures.left)) here

pub returns : goal.returns
returns c =
    let b = c.args.b.now in
    let a = c.args.a.now in
    let values = c.find_difference.new.values in
    let p = c.in_ok-point.point in
    let long : length values ≡ length c.args.values.now = c.find_difference.auto.values in
    let P : NetParts → Type 0 = λ n. IsPointOf n values p in
    let is_p = subst P (c.net.ensures ∙ c.if-not-find_difference.ensures.left) c.in_ok-point.ensures in
    let D : ℕ → Type 0 = λ n. Differs false a b (length c.args.values.now) n (slice_index values) in
    is_lost b a (length c.args.values.now) values p c.well_formed-2.ensures c.well_formed-3.ensures c.requires.same c.requires.room long (subst D (sym long) c.if-not-find_difference.ensures.found) is_p
