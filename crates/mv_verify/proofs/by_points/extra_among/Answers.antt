use Rattle.std.proofs.Common.{◌≡◌, ◌∙◌, ℕ, ◌+◌, ◌≤◌, List, length, sym, subst, arith}
use Rattle.mv_net.specs.declared.parts.NetParts.{NetParts}
use Rattle.std.specs.Prelude.{slice_index}
use Rattle.mv_verify.specs.Prefixes.{Differs}
use Rattle.mv_verify.specs.Evidence.{IsPointOf, IsChoiceOf}
use Rattle.mv_verify.proofs.Ports.{points_long, choices_long, ports_long}
use Rattle.mv_verify.proofs.Choosing.{are_alike, ports_alike, narrows, is_extra}
use Rattle.mv_verify.proofs.by_points.extra_among.Goals as goal

pub find_difference-requires-clause-room_right : goal.find_difference-requires-clause-room_right
find_difference-requires-clause-room_right c = omega (arith, c.requires.room, ports_alike c.args.b.now c.args.a.now (are_alike c.args.b.now c.args.a.now c.well_formed-2.ensures c.well_formed-3.ensures c.requires.same))

pub returns-then-not-find_difference-clause-found : goal.returns-then-not-find_difference-clause-found
returns-then-not-find_difference-clause-found c = narrows c.args.free c.args.b.now c.args.a.now c.points-points.result (length c.args.values.now) c.well_formed-2.ensures c.well_formed-3.ensures c.requires.same c.points-points.ensures.count c.requires.room c.if-not-find_difference.ensures.found

pub point_of-requires : goal.point_of-requires
point_of-requires c =
    let P : NetParts → Type 0 = λ n. length c.split_at.result.0.now ≡ length n.inputs + length n.latches in
    let here : P c.args.b.now = omega (arith, c.split_at.ensures.front_len, c.points-points.ensures.count, points_long c.args.b.now) in
    subst P (sym (c.net.ensures ∙ c.if-not-find_difference.ensures.left)) here

pub choice_of-requires : goal.choice_of-requires
choice_of-requires c =
    let P : NetParts → Type 0 = λ n. length n.outputs + length n.latches ≤ length c.split_at.result.1.now in
    let here : P c.args.b.now = omega (arith, c.split_at.ensures.back_len, c.points-points.ensures.count, ports_long c.args.b.now, choices_long c.args.b.now, c.requires.room, c.find_difference.auto.values) in
    subst P (sym (c.net-2.ensures ∙ c.if-not-find_difference.ensures.left)) here

pub returns-clause-found : goal.returns-clause-found
returns-clause-found c =
    let b = c.args.b.now in
    let a = c.args.a.now in
    let values = c.find_difference.new.values in
    let points = c.points-points.result in
    let p = c.in_ok-point.point in
    let x = c.in_ok-choice.choice in
    let long : length values ≡ length c.args.values.now = c.find_difference.auto.values in
    let P : NetParts → Type 0 = λ n. IsPointOf n c.split_at.result.0.now p in
    let Q : List ℕ → Type 0 = λ l. IsPointOf b l p in
    let R : NetParts → Type 0 = λ n. IsChoiceOf n c.split_at.result.1.now x in
    let S : List ℕ → Type 0 = λ l. IsChoiceOf b l x in
    let is_p = subst Q c.split_at.ensures.front (subst P (c.net.ensures ∙ c.if-not-find_difference.ensures.left) c.in_ok-point.ensures) in
    let is_c = subst S c.split_at.ensures.back (subst R (c.net-2.ensures ∙ c.if-not-find_difference.ensures.left) c.in_ok-choice.ensures) in
    let D : ℕ → Type 0 = λ n. Differs c.args.free b a points n (slice_index values) in
    is_extra c.args.free b a points values p x c.well_formed-2.ensures c.well_formed-3.ensures c.requires.same c.points-points.ensures.count (long ∙ c.requires.room) (subst D (sym long) c.if-not-find_difference.ensures.found) is_p is_c
