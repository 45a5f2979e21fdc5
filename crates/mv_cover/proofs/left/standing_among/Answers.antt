-- At each place with close marks both lines are looked at; at the others neither lies in the other.
use Rattle.std.proofs.Common.{◌<◌, ◌∙◌, length, ap, arith}
use Rattle.std.proofs.lemmas.List.{length-map}
use Rattle.mv_cover.specs.Marks.{line_marks}
use Rattle.mv_cover.proofs.Marking.{stands_none, stands_far, stands_more}
use Rattle.mv_cover.proofs.left.standing_among.Goals as goal

pub loop-place-init : goal.loop-place-init
loop-place-init c =
    stands_far _ _ c.args.own c.args.marks.now _ 0 _ c.requires.own c.requires.marked c.next_close-place.ensures.later c.next_close-place.ensures.within c.next_close-place.ensures.far
    (stands_none c.args.line.now c.args.others.now)

pub loop-place-preserved : goal.loop-place-preserved
loop-place-preserved c =
    let long = ap length c.requires.marked ∙ length-map c.args.others.now line_marks in
    let low : c.loop-place.place < length c.args.others.now = omega (arith, c.loop-place-test.true, long) in
    stands_far _ _ c.args.own c.args.marks.now _ _ _ c.requires.own c.requires.marked c.next_close-place-in-loop-place.ensures.later c.next_close-place-in-loop-place.ensures.within c.next_close-place-in-loop-place.ensures.far
    (stands_more c.args.line.now c.index-others-place.result c.args.others.now c.loop-place.over c.lies_in_marked.result c.lies_in_marked-over.result c.loop-place.place low c.index-others-place.is c.lies_in_marked.ensures c.if-lies_in_marked.false c.lies_in_marked-over.ensures c.loop-place.invariant)
