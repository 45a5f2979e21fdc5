-- The lines that don't lie in this one stand at the front, beside their marks.
use Rattle.std.proofs.Common.{◌∙◌, ◌<◌, length, take, map, not, sym, ap, arith}
use Rattle.std.proofs.lemmas.List.{take-map}
use Rattle.std.proofs.lemmas.List.Filters.{FiltersInPlace-more_no, FiltersInPlace-more_swap}
use Rattle.mv_cover.specs.Marks.{line_marks}
use Rattle.mv_cover.proofs.Putting.{outside-all}
use Rattle.mv_cover.proofs.left.keep_outside.Goals as goal
use Rattle.mv_cover.proofs.left.keep_outside.Goals.{then-not-lies_in_marked, else-not-lies_in_marked}

pub returns-then-not-over-clause-lines : goal.returns-then-not-over-clause-lines
returns-then-not-over-clause-lines c = outside-all c.args.line.now c.args.lines.now.items c.args.over c.requires.over c.if-not-over.true

pub loop-place-preserved : goal.loop-place-preserved
loop-place-preserved c =
    let before = c.loop-place.invariant in
    let low : c.loop-place.place < length c.loop-place.lines.items = omega (arith, before.filters.long, c.loop-place-test.true, c.len-place-end.ensures) in
    elim c.if-not-lies_in_marked.branch [
      | then-not-lies_in_marked w ↦
          rw (w.lines-is, w.marks-is, w.kept-is)
          (record {
            filters = FiltersInPlace-more_swap before.filters low (ap not (sym c.lies_in_marked.ensures ∙ w.if-not-lies_in_marked.true)) c.index.ensures w.exchange.ensures.lines;
            marked = w.exchange.ensures.marked;
            line_room = w.exchange.ensures.line_room ∙ before.line_room;
            mark_room = w.exchange.ensures.mark_room ∙ before.mark_room;
          })
      | else-not-lies_in_marked w ↦
          rw (w.lines-is, w.marks-is, w.kept-is)
          (record {
            filters = FiltersInPlace-more_no before.filters low (ap not (sym c.lies_in_marked.ensures ∙ w.if-not-lies_in_marked.false)) c.index.ensures;
            marked = before.marked;
            line_room = before.line_room;
            mark_room = before.mark_room;
          })
    ]

pub returns-clause-marked : goal.returns-clause-marked
returns-clause-marked c =
    c.truncate-2.ensures.items
    ∙ (ap (take c.loop-place.kept) c.loop-place.invariant.marked
    ∙ (take-map line_marks c.loop-place.kept c.loop-place.lines.items ∙ ap (map line_marks) (sym c.truncate.ensures.items)))
