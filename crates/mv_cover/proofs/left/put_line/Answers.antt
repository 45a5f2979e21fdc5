-- The line goes, or comes behind those that don't lie in it.
use Rattle.std.proofs.Common.{◌∙◌, ◌++◌, ◌∷◌, [], List, filter, not, ap, arith}
use Rattle.mv_cover.specs.declared.line.Line.{Line}
use Rattle.mv_cover.specs.Absorb.{line_lies}
use Rattle.mv_cover.proofs.Putting.{with_line-lies, with_line-comes}
use Rattle.mv_cover.proofs.left.put_line.Goals as goal

pub returns-then-standing-clause-ok : goal.returns-then-standing-clause-ok
returns-then-standing-clause-ok c =
    with_line-lies c.args.lines.now.items c.as_slice.result.now c.args.line c.standing_among-standing.result.inside c.standing_among-standing.ensures.inside c.as_slice.ensures.value c.if-standing.true

pub push_reserved-requires : goal.push_reserved-requires
push_reserved-requires c = omega (arith, c.in_ok-reserve.ensures.ok, c.keep_outside.ensures.fewer_lines, c.keep_outside.ensures.line_room)

pub push_reserved-requires-2 : goal.push_reserved-requires-2
push_reserved-requires-2 c = omega (arith, c.in_ok-reserve-2.ensures.ok, c.keep_outside.ensures.fewer_marks, c.keep_outside.ensures.mark_room)

pub returns-clause-ok : goal.returns-clause-ok
returns-clause-ok c =
    c.push_reserved.ensures.items
    ∙ (ap (λ (ls : List Line). ls ++ c.args.line ∷ []) (c.keep_outside.ensures.lines ∙ ap (filter (λ l. not (line_lies l c.args.line))) c.in_ok-reserve.ensures.items)
    ∙ with_line-comes c.args.lines.now.items c.as_slice.result.now c.args.line c.standing_among-standing.result.inside c.standing_among-standing.ensures.inside c.as_slice.ensures.value c.if-standing.false)
