use Rattle.std.proofs.Common.{◌∙◌, sym, ap, subst, option_copied, List}
use Rattle.mv_cover.specs.Literal.{Lit}
use Rattle.mv_solve.specs.Known.{IsMatch}
use Rattle.mv_solve.proofs.Spreading.{way_by_default, way_by_line}
use Rattle.mv_solve.proofs.backward.note_way.Goals as goal

pub note_no_match-requires-clause-told : goal.note_no_match-requires-clause-told
note_no_match-requires-clause-told c = way_by_default c.args.net.now.nets c.args.known.now c.args.n.0 c.args.value c.in-Some.cover.now c.as_slice-lines.result.now c.requires.held (ap option_copied (sym c.in-Some.is) ∙ c.table.ensures) c.as_slice-lines.ensures c.requires.reads c.requires.value (sym c.some_may_give.ensures ∙ c.if-not-some_may_give.true)

pub note_match-requires-clause-told : goal.note_match-requires-clause-told
note_match-requires-clause-told c =
    let P : List Lit → Type 0 = λ cube. IsMatch c.args.net.now.nets c.args.known.now cube in
    subst P (sym c.lits.ensures.lits) (way_by_line c.args.net.now.nets c.args.known.now c.args.n.0 c.args.value c.in-Some.cover.now c.as_slice-lines.result.now c.in-Some-only_line.line.now c.requires.held (ap option_copied (sym c.in-Some.is) ∙ c.table.ensures) c.as_slice-lines.ensures c.requires.reads c.requires.value (sym c.default_gives.ensures ∙ c.if-default_gives.false) c.in-Some-only_line.ensures)
