use Rattle.std.proofs.Common.{◌≡◌, ◌∙◌, ℕ, Option, List, sym, ap, subst}
use Rattle.mv_cover.specs.declared.line.Line.{Line}
use Rattle.mv_entry.specs.declared.rule.BodyLine.{BodyLine}
use Rattle.mv_body.specs.Bodies.{lines_said, AreTidyLines, IsDefaultBeside}
use Rattle.mv_body.proofs.Tidying.{tidy_lines, tidy_from}
use Rattle.mv_body.proofs.cover.tidy_cover.Goals as goal

pub returns-in_default : goal.returns-in_default
returns-in_default c = λ t.
    let nets = c.args.net.now.nets in
    let values = c.args.values in
    let untidy : AreTidyLines nets values c.as_slice.result.now → ⊥ = rw c.in_default.is at c.in_ok-lines.ensures in
    untidy (subst (λ (ls : List BodyLine). AreTidyLines nets values ls) (sym c.as_slice.ensures) (tidy_lines nets values c.args.body.now t))

pub returns : goal.returns
returns c =
    let nets = c.args.net.now.nets in
    let values = c.args.values in
    let body = c.args.body.now in
    let lines = c.in-Some.lines in
    let found : AreTidyLines nets values c.as_slice.result.now × (lines ≡ lines_said nets c.as_slice.result.now) = rw c.in-Some.is at c.in_ok-lines.ensures in
    let are = subst (λ (ls : List BodyLine). AreTidyLines nets values ls) c.as_slice.ensures found.0 in
    let said : lines ≡ lines_said nets body.lines = found.1 ∙ ap (lines_said nets) c.as_slice.ensures in
    let behind = subst (λ (ls : List Line). IsDefaultBeside values c.default_set.result ls) c.as_slice-2.ensures c.if-not-is_default_beside.ensures in
    let beside = subst (λ (d : Option ℕ). IsDefaultBeside values d lines) c.default_set.ensures behind in
    (tidy_from nets values body lines are said beside, c.in_ok-new.ensures ∙ λ i. record { lines = said i; default = c.default_set-2.ensures i })
