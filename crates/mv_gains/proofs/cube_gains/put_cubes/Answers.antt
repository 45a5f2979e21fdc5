use Rattle.std.proofs.Common.{◌≡◌, ◌∙◌, List, [], length, get_or, ap, subst, arith}
use Rattle.std.proofs.lemmas.List.{get_or_default}
use Rattle.mv_cover.specs.Literal.{Lit}
use Rattle.mv_net.specs.declared.parts.NetParts.{NetParts}
use Rattle.mv_gains.specs.Answers.{Forgets}
use Rattle.mv_gains.proofs.Answered.{answers_put}
use Rattle.mv_gains.proofs.Gathering.{put_formed}
use Rattle.mv_gains.proofs.cube_gains.put_cubes.Goals as goal

pub returns-clause-answers : goal.returns-clause-answers
returns-clause-answers c =
    let tables = c.args.kept.now.tables.items in
    let n = c.args.n.0 in
    let nets = c.as_slice.ensures ∙ ap (λ (p : NetParts). p.nets) c.parts.ensures in
    let low = ap (λ ns. length ns) nets in
    let formed =
    put_formed c.args.net.now c.as_slice.result.now n c.index-as_slice-place.result c.lines_of.result.now c.of-cubes.result c.well_formed-2.ensures nets (omega (arith, low, c.requires.below, c.requires.long)) c.index-as_slice-place.is c.lines_of.ensures.lines
    (c.of-cubes.ensures ∙ c.in_ok-cubes_of.ensures) in
    let old : c.as_slice-2.result.now ≡ get_or tables n [] = c.as_slice-2.ensures ∙ (c.index.ensures ∙ get_or_default tables n c.index.result.now [] c.requires.below) in
    let one = subst (λ (cs : List (List Lit)). Forgets cs c.args.kept.now.answers c.forget_all.new.answers) old c.in_ok-forget_all.ensures in
    let two = subst (λ (cs : List (List Lit)). Forgets cs c.forget_all.new.answers c.forget_all-2.new.answers) c.as_slice-3.ensures c.in_ok-forget_all-2.ensures in
    answers_put tables n c.of-cubes.result c.args.kept.now.answers c.forget_all.new.answers c.forget_all-2.new.answers c.requires.below formed one two c.requires.answers
