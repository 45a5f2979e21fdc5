use Rattle.std.proofs.Common.{◌≡◌, ◌∙◌, true, List, All, sym, ap, subst}
use Rattle.mv_cover.specs.Cubes.{IsCube}
use Rattle.mv_cover.specs.Literal.{Lit}
use Rattle.mv_kernels.specs.Symbols.{has_symbol}
use Rattle.mv_meets.specs.Search.{IsSought, IsSoughtIn}
use Rattle.mv_gains.specs.Answers.{all_cubes, answer_for, with_symbol}
use Rattle.mv_gains.proofs.Answered.{all_formed, answers_noted, settles_sought, sought_answer}
use Rattle.mv_gains.proofs.Gathering.{with_formed, with_have}
use Rattle.mv_gains.proofs.cube_gains.found_with.Goals as goal

pub better_meet-requires-clause-formed : goal.better_meet-requires-clause-formed
better_meet-requires-clause-formed c =
    let tables = c.args.kept.now.tables.items in
    let l = c.args.symbol in
    let all = c.as_slice-2.ensures.value ∙ (c.in_ok-cubes.ensures ∙ ap (λ (ts : List (List (List Lit))). with_symbol l (all_cubes ts)) c.as_slice.ensures.value) in
    subst (All IsCube) (sym all) (with_formed l (all_cubes tables) (all_formed tables c.requires.answers.formed))

pub better_meet-requires-clause-have : goal.better_meet-requires-clause-have
better_meet-requires-clause-have c =
    let l = c.args.symbol in
    let all = c.as_slice-2.ensures.value ∙ (c.in_ok-cubes.ensures ∙ ap (λ (ts : List (List (List Lit))). with_symbol l (all_cubes ts)) c.as_slice.ensures.value) in
    subst (All (λ (k : List Lit). has_symbol k l ≡ true)) (sym all) (with_have l (all_cubes c.args.kept.now.tables.items))

pub returns-in_ok-note_answer-in-Ended-clause-found : goal.returns-in_ok-note_answer-in-Ended-clause-found
returns-in_ok-note_answer-in-Ended-clause-found c =
    let cubes = all_cubes c.args.kept.now.tables.items in
    let l = c.args.symbol in
    let given = c.given_for-given.result.now in
    let all = c.as_slice-2.ensures.value ∙ (c.in_ok-cubes.ensures ∙ ap (λ (ts : List (List (List Lit))). with_symbol l (all_cubes ts)) c.as_slice.ensures.value) in
    let sought = subst (λ (cs : List (List Lit)). IsSought cs l given c.in-Ended.found) all (subst (IsSoughtIn c.as_slice-2.result.now l given) c.in-Ended.is c.in_ok-better_meet.ensures) in
    record { at = λ symbols place is. settles_sought cubes symbols place l given c.args.best c.in-Ended.found c.better.result is c.better.ensures c.given_for-given.ensures c.requires.found sought }

pub returns-in_ok-note_answer-in-Ended-clause-answers : goal.returns-in_ok-note_answer-in-Ended-clause-answers
returns-in_ok-note_answer-in-Ended-clause-answers c =
    let tables = c.args.kept.now.tables.items in
    let l = c.args.symbol in
    let given = c.given_for-given.result.now in
    let all = c.as_slice-2.ensures.value ∙ (c.in_ok-cubes.ensures ∙ ap (λ (ts : List (List (List Lit))). with_symbol l (all_cubes ts)) c.as_slice.ensures.value) in
    let sought = subst (λ (cs : List (List Lit)). IsSought cs l given c.in-Ended.found) all (subst (IsSoughtIn c.as_slice-2.result.now l given) c.in-Ended.is c.in_ok-better_meet.ensures) in
    answers_noted tables l (answer_for given c.in-Ended.found) c.args.kept.now.answers c.note_answer.new.answers c.in_ok-note_answer-in-Ended.ensures.ok (sought_answer l (all_cubes tables) given c.in-Ended.found sought) c.requires.answers
