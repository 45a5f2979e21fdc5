use Rattle.std.proofs.Common.{◌∙◌, List, refl, subst, arith}
use Rattle.std.proofs.lemmas.Map.Entries.{length-keys_of}
use Rattle.indexmap.specs.IndexMap.{keys}
use Rattle.mv_cover.specs.Literal.{Lit}
use Rattle.mv_gains.specs.Answers.{all_cubes, Settles, SettlesIn}
use Rattle.mv_gains.proofs.Answered.{done_more, done_none, leader_found, settled_best}
use Rattle.mv_gains.proofs.cube_gains.searched.Goals as goal

pub loop-place-init : goal.loop-place-init
loop-place-init c =
    let kept = c.args.kept.now in
    record {
      tables = refl;
      answers = c.requires.answers;
      symbols = refl;
      found = leader_found kept.tables.items kept.answers c.in_ok-best.best c.requires.answers c.in_ok-best.ensures;
      done = done_none (all_cubes kept.tables.items) (keys kept.answers.known) c.in_ok-best.best;
    }

pub loop-place-preserved : goal.loop-place-preserved
loop-place-preserved c =
    let kept = c.args.kept.now in
    let l = c.loop-place in
    let place = l.place in
    let here = subst (SettlesIn (all_cubes l.kept.tables.items) (keys l.kept.answers.known) place l.best) c.in-Ended.is c.in_ok-found.ensures.found in
    let same = subst (λ (ts : List (List (List Lit))). Settles (all_cubes ts) (keys l.kept.answers.known) place l.best c.in-Ended.found) l.invariant.tables here in
    let settles = subst (λ (ks : List Lit). Settles (all_cubes kept.tables.items) ks place l.best c.in-Ended.found) l.invariant.symbols same in
    record {
      tables = c.in_ok-found.ensures.same ∙ l.invariant.tables;
      answers = c.in_ok-found.ensures.answers;
      symbols = c.in_ok-found.ensures.keys ∙ l.invariant.symbols;
      found = settles.found;
      done = done_more (all_cubes kept.tables.items) (keys kept.answers.known) l.best c.in-Ended.found place l.invariant.done settles;
    }

pub returns-clause-found : goal.returns-clause-found
returns-clause-found c =
    let kept = c.args.kept.now in
    let long = length-keys_of kept.answers.known.entries in
    settled_best kept.tables.items kept.answers c.requires.answers c.loop-place.best c.loop-place.invariant.found
    (record { each = λ q low. c.loop-place.invariant.done.each q (omega (arith, low, long, c.len-place-end.ensures.len, c.loop-place-test.false)) })
