-- Each part adds its entries to those that came before, all of them or as far as it came.
use Rattle.std.proofs.Common.{◌≡◌, ◌∙◌, ◌+◌, refl, sym, ap, arith, rules}
use Rattle.mv_script.specs.declared.script.Script.{the_lemmas}
use Rattle.mv_script.specs.Scripts.{items_of, Do, Repeat, Better}
use Rattle.mv_script_run.specs.Commands.{DoesCommand, BegunCommand}
use Rattle.mv_pass.specs.Courses.{Rounds}
use Rattle.mv_script_run.specs.Runs.{Runs, RunsBetter, RunsTo, StopsBetter, StopsRepeat}
use Rattle.mv_pass.proofs.Coming.{came_none, came_more, came_stop, came_as, came_whole}
use Rattle.mv_script_run.proofs.Idle.{rounds_idle}
use Rattle.mv_script_run.proofs.Rounds.{HasGained, gained_more, gained_last, gained_stops, rounds_push, rounds_stop}
use Rattle.mv_script_run.proofs.Toward.{Toward, toward_none, toward_more, toward_stop, toward_end, first_command, first_repeat, first_better}
use Rattle.mv_script_run.proofs.running.+run.Goals as goal

-- ---- better

pub run_better-rounds-init : goal.run_better-rounds-init
run_better-rounds-init g t c =
    let terms = c.args.terms in
    came_none terms.free (HasGained (Runs terms (items_of c.args.inside.now))) c.args.net.now _ (record { gained = 0; rounds = (refl, refl) })

pub run_better-returns-in-Err : goal.run_better-returns-in-Err
run_better-returns-in-Err g t c =
    let terms = c.args.terms in
    let round = Runs terms (items_of c.args.inside.now) in
    let stops = RunsTo terms (items_of c.args.inside.now) in
    came_stop terms.free (HasGained round) round stops c.args.net.now c.rounds.net c.run_script.new.net _ _ _ c.rounds.invariant (RunsBetter round) (StopsBetter round stops) _
    (gained_stops round stops c.args.net.now c.rounds.net c.run_script.new.net) c.in-Err.ensures

pub run_better-returns-then-literals-before : goal.run_better-returns-then-literals-before
run_better-returns-then-literals-before g t c =
    let terms = c.args.terms in
    let round = Runs terms (items_of c.args.inside.now) in
    let stops = RunsTo terms (items_of c.args.inside.now) in
    came_whole terms.free (RunsBetter round) (StopsBetter round stops) _ _ _ _
    (came_more terms.free (HasGained round) round stops c.args.net.now c.rounds.net c.run_script.new.net _ _ _ c.rounds.invariant (RunsBetter round)
    (λ xs ys p q. gained_last round stops c.args.net.now c.rounds.net c.run_script.new.net xs ys p (q, omega arith)) c.in-Ok.ensures)

pub run_better-rounds-preserved : goal.run_better-rounds-preserved
run_better-rounds-preserved g t c =
    let terms = c.args.terms in
    let round = Runs terms (items_of c.args.inside.now) in
    let stops = RunsTo terms (items_of c.args.inside.now) in
    came_more terms.free (HasGained round) round stops c.args.net.now c.rounds.net c.run_script.new.net _ _ _ c.rounds.invariant (HasGained round)
    (λ xs ys p q. gained_more round stops c.args.net.now c.rounds.net c.run_script.new.net xs ys p (q, omega arith)) c.in-Ok.ensures

-- ---- repeat

pub run_repeat-returns-then-not-has_command : goal.run_repeat-returns-then-not-has_command
run_repeat-returns-then-not-has_command g t c =
    let terms = c.args.terms in
    let round = Runs terms (items_of c.args.inside.now) in
    let stops = RunsTo terms (items_of c.args.inside.now) in
    came_whole terms.free (Rounds c.args.times round) (StopsRepeat c.args.times round stops) _ _ _ _
    (came_none terms.free (Rounds c.args.times round) c.args.net.now _ (rounds_idle terms (items_of c.args.inside.now) c.args.times c.args.net.now (sym c.has_command.ensures ∙ c.if-not-has_command.true)))

pub run_repeat-loop-round-init : goal.run_repeat-loop-round-init
run_repeat-loop-round-init g t c =
    let terms = c.args.terms in came_none terms.free (Rounds 0 (Runs terms (items_of c.args.inside.now))) c.args.net.now _ (refl, refl)

pub run_repeat-returns-in-Err : goal.run_repeat-returns-in-Err
run_repeat-returns-in-Err g t c =
    let terms = c.args.terms in
    let round = Runs terms (items_of c.args.inside.now) in
    let stops = RunsTo terms (items_of c.args.inside.now) in
    came_stop terms.free (Rounds c.loop-round._round round) round stops c.args.net.now c.loop-round.net c.run_script.new.net _ _ _ c.loop-round.invariant (Rounds c.args.times round) (StopsRepeat c.args.times round stops) _
    (λ xs ys p q. rounds_stop round stops c.args.net.now c.loop-round.net c.run_script.new.net xs ys c.loop-round._round c.args.times (omega arith) p q) c.in-Err.ensures

pub run_repeat-loop-round-preserved : goal.run_repeat-loop-round-preserved
run_repeat-loop-round-preserved g t c =
    let terms = c.args.terms in
    let round = Runs terms (items_of c.args.inside.now) in
    let stops = RunsTo terms (items_of c.args.inside.now) in
    came_more terms.free (Rounds c.loop-round._round round) round stops c.args.net.now c.loop-round.net c.run_script.new.net _ _ _ c.loop-round.invariant (Rounds (c.loop-round._round + 1) round)
    (λ xs ys p q. rounds_push round c.loop-round._round c.args.net.now c.loop-round.net c.run_script.new.net xs ys p q) c.in-Ok.ensures

-- ---- a script

pub run_script-loop-items-init : goal.run_script-loop-items-init
run_script-loop-items-init g t c =
    let terms = c.args.terms in
    let script = items_of c.args.script.now in
    record {
      came = came_none terms.free (Toward terms script script) c.args.net.now _ (toward_none terms script c.args.net.now);
      lawful = c.requires;
      no_deeper = omega arith;
    }

pub run_script-returns-in-End : goal.run_script-returns-in-End
run_script-returns-in-End g t c =
    let terms = c.args.terms in
    let script = items_of c.args.script.now in
    let items = items_of c.loop-items.items.now in
    came_whole terms.free (Runs terms script) (RunsTo terms script) _ _ _ _
    (came_as terms.free (Toward terms script items) (Runs terms script) _ _ _ _ (λ es p. toward_end terms script items c.args.net.now es c.loop-items.net (ap items_of c.in-End.is) p) c.loop-items.invariant.came)

pub run_script-returns-in-Err : goal.run_script-returns-in-Err
run_script-returns-in-Err g t c =
    let terms = c.args.terms in
    let script = items_of c.args.script.now in
    let items = items_of c.loop-items.items.now in
    let rest = items_of c.in-Do.rest.value in
    let is : items ≡ Do c.in-Do.command rest = ap items_of c.in-Do.is in
    came_stop terms.free (Toward terms script items) (DoesCommand terms c.in-Do.command) (BegunCommand terms c.in-Do.command) c.args.net.now c.loop-items.net c.run_command.new.net _ _ _ c.loop-items.invariant.came (Runs terms script) (RunsTo terms script) _
    (λ xs ys p q. toward_stop terms script items rest (DoesCommand terms c.in-Do.command) (BegunCommand terms c.in-Do.command) (first_command terms items rest c.in-Do.command is) c.args.net.now c.loop-items.net c.run_command.new.net xs ys p q) c.in-Err.ensures

pub run_script-loop-items-preserved-in-Do : goal.run_script-loop-items-preserved-in-Do
run_script-loop-items-preserved-in-Do g t c =
    let terms = c.args.terms in
    let script = items_of c.args.script.now in
    let items = items_of c.loop-items.items.now in
    let rest = items_of c.deref-items.result.now in
    let is : items ≡ Do c.in-Do.command rest = rw c.deref-items.ensures (ap items_of c.in-Do.is) in
    record {
      came =
          came_more terms.free (Toward terms script items) (DoesCommand terms c.in-Do.command) (BegunCommand terms c.in-Do.command) c.args.net.now c.loop-items.net c.run_command.new.net _ _ _ c.loop-items.invariant.came (Toward terms script rest)
          (λ xs ys p q. toward_more terms script items rest (DoesCommand terms c.in-Do.command) (BegunCommand terms c.in-Do.command) (first_command terms items rest c.in-Do.command is) c.args.net.now c.loop-items.net c.run_command.new.net xs ys p q) c.in-Ok.ensures;
      lawful = search rules;
      no_deeper = search (rules, the_lemmas);
    }

pub run_script-returns-in-Err-run_repeat : goal.run_script-returns-in-Err-run_repeat
run_script-returns-in-Err-run_repeat g t c =
    let terms = c.args.terms in
    let script = items_of c.args.script.now in
    let items = items_of c.loop-items.items.now in
    let rest = items_of c.in-Repeat.rest.value in
    let inside = items_of c.deref.result.now in
    let is : items ≡ Repeat c.in-Repeat.times inside rest = rw c.deref.ensures (ap items_of c.in-Repeat.is) in
    came_stop terms.free (Toward terms script items) (Rounds c.in-Repeat.times (Runs terms inside)) (StopsRepeat c.in-Repeat.times (Runs terms inside) (RunsTo terms inside)) c.args.net.now c.loop-items.net c.run_repeat.new.net _ _ _ c.loop-items.invariant.came (Runs terms script) (RunsTo terms script) _
    (λ xs ys p q. toward_stop terms script items rest (Rounds c.in-Repeat.times (Runs terms inside)) (StopsRepeat c.in-Repeat.times (Runs terms inside) (RunsTo terms inside)) (first_repeat terms items inside rest c.in-Repeat.times is) c.args.net.now c.loop-items.net c.run_repeat.new.net xs ys p q) c.in-Err-run_repeat.ensures

pub run_script-loop-items-preserved-in-Repeat : goal.run_script-loop-items-preserved-in-Repeat
run_script-loop-items-preserved-in-Repeat g t c =
    let terms = c.args.terms in
    let script = items_of c.args.script.now in
    let items = items_of c.loop-items.items.now in
    let rest = items_of c.deref-items-in-Repeat.result.now in
    let inside = items_of c.deref.result.now in
    let is : items ≡ Repeat c.in-Repeat.times inside rest = rw (c.deref.ensures, c.deref-items-in-Repeat.ensures) (ap items_of c.in-Repeat.is) in
    record {
      came =
          came_more terms.free (Toward terms script items) (Rounds c.in-Repeat.times (Runs terms inside)) (StopsRepeat c.in-Repeat.times (Runs terms inside) (RunsTo terms inside)) c.args.net.now c.loop-items.net c.run_repeat.new.net _ _ _ c.loop-items.invariant.came (Toward terms script rest)
          (λ xs ys p q. toward_more terms script items rest (Rounds c.in-Repeat.times (Runs terms inside)) (StopsRepeat c.in-Repeat.times (Runs terms inside) (RunsTo terms inside)) (first_repeat terms items inside rest c.in-Repeat.times is) c.args.net.now c.loop-items.net c.run_repeat.new.net xs ys p q) c.in-Ok-run_repeat.ensures;
      lawful = search rules;
      no_deeper = search (rules, the_lemmas);
    }

pub run_script-returns-in-Err-run_better : goal.run_script-returns-in-Err-run_better
run_script-returns-in-Err-run_better g t c =
    let terms = c.args.terms in
    let script = items_of c.args.script.now in
    let items = items_of c.loop-items.items.now in
    let rest = items_of c.in-Better.rest.value in
    let inside = items_of c.deref-in-Better.result.now in
    let is : items ≡ Better inside rest = rw c.deref-in-Better.ensures (ap items_of c.in-Better.is) in
    came_stop terms.free (Toward terms script items) (RunsBetter (Runs terms inside)) (StopsBetter (Runs terms inside) (RunsTo terms inside)) c.args.net.now c.loop-items.net c.run_better.new.net _ _ _ c.loop-items.invariant.came (Runs terms script) (RunsTo terms script) _
    (λ xs ys p q. toward_stop terms script items rest (RunsBetter (Runs terms inside)) (StopsBetter (Runs terms inside) (RunsTo terms inside)) (first_better terms items inside rest is) c.args.net.now c.loop-items.net c.run_better.new.net xs ys p q) c.in-Err-run_better.ensures

pub run_script-loop-items-preserved : goal.run_script-loop-items-preserved
run_script-loop-items-preserved g t c =
    let terms = c.args.terms in
    let script = items_of c.args.script.now in
    let items = items_of c.loop-items.items.now in
    let rest = items_of c.deref-items-in-Better.result.now in
    let inside = items_of c.deref-in-Better.result.now in
    let is : items ≡ Better inside rest = rw (c.deref-in-Better.ensures, c.deref-items-in-Better.ensures) (ap items_of c.in-Better.is) in
    record {
      came =
          came_more terms.free (Toward terms script items) (RunsBetter (Runs terms inside)) (StopsBetter (Runs terms inside) (RunsTo terms inside)) c.args.net.now c.loop-items.net c.run_better.new.net _ _ _ c.loop-items.invariant.came (Toward terms script rest)
          (λ xs ys p q. toward_more terms script items rest (RunsBetter (Runs terms inside)) (StopsBetter (Runs terms inside) (RunsTo terms inside)) (first_better terms items inside rest is) c.args.net.now c.loop-items.net c.run_better.new.net xs ys p q) c.in-Ok-run_better.ensures;
      lawful = search rules;
      no_deeper = search (rules, the_lemmas);
    }
