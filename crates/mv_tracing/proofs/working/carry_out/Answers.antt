-- How the work ends, behind the steps.
use Rattle.std.proofs.Common.{◌≡◌, ◌∙◌, Some, [], length, inl, refl, ap, arith, rules, ⊎_elim}
use Rattle.mv_base.proofs.Gains.{Gained-none}
use Rattle.mv_fault.specs.Tells.{first}
use Rattle.mv_task.specs.Ends.{Done, Denied, DenialCut, OutputCut, Stopped, Own}
use Rattle.mv_task.proofs.Telling.{TellsBehind-nothing}
use Rattle.mv_trace.specs.declared.fault.TraceFault.TheVariants.{Memory as out_of_memory}
use Rattle.mv_trace.specs.Runs.{run_faults}
use Rattle.mv_tracing.proofs.Works.{few_steps, no_said, yes_said}
use Rattle.mv_tracing.proofs.working.carry_out.Goals as goal
use Rattle.mv_tracing.proofs.working.carry_out.Goals.{in-Ok-put_no, in-Err-put_no}

pub returns-in-Err-Memory : goal.returns-in-Err-Memory
returns-in-Err-Memory g c = Stopped c.stop_short.ensures.status refl [] (inl refl) (TellsBehind-nothing _ _ _ c.stop_short.ensures.tells)

pub returns-in-Err : goal.returns-in-Err
returns-in-Err g c =
    ⊎_elim
    (λ (memory : c.in-Err.fault ≡ out_of_memory). absurd (search rules))
    (λ (h : first (run_faults c.args.net.now c.args.lines.now) ≡ Some c.in-Err.fault). Own refl refl _ (record { is = refl; fault = c.in-Err.fault; first_is = h; line_is = refl }) c.tell_fault.ensures)
    c.in-Err.ensures.fault

pub returns-in-Err-room_for : goal.returns-in-Err-room_for
returns-in-Err-room_for g c = Stopped c.stop_short-in-Err-room_for.ensures.status refl [] (inl refl) (TellsBehind-nothing _ _ _ c.stop_short-in-Err-room_for.ensures.tells)

pub overflow_cast-step : goal.overflow_cast-step
overflow_cast-step g c =
    let few = few_steps c.args.net.now c.args.lines.now c.in-Ok.ensures.fault in
    let same = ap length (c.as_slice-steps.ensures ∙ c.in-Ok.ensures.ok) in
    let within = c.in-Some.ensures.found.within in
    omega arith

pub returns-in-Some : goal.returns-in-Some
returns-in-Some g c =
    let run = c.as_slice-steps.result.now in
    let denied = no_said c.args.net.now c.args.lines.now run c.well_formed-2.ensures (rw c.as_slice-steps.ensures c.in-Ok.ensures.fits) c.in-Ok.ensures.fault (c.as_slice-steps.ensures ∙ c.in-Ok.ensures.ok) c.in-Some.step c.in-Some.ensures.found in
    elim c.match-put_no.branch [
      | in-Ok-put_no w ↦ rw w.result-is (Denied refl (record { written = _; denies = denied; notes = refl; out = w.in-Ok-put_no.ensures.ok }))
      | in-Err-put_no w ↦ rw w.result-is (DenialCut refl w.in-Err-put_no.ensures.cause.failed refl _ denied w.in-Err-put_no.ensures.part)
    ]

pub put_yes-requires-clause-few : goal.put_yes-requires-clause-few
put_yes-requires-clause-few g c =
    let few = few_steps c.args.net.now c.args.lines.now c.in-Ok.ensures.fault in
    let same = ap length (c.as_slice-steps.ensures ∙ c.in-Ok.ensures.ok) in
    omega arith

pub returns-in-Ok-put_yes : goal.returns-in-Ok-put_yes
returns-in-Ok-put_yes g c =
    let run = c.as_slice-steps.result.now in
    let puts = c.in-Ok-put_yes.ensures in
    let said = yes_said c.args.net.now c.args.lines.now run c.well_formed-2.ensures (rw c.as_slice-steps.ensures c.in-Ok.ensures.fits) c.in-Ok.ensures.fault (c.as_slice-steps.ensures ∙ c.in-Ok.ensures.ok) puts.ats c.in_default.ensures.found puts.shown in
    Done refl (record { noted = []; written = _; does = said; notes = Gained-none (g.E.Sink.state c.args.notes.now); out = puts.puts.ok })

pub returns : goal.returns
returns g c =
    let run = c.as_slice-steps.result.now in
    let puts = c.in-Err-put_yes.ensures in
    let said = yes_said c.args.net.now c.args.lines.now run c.well_formed-2.ensures (rw c.as_slice-steps.ensures c.in-Ok.ensures.fits) c.in-Ok.ensures.fault (c.as_slice-steps.ensures ∙ c.in-Ok.ensures.ok) puts.ats c.in_default.ensures.found puts.shown in
    OutputCut refl puts.puts.cause.failed [] _ said (Gained-none (g.E.Sink.state c.args.notes.now)) puts.puts.part
