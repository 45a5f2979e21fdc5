-- Each step leaves fewer literals, since its divisor saves.
use Rattle.std.proofs.Common.{IsTrue, sym, subst, arith}
use Rattle.mv_base.proofs.Meanings.{SameMeaning-refl, SameMeaning-then}
use Rattle.mv_gains.specs.Candidates.{IsBest}
use Rattle.mv_gains.proofs.Divisors.{divisor_of}
use Rattle.mv_extract.specs.Dividing.{behind_of, behind_some, candidates_of}
use Rattle.mv_net.specs.Index.{is_held}
use Rattle.mv_extract.specs.Keeping.{IsBehind}
use Rattle.mv_extract.proofs.Behind.{step_behind}
use Rattle.mv_extract.proofs.Keeping.{search_behind}
use Rattle.mv_extract.proofs.Stopping.{best_for, come_to_end, none_left, step_stopped, stuck_between}
use Rattle.mv_extract.proofs.Leaving.{takes_leave}
use Rattle.mv_extract.proofs.Taking.{over_of, steps_more, steps_none}
use Rattle.mv_extract.proofs.extracting.take_out_each.Goals as goal

pub extracting-init : goal.extracting-init
extracting-init g c = record {
  came = steps_none c.args.terms.free (candidates_of c.args.divisors) c.args.net.now _;
  search = c.in-Ok.ensures;
  means = SameMeaning-refl _;
}

pub returns-in-Ok-None-clause-passes : goal.returns-in-Ok-None-clause-passes
returns-in-Ok-None-clause-passes g c =
    let kind = c.args.divisors in
    none_left c.args.terms.free (candidates_of kind) (behind_of kind) (behind_some kind) _ _ _ _ c.extracting.invariant.came
    (rw c.in-Ok-None.field-0-is at c.in-Ok-None.ensures).found _ _ _ c.note_behind.ensures

pub returns-then-next_number-ge-MAX_NETS-clause-passes : goal.returns-then-next_number-ge-MAX_NETS-clause-passes
returns-then-next_number-ge-MAX_NETS-clause-passes g c =
    let kind = c.args.divisors in
    come_to_end c.args.terms.free (candidates_of kind) (behind_of kind) (behind_some kind) _ _ _ _ c.extracting.invariant.came _ _ _ c.note_full.ensures

pub take_out-requires-clause-over : goal.take_out-requires-clause-over
take_out-requires-clause-over g c =
    let best = subst (IsBest (candidates_of c.args.divisors) c.extracting.net.nets) (sym c.as_slice-in-extracting.ensures) (rw c.in-Ok-Some.field-0-is at c.in-Ok-Some.ensures).found in
    over_of c.extracting.net _ c.well_formed-in-extracting.ensures
    (best_for c.args.divisors c.extracting.net _ c.well_formed-in-extracting.ensures best)

pub returns-in-Err-take_out-clause-passes : goal.returns-in-Err-take_out-clause-passes
returns-in-Err-take_out-clause-passes g c =
    let kind = c.args.divisors in
    let best = subst (IsBest (candidates_of c.args.divisors) c.extracting.net.nets) (sym c.as_slice-in-extracting.ensures) (rw c.in-Ok-Some.field-0-is at c.in-Ok-Some.ensures).found in
    step_stopped c.args.terms.free (candidates_of kind) (behind_of kind) (behind_some kind) _ _ _ _ c.extracting.invariant.came _ best _ _ _ c.in-Err-take_out.ensures.passes

pub extracting-smaller : goal.extracting-smaller
extracting-smaller g c =
    let best = subst (IsBest (candidates_of c.args.divisors) c.extracting.net.nets) (sym c.as_slice-in-extracting.ensures) (rw c.in-Ok-Some.field-0-is at c.in-Ok-Some.ensures).found in
    let formed = c.well_formed-in-extracting.ensures in
    let for_nets = best_for c.args.divisors c.extracting.net _ formed best in
    let took = c.in-Ok-take_out.ensures.passes.ok in
    let less = takes_leave c.args.terms.free _ c.extracting.net c.take_out.new.net took.entries best.saved (divisor_of c.extracting.net.nets _ for_nets) formed (over_of c.extracting.net _ formed for_nets) best.saves took.are in
    omega (arith, less, best.saves.some)

pub extracting-preserved : goal.extracting-preserved
extracting-preserved g c =
    let best = subst (IsBest (candidates_of c.args.divisors) c.extracting.net.nets) (sym c.as_slice-in-extracting.ensures) (rw c.in-Ok-Some.field-0-is at c.in-Ok-Some.ensures).found in
    record {
      came = steps_more c.args.terms.free (candidates_of c.args.divisors) _ _ _ _ c.extracting.invariant.came _ best _ _ c.in-Ok-take_out.ensures.passes;
      search = c.in-Ok-follow.ensures;
      means = SameMeaning-then _ _ _ c.in-Ok-take_out.ensures.means c.extracting.invariant.means;
    }

pub returns-in-Err-clause-passes : goal.returns-in-Err-clause-passes
returns-in-Err-clause-passes g c =
    let kind = c.args.divisors in
    stuck_between c.args.terms.free (candidates_of kind) (behind_of kind) (behind_some kind) _ _ _ _ (steps_none c.args.terms.free (candidates_of kind) c.args.net.now _)

pub follow-requires-clause-held : goal.follow-requires-clause-held
follow-requires-clause-held g c =
    let best = subst (IsBest (candidates_of c.args.divisors) c.extracting.net.nets) (sym c.as_slice-in-extracting.ensures) (rw c.in-Ok-Some.field-0-is at c.in-Ok-Some.ensures).found in
    let formed = c.well_formed-in-extracting.ensures in
    let over = over_of c.extracting.net _ formed (best_for c.args.divisors c.extracting.net _ formed best) in
    let took = c.in-Ok-take_out.ensures.passes.ok in
    let step = step_behind c.args.terms.free _ c.extracting.net c.take_out.new.net took.entries formed over took.are in
    subst (λ k. IsTrue (is_held c.take_out.new.net.nets k)) (sym c.next_number-in-extracting.ensures) step.held

pub follow-requires-clause-behind : goal.follow-requires-clause-behind
follow-requires-clause-behind g c =
    let best = subst (IsBest (candidates_of c.args.divisors) c.extracting.net.nets) (sym c.as_slice-in-extracting.ensures) (rw c.in-Ok-Some.field-0-is at c.in-Ok-Some.ensures).found in
    let formed = c.well_formed-in-extracting.ensures in
    let over = over_of c.extracting.net _ formed (best_for c.args.divisors c.extracting.net _ formed best) in
    let took = c.in-Ok-take_out.ensures.passes.ok in
    let step = step_behind c.args.terms.free _ c.extracting.net c.take_out.new.net took.entries formed over took.are in
    let search = (rw c.in-Ok-Some.field-0-is at c.in-Ok-Some.ensures).search in
    subst (λ k. IsBehind c.args.divisors c.take_out.new.net.nets (record { 0 = k }) c.best.new.search) (sym c.next_number-in-extracting.ensures)
    (search_behind c.args.divisors c.extracting.net c.take_out.new.net c.best.new.search search step)

pub returns-in-Err-follow-clause-passes : goal.returns-in-Err-follow-clause-passes
returns-in-Err-follow-clause-passes g c =
    let kind = c.args.divisors in
    let best = subst (IsBest (candidates_of c.args.divisors) c.extracting.net.nets) (sym c.as_slice-in-extracting.ensures) (rw c.in-Ok-Some.field-0-is at c.in-Ok-Some.ensures).found in
    stuck_between c.args.terms.free (candidates_of kind) (behind_of kind) (behind_some kind) _ _ _ _ (steps_more c.args.terms.free (candidates_of c.args.divisors) _ _ _ _ c.extracting.invariant.came _ best _ _ c.in-Ok-take_out.ensures.passes)
