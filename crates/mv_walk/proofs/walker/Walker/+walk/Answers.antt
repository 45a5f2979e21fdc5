-- The recursion goes on while commands are left, each of which has no fault.
use Rattle.std.proofs.Common.{◌≡◌, ◌<◌, ◌+◌, ◌-◌, ◌*◌, ℕ, suc, length, refl, subst, arith}
use Rattle.std.proofs.lemmas.Result.{err_from_is_err_and}
use Rattle.mv_fault.specs.declared.flat.FlatFault.TheVariants.{Memory}
use Rattle.mv_fault.proofs.Firsts.{told_of}
use Rattle.mv_walk.specs.declared.opened.Opened.{Opened}
use Rattle.mv_walk.specs.Commands.{model_at}
use Rattle.mv_walk.specs.Steps.{level_of, trail_of}
use Rattle.mv_walk.proofs.Listed.{behind_commands}
use Rattle.mv_walk.proofs.Placed.{place_within}
use Rattle.mv_walk.proofs.Trails.{level_deep}
use Rattle.mv_walk.proofs.Steps.{at_command, Enters, before_first, told_above, ready, opening_told, opening_next, can_found, can_place, entered_at, walked_one, has_below, done_all}
use Rattle.mv_walk.proofs.walker.Walker.+walk.Goals as goal

pub inside-returns-in_err-self-clause-faults : goal.inside-returns-in_err-self-clause-faults
inside-returns-in_err-self-clause-faults t c =
    let d = c.args.known.now in
    let l = level_of d (model_at d.models c.args.model) (trail_of c.args.self.now) in
    let p = err_from_is_err_and c.from_residual.result c.from_residual.ensures.1 in
    rw (p.1, p.2) (told_of Memory c.in_err-self.field-0.0 _ _ (λ f e. told_above c.args.levels d c.args.self.now.count l f e) c.in_err-self.ensures.faults)

pub inside-loop-at-init : goal.inside-loop-at-init
inside-loop-at-init t c =
    let d = c.args.known.now in
    let l = level_of d (model_at d.models c.args.model) (trail_of c.args.self.now) in
    before_first d (c.args.levels - 1) l c.args.number c.args.self.now c.in_ok-self.field-0 c.requires.at.listed c.in_ok-self.ensures.faults c.in_ok-self.ensures.count c.in_ok-self.ensures.few

pub inside-open-requires : goal.inside-open-requires
inside-open-requires t c =
    let d = c.args.known.now in
    let m = model_at d.models c.args.model in
    let h = at_command d c.args.levels m c.args.number c.loop-at.at c.args.self.now c.loop-at.self c.command-item.result c.commands-command-items.result.now c.requires.at c.loop-at.invariant c.in_ok-self.ensures.faults
    c.commands-command-items.ensures c.loop-at-test.true c.command-item.is in
    let r = ready d c.args.levels m c.args.number c.loop-at.at c.args.self.now c.loop-at.self c.command-item.result h in
    let k = r.1 in
    let falls : 2 * c.args.levels < 2 * c.args.levels + 1 = omega arith in
    let Below : ℕ → Type 0 = λ x. 2 * c.args.levels < x in
    (subst Below c.decreases falls, (k.at, (k.deep, (k.looked, k.can))))

pub inside-returns-in_err-open-clause-faults : goal.inside-returns-in_err-open-clause-faults
inside-returns-in_err-open-clause-faults t c =
    let d = c.args.known.now in
    let m = model_at d.models c.args.model in
    let h = at_command d c.args.levels m c.args.number c.loop-at.at c.args.self.now c.loop-at.self c.command-item.result c.commands-command-items.result.now c.requires.at c.loop-at.invariant c.in_ok-self.ensures.faults
    c.commands-command-items.ensures c.loop-at-test.true c.command-item.is in
    let p = err_from_is_err_and c.from_residual-in_err-open.result c.from_residual-in_err-open.ensures.1 in
    rw (p.1, p.2) (told_of Memory c.in_err-open.field-0.0 _ _ (λ f e. opening_told d c.args.levels m c.args.number c.loop-at.at c.args.self.now c.loop-at.self c.command-item.result f h e) c.in_err-open.ensures.faults)

pub inside-loop-at-preserved : goal.inside-loop-at-preserved
inside-loop-at-preserved t c =
    let d = c.args.known.now in
    let m = model_at d.models c.args.model in
    let h = at_command d c.args.levels m c.args.number c.loop-at.at c.args.self.now c.loop-at.self c.command-item.result c.commands-command-items.result.now c.requires.at c.loop-at.invariant c.in_ok-self.ensures.faults
    c.commands-command-items.ensures c.loop-at-test.true c.command-item.is in
    opening_next d c.args.levels m c.args.number c.loop-at.at c.args.self.now c.loop-at.self c.open.new.self c.command-item.result h c.in_ok-open.ensures.faults c.in_ok-open.ensures.done

pub inside-returns-clause-faults : goal.inside-returns-clause-faults
inside-returns-clause-faults t c =
    let d = c.args.known.now in
    let m = model_at d.models c.args.model in
    let l = level_of d m (trail_of c.args.self.now) in
    let depth = c.requires.at.depth in
    let round : length l.round ≡ suc (length (trail_of c.args.self.now)) = level_deep d m (trail_of c.args.self.now) in
    (done_all d c.args.levels l c.args.number c.loop-at.at c.args.self.now c.loop-at.self c.loop-at.invariant (has_below d c.args.self.now.count c.args.levels l (omega arith) c.in_ok-self.ensures.faults) c.in_ok-self.ensures.faults
    (behind_commands d.models m c.commands-command-items.result.now c.loop-at.at c.commands-command-items.ensures c.loop-at-test.false)).none

pub inside-returns-clause-done : goal.inside-returns-clause-done
inside-returns-clause-done t c =
    let d = c.args.known.now in
    let m = model_at d.models c.args.model in
    let l = level_of d m (trail_of c.args.self.now) in
    let depth = c.requires.at.depth in
    let round : length l.round ≡ suc (length (trail_of c.args.self.now)) = level_deep d m (trail_of c.args.self.now) in
    (done_all d c.args.levels l c.args.number c.loop-at.at c.args.self.now c.loop-at.self c.loop-at.invariant (has_below d c.args.self.now.count c.args.levels l (omega arith) c.in_ok-self.ensures.faults) c.in_ok-self.ensures.faults
    (behind_commands d.models m c.commands-command-items.result.now c.loop-at.at c.commands-command-items.ensures c.loop-at-test.false)).walked

pub open-unwrap-found-requires : goal.open-unwrap-found-requires
open-unwrap-found-requires t c = can_found c.args.known.now c.args.self.now c.args.command.now c.requires.command

pub open-inside-requires : goal.open-inside-requires
open-inside-requires t c =
    let d = c.args.known.now in
    let o : Opened = record { model = c.unwrap-found.result.place; round = c.args.number; instance = c.args.instance } in
    let place = can_place d c.args.self.now c.args.command.now c.unwrap-found.result c.requires.command c.unwrap-found.ensures in
    let h : Enters d c.args.levels c.args.self.now c.enter.new.self c.args.command.now.instance.now o = record { at = c.requires.at; deep = c.requires.deep; looked = c.requires.looked; place = place; new = c.requires.command.new; entered = c.in_ok-enter.ensures } in
    let some : 0 < c.args.levels = c.requires.deep in
    let falls : 2 * (c.args.levels - 1) + 1 < 2 * c.args.levels = omega arith in
    let Below : ℕ → Type 0 = λ x. 2 * (c.args.levels - 1) + 1 < x in
    (subst Below c.decreases falls, (entered_at d c.args.levels c.args.self.now c.enter.new.self c.args.command.now.instance.now o h, place_within d.models c.args.command.now.instance.now.model c.unwrap-found.result.place place))

pub open-returns-clause-done : goal.open-returns-clause-done
open-returns-clause-done t c =
    let d = c.args.known.now in
    let o : Opened = record { model = c.unwrap-found.result.place; round = c.args.number; instance = c.args.instance } in
    let place = can_place d c.args.self.now c.args.command.now c.unwrap-found.result c.requires.command c.unwrap-found.ensures in
    let h : Enters d c.args.levels c.args.self.now c.enter.new.self c.args.command.now.instance.now o = record { at = c.requires.at; deep = c.requires.deep; looked = c.requires.looked; place = place; new = c.requires.command.new; entered = c.in_ok-enter.ensures } in
    walked_one d c.args.levels c.args.self.now c.enter.new.self c.inside.new.self c.leave.new.self c.args.command.now.instance.now o c.args.number c.args.instance h refl refl (rw c.len-next.ensures at c.in_ok-inside.ensures.done) c.leave.ensures
