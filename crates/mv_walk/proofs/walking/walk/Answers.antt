-- The walk from the root tells what is wrong with the design, or lists its instances.
use Rattle.std.proofs.Common.{◌≡◌, ◌∙◌, [], sym, ap, subst}
use Rattle.std.proofs.lemmas.Result.{err_from_is_err_and}
use Rattle.mv_fault.specs.Tells.{first}
use Rattle.mv_fault.specs.declared.flat.FlatFault.TheVariants.{Memory}
use Rattle.mv_fault.proofs.Firsts.{told_of}
use Rattle.mv_design.specs.Nets.{root_of}
use Rattle.mv_walk.specs.Openings.{AreOpened}
use Rattle.mv_walk.proofs.Roots.{begins, root_found, root_missing, no_faults, no_instances, nothing_of, begins_at, begins_within, begins_faults, begins_list}
use Rattle.mv_walk.proofs.walking.walk.Goals as goal

pub returns-in_default-clause-faults : goal.returns-in_default-clause-faults
returns-in_default-clause-faults c = no_faults c.args.design.now (root_missing c.args.design.now (sym c.in_default.ensures))

pub returns-in_default-clause-opened : goal.returns-in_default-clause-opened
returns-in_default-clause-opened c =
    subst (AreOpened c.args.design.now) (sym c.new.ensures) (no_instances c.args.design.now (root_missing c.args.design.now (sym c.in_default.ensures)))

pub returns-then-is_empty-clause-faults : goal.returns-then-is_empty-clause-faults
returns-then-is_empty-clause-faults c =
    let d = c.args.design.now in
    let root = root_found d c.in-Some.model.now (sym c.in-Some.ensures) in
    let none : (root_of d).instances ≡ [] = ap (λ m. m.instances) root.is ∙ nothing_of c.in-Some.model.now.instances c.is_empty.result c.is_empty.ensures c.if-is_empty.true in
    no_faults d none

pub returns-then-is_empty-clause-opened : goal.returns-then-is_empty-clause-opened
returns-then-is_empty-clause-opened c =
    let d = c.args.design.now in
    let root = root_found d c.in-Some.model.now (sym c.in-Some.ensures) in
    let none : (root_of d).instances ≡ [] = ap (λ m. m.instances) root.is ∙ nothing_of c.in-Some.model.now.instances c.is_empty.result c.is_empty.ensures c.if-is_empty.true in
    subst (AreOpened d) (sym c.new-then-is_empty.ensures) (no_instances d none)

pub inside-requires-clause-at : goal.inside-requires-clause-at
inside-requires-clause-at c =
    let d = c.args.design.now in
    let h = begins d c.in_ok-known.known c.in-Some.model.now c.in_ok-walker.walker c.deepest.result c.in_ok-known.ensures c.deepest.ensures c.in-Some.ensures c.in_ok-walker.ensures in
    begins_at d c.in_ok-known.known c.in-Some.model.now c.in_ok-walker.walker c.deepest.result h

pub inside-requires-clause-model : goal.inside-requires-clause-model
inside-requires-clause-model c =
    let d = c.args.design.now in
    let h = begins d c.in_ok-known.known c.in-Some.model.now c.in_ok-walker.walker c.deepest.result c.in_ok-known.ensures c.deepest.ensures c.in-Some.ensures c.in_ok-walker.ensures in
    begins_within d c.in_ok-known.known c.in-Some.model.now c.in_ok-walker.walker c.deepest.result h

pub returns-in_err-inside-clause-faults : goal.returns-in_err-inside-clause-faults
returns-in_err-inside-clause-faults c =
    let d = c.args.design.now in
    let h = begins d c.in_ok-known.known c.in-Some.model.now c.in_ok-walker.walker c.deepest.result c.in_ok-known.ensures c.deepest.ensures c.in-Some.ensures c.in_ok-walker.ensures in
    let p = err_from_is_err_and c.from_residual-in_err-inside.result c.from_residual-in_err-inside.ensures.1 in
    rw (p.1, p.2) (told_of Memory c.in_err-inside.field-0.0 _ _ (λ f e. ap first (sym (begins_faults d c.in_ok-known.known c.in-Some.model.now c.in_ok-walker.walker c.deepest.result h)) ∙ e) c.in_err-inside.ensures.faults)

pub returns-clause-faults : goal.returns-clause-faults
returns-clause-faults c =
    let d = c.args.design.now in
    let h = begins d c.in_ok-known.known c.in-Some.model.now c.in_ok-walker.walker c.deepest.result c.in_ok-known.ensures c.deepest.ensures c.in-Some.ensures c.in_ok-walker.ensures in
    sym (begins_faults d c.in_ok-known.known c.in-Some.model.now c.in_ok-walker.walker c.deepest.result h) ∙ c.in_ok-inside.ensures.faults

pub returns-clause-opened : goal.returns-clause-opened
returns-clause-opened c =
    let d = c.args.design.now in
    let h = begins d c.in_ok-known.known c.in-Some.model.now c.in_ok-walker.walker c.deepest.result c.in_ok-known.ensures c.deepest.ensures c.in-Some.ensures c.in_ok-walker.ensures in
    begins_list d c.in_ok-known.known c.in-Some.model.now c.in_ok-walker.walker c.inside.new.self c.deepest.result h c.in_ok-inside.ensures.faults c.in_ok-inside.ensures.done
