use Rattle.std.proofs.Common.{◌≡◌, ◌∙◌, length, inr, sym, ap, Some, arith}
use Rattle.mv_fault.specs.declared.flat.FlatFault.TheVariants.{NoSuchModel, Recursive}
use Rattle.mv_walk.specs.Commands.{model_at}
use Rattle.mv_walk.specs.Steps.{trail_of}
use Rattle.mv_walk.proofs.Trails.{length-trail}
use Rattle.mv_walk.proofs.Checks.{looks, looks_new, told_unnamed, told_recursive, told_deep, told_many, told_misfit, told_none}
use Rattle.mv_walk.proofs.walker.Walker.check.Goals as goal

pub returns-in_default : goal.returns-in_default
returns-in_default c = λ d model marked is.
    inr (told_unnamed d (model_at d.models model) c.args.self.now c.args.command.now c.args.count is c.in_default.is ∙ ap (λ n. Some (NoSuchModel n)) (sym c.in_ok-copy.ensures))

pub returns-then-index : goal.returns-then-index
returns-then-index c = λ d model marked is.
    let m = model_at d.models model in
    inr (told_recursive d m c.args.self.now c.args.command.now c.in-Some.found c.index.result.now c.args.count (looks d m c.args.self.now c.args.command.now c.in-Some.found marked is c.in-Some.is) c.index.ensures c.if-index.true
    ∙ ap (λ n. Some (Recursive n)) (sym c.in_ok-copy-2.ensures))

pub returns-then-len-ge-MAX_DEPTH : goal.returns-then-len-ge-MAX_DEPTH
returns-then-len-ge-MAX_DEPTH c = λ d model marked is.
    let m = model_at d.models model in
    let new = looks_new d m c.args.self.now c.args.command.now c.in-Some.found c.index.result.now (looks d m c.args.self.now c.args.command.now c.in-Some.found marked is c.in-Some.is) c.index.ensures c.if-index.false in
    let e : c.len.result ≡ length (trail_of c.args.self.now) = omega (arith, c.len.ensures, c.args.self.now.trail.ok, length-trail c.args.self.now) in
    inr (told_deep d m c.args.self.now c.args.command.now c.in-Some.found c.args.count new (omega arith))

pub returns-then-count-ge-MAX_INSTANCES : goal.returns-then-count-ge-MAX_INSTANCES
returns-then-count-ge-MAX_INSTANCES c = λ d model marked is.
    let m = model_at d.models model in
    let l = looks d m c.args.self.now c.args.command.now c.in-Some.found marked is c.in-Some.is in
    let new = looks_new d m c.args.self.now c.args.command.now c.in-Some.found c.index.result.now l c.index.ensures c.if-index.false in
    let e : c.len.result ≡ length (trail_of c.args.self.now) = omega (arith, c.len.ensures, c.args.self.now.trail.ok, length-trail c.args.self.now) in
    inr (told_many d m c.args.self.now c.args.command.now c.in-Some.found c.args.count (record { found = l.found; new = new; shallow = omega arith }) c.if-count-ge-MAX_INSTANCES.true)

pub returns-in_ok-told_fault-in-Some-fault : goal.returns-in_ok-told_fault-in-Some-fault
returns-in_ok-told_fault-in-Some-fault c = λ d model marked is.
    let m = model_at d.models model in
    let l = looks d m c.args.self.now c.args.command.now c.in-Some.found marked is c.in-Some.is in
    let new = looks_new d m c.args.self.now c.args.command.now c.in-Some.found c.index.result.now l c.index.ensures c.if-index.false in
    let e : c.len.result ≡ length (trail_of c.args.self.now) = omega (arith, c.len.ensures, c.args.self.now.trail.ok, length-trail c.args.self.now) in
    let f = rw c.as_slice.ensures.value at c.in_ok-told_fault-in-Some-fault.ensures in
    inr (told_misfit d m c.args.self.now c.args.command.now c.in-Some.found c.args.count c.in-Some-fault.fault (record { found = l.found; new = new; shallow = omega arith })
    c.if-count-ge-MAX_INSTANCES.false c.in-Some-fault.is ∙ ap Some (sym f))

pub returns-in-None : goal.returns-in-None
returns-in-None c = λ d model marked is.
    let m = model_at d.models model in
    let l = looks d m c.args.self.now c.args.command.now c.in-Some.found marked is c.in-Some.is in
    let new = looks_new d m c.args.self.now c.args.command.now c.in-Some.found c.index.result.now l c.index.ensures c.if-index.false in
    let e : c.len.result ≡ length (trail_of c.args.self.now) = omega (arith, c.len.ensures, c.args.self.now.trail.ok, length-trail c.args.self.now) in
    told_none d m c.args.self.now c.args.command.now c.in-Some.found c.args.count (record { found = l.found; new = new; shallow = omega arith }) c.if-count-ge-MAX_INSTANCES.false c.in-None.is
