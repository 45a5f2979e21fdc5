-- The least number of a latch above the reset value is that of the first such latch.
use Rattle.std.proofs.Common.{◌≡◌, ◌∙◌, ◌<◌, ◌+◌, ◌-◌, ap, sym, arith, length}
use Rattle.mv_design.specs.declared.design.FileLatch.{FileLatch}
use Rattle.mv_acyclic.proofs.Latches.{latch_read}
use Rattle.mv_acyclic.proofs.ResetValues.{alone_from_none, least_within, reading}
use Rattle.mv_acyclic.proofs.alone.check_reset.Goals as goal

pub returns-in_default-clause-alone : goal.returns-in_default-clause-alone
returns-in_default-clause-alone c = alone_from_none c.args.model.now c.args.reset.now c.requires.once (rw c.in_default.is at c.in_ok-net.ensures)

pub overflow_sub-place : goal.overflow_sub-place
overflow_sub-place c =
    let l = (least_within c.args.model.now c.args.reset.now c.in-Some.net (rw c.in-Some.is at c.in_ok-net.ensures)).from in
    omega (arith, l, c.len.ensures)

pub bounds-as_slice-place : goal.bounds-as_slice-place
bounds-as_slice-place c =
    let w = least_within c.args.model.now c.args.reset.now c.in-Some.net (rw c.in-Some.is at c.in_ok-net.ensures) in
    let l = w.from in
    let h = w.below in
    let s = ap length c.as_slice.ensures in
    omega (arith, l, h, s, c.len.ensures)

pub returns-clause-fault : goal.returns-clause-fault
returns-clause-fault c =
    let m = c.args.model.now in
    let reset = c.args.reset.now in
    let net = c.in-Some.net in
    let place = net.0 - c.len.result in
    let least = rw c.in-Some.is at c.in_ok-net.ensures in
    let w = least_within m reset net least in
    let low = w.from in
    let high = w.below in
    let e : net.0 ≡ length m.inputs + place = omega (arith, low, c.len.ensures) in
    let lt : place < length c.as_slice.result.now = (let s = ap length c.as_slice.ensures in omega (arith, low, high, s, c.len.ensures)) in
    reading m reset net place c.in_ok-output.field-0 c.in_ok-copy.field-0 c.requires.once c.requires.reset least e c.in_ok-output.ensures
    (latch_read m c.as_slice.result.now place c.index-as_slice-place.result c.in_ok-copy.field-0 c.as_slice.ensures lt c.index-as_slice-place.is
    (c.in_ok-copy.ensures ∙ ap (λ (x : FileLatch). x.output) (sym c.index-as_slice-place.is)))
