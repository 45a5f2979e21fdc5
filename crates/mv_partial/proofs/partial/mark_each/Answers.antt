-- The readers of the next net are marked, and so is it then.
use Rattle.std.proofs.Common.{◌≡◌, ◌+◌, ◌-◌, ◌<◌, List, length, drop, subst, arith}
use Rattle.mv_base.specs.declared.number.NetId.{NetId}
use Rattle.mv_net.proofs.Known.{is_held_below}
use Rattle.mv_partial.specs.Partial.{AreMarked}
use Rattle.mv_partial.proofs.Marking.{marked_more, next_held, readers_marked}
use Rattle.mv_partial.proofs.partial.mark_each.Goals as goal

pub is_partial-requires-clause-marked : goal.is_partial-requires-clause-marked
is_partial-requires-clause-marked c =
    let order : List NetId = c.args.order.now in
    let i = length order - 1 - c.loop-done.done in
    let low : i < length order = omega arith in
    let here : length order - c.loop-done.done ≡ i + 1 = omega arith in
    rw c.as_slice.ensures
    (readers_marked c.args.net.now order c.requires.order i low c.loop-done.marks (subst (λ k. AreMarked c.args.net.now.nets (drop k order) c.loop-done.marks) here c.loop-done.invariant))

pub replace-requires : goal.replace-requires
replace-requires c =
    let order : List NetId = c.args.order.now in
    let i = length order - 1 - c.loop-done.done in
    let low : i < length order = omega arith in
    omega (arith, c.loop-done.invariant.long, is_held_below c.args.net.now.nets _ (next_held c.args.net.now order c.requires.order i low))

pub loop-done-preserved : goal.loop-done-preserved
loop-done-preserved c =
    let order : List NetId = c.args.order.now in
    let i = length order - 1 - c.loop-done.done in
    let low : i < length order = omega arith in
    let here : length order - c.loop-done.done ≡ i + 1 = omega arith in
    let next : i ≡ length order - (c.loop-done.done + 1) = omega arith in
    subst (λ k. AreMarked c.args.net.now.nets (drop k order) c.replace.new.self) next
    (marked_more c.args.net.now order c.requires.order i low c.loop-done.marks c.replace.new.self c.in-Ok.partial
    (subst (λ k. AreMarked c.args.net.now.nets (drop k order) c.loop-done.marks) here c.loop-done.invariant) c.replace.ensures.items c.in-Ok.ensures)
