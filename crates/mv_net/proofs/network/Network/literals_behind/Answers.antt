-- What goes was there, and what comes is little.
use Rattle.std.proofs.Common.{◌≡◌, ◌∙◌, ◌+◌, ap, length, arith}
use Rattle.mv_net.specs.declared.parts.NetParts.{NetParts}
use Rattle.mv_net.specs.Behind.{literals_gone, literals_before, literals_given, literals_added}
use Rattle.mv_net.specs.Changes.{changed}
use Rattle.mv_net.specs.Nets.{literals_in}
use Rattle.mv_net.proofs.Literals.{listed_few, set_few, literals_changed}
use Rattle.mv_net.proofs.network.Network.literals_behind.Goals as goal
use Rattle.mv_net.proofs.network.Network.literals_behind.Goals.{After-literals}

-- the sums are those of the change
record Summed (c : After-literals) : Type 0 where
  all : literals_in (changed c.args.self.now c.args.change.now).nets + (c.literals_gone.result + c.literals_before.result) ≡ c.literals.result + (c.literals_given.result + c.literals_added.result)

summed : (c : After-literals) → Summed c
summed c =
    let net = c.args.self.now in
    let change = c.args.change.now in
    let nets = ap (λ (p : NetParts). p.nets) c.parts.ensures in
    let gone : c.literals_gone.result ≡ literals_gone net.nets change.gone = c.literals_gone.ensures.value ∙ (λ i. literals_gone ((c.as_slice-nets.ensures ∙ nets) i) (c.as_slice.ensures i)) in
    let before : c.literals_before.result ≡ literals_before net.nets change.set = c.literals_before.ensures.value ∙ (λ i. literals_before ((c.as_slice-nets.ensures ∙ nets) i) (c.as_slice-set.ensures i)) in
    let given : c.literals_given.result ≡ literals_given change.set = c.literals_given.ensures.value ∙ ap literals_given c.as_slice-set.ensures in
    let added : c.literals_added.result ≡ literals_added change.add = c.literals_added.ensures.value ∙ ap literals_added c.as_slice-2.ensures in
    record { all = omega (arith, literals_changed net change c.requires.fits, gone, before, given, added, c.literals.ensures) }

pub literals_gone-requires : goal.literals_gone-requires
literals_gone-requires c = omega (arith, ap length c.as_slice.ensures, listed_few c.args.self.now.nets c.args.change.now.gone c.requires.fits.gone, c.requires.few)

pub literals_before-requires : goal.literals_before-requires
literals_before-requires c = omega (arith, ap length c.as_slice-set.ensures, set_few c.args.self.now.nets c.args.change.now.set c.requires.fits.set, c.requires.few)

pub overflow_add-lost : goal.overflow_add-lost
overflow_add-lost c = omega (arith, c.literals_gone.ensures.few, c.literals_before.ensures.few)

pub literals_given-requires : goal.literals_given-requires
literals_given-requires c = omega (arith, ap length c.as_slice-set.ensures, set_few c.args.self.now.nets c.args.change.now.set c.requires.fits.set, c.requires.few)

pub overflow_add-won : goal.overflow_add-won
overflow_add-won c = omega (arith, c.literals_given.ensures.few, c.literals_added.ensures.few)

pub overflow_add-result : goal.overflow_add-result
overflow_add-result c = omega (arith, c.few_literals.ensures, c.literals.ensures, c.literals_given.ensures.few, c.literals_added.ensures.few)

pub overflow_sub-result : goal.overflow_sub-result
overflow_sub-result c = omega (arith, (summed c).all)

pub returns : goal.returns
returns c = omega (arith, (summed c).all)
