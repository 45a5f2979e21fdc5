-- What is told by the number of the values is what the table says.
use Rattle.std.proofs.Common.{◌∙◌, ◌<◌, length, List, ℕ, sym, ap, subst, arith}
use Rattle.mv_flex.specs.Spaces.{AreBelow, placed, code}
use Rattle.mv_flex.proofs.Looking.{part_below, looked_up}
use Rattle.mv_flex.proofs.truth.Truth.told.Goals as goal

pub number-number-requires : goal.number-number-requires
number-number-requires c =
    subst (λ (l : List ℕ). AreBelow c.args.self.now.space.counts (placed l c.args.values.now)) (sym c.as_slice-places.ensures) (part_below c.args.net.now.nets c.args.nets.now c.args.self.now.space c.args.self.now.places c.args.values.now c.requires.truth.part c.requires.point)

pub returns : goal.returns
returns c =
    looked_up c.args.net.now.nets c.args.nets.now c.args.self.now c.args.values.now c.args.marks.now c.number-number.result c.requires.truth c.requires.point c.requires.told
    (c.number-number.ensures.value ∙ ap (λ (l : List ℕ). code c.args.self.now.space.counts (placed l c.args.values.now)) c.as_slice-places.ensures)
    c.number-number.ensures.low
