-- Each held net has some values.
use Rattle.std.proofs.Common.{◌∙◌, ap}
use Rattle.mv_flex.specs.Spaces.{ways}
use Rattle.mv_flex.specs.Plans.{counts_of}
use Rattle.mv_flex.proofs.Held.{counts_some, is_counted, is_space}
use Rattle.mv_flex.proofs.space.Space.of.Goals as goal

pub ways-size-requires-clause-some : goal.ways-size-requires-clause-some
ways-size-requires-clause-some c =
    counts_some c.args.net.now c.args.nets c.as_slice-2.result.now c.well_formed-2.ensures c.requires.held (c.as_slice-2.ensures ∙ c.in_ok-counts.ensures ∙ ap (counts_of c.args.net.now.nets) c.as_slice.ensures)

pub invariant_of-result : goal.invariant_of-result
invariant_of-result c =
    is_counted c.args.net.now c.args.nets c.in_ok-counts.counts c.ways-size.result c.well_formed-2.ensures c.requires.held (c.in_ok-counts.ensures ∙ ap (counts_of c.args.net.now.nets) c.as_slice.ensures) (c.ways-size.ensures ∙ ap ways c.as_slice-2.ensures)

pub returns : goal.returns
returns c =
    is_space c.args.net.now c.args.nets _ _ c.well_formed-2.ensures c.requires.held (c.in_ok-counts.ensures ∙ ap (counts_of c.args.net.now.nets) c.as_slice.ensures) (c.ways-size.ensures ∙ ap ways c.as_slice-2.ensures)
