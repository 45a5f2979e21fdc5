-- The net and its fanins can be numbered, and are among the nets.
use Rattle.std.proofs.Common.{sym, subst}
use Rattle.mv_flex.specs.Plans.{IsNumbered}
use Rattle.mv_flex.proofs.Looking.{truth_made}
use Rattle.mv_flex.proofs.truth.Truth.of.Goals as goal

pub of-requires-clause-held : goal.of-requires-clause-held
of-requires-clause-held c = (subst (IsNumbered c.args.net.now.nets) (sym c.in_ok-joined.ensures) (c.requires.numbered c.fanins.result.now c.fanins.ensures)).held

pub of-requires-clause-few : goal.of-requires-clause-few
of-requires-clause-few c = (subst (IsNumbered c.args.net.now.nets) (sym c.in_ok-joined.ensures) (c.requires.numbered c.fanins.result.now c.fanins.ensures)).few

pub returns-clause-truth : goal.returns-clause-truth
returns-clause-truth c =
    truth_made c.args.net.now.nets c.args.nets.now c.args.n c.fanins.result.now _ c.nets.result.now c.in_ok-space.space c.in_ok-places.places c.in_ok-marks.marks c.requires c.fanins.ensures c.in_ok-space.ensures c.in_ok-joined.ensures c.nets.ensures c.in_ok-places.ensures c.in_ok-marks.ensures
