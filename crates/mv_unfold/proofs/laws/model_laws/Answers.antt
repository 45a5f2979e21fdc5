use Rattle.mv_unfold.proofs.Alone.{good_alone}
use Rattle.mv_unfold.proofs.OfWhole.{is_whole, driven_once, resets_of_whole, same_nets, within_limits}
use Rattle.mv_unfold.proofs.laws.model_laws.Goals as goal

pub returns : goal.returns
returns c = record { whole = is_whole; driven = driven_once; resets = resets_of_whole; nets = same_nets; limits = within_limits; alone = good_alone }
