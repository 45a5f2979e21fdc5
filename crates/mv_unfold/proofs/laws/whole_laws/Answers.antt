use Rattle.mv_unfold.proofs.Checked.{good_nets, short_names}
use Rattle.mv_unfold.proofs.Faultless.{no_faults}
use Rattle.mv_unfold.proofs.laws.whole_laws.Goals as goal

pub returns : goal.returns
returns c = record { good = good_nets; short = short_names; none = no_faults }
