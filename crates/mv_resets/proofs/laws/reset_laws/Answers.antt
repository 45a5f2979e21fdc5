-- Both laws are lemmas.
use Rattle.mv_resets.proofs.SoundNets.{sound_nets}
use Rattle.mv_resets.proofs.Valued.{same_meaning}
use Rattle.mv_resets.proofs.laws.reset_laws.Goals as goal

pub returns : goal.returns
returns c = record { sound = sound_nets; means = same_meaning }
