use Rattle.mv_unfold.proofs.Sound.{fault_excludes, one_sound}
use Rattle.mv_unfold.proofs.laws.sound_laws.Goals as goal

pub returns : goal.returns
returns c = record { none = fault_excludes; one = one_sound }
