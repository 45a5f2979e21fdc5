-- The lemmas say it.
use Rattle.mv_values.proofs.Defaulted.{defaults_no_more, defaults_replay}
use Rattle.mv_values.proofs.laws.default_laws.Goals as goal

pub returns : goal.returns
returns c = record {
  replays = λ free old new steps v. defaults_replay free old new steps v;
  no_more = λ old new steps formed v. defaults_no_more old new steps formed v;
}
