use Rattle.std.proofs.Common.{◌∙◌, ◌-◌, ap}
use Rattle.mv_gains.specs.Gains.{covers_at}
use Rattle.mv_gains.proofs.Readers.{readers_ascend, gain_readers}
use Rattle.mv_gains.proofs.worth.saved_by.Goals as goal

pub gain_of-requires-clause-places : goal.gain_of-requires-clause-places
gain_of-requires-clause-places c = readers_ascend covers_at c.args.net.now.nets c.args.covers.now c.args.key.0 c.readers.result.now c.requires.covers c.readers.ensures

pub returns : goal.returns
returns c = record {
  gain = c.in_ok-gain.gain;
  is = gain_readers c.args.net.now.nets c.args.covers.now c.args.key.0 c.readers.result.now c.requires.covers c.readers.ensures c.args.divisor.now c.in_ok-gain.gain c.requires.key c.in_ok-gain.ensures;
  less = c.saturating_sub.ensures ∙ ap (λ n. c.in_ok-gain.gain - n) c.literals.ensures.value;
}
