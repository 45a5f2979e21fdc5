-- Each sum has that of the pair more.
use Rattle.std.proofs.Common.{◌+◌, refl, ap}
use Rattle.mv_gain.proofs.Summed.{put_summed}
use Rattle.mv_gain.proofs.row.Row.put.Goals as goal

pub returns-clause-summed : goal.returns-clause-summed
returns-clause-summed c =
    put_summed c.args.self.now _ c.args.reader c.args.pair c.requires.summed c.in_ok-insert.ensures.ordered c.in_ok-insert.ensures.entries c.requires.absent
    (record {
      coming = ap (λ x. c.args.self.now.coming + x) c.literals_of.ensures;
      going = refl;
      wide = ap (λ x. c.args.self.now.wide + x) c.width_of.ensures.value;
    })
