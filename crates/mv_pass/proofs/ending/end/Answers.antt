-- The literals that are noted are those of the network.
use Rattle.std.proofs.Common.{refl}
use Rattle.mv_pass.proofs.Commands.{end_put}
use Rattle.mv_pass.proofs.ending.end.Goals as goal

pub returns-in-Ok : goal.returns-in-Ok
returns-in-Ok g c = record { puts = end_put c.args.net.now _ _ _ _ c.literals.ensures c.in-Ok.ensures; few = c.few_literals.ensures }

pub returns : goal.returns
returns g c = record {
  puts = (refl, (_, end_put c.args.net.now _ _ _ _ c.literals.ensures c.in-Err.ensures));
  few = c.few_literals.ensures;
}
