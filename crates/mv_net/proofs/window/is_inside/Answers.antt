-- A set finds a number where the list of its numbers has it.
use Rattle.std.proofs.Common.{◌∙◌}
use Rattle.mv_net.proofs.Reaching.{set-has_id}
use Rattle.mv_net.proofs.window.is_inside.Goals as goal

pub returns : goal.returns
returns c = c.contains.ensures ∙ set-has_id c.args.net c.args.tables.now.keys
