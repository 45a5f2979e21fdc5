-- No pool of nodes is ever full: there is none yet.
use Rattle.std.proofs.Common.{ℕ}
use Rattle.mv_entry.specs.declared.rule.Rule.{Rule}
use Rattle.mv_entry.specs.declared.rule.Rule.TheVariants.{Narrow}
use Rattle.mv_net.specs.declared.parts.NetParts.{NetParts}
use Rattle.mv_rules.specs.Applies.{LacksNodes}

pub nodes_never : (budget : ℕ) (rule : Rule) (net : NetParts) → LacksNodes budget rule net → ⊥
nodes_never budget (Narrow w d u body) net lacks = lacks.full.holds
nodes_never budget _ net lacks = lacks
