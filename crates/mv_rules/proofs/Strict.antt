-- What applies where nothing is free applies where others are free.
use Rattle.std.proofs.Common.{true, false, List, [], ◌∷◌}
use Rattle.std.proofs.lemmas.Bool.{false≢true}
use Rattle.mv_entry.specs.declared.rule.Rule.{Rule}
use Rattle.mv_entry.specs.declared.rule.Rule.TheVariants.{Remove, Add, Divide, Wire, Collapse, Narrow, Fill, Merge, Encode}
use Rattle.mv_net.specs.declared.parts.NetParts.{NetParts}
use Rattle.mv_rules.specs.Applies.{Applies}
use Rattle.mv_rules.specs.Replaying.{Replays}

pub strict_applied : (rule : Rule) (old new : NetParts) → Applies false rule old new → Applies true rule old new
strict_applied (Remove w) old new p = p
strict_applied (Add w body) old new p = p
strict_applied (Divide w by body) old new p = p
strict_applied (Wire w) old new p = p
strict_applied (Collapse w) old new p = p
strict_applied (Narrow w d u body) old new p = p
strict_applied (Fill w out) old new p = absurd (false≢true p.asked.asked)
strict_applied (Merge w gone into) old new p = p
strict_applied (Encode w names codes) old new p = p

pub strict_replayed : (rules : List Rule) (old new : NetParts) → Replays false rules old new → Replays true rules old new
strict_replayed [] old new p = p
strict_replayed (r ∷ rs) old new (mid, (applies, rest)) = (mid, (strict_applied r old mid applies, strict_replayed rs mid new rest))
