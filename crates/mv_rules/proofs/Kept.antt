-- What every rule keeps: that the network is well formed, and its latches.
use Rattle.std.proofs.Common.{◌≡◌, Bool, ap}
use Rattle.mv_entry.specs.declared.rule.Rule.{Rule}
use Rattle.mv_entry.specs.declared.rule.Rule.TheVariants.{Remove, Add, Divide, Wire, Collapse, Narrow, Fill, Merge, Encode}
use Rattle.mv_net.specs.declared.parts.NetParts.{NetParts}
use Rattle.mv_net.specs.Changes.{with_nets}
use Rattle.mv_net.specs.Formed.{WellFormed}
use Rattle.mv_rules.specs.Applies.{Applies}
use Rattle.mv_plans.proofs.Removed.{removed_formed}
use Rattle.mv_plans.proofs.Added.{added_is_formed}
use Rattle.mv_plans.proofs.Divided.{divided_is_formed}
use Rattle.mv_plans.proofs.Wired.{wired_is_formed}
use Rattle.mv_plans.proofs.Collapsed.{collapses_formed}
use Rattle.mv_plans.proofs.Filled.{filled_formed}
use Rattle.mv_plans.proofs.Narrowed.{narrows_formed}
use Rattle.mv_plans.proofs.Merged.{merged_formed}
use Rattle.mv_plans.proofs.Encoded.{encoded_formed}
use Rattle.mv_coding.specs.Nets.{net_coded}
use Rattle.mv_merging.specs.Nets.{net_behind}

pub kept_formed : (free : Bool) (rule : Rule) (old new : NetParts) → WellFormed old → Applies free rule old new → WellFormed new
kept_formed free (Remove w) old new formed p = removed_formed old w new formed p
kept_formed free (Add w body) old new formed p = added_is_formed old w body new formed p
kept_formed free (Divide w by body) old new formed p = divided_is_formed old w by body new formed p
kept_formed free (Wire w) old new formed p = wired_is_formed old w new formed p
kept_formed free (Collapse w) old new formed p = collapses_formed old w new formed p
kept_formed free (Narrow w d u body) old new formed p = narrows_formed old w d u body new formed p
kept_formed free (Fill w out) old new formed p = filled_formed free old w out new formed p
kept_formed free (Merge w gone into) old new formed p = merged_formed old w gone into new formed p
kept_formed free (Encode w names codes) old new formed p = encoded_formed old w names codes new formed p

pub kept_latches : (free : Bool) (rule : Rule) (old new : NetParts) → Applies free rule old new → new.latches ≡ old.latches
unfolding with_nets net_behind net_coded
kept_latches free (Remove w) old new p = ap (λ (n : NetParts). n.latches) p.new_is
kept_latches free (Add w body) old new p = ap (λ (n : NetParts). n.latches) p.new_is
kept_latches free (Divide w by body) old new p = ap (λ (n : NetParts). n.latches) p.new_is
kept_latches free (Wire w) old new p = ap (λ (n : NetParts). n.latches) p.new_is
kept_latches free (Collapse w) old new p = ap (λ (n : NetParts). n.latches) p.new_is
kept_latches free (Narrow w d u body) old new p = ap (λ (n : NetParts). n.latches) p.new_is
kept_latches free (Fill w out) old new p = ap (λ (n : NetParts). n.latches) p.new_is
kept_latches free (Merge w gone into) old new p = ap (λ (n : NetParts). n.latches) p.new_is
kept_latches free (Encode w names codes) old new p = ap (λ (n : NetParts). n.latches) p.new_is
