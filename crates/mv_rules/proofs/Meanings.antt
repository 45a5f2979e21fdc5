-- Whatever rule is applied, the network may take the old one's place, and means the same where the rule leaves each choice as it was.
use Rattle.std.proofs.Common.{◌≡◌, Bool, true, refl}
use Rattle.std.proofs.lemmas.Bool.{false≢true}
use Rattle.mv_base.proofs.Meanings.{Refines-from_same}
use Rattle.mv_base.specs.Meaning.{Refines, SameMeaning}
use Rattle.mv_entry.specs.declared.rule.Rule.{Rule}
use Rattle.mv_entry.specs.declared.rule.Rule.TheVariants.{Remove, Add, Divide, Wire, Collapse, Narrow, Fill, Merge, Encode}
use Rattle.mv_net.specs.declared.parts.NetParts.{NetParts}
use Rattle.mv_net.specs.Allowed.{of_net}
use Rattle.mv_net.specs.Formed.{WellFormed}
use Rattle.mv_rules.specs.Applies.{Applies, keeps_choices}
use Rattle.mv_plans.proofs.Removed.{removed_means}
use Rattle.mv_plans.proofs.Added.{added_is_same}
use Rattle.mv_plans.proofs.Divided.{divided_is_same}
use Rattle.mv_plans.proofs.Wired.{wired_is_same}
use Rattle.mv_plans.proofs.Collapsed.{collapsed_means_same}
use Rattle.mv_plans.proofs.Filled.{filled_refines}
use Rattle.mv_plans.proofs.Narrowed.{narrows_refines}
use Rattle.mv_plans.proofs.Merged.{merged_means}
use Rattle.mv_plans.proofs.Encoded.{encoded_means}

pub applied_means : (free : Bool) (rule : Rule) (old new : NetParts) → WellFormed old → keeps_choices rule ≡ true → Applies free rule old new → SameMeaning (of_net new) (of_net old)
applied_means free (Remove w) old new formed keeps p = removed_means old w new formed p
applied_means free (Add w body) old new formed keeps p = added_is_same old w body new formed p
applied_means free (Divide w by body) old new formed keeps p = divided_is_same old w by body new formed p
applied_means free (Wire w) old new formed keeps p = wired_is_same old w new formed p
applied_means free (Collapse w) old new formed keeps p = collapsed_means_same old w new formed p
applied_means free (Merge w gone into) old new formed keeps p = merged_means old w gone into new formed p
applied_means free (Encode w names codes) old new formed keeps p = encoded_means old w names codes new formed p
applied_means free _ old new formed keeps p = absurd (false≢true keeps)

same_refines : (free : Bool) (rule : Rule) (old new : NetParts) → WellFormed old → keeps_choices rule ≡ true → Applies free rule old new → Refines free (of_net new) (of_net old)
same_refines free rule old new formed keeps p = Refines-from_same free (of_net new) (of_net old) (applied_means free rule old new formed keeps p)

pub applied_refines : (free : Bool) (rule : Rule) (old new : NetParts) → WellFormed old → Applies free rule old new → Refines free (of_net new) (of_net old)
applied_refines free (Remove w) old new formed p = same_refines free (Remove w) old new formed refl p
applied_refines free (Add w body) old new formed p = same_refines free (Add w body) old new formed refl p
applied_refines free (Divide w by body) old new formed p = same_refines free (Divide w by body) old new formed refl p
applied_refines free (Wire w) old new formed p = same_refines free (Wire w) old new formed refl p
applied_refines free (Collapse w) old new formed p = same_refines free (Collapse w) old new formed refl p
applied_refines free (Narrow w d u body) old new formed p = narrows_refines old w d u body new formed p free
applied_refines free (Fill w out) old new formed p = filled_refines free old w out new formed p
applied_refines free (Merge w gone into) old new formed p = same_refines free (Merge w gone into) old new formed refl p
applied_refines free (Encode w names codes) old new formed p = same_refines free (Encode w names codes) old new formed refl p
