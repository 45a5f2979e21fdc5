-- The merge that comes first at the least net that has one, by the net's name: the rule applies, and leaves the network behind it.
use Rattle.std.proofs.Common.{◌≡◌, ◌∙◌, ℕ, Bool, List, Option, refl, sym, ap}
use Rattle.mv_alike.specs.declared.next.NextMerge.{NextMerge}
use Rattle.mv_alike.proofs.Choosing.{next_lawful}
use Rattle.mv_base.specs.declared.number.Value.{Value}
use Rattle.mv_entry.specs.declared.rule.Rule.TheVariants.{Merge}
use Rattle.mv_entry.specs.Entries.{Applied}
use Rattle.mv_merging.specs.Nets.{net_behind}
use Rattle.mv_net.specs.declared.parts.NetParts.{NetParts}
use Rattle.mv_net.specs.Formed.{WellFormed}
use Rattle.mv_net.specs.Nets.{slot, name_in}
use Rattle.mv_pass.specs.Taking.{CanApply}
use Rattle.mv_plans.specs.Merging.{Merges}
use Rattle.mv_rules.specs.Applies.{Applies}
use Rattle.mv_rules.proofs.OneAnswer.{one_network}
use Rattle.mv_merge.specs.Merges.{CanMerge, IsFirstMerge, IsLeastMerge, IsMergeStep}
use Rattle.mv_merge.proofs.Behind.{held_tabled}

-- the merge that comes first may be made
abbrev pub can_first : (net : NetParts) (n : ℕ) (next : NextMerge) → IsFirstMerge net n next → CanMerge net n
can_first net n next merge =
    let lawful = next_lawful net n next merge.first in
    record { unseen = merge.unseen; table = merge.first.table; gone = next.gone; into = next.into; able = lawful.0; lossless = lawful.1 }

-- as may one by which the rule goes
abbrev pub can_rule : (old : NetParts) (name : List ℕ) (gone : Value) (into : Option Value) (new : NetParts) → (r : Merges old name gone into new) → CanMerge old r.number
can_rule old name gone into new r =
    record { unseen = r.unseen; table = r.net.table; gone = gone; into = into; able = r.form; lossless = r.lossless }

module _ (net : NetParts) (n : ℕ) (name : List ℕ) (next : NextMerge) (first : IsLeastMerge net n next) (named : name ≡ name_in (slot net.nets n)) where
  merges : Merges net name next.gone next.into (net_behind net n next.gone next.into)
  merges =
      let can = can_first net n next first.merge in
      let held = held_tabled (slot net.nets n) can.table in
      record {
        number = n;
        net = record { named = record { net = held.0; held = held.1; is = sym (named ∙ ap name_in held.1) }; table = can.table };
        unseen = can.unseen;
        form = can.able;
        lossless = can.lossless;
        new_is = refl;
      }

  pub can_apply : (free : Bool) → CanApply free (Merge name next.gone next.into) net
  can_apply free = record { new = net_behind net n next.gone next.into; applies = merges }

  pub is_step : IsMergeStep net (Applied (Merge name next.gone next.into))
  is_step = record { number = n; first = first; named = sym named }

  pub is_behind : (free : Bool) (new : NetParts) → WellFormed net → Applies free (Merge name next.gone next.into) net new → new ≡ net_behind net n next.gone next.into
  is_behind free new formed applies =
      one_network free (Merge name next.gone next.into) net new (net_behind net n next.gone next.into) formed applies merges
