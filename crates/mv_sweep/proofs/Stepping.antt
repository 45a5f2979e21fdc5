-- The least net that can go, by its name: the rule that removes it applies, and leaves the network without it.
use Rattle.std.proofs.Common.{◌≡◌, ◌∙◌, ℕ, Bool, List, Option, is_some, refl, sym, ap}
use Rattle.mv_cover.specs.declared.cover.Cover.{Cover}
use Rattle.mv_entry.specs.declared.rule.Rule.TheVariants.{Remove}
use Rattle.mv_entry.specs.Entries.{Applied}
use Rattle.mv_net.specs.declared.parts.NetParts.{NetParts}
use Rattle.mv_net.specs.Changes.{without}
use Rattle.mv_net.specs.Formed.{WellFormed}
use Rattle.mv_net.specs.Nets.{slot, name_in, table_in}
use Rattle.mv_net.specs.Total.{IsRemovable}
use Rattle.mv_rules.specs.Applies.{Applies}
use Rattle.mv_plans.specs.Removing.{Removes}
use Rattle.mv_rules.proofs.OneAnswer.{one_network}
use Rattle.mv_pass.specs.Taking.{CanApply}
use Rattle.mv_sweep.specs.Drops.{IsLeastRemovable, IsDropStep}

-- a net that can go, by its name
pub removes : (net : NetParts) (n : ℕ) (name : List ℕ) → IsRemovable net n → name ≡ name_in (slot net.nets n) → Removes net name (without net n)
removes net n name can named = record {
  number = n;
  net = record {
    named = record { net = can.total.net; held = can.total.held; is = sym (named ∙ ap name_in can.total.held) };
    table = ap (λ f. is_some (table_in f)) can.total.held ∙ ap (λ (c : Option Cover). is_some c) can.total.table;
  };
  unseen = record { unseen = can.unseen };
  unread = record { unread = can.unread };
  total = can.total;
  new_is = refl;
}

module _ (net : NetParts) (n : ℕ) (name : List ℕ) (first : IsLeastRemovable net n) (named : name ≡ name_in (slot net.nets n)) where
  pub can_go : (free : Bool) → CanApply free (Remove name) net
  can_go free = record { new = without net n; applies = removes net n name first.removable named }

  pub gone : (free : Bool) (new : NetParts) → WellFormed net → Applies free (Remove name) net new → new ≡ without net n
  gone free new formed applies = one_network free (Remove name) net new (without net n) formed applies (removes net n name first.removable named)

  pub is_step : IsDropStep net (Applied (Remove name))
  is_step = record { number = n; first = first; named = sym named }
