-- The rule `remove`: a net that nobody sees or reads, and whose table is total, goes.
use Rattle.std.specs.Prelude.{◌≡◌, ℕ, List}
use Rattle.mv_entry.specs.declared.fault.RuleFault.{RuleFault}
use Rattle.mv_entry.specs.declared.fault.RuleFault.TheVariants.{Visible, Read, Partial}
use Rattle.mv_net.specs.declared.parts.NetParts.{NetParts}
use Rattle.mv_net.specs.Changes.{without}
use Rattle.mv_net.specs.Total.{IsTotalNet}
use Rattle.mv_plans.specs.Checks.{IsTabled, IsUnseen, IsUnread, Passed, Unless, With}

-- the net with this name goes
pub record Removes (old : NetParts) (name : List ℕ) (new : NetParts) : Type 0 where
  pub number : ℕ
  pub net : IsTabled old.nets name number
  pub unseen : IsUnseen old number
  pub unread : IsUnread old.nets number
  pub total : IsTotalNet old.nets number
  pub new_is : new ≡ without old number

-- the first check that fails, of the net with the name and of all
abbrev pub RemoveRow : NetParts → ℕ → RuleFault → Type 0
RemoveRow net n =
    Unless (IsUnseen net n) Visible
    (Unless (IsUnread net.nets n) Read (Unless (IsTotalNet net.nets n) Partial Passed))

abbrev pub FailsRemove : NetParts → List ℕ → RuleFault → Type 0
FailsRemove net name = With (IsTabled net.nets name) (RemoveRow net)
