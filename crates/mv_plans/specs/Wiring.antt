-- The rule `wire`: the readers of a plain buffer read its fanin in place of it.
use Rattle.std.specs.Prelude.{◌≡◌, ℕ, Option, List}
use Rattle.mv_composite.specs.Wired.{wired}
use Rattle.mv_entry.specs.declared.fault.RuleFault.{RuleFault}
use Rattle.mv_entry.specs.declared.fault.RuleFault.TheVariants.{NotSame, Unread}
use Rattle.mv_meaning.specs.Rewriting.{rewritten}
use Rattle.mv_net.specs.declared.parts.FlatNet.{FlatNet}
use Rattle.mv_net.specs.declared.parts.NetParts.{NetParts}
use Rattle.mv_net.specs.Changes.{with_nets}
use Rattle.mv_net.specs.Plain.{IsPlainBuffer}
use Rattle.mv_plans.specs.Checks.{IsTabled, IsRead, Passed, Unless, With}

-- the net is a plain buffer of some net
pub record IsBuffer (nets : List (Option FlatNet)) (n : ℕ) : Type 0 where
  pub source : ℕ
  pub buffer : IsPlainBuffer nets n source

-- the readers of the net with this name read its fanin
pub record Wires (old : NetParts) (name : List ℕ) (new : NetParts) : Type 0 where
  pub number : ℕ
  pub net : IsTabled old.nets name number
  pub same : IsBuffer old.nets number
  pub read : IsRead old.nets number
  pub new_is : new ≡ with_nets old (rewritten (wired number same.source) number old.nets)

-- the first check that fails, of the net with the name and of all
abbrev pub WireRow : NetParts → ℕ → RuleFault → Type 0
WireRow net n = Unless (IsBuffer net.nets n) NotSame (Unless (IsRead net.nets n) Unread Passed)

abbrev pub FailsWire : NetParts → List ℕ → RuleFault → Type 0
FailsWire net name = With (IsTabled net.nets name) (WireRow net)
