-- The rule `merge`: one value of a net goes, into another or because the net never has it.
use Rattle.std.specs.Prelude.{◌≡◌, ℕ, Option, List}
use Rattle.mv_base.specs.declared.number.Value.{Value}
use Rattle.mv_entry.specs.declared.fault.RuleFault.{RuleFault}
use Rattle.mv_entry.specs.declared.fault.RuleFault.TheVariants.{Visible, Form, NotSame}
use Rattle.mv_merging.specs.Nets.{net_behind}
use Rattle.mv_merging.specs.Verdicts.{AreMergeable, IsMergeLossless}
use Rattle.mv_net.specs.declared.parts.NetParts.{NetParts}
use Rattle.mv_net.specs.Nets.{slot, values_in}
use Rattle.mv_plans.specs.Checks.{IsTabled, IsUnseen, Passed, Unless, With}

-- of the net with this name the value goes, into the other one if there is one
pub record Merges (old : NetParts) (name : List ℕ) (gone : Value) (into : Option Value)
    (new : NetParts) : Type 0 where
  pub number : ℕ
  pub net : IsTabled old.nets name number
  pub unseen : IsUnseen old number
  pub form : AreMergeable (values_in (slot old.nets number)) gone into
  pub lossless : IsMergeLossless old.nets number gone into
  pub new_is : new ≡ net_behind old number gone into

-- the first check that fails, of the net with the name and of all
abbrev pub MergeRow : Value → Option Value → NetParts → ℕ → RuleFault → Type 0
MergeRow gone into net n =
    Unless (IsUnseen net n) Visible (
    Unless (AreMergeable (values_in (slot net.nets n)) gone into) Form (
    Unless (IsMergeLossless net.nets n gone into) NotSame
    Passed))

abbrev pub FailsMerge : NetParts → List ℕ → Value → Option Value → RuleFault → Type 0
FailsMerge net name gone into = With (IsTabled net.nets name) (MergeRow gone into net)
