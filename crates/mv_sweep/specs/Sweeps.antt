-- What the command `sweep` does to a network.
use Rattle.std.specs.Prelude.{◌≡◌, ℕ, ◌<◌, Bool, Option, List, [], ◌∷◌}
use Rattle.mv_entry.specs.declared.rule.Rule.{Rule}
use Rattle.mv_entry.specs.declared.rule.Rule.TheVariants.{Remove, Wire, Collapse}
use Rattle.mv_entry.specs.Entries.{Entry, Applied, rule_names}
use Rattle.mv_net.specs.declared.parts.FlatNet.{FlatNet}
use Rattle.mv_net.specs.declared.parts.NetParts.{NetParts}
use Rattle.mv_net.specs.Nets.{slot, name_in}
use Rattle.mv_net.specs.Plain.{IsPlainConstant}
use Rattle.mv_net.specs.Total.{IsRemovable}
use Rattle.mv_pass.specs.Courses.{Course, Until}
use Rattle.mv_pass.specs.Going.{Goes}
use Rattle.mv_plans.specs.Checks.{IsUnseen, IsRead}
use Rattle.mv_plans.specs.Collapsing.{HasComposites}
use Rattle.mv_plans.specs.Wiring.{IsBuffer}

-- the net's table gives one value everywhere
pub record IsConstant (nets : List (Option FlatNet)) (n : ℕ) : Type 0 where
  pub value : ℕ
  pub constant : IsPlainConstant nets n value

-- the net is a plain buffer that other nets read and nobody else sees
pub record IsWirable (net : NetParts) (n : ℕ) : Type 0 where
  pub unseen : IsUnseen net n
  pub read : IsRead net.nets n
  pub buffer : IsBuffer net.nets n

-- the net is a plain constant that other nets read and nobody else sees, and no reader's composite
-- is too wide
pub record IsFoldable (net : NetParts) (n : ℕ) : Type 0 where
  pub unseen : IsUnseen net n
  pub read : IsRead net.nets n
  pub constant : IsConstant net.nets n
  pub composites : HasComposites net.nets n

-- the net isn't one that nobody sees or reads and whose table is total; and if other nets alone
-- read it, it is no plain buffer, and no plain constant but one that is too wide in some reader
pub record IsSweptNet (net : NetParts) (n : ℕ) : Type 0 where
  pub removable : IsRemovable net n → ⊥
  pub wirable : IsWirable net n → ⊥
  pub foldable : IsFoldable net n → ⊥

-- each net is such
pub record IsSwept (net : NetParts) : Type 0 where
  pub each : (n : ℕ) → IsSweptNet net n

-- the rule is one of `sweep`, and applies to a net at n
abbrev pub Sweeps : NetParts → ℕ → Rule → Type 0
Sweeps net n (Remove name) = IsRemovable net n
Sweeps net n (Wire name) = IsWirable net n
Sweeps net n (Collapse name) = IsFoldable net n
Sweeps net n _ = ⊥

-- the rule is the one for the least-numbered net to which one applies, and names it
pub record SweepsLeast (net : NetParts) (rule : Rule) : Type 0 where
  pub number : ℕ
  pub sweeps : Sweeps net number rule
  pub least : (n : ℕ) → n < number → IsSweptNet net n
  pub names : rule_names rule ≡ name_in (slot net.nets number) ∷ []

-- the steps of `sweep`: the rule for the least-numbered net to which one applies
abbrev pub IsSweepStep : NetParts → Entry → Type 0
IsSweepStep net (Applied rule) = SweepsLeast net rule
IsSweepStep net _ = ⊥

-- some steps of `sweep`
abbrev pub SweepsSome : Bool → Course
SweepsSome free = Goes free IsSweepStep

-- all of `sweep`: steps until no rule applies
abbrev pub SweepsAll : Bool → Course
SweepsAll free = Until (SweepsSome free) IsSwept
