-- What the command `drop` does to a network.
use Rattle.std.specs.Prelude.{◌≡◌, ℕ, ◌<◌, Bool, List}
use Rattle.mv_entry.specs.declared.rule.Rule.TheVariants.{Remove}
use Rattle.mv_entry.specs.Entries.{Entry, Applied}
use Rattle.mv_net.specs.declared.parts.NetParts.{NetParts}
use Rattle.mv_net.specs.Nets.{slot, name_in}
use Rattle.mv_net.specs.Total.{IsRemovable}
use Rattle.mv_pass.specs.Courses.{Course, Until}
use Rattle.mv_pass.specs.Going.{Goes}

-- no net can go
pub record NoneLeft (net : NetParts) : Type 0 where
  pub none : (n : ℕ) → IsRemovable net n → ⊥

-- no net below this number can go
pub record NoneBelow (net : NetParts) (from : ℕ) : Type 0 where
  pub none : (n : ℕ) → n < from → IsRemovable net n → ⊥

-- the net at n is the least-numbered that can go
pub record IsLeastRemovable (net : NetParts) (n : ℕ) : Type 0 where
  pub removable : IsRemovable net n
  pub least : NoneBelow net n

-- the least-numbered net that can go has this name
pub record IsLeastNamed (net : NetParts) (name : List ℕ) : Type 0 where
  pub number : ℕ
  pub first : IsLeastRemovable net number
  pub named : name_in (slot net.nets number) ≡ name

-- the steps of `drop`: the least-numbered net that can go goes
abbrev pub IsDropStep : NetParts → Entry → Type 0
IsDropStep net (Applied (Remove name)) = IsLeastNamed net name
IsDropStep net _ = ⊥

-- some steps of `drop`
abbrev pub DropsSome : Bool → Course
DropsSome free = Goes free IsDropStep

-- all of `drop`: steps until no net can go
abbrev pub DropsAll : Bool → Course
DropsAll free = Until (DropsSome free) NoneLeft
