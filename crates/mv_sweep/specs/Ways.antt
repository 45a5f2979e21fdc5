-- On the way through a `sweep`: the rule for a net, and what a step leaves. For private functions.
use Rattle.std.specs.Prelude.{◌≡◌, ℕ, ◌<◌, List}
use Rattle.mv_agenda.specs.Agenda.{AllWaitBut}
use Rattle.mv_entry.specs.declared.rule.Rule.{Rule}
use Rattle.mv_entry.specs.declared.rule.Rule.TheVariants.{Remove, Wire, Collapse}
use Rattle.mv_locality.specs.Local.{StaysAround}
use Rattle.mv_locality.proofs.Steps.{steps_left}
use Rattle.mv_net.specs.declared.parts.NetParts.{NetParts}
use Rattle.mv_net.specs.Changes.{with_nets}
use Rattle.mv_net.specs.Formed.{WellFormed}
use Rattle.mv_net.specs.Total.{IsRemovable}
use Rattle.mv_gain.specs.declared.kept.KeptComposites.{KeptComposites}
use Rattle.mv_gain.specs.Kept.{AreRight, RightBehind}
use Rattle.mv_sweep.specs.declared.way.Way.{Way}
use Rattle.mv_sweep.specs.declared.way.Way.TheVariants.{Remove as by_removal, Wire as by_wiring, Collapse as by_collapse}
use Rattle.mv_sweep.specs.Sweeps.{IsWirable, IsFoldable, IsSweptNet}

-- the rule for the net with this name
abbrev pub rule_for : Way → List ℕ → Rule
rule_for by_removal name = Remove name
rule_for by_wiring name = Wire name
rule_for by_collapse name = Collapse name

-- the rule applies to the net at n
abbrev pub IsWay : NetParts → ℕ → Way → Type 0
IsWay net n by_removal = IsRemovable net n
IsWay net n by_wiring = IsWirable net n
IsWay net n by_collapse = IsFoldable net n

-- some rule applies to the net at n
pub record CanSweep (net : NetParts) (n : ℕ) : Type 0 where
  pub way : Way
  pub is : IsWay net n way

-- the net at n is the least to which a rule applies
pub record IsLeastWay (net : NetParts) (n : ℕ) (way : Way) : Type 0 where
  pub way_is : IsWay net n way
  pub least : (m : ℕ) → m < n → IsSweptNet net m

-- and each other to which one applies waits
pub record IsNext (net : NetParts) (agenda : List ℕ) (n : ℕ) (way : Way) : Type 0 where
  pub first : IsLeastWay net n way
  pub others : AllWaitBut (CanSweep net) agenda n

-- nothing changed but near the net at n, what was kept of composites is right, and fewer steps are
-- left
pub record StepsAround (old new : NetParts) (n : ℕ) : Type 0 where
  pub around : StaysAround old.nets new.nets n
  pub same : new ≡ with_nets old new.nets
  pub formed : WellFormed new
  pub right : (kept : KeptComposites) → RightBehind old n kept → AreRight new.nets kept
  pub fewer : steps_left new.nets < steps_left old.nets
