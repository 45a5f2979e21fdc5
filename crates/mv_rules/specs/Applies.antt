-- When a rule applies to a network, what it leaves, and which of its checks fails first.
use Rattle.std.specs.Prelude.{◌≡◌, ◌⊎◌, ℕ, Bool, true, false}
use Rattle.mv_entry.specs.declared.rule.Rule.{Rule}
use Rattle.mv_entry.specs.declared.rule.Rule.TheVariants.{Remove, Add, Divide, Wire, Collapse, Narrow, Fill, Merge, Encode}
use Rattle.mv_entry.specs.declared.fault.RuleFault.{RuleFault}
use Rattle.mv_entry.specs.declared.fault.RuleFault.TheVariants.{Nodes}
use Rattle.mv_flex.specs.declared.flexibility.Flexibility.{Flexibility}
use Rattle.mv_net.specs.declared.parts.NetParts.{NetParts}
use Rattle.mv_net.specs.Nets.{literals_in}
use Rattle.mv_plans.specs.Removing.{Removes, FailsRemove}
use Rattle.mv_plans.specs.Adding.{Adds, FailsAdd}
use Rattle.mv_plans.specs.Dividing.{Divides, FailsDivide}
use Rattle.mv_plans.specs.Wiring.{Wires, FailsWire}
use Rattle.mv_plans.specs.Collapsing.{Collapses, FailsCollapse}
use Rattle.mv_plans.specs.Filling.{Fills, FailsFill}
use Rattle.mv_plans.specs.Narrowing.{Narrows, FailsNarrow, NarrowLacksNodes, HasFlexibility, NarrowsWithin}
use Rattle.mv_plans.specs.Merging.{Merges, FailsMerge}
use Rattle.mv_plans.specs.Encoding.{Encodes, FailsEncode}

-- every check of the rule holds in the old network, and the rule makes the new one of it. Where
-- free, values under which the network allows nothing may be given any meaning; only `fill` asks
-- for it
abbrev pub Applies : Bool → Rule → NetParts → NetParts → Type 0
Applies free (Remove net) old new = Removes old net new
Applies free (Add net body) old new = Adds old net body new
Applies free (Divide net by body) old new = Divides old net by body new
Applies free (Wire net) old new = Wires old net new
Applies free (Collapse net) old new = Collapses old net new
Applies free (Narrow net d u body) old new = Narrows old net d u body new
Applies free (Fill net out) old new = Fills free old net out new
Applies free (Merge net gone into) old new = Merges old net gone into new
Applies free (Encode net names codes) old new = Encodes old net names codes new

-- this is the fault of the first check of the rule that fails
abbrev pub Fails : Bool → Rule → NetParts → RuleFault → Type 0
Fails free (Remove net) old f = FailsRemove old net f
Fails free (Add net body) old f = FailsAdd old net body f
Fails free (Divide net by body) old f = FailsDivide old net by body f
Fails free (Wire net) old f = FailsWire old net f
Fails free (Collapse net) old f = FailsCollapse old net f
Fails free (Narrow net d u body) old f = FailsNarrow old net d u body f
Fails free (Fill net out) old f = FailsFill free old net out f
Fails free (Merge net gone into) old f = FailsMerge old net gone into f
Fails free (Encode net names codes) old f = FailsEncode old net names codes f

-- the rule is a narrowing
abbrev pub is_narrowing : Rule → Bool
is_narrowing (Narrow net d u body) = true
is_narrowing _ = false

-- a pool of so many nodes of diagrams is too small to judge the rule in this network: only a
-- narrowing asks for one
abbrev pub LacksNodes : ℕ → Rule → NetParts → Type 0
LacksNodes budget (Narrow net d u body) old = NarrowLacksNodes budget old net d u
LacksNodes budget _ old = ⊥

-- why a rule isn't applied, but for want of memory: for want of nodes, which says nothing of it, or
-- for its first check that fails
abbrev pub Stops : Bool → ℕ → Rule → NetParts → RuleFault → Type 0
Stops free budget rule old f = ((f ≡ Nodes) × LacksNodes budget rule old) ⊎ Fails free rule old f

-- the rule is a narrowing, and f is the flexibility by which it is judged; each table below its net
-- is total
abbrev pub IsAtHand : NetParts → Rule → ℕ → Flexibility → Type 0
IsAtHand old (Narrow net d u body) budget f = HasFlexibility old net d u budget f
IsAtHand old _ budget f = ⊥

-- the rule is a narrowing to a table that allows less
abbrev pub LiesWithin : NetParts → Rule → Type 0
LiesWithin old (Narrow net d u body) = NarrowsWithin old net body
LiesWithin old _ = ⊥

-- the rule leaves each choice as it was
abbrev pub keeps_choices : Rule → Bool
keeps_choices (Remove net) = true
keeps_choices (Add net body) = true
keeps_choices (Divide net by body) = true
keeps_choices (Wire net) = true
keeps_choices (Collapse net) = true
keeps_choices (Merge net gone into) = true
keeps_choices (Encode net names codes) = true
keeps_choices _ = false

-- the rule applies, also where nothing is free, and leaves so many literals
pub record LeavesLiterals (rule : Rule) (old : NetParts) (literals : ℕ) : Type 0 where
  pub new : NetParts
  pub applies : Applies false rule old new
  pub counted : literals ≡ literals_in new.nets
