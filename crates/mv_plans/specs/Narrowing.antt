-- The rule `narrow`: a table gives way to one that allows less, as far as what is seen of a window
-- round its net lets it.
use Rattle.std.specs.Prelude.{◌≡◌, ◌⊎◌, ℕ, ◌≤◌, Option, Some, None, List}
use Rattle.mv_base.specs.declared.limits.TheConstants.{MAX_WINDOW_STEPS}
use Rattle.mv_cover.specs.declared.cover.Cover.{Cover}
use Rattle.mv_cover.specs.Covers.{cover_reads}
use Rattle.mv_entry.specs.declared.rule.Body.{Body}
use Rattle.mv_entry.specs.declared.fault.RuleFault.{RuleFault}
use Rattle.mv_entry.specs.declared.fault.RuleFault.TheVariants.{NoNet, Form, Nodes, Outside as outside, Partial as partial, Window as wide_window, Lost as lost}
use Rattle.mv_flex.specs.declared.flexibility.Flexibility.{Flexibility}
use Rattle.mv_flex.specs.Flex.{IsOverFanins, KeepsChoice, NodesCause, TooWide}
use Rattle.mv_flex.specs.Flexibilities.{IsFlex}
use Rattle.mv_body.specs.Bodies.{AreKnown, IsTidy, cover_said}
use Rattle.mv_meaning.specs.Narrowing.{AreTotalBelow, ReadsWithin}
use Rattle.mv_meaning.specs.Rewriting.{with_net_table}
use Rattle.mv_narrow.specs.declared.verdict.NarrowVerdict.{NarrowVerdict}
use Rattle.mv_narrow.specs.declared.verdict.NarrowVerdict.TheVariants.{Partial, TooWide as IsWide, NoNodes, Outside, Lost, Lawful}
use Rattle.mv_narrow.specs.Verdicts.{AllowsLess, HasWindow, IsInside}
use Rattle.mv_net.specs.declared.parts.FlatNet.{FlatNet}
use Rattle.mv_net.specs.declared.parts.NetParts.{NetParts}
use Rattle.mv_net.specs.declared.window.Window.{Window}
use Rattle.mv_net.specs.Changes.{with_nets}
use Rattle.mv_net.specs.Nets.{slot, values_in, table_in}
use Rattle.mv_net.specs.Window.{IsWindow}
use Rattle.mv_plans.specs.Checks.{IsTabled, Passed, Unless, With}

-- the body is tidy, and the window goes no further than windows may
pub record IsNarrowForm (nets : List (Option FlatNet)) (n d u : ℕ) (body : Body) : Type 0 where
  pub tidy : IsTidy nets (values_in (slot nets n)) body
  pub down : d ≤ MAX_WINDOW_STEPS
  pub up : u ≤ MAX_WINDOW_STEPS

-- the window isn't too wide
abbrev pub IsNarrowWindow : NetParts → Window → Type 0
IsNarrowWindow net w = TooWide net w → ⊥

-- the new table allows something wherever the table of n does
pub record KeepsChoices (nets : List (Option FlatNet)) (n : ℕ) (new : Cover) : Type 0 where
  pub each : (old : Cover) → table_in (slot nets n) ≡ Some old → KeepsChoice nets n old new

-- the net with this name gets the body
pub record Narrows (old : NetParts) (name : List ℕ) (d u : ℕ) (body : Body) (new : NetParts)
    : Type 0 where
  pub number : ℕ
  pub net : IsTabled old.nets name number
  pub known : AreKnown old.nets body
  pub form : IsNarrowForm old.nets number d u body
  pub table : Cover
  pub table_is : table_in (slot old.nets number) ≡ Some table
  pub reads : ReadsWithin table (cover_said old.nets body)
  pub below : AreTotalBelow old.nets number
  pub inside : HasWindow old number d u (IsInside old number (cover_said old.nets body))
  pub keeps : KeepsChoice old.nets number table (cover_said old.nets body)
  pub new_is : new ≡ with_nets old (with_net_table old.nets number (cover_said old.nets body))

-- the first check that fails: of what the new table allows, of the body, and of all
abbrev pub NarrowedRow : NetParts → ℕ → ℕ → ℕ → Cover → RuleFault → Type 0
NarrowedRow net n d u new =
    Unless (AreTotalBelow net.nets n) partial (
    Unless (HasWindow net n d u (IsNarrowWindow net)) wide_window (
    Unless (HasWindow net n d u (IsInside net n new)) outside (
    Unless (KeepsChoices net.nets n new) lost
    Passed)))

abbrev pub NarrowRow : ℕ → ℕ → Body → NetParts → ℕ → RuleFault → Type 0
NarrowRow d u body net n =
    Unless (AreKnown net.nets body) NoNet (
    Unless (IsNarrowForm net.nets n d u body) Form (
    Unless (IsOverFanins net.nets n (cover_reads (cover_said net.nets body))) outside (
    NarrowedRow net n d u (cover_said net.nets body))))

abbrev pub FailsNarrow : NetParts → List ℕ → ℕ → ℕ → Body → RuleFault → Type 0
FailsNarrow net name d u body = With (IsTabled net.nets name) (NarrowRow d u body net)

-- in the window round the net with this name a pool of so many nodes is full
pub record NarrowLacksNodes (budget : ℕ) (old : NetParts) (name : List ℕ) (d u : ℕ) : Type 0 where
  pub number : ℕ
  pub net : IsTabled old.nets name number
  pub full : HasWindow old number d u (λ w. NodesCause old w budget)

-- f is the flexibility of the net with this name, in its window that goes so far, which isn't too
-- wide; and each table below is total
pub record HasFlexibility (old : NetParts) (name : List ℕ) (d u budget : ℕ) (f : Flexibility)
    : Type 0 where
  pub number : ℕ
  pub net : IsTabled old.nets name number
  pub below : AreTotalBelow old.nets number
  pub window : Window
  pub is : IsWindow old number d u window
  pub narrow : TooWide old window → ⊥
  pub flex : IsFlex old window number budget f

-- where the body may be the table of the net with this name, and reads what that reads, it allows
-- less than that
pub record NarrowsWithin (old : NetParts) (name : List ℕ) (body : Body) : Type 0 where
  pub less : (n : ℕ) (table : Cover) → IsTabled old.nets name n
      → table_in (slot old.nets n) ≡ Some table
      → AreKnown old.nets body → IsTidy old.nets (values_in (slot old.nets n)) body
      → ReadsWithin table (cover_said old.nets body)
      → AllowsLess old.nets n table (cover_said old.nets body)

-- ---- what private functions alone cite

-- the checks of the body hold
pub record IsNarrowBody (nets : List (Option FlatNet)) (n d u : ℕ) (body : Body) : Type 0 where
  pub known : AreKnown nets body
  pub form : IsNarrowForm nets n d u body
  pub reads : IsOverFanins nets n (cover_reads (cover_said nets body))

-- the checks of what the new table allows hold
pub record IsLawfulHere (net : NetParts) (n d u : ℕ) (new : Cover) : Type 0 where
  pub below : AreTotalBelow net.nets n
  pub inside : HasWindow net n d u (IsInside net n new)
  pub keeps : KeepsChoices net.nets n new

-- the nodes are too few, or one of these checks fails
abbrev pub StopsNarrowed : ℕ → NetParts → ℕ → ℕ → ℕ → Cover → RuleFault → Type 0
StopsNarrowed budget net n d u new f =
    ((f ≡ Nodes) × HasWindow net n d u (λ w. NodesCause net w budget)) ⊎ NarrowedRow net n d u new f

-- the nodes are too few, or some check of the rule fails
abbrev pub StopsNarrow : ℕ → NetParts → List ℕ → ℕ → ℕ → Body → RuleFault → Type 0
StopsNarrow budget net name d u body f = ((f ≡ Nodes) × NarrowLacksNodes budget net name d u)
    ⊎ FailsNarrow net name d u body f

-- the fault for a verdict; a lawful table has none
abbrev pub fault_for : NarrowVerdict → Option RuleFault
fault_for Partial = Some partial
fault_for IsWide = Some wide_window
fault_for NoNodes = Some Nodes
fault_for Outside = Some outside
fault_for Lost = Some lost
fault_for Lawful = None

-- each table below n is total, and the window isn't too wide
pub record IsWithinReach (net : NetParts) (n d u : ℕ) : Type 0 where
  pub below : AreTotalBelow net.nets n
  pub narrow : HasWindow net n d u (IsNarrowWindow net)
