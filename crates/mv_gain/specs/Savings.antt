-- Nets that can go into their readers with no more literals than before, and nets that can't
-- because a composite is too wide.
use Rattle.std.specs.Prelude.{◌≡◌, ℕ, ◌<◌, ◌≤◌, true, is_some}
use Rattle.mv_entry.specs.declared.fault.RuleFault.TheVariants.{Wide}
use Rattle.mv_net.specs.declared.parts.NetParts.{NetParts}
use Rattle.mv_net.specs.Nets.{slot, name_in, table_in, literals_in}
use Rattle.mv_plans.specs.Collapsing.{CanCollapse, HasComposites, FailsCollapse, collapsed}

-- the net at n can go into its readers, and their composites leave the literals no higher
pub record IsSaving (net : NetParts) (n : ℕ) : Type 0 where
  pub tabled : is_some (table_in (slot net.nets n)) ≡ true
  pub can : CanCollapse net n
  pub composites : HasComposites net.nets n
  pub no_more : literals_in (collapsed net composites.inner).nets ≤ literals_in net.nets

-- no net is such
pub record NoneSaves (net : NetParts) : Type 0 where
  pub none : (n : ℕ) → IsSaving net n → ⊥

-- the net at n is the least-numbered one that is such
pub record IsLeastSaving (net : NetParts) (n : ℕ) : Type 0 where
  pub saving : IsSaving net n
  pub least : (m : ℕ) → m < n → IsSaving net m → ⊥

-- the net at n can't go into its readers, for this alone that a composite is too wide
pub record IsWideNet (net : NetParts) (n : ℕ) : Type 0 where
  pub tabled : is_some (table_in (slot net.nets n)) ≡ true
  pub fails : FailsCollapse net (name_in (slot net.nets n)) Wide
