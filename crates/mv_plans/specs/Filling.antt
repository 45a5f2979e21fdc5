-- The rule `fill`: a table that allows nothing somewhere gets a default. Where the network allows
-- some choice that default isn't used: above the net each table leaves one value at most, so that
-- there the net's fanins have the values with which a line gave one.
use Rattle.std.specs.Prelude.{◌≡◌, ℕ, Bool, true, is_some, Option, Some, List}
use Rattle.mv_cover.specs.declared.cover.Cover.{Cover}
use Rattle.mv_cover.specs.Lines.{IsOutput}
use Rattle.mv_entry.specs.declared.fault.RuleFault.{RuleFault}
use Rattle.mv_entry.specs.declared.fault.RuleFault.TheVariants.{Strict, Form, Total, Varied}
use Rattle.mv_graph.specs.Above.{IsAbove}
use Rattle.mv_meaning.specs.Rewriting.{with_net_table}
use Rattle.mv_net.specs.declared.parts.FlatNet.{FlatNet}
use Rattle.mv_net.specs.declared.parts.NetParts.{NetParts}
use Rattle.mv_net.specs.Changes.{with_nets}
use Rattle.mv_net.specs.Nets.{slot, values_in, table_in, reads_in}
use Rattle.mv_net.specs.Plain.{IsPlainNet}
use Rattle.mv_net.specs.Total.{IsTotalNet}
use Rattle.mv_plans.specs.Checks.{IsTabled, Passed, Unless, With}

-- the set has some of the net's values, and no others
pub record IsFilling (nets : List (Option FlatNet)) (n out : ℕ) : Type 0 where
  pub output : IsOutput (values_in (slot nets n)) out

-- the net's table allows nothing somewhere
pub record IsPartial (nets : List (Option FlatNet)) (n : ℕ) : Type 0 where
  pub partial : IsTotalNet nets n → ⊥

-- each table above the net is plainly deterministic
pub record ArePlainAbove (nets : List (Option FlatNet)) (n : ℕ) : Type 0 where
  pub each : (m : ℕ) → IsAbove (reads_in nets) m n → is_some (table_in (slot nets m)) ≡ true
      → IsPlainNet nets m

-- this is asked for
pub record IsAsked (free : Bool) : Type 0 where
  pub asked : free ≡ true

-- the net has no table, or one that is plainly deterministic
pub record IsPlainIfTabled (nets : List (Option FlatNet)) (m : ℕ) : Type 0 where
  pub plain : is_some (table_in (slot nets m)) ≡ true → IsPlainNet nets m

-- each check of the net holds
pub record CanFill (free : Bool) (nets : List (Option FlatNet)) (n out : ℕ) : Type 0 where
  pub asked : IsAsked free
  pub form : IsFilling nets n out
  pub partial : IsPartial nets n
  pub plain : ArePlainAbove nets n

-- the table with this default
abbrev pub with_default : Cover → ℕ → Cover
with_default c out = record c { default = Some out }

-- the net with this name has a table that allows nothing somewhere, and gets the set as its default
pub record Fills (free : Bool) (old : NetParts) (name : List ℕ) (out : ℕ) (new : NetParts)
    : Type 0 where
  pub number : ℕ
  pub net : IsTabled old.nets name number
  pub asked : IsAsked free
  pub form : IsFilling old.nets number out
  pub partial : IsPartial old.nets number
  pub plain : ArePlainAbove old.nets number
  pub table : Cover
  pub table_is : table_in (slot old.nets number) ≡ Some table
  pub new_is : new ≡ with_nets old (with_net_table old.nets number (with_default table out))

-- the first check that fails, of the net with the name and of all
abbrev pub FillRow : Bool → ℕ → NetParts → ℕ → RuleFault → Type 0
FillRow free out net n =
    Unless (IsAsked free) Strict (
    Unless (IsFilling net.nets n out) Form (
    Unless (IsPartial net.nets n) Total (
    Unless (ArePlainAbove net.nets n) Varied
    Passed)))

abbrev pub FailsFill : Bool → NetParts → List ℕ → ℕ → RuleFault → Type 0
FailsFill free net name out = With (IsTabled net.nets name) (FillRow free out net)
