-- The rule `collapse`: a net goes, and each of its readers gets its composite with it.
use Rattle.std.specs.Prelude.{◌≡◌, ◌⊎◌, ℕ, Bool, Option, Some, None, List, map, slice_set, MatchBool}
use Rattle.mv_composite.specs.declared.inner.Inner.{Inner}
use Rattle.mv_composite.specs.Composite.{composed}
use Rattle.mv_composite.specs.Wide.{IsTooWide}
use Rattle.mv_cover.specs.declared.cover.Cover.{Cover}
use Rattle.mv_entry.specs.declared.fault.RuleFault.{RuleFault}
use Rattle.mv_entry.specs.declared.fault.RuleFault.TheVariants.{Visible, Unread, Shared, Wide}
use Rattle.mv_meaning.specs.Rewriting.{rewritten, HasOneReader}
use Rattle.mv_net.specs.declared.parts.FlatNet.{FlatNet}
use Rattle.mv_net.specs.declared.parts.NetParts.{NetParts}
use Rattle.mv_net.specs.Changes.{with_nets}
use Rattle.mv_net.specs.Nets.{slot, values_in, table_in, reads_in}
use Rattle.mv_net.specs.Plain.{IsPlainNet}
use Rattle.mv_net.specs.Total.{IsTotalNet}
use Rattle.mv_readers.specs.Readers.{EachReader}
use Rattle.mv_plans.specs.Checks.{IsTabled, IsUnseen, IsRead, Passed, Unless, With}

-- the net is as a composite asks for it: its table, and whether it is total and plainly
-- deterministic
pub record IsInnerOf (nets : List (Option FlatNet)) (inner : Inner) : Type 0 where
  pub table : table_in (slot nets inner.net.0) ≡ Some inner.cover
  pub total : MatchBool inner.total (IsTotalNet nets inner.net.0) (IsTotalNet nets inner.net.0 → ⊥)
  pub plain : MatchBool inner.plain (IsPlainNet nets inner.net.0) (IsPlainNet nets inner.net.0 → ⊥)

-- the composites of these nets that read it are not too wide
abbrev pub AreNarrow : List (Option FlatNet) → Inner → (ℕ → Bool) → Type 0
AreNarrow nets inner readers =
    EachReader nets inner.net.0 readers (λ c. IsTooWide (map values_in nets) inner c → ⊥)

-- no reader's composite is too wide
pub record HasComposites (nets : List (Option FlatNet)) (n : ℕ) : Type 0 where
  pub inner : Inner
  pub of_net : inner.net.0 ≡ n
  pub known : IsInnerOf nets inner
  pub narrow : AreNarrow nets inner (λ m. reads_in nets m n)

-- its choice is made once: it has one value at most, or one reader
abbrev pub IsUnshared : List (Option FlatNet) → ℕ → Type 0
IsUnshared nets n = IsPlainNet nets n ⊎ HasOneReader nets n

-- the network in which the net is gone, and each reader has its composite
abbrev pub collapsed : NetParts → Inner → NetParts
collapsed net inner =
    with_nets net
    (slice_set (rewritten
    (composed (map values_in net.nets) inner) inner.net.0 net.nets) inner.net.0 None)

-- the net with this name goes into its readers
pub record Collapses (old : NetParts) (name : List ℕ) (new : NetParts) : Type 0 where
  pub number : ℕ
  pub net : IsTabled old.nets name number
  pub unseen : IsUnseen old number
  pub read : IsRead old.nets number
  pub unshared : IsUnshared old.nets number
  pub composites : HasComposites old.nets number
  pub new_is : new ≡ collapsed old composites.inner

-- the checks hold but for the composites
pub record CanCollapse (net : NetParts) (n : ℕ) : Type 0 where
  pub unseen : IsUnseen net n
  pub read : IsRead net.nets n
  pub unshared : IsUnshared net.nets n

-- the first check that fails, of the net with the name and of all
abbrev pub CollapseRow : NetParts → ℕ → RuleFault → Type 0
CollapseRow net n =
    Unless (IsUnseen net n) Visible
    (Unless (IsRead net.nets n) Unread
    (Unless (IsUnshared net.nets n) Shared (Unless (HasComposites net.nets n) Wide Passed)))

abbrev pub FailsCollapse : NetParts → List ℕ → RuleFault → Type 0
FailsCollapse net name = With (IsTabled net.nets name) (CollapseRow net)
