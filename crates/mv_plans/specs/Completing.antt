-- A body in place of a total table, which has to be total.
use Rattle.std.specs.Prelude.{◌≡◌, ℕ, Bool, true, false, Option, Some, List, MatchBool}
use Rattle.mv_base.specs.Set.{one}
use Rattle.mv_cover.specs.declared.cover.Cover.{Cover}
use Rattle.mv_net.specs.declared.parts.FlatNet.{FlatNet}
use Rattle.mv_net.specs.Nets.{slot, table_in}
use Rattle.mv_net.specs.Total.{IsTotal, IsTotalNet}

-- the old table is total, and the body isn't
pub record IsLess (nets : List (Option FlatNet)) (old body : Cover) : Type 0 where
  pub total : IsTotal nets old
  pub partial : IsTotal nets body → ⊥

-- the body, with the default 0 where it is needed
abbrev pub with_zero : Bool → Cover → Cover
with_zero false body = body
with_zero true body = record body { default = Some (one 0) }

-- the body, with the default 0 besides where the old table is total and the body isn't. No
-- assignment that agrees with the net that the body is divided by meets that default
pub record IsCompleted (nets : List (Option FlatNet)) (old body new : Cover) : Type 0 where
  pub less : Bool
  pub needed : MatchBool less (IsLess nets old body) (IsLess nets old body → ⊥)
  pub new_is : new ≡ with_zero less body

-- ---- what private functions alone cite

-- the table of the net n is total, and the body isn't
pub record IsLessThan (nets : List (Option FlatNet)) (n : ℕ) (body : Cover) : Type 0 where
  pub total : IsTotalNet nets n
  pub partial : IsTotal nets body → ⊥

-- what n gets in place of its table
pub record IsCompletedAt (nets : List (Option FlatNet)) (n : ℕ) (body new : Cover) : Type 0 where
  pub completed : (old : Cover) → table_in (slot nets n) ≡ Some old → IsCompleted nets old body new
