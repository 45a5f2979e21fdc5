-- The nets from which on some table isn't total: their own, or one below.
use Rattle.std.specs.Prelude.{◌≡◌, ℕ, Bool, true, Option, List, length, MatchBool}
use Rattle.mv_base.specs.declared.number.NetId.{NetId}
use Rattle.mv_graph.specs.Marks.{is_marked}
use Rattle.mv_graph.specs.Nets.{has_id}
use Rattle.mv_meaning.specs.Narrowing.{AreTotalBelow}
use Rattle.mv_net.specs.declared.parts.FlatNet.{FlatNet}
use Rattle.mv_net.specs.Index.{is_held}
use Rattle.mv_net.specs.Nets.{reads_in}
use Rattle.mv_net.specs.Total.{IsTotalNet}

-- the net has a table that is total, and so do those below it
pub record IsTotalDown (nets : List (Option FlatNet)) (n : ℕ) : Type 0 where
  pub here : IsTotalNet nets n
  pub below : AreTotalBelow nets n

-- whether that isn't so
abbrev pub IsPartialMark : List (Option FlatNet) → ℕ → Bool → Type 0
IsPartialMark nets n mark = MatchBool mark (IsTotalDown nets n → ⊥) (IsTotalDown nets n)

-- so all nets are marked
pub record ArePartial (nets : List (Option FlatNet)) (marks : List Bool) : Type 0 where
  pub each : (n : ℕ) → is_held nets n ≡ true → IsPartialMark nets n (is_marked marks n)

-- ---- what private functions alone cite

-- so the readers of the net are marked
pub record HasMarkedReaders (nets : List (Option FlatNet)) (n : ℕ) (marks : List Bool)
    : Type 0 where
  pub each : (m : ℕ) → reads_in nets m n ≡ true → IsPartialMark nets m (is_marked marks m)

-- so the nets of this list are marked
pub record AreMarked (nets : List (Option FlatNet)) (list : List NetId) (marks : List Bool)
    : Type 0 where
  pub long : length marks ≡ length nets
  pub each : (n : ℕ) → has_id list n ≡ true → IsPartialMark nets n (is_marked marks n)
