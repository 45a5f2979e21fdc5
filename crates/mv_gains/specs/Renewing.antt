-- What private functions alone cite: the covers of tables, and their kernels, while some of the
-- tables are put anew.
use Rattle.std.specs.Prelude.{◌≡◌, ◌<◌, ◌⊎◌, ℕ, Bool, true, not, List, [], slice_index_or, All, Contains}
use Rattle.mv_base.specs.declared.number.NetId.{NetId}
use Rattle.mv_graph.specs.Nets.{has_id}
use Rattle.mv_gains.specs.declared.gains.Kept.{Kept}
use Rattle.mv_gains.specs.declared.kernels.Candidate.{Candidate}
use Rattle.mv_gains.specs.Kernels.{AreCandidates}
use Rattle.mv_gains.specs.Known.{IsRight, StaysRight}
use Rattle.mv_gains.specs.Tables.{IsReady}

-- covers of tables, all kernels of them, and what is known of each
pub record AreGains (k : Kept) : Type 0 where
  pub ready : All IsReady k.covers.items
  pub all : AreCandidates k.covers.items [] k.candidates.items
  pub right : All (IsRight k.covers.items k.changed.items k.now) k.candidates.items

-- each table is as it was; those that came are empty
pub record AreSameTables {X : Type 0} (old new : List (List X)) : Type 0 where
  pub each : (n : ℕ) → slice_index_or new n [] ≡ slice_index_or old n []

-- covers of some tables were put anew, and what was known and isn't touched stays known
pub record IsPut (old new : Kept) : Type 0 where
  pub candidates : new.candidates ≡ old.candidates
  pub now : new.now ≡ old.now
  pub ready : All IsReady new.covers.items
  pub right : StaysRight old.now old.covers.items old.changed.items new.covers.items new.changed.items

-- the numbers below the count, ascending
pub record AreNumbers (count : ℕ) (list : List NetId) : Type 0 where
  pub below : All (λ (n : NetId). n.0 < count) list
  pub all : (n : ℕ) → n < count → has_id list n ≡ true

-- the candidate is of none of these tables
abbrev pub is_other : List NetId → Candidate → Bool
is_other waiting c = not (has_id waiting c.table.0)

-- each of the new ones was there, or nothing is known of it
pub record AreUnseenElse (old new : List Candidate) : Type 0 where
  pub each : (c : Candidate) → Contains new c → Contains old c ⊎ (c.seen ≡ 0)
