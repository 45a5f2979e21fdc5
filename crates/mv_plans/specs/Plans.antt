-- A change that carries out a rule. For private functions.
use Rattle.std.specs.Prelude.{◌≤◌, ◌+◌, length}
use Rattle.mv_base.specs.declared.limits.TheConstants.{MAX_NETS}
use Rattle.mv_net.specs.declared.change.Change.{Change}
use Rattle.mv_net.specs.declared.parts.NetParts.{NetParts}
use Rattle.mv_net.specs.Changes.{changed, Fits}
use Rattle.mv_net.specs.Formed.{WellFormed}

-- the network can be changed so, and what it is then satisfies the claim
pub record IsPlanned (net : NetParts) (Claim : NetParts → Type 0) (change : Change) : Type 0 where
  pub few : length net.nets + length change.add ≤ MAX_NETS
  pub fits : Fits net change
  pub formed : WellFormed (changed net change)
  pub makes : Claim (changed net change)
