-- A network with what is kept for looking things up in it.
use Rattle.std.specs.Prelude.{◌≤◌, length}
use Rattle.mv_base.specs.declared.limits.TheConstants.{MAX_NETS}
use Rattle.mv_net.specs.declared.kept.Kept.{Kept}
use Rattle.mv_net.specs.declared.parts.NetParts.{NetParts}
use Rattle.mv_net.specs.Formed.{WellFormed}
use Rattle.mv_net.specs.Fresh.{AreMade}
use Rattle.mv_net.specs.Index.{AreFanins}
use Rattle.mv_net.specs.Names.{AreNames}
use Rattle.mv_net.specs.Seen.{AreSeen}
use Rattle.mv_net.specs.Tallies.{AreTallies}

-- each kept thing is that of the parts; the graph has for each net what it reads
pub record AreKept (net : NetParts) (kept : Kept) : Type 0 where
  pub tallies : AreTallies net.nets kept.tallies
  pub graph : AreFanins net.nets kept.graph
  pub names : AreNames net.nets kept.names
  pub seen : AreSeen net kept.seen
  pub made : AreMade net.nets kept.made

-- a network: well-formed parts of few numbers, and what is kept of them
pub record IsNetwork (net : NetParts) (kept : Kept) : Type 0 where
  pub formed : WellFormed net
  pub few : length net.nets ≤ MAX_NETS
  pub known : AreKept net kept
