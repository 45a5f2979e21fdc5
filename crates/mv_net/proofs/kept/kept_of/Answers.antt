-- The fanins are numbers of the network, and none leads to itself, since each net reads what the graph says.
use Rattle.std.proofs.Common.{◌∙◌, List, Option, sym, subst}
use Rattle.mv_graph.specs.Above.{reads_by}
use Rattle.mv_graph.proofs.Paths.{acyclic_mapped}
use Rattle.mv_net.specs.declared.parts.FlatNet.{FlatNet}
use Rattle.mv_net.specs.Nets.{reads_in}
use Rattle.mv_net.specs.Index.{AreFanins}
use Rattle.mv_net.proofs.Known.{fanins_below}
use Rattle.mv_net.proofs.kept.kept_of.Goals as goal

pub of-requires-clause-below : goal.of-requires-clause-below
of-requires-clause-below c =
    let Q : List (Option FlatNet) → Type 0 = λ nets. AreFanins nets c.in_ok-fanins.fanins in
    fanins_below c.args.parts.now c.in_ok-fanins.fanins c.requires.formed (subst Q c.as_slice-nets.ensures c.in_ok-fanins.ensures)

pub of-requires-clause-acyclic : goal.of-requires-clause-acyclic
of-requires-clause-acyclic c =
    let Q : List (Option FlatNet) → Type 0 = λ nets. AreFanins nets c.in_ok-fanins.fanins in
    let are = subst Q c.as_slice-nets.ensures c.in_ok-fanins.ensures in
    acyclic_mapped (reads_by c.in_ok-fanins.fanins) (reads_in c.args.parts.now.nets) (λ m. m) (λ n m h. sym ((are.each n).members m) ∙ h) c.requires.formed.acyclic
