use Rattle.std.proofs.Common.{◌≡◌, List, IfOk, subst}
use Rattle.mv_base.specs.declared.number.NetId.{NetId}
use Rattle.mv_cover.specs.Literal.{Lit}
use Rattle.mv_graph.specs.Nets.{IsAscending}
use Rattle.mv_net.specs.Nets.{slot, net_reads}
use Rattle.mv_gains.proofs.Gathering.{readers_low, with_readers}
use Rattle.mv_gains.proofs.cube_gains.holding.Goals as goal

pub cubes_with-requires : goal.cubes_with-requires
cubes_with-requires c =
    readers_low c.args.net.now.nets c.args.tables.now c.net.result.0 c.readers_of-readers.result.now c.requires c.readers_of-readers.ensures

pub returns : goal.returns
returns c =
    let nets = c.args.net.now.nets in
    let l = c.args.symbol.now in
    let readers = c.readers_of-readers.result.now in
    let up = subst (λ (k : NetId). IsAscending (λ m. net_reads (slot nets m) k.0) readers) c.net.ensures.value c.readers_of-readers.ensures in
    subst (λ (cs : List (List Lit)). IfOk c.cubes_with.result (λ cubes. cubes.items ≡ cs)) (with_readers nets c.args.tables.now l readers c.requires up) c.cubes_with.ensures
