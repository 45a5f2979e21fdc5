use Rattle.std.proofs.Common.{◌≡◌, ◌<◌, ◌^◌, [], length, sym, arith}
use Rattle.mv_diagram.proofs.Finding.{found_listed, found_none, root_held}
use Rattle.mv_diagram.proofs.Reclaiming.{links_held}
use Rattle.mv_diagram.proofs.found.find.Goals as goal

pub reached-requires-clause-roots : goal.reached-requires-clause-roots
reached-requires-clause-roots c = root_held c.args.table.now.pool.places c.args.d c.in-Some.id (sym c.in-Some.ensures) c.requires.held

pub reached-requires-clause-links : goal.reached-requires-clause-links
reached-requires-clause-links c = links_held c.args.table.now.counts.items c.args.table.now.pool.places c.requires.sound

pub overflow_cast-result : goal.overflow_cast-result
overflow_cast-result c = omega (arith, c.reached.ensures.listed.within, c.len-places.ensures.len, c.len-places.type_inv)

pub returns-in-Some-clause-found : goal.returns-in-Some-clause-found
returns-in-Some-clause-found c =
    let small : length c.args.table.now.pool.places < 2 ^ 32 = omega (arith, c.len-places.ensures.len, c.len-places.type_inv) in
    found_listed c.args.table.now.pool.places c.args.d c.in-Some.id (sym c.in-Some.ensures) small c.reached.new.listed.items c.reached.ensures.listed

pub returns-in-None-clause-found : goal.returns-in-None-clause-found
returns-in-None-clause-found c =
    let none : c.clear.new.self.items ≡ [] = cc in
    rw none (found_none c.args.table.now.pool.places c.args.d c.requires.held (sym c.in-None.ensures))
