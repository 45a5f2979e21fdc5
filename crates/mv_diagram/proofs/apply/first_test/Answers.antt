use Rattle.std.proofs.Common.{◌≡◌, Some, None}
use Rattle.mv_diagram.specs.Sets.{node_at}
use Rattle.mv_diagram.proofs.Firsts.{value_small, first_both, first_left, first_right}
use Rattle.mv_diagram.proofs.apply.first_test.Goals as goal

pub earlier-requires-clause-left : goal.earlier-requires-clause-left
earlier-requires-clause-left c =
    let ea : node_at c.args.table.now.pool.places c.args.a.0 ≡ Some c.in-Some-Some.x = cc in
    value_small c.args.table.now.counts.items c.args.table.now.pool.places c.requires.sound c.args.a.0 c.in-Some-Some.x ea

pub earlier-requires-clause-right : goal.earlier-requires-clause-right
earlier-requires-clause-right c =
    let eb : node_at c.args.table.now.pool.places c.args.b.0 ≡ Some c.in-Some-Some.y = cc in
    value_small c.args.table.now.counts.items c.args.table.now.pool.places c.requires.sound c.args.b.0 c.in-Some-Some.y eb

pub returns-in-Some-Some-clause-some : goal.returns-in-Some-Some-clause-some
returns-in-Some-Some-clause-some c =
    let ea : node_at c.args.table.now.pool.places c.args.a.0 ≡ Some c.in-Some-Some.x = cc in
    let eb : node_at c.args.table.now.pool.places c.args.b.0 ≡ Some c.in-Some-Some.y = cc in
    first_both c.args.table.now.counts.items c.args.table.now.pool.places c.requires.sound c.args.a.0 c.args.b.0 c.in-Some-Some.x c.in-Some-Some.y c.earlier.result ea eb c.earlier.ensures

pub returns-in-Some-None-clause-some : goal.returns-in-Some-None-clause-some
returns-in-Some-None-clause-some c =
    let ea : node_at c.args.table.now.pool.places c.args.a.0 ≡ Some c.in-Some-None.x = cc in
    let eb : node_at c.args.table.now.pool.places c.args.b.0 ≡ None = cc in
    first_left c.args.table.now.counts.items c.args.table.now.pool.places c.requires.sound c.args.a.0 c.args.b.0 c.in-Some-None.x ea eb

pub returns-in-None-Some-clause-some : goal.returns-in-None-Some-clause-some
returns-in-None-Some-clause-some c =
    let ea : node_at c.args.table.now.pool.places c.args.a.0 ≡ None = cc in
    let eb : node_at c.args.table.now.pool.places c.args.b.0 ≡ Some c.in-None-Some.y = cc in
    first_right c.args.table.now.counts.items c.args.table.now.pool.places c.requires.sound c.args.a.0 c.args.b.0 c.in-None-Some.y ea eb
