use Rattle.std.proofs.Common.{◌∙◌, arith}
use Rattle.mv_pool.proofs.Walking.{walking_both, link_within, queue_item, queue_within}
use Rattle.mv_pool.proofs.walk.follow.Goals as goal

pub offset_bounds-places-index : goal.offset_bounds-places-index
offset_bounds-places-index g c = omega (arith, queue_within g.T.Linked.link_of c.args.places.now c.args.roots.now c.args.marks.now.items c.args.queue.now.items c.args.at c.args.at c.index.result.now c.requires.walking c.requires.inside c.index.ensures)

pub bounds-places-index : goal.bounds-places-index
bounds-places-index g c = omega (arith, queue_within g.T.Linked.link_of c.args.places.now c.args.roots.now c.args.marks.now.items c.args.queue.now.items c.args.at c.args.at c.index.result.now c.requires.walking c.requires.inside c.index.ensures)

pub reach-requires-clause-within : goal.reach-requires-clause-within
reach-requires-clause-within g c =
    let there = queue_item g.T.Linked.link_of c.args.places.now c.args.roots.now c.args.marks.now.items c.args.queue.now.items c.args.at c.args.at c.index.result.now c.index-places-index.result c.requires.walking c.requires.inside c.index.ensures c.index-places-index.is ∙ c.in-Some.is in
    link_within g.T.Linked.link_of c.args.places.now c.args.roots.now c.requires.links c.args.at c.in-Some.item c.args.marks.now.items c.args.queue.now.items c.requires.walking there 0 (omega arith) c.link.result c.link.ensures

pub reach-requires-in-Some-clause-within : goal.reach-requires-in-Some-clause-within
reach-requires-in-Some-clause-within g c =
    let there = queue_item g.T.Linked.link_of c.args.places.now c.args.roots.now c.args.marks.now.items c.args.queue.now.items c.args.at c.args.at c.index.result.now c.index-places-index.result c.requires.walking c.requires.inside c.index.ensures c.index-places-index.is ∙ c.in-Some.is in
    let old = link_within g.T.Linked.link_of c.args.places.now c.args.roots.now c.requires.links c.args.at c.in-Some.item c.args.marks.now.items c.args.queue.now.items c.requires.walking there 1 (omega arith) c.link-in-Some.result c.link-in-Some.ensures in
    λ id e. omega (arith, old id e, c.reach.ensures.reached.size)

pub returns-in-Some-clause-walking : goal.returns-in-Some-clause-walking
returns-in-Some-clause-walking g c =
    let there = queue_item g.T.Linked.link_of c.args.places.now c.args.roots.now c.args.marks.now.items c.args.queue.now.items c.args.at c.args.at c.index.result.now c.index-places-index.result c.requires.walking c.requires.inside c.index.ensures c.index-places-index.is ∙ c.in-Some.is in
    walking_both g.T.Linked.link_of c.args.places.now c.args.roots.now c.requires.links c.args.at c.in-Some.item c.args.marks.now.items c.args.queue.now.items c.link.result c.reach.new.marks.items c.reach.new.queue.items c.link-in-Some.result c.reach-in-Some.new.marks.items c.reach-in-Some.new.queue.items
    c.requires.walking c.requires.inside there c.link.ensures c.link-in-Some.ensures c.reach.ensures.reached c.reach-in-Some.ensures.reached
