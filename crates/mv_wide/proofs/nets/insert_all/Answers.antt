-- All nets were put into the set.
use Rattle.std.proofs.Common.{◌∙◌, ap}
use Rattle.std.proofs.lemmas.List.{take_all}
use Rattle.indexmap.specs.IndexSet.{insert_all}
use Rattle.mv_graph.specs.Nets.{has_id}
use Rattle.mv_net.specs.Searching.{same_id}
use Rattle.mv_wide.proofs.Listing.{has_all_inserted}
use Rattle.mv_wide.proofs.nets.insert_all.Goals as goal

pub returns : goal.returns
returns c = λ m.
    let old = c.args.found.now.keys in
    let nets = c.args.nets.now in
    ap (λ l. has_id l m) (c.loop-net.invariant ∙ ap (insert_all same_id old) (take_all c.loop-net.net-index nets c.loop-net-test.false))
    ∙ has_all_inserted old nets m
