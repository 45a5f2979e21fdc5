-- All nets were put behind those found.
use Rattle.std.proofs.Common.{◌∙◌, ap, sym, subst}
use Rattle.std.proofs.lemmas.List.{take_all}
use Rattle.indexmap.specs.IndexSet.{insert_all}
use Rattle.mv_net.specs.Searching.{same_id, HasAdded}
use Rattle.mv_net.proofs.Reaching.{added_all}
use Rattle.mv_net.proofs.search.add_nets.Goals as goal

pub returns : goal.returns
returns c =
    let old = c.args.found.now.keys in
    let nets = c.args.nets.now in
    subst (HasAdded old nets) (sym (c.loop-net.invariant ∙ ap (insert_all same_id old) (take_all c.loop-net.net-index nets c.loop-net-test.false))) (added_all nets old)
