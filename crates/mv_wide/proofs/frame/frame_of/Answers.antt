-- The nets of the window get their places as variables.
use Rattle.std.proofs.Common.{◌∙◌, List, length, ap, arith, rules}
use Rattle.std.proofs.lemmas.List.{get_or_read}
use Rattle.mv_base.specs.declared.number.NetId.{NetId}
use Rattle.mv_wide.specs.declared.frame.Frame.{Frame}
use Rattle.mv_graph.specs.Nets.{all_differ, has_id}
use Rattle.mv_net.specs.declared.parts.NetParts.{NetParts}
use Rattle.mv_net.proofs.Known.{is_held_below}
use Rattle.mv_wide.proofs.Finding.{below_there, few_there, frame_made, nets_there, tables_there}
use Rattle.mv_wide.proofs.Framing.{own_table, table_is_held}
use Rattle.mv_wide.proofs.frame.frame_of.Goals as goal

pub nets_of-requires : goal.nets_of-requires
nets_of-requires c = tables_there c.args.net.now c.args.w.now c.args.n.0 c.requires.window c.as_slice-tables.result.now c.as_slice-tables.ensures

pub vars_of-requires-clause-few : goal.vars_of-requires-clause-few
vars_of-requires-clause-few c =
    let few = few_there c.args.net.now c.args.w.now c.args.n.0 c.requires.window c.well_formed-2.ensures c.in_ok-found.found.keys (rw c.as_slice-tables.ensures at c.in_ok-found.ensures.members)
    c.as_slice-nets.result.now c.as_slice-nets.ensures.keys c.in_ok-found.ensures.once in
    omega (arith, few, c.few.ensures)

pub vars_of-requires-clause-below : goal.vars_of-requires-clause-below
vars_of-requires-clause-below c =
    below_there c.args.net.now c.args.w.now c.args.n.0 c.requires.window c.well_formed-2.ensures c.in_ok-found.found.keys (rw c.as_slice-tables.ensures at c.in_ok-found.ensures.members)
    c.as_slice-nets.result.now c.as_slice-nets.ensures.keys c.len-size.result (c.len-size.ensures ∙ ap (λ (p : NetParts). length p.nets) c.parts.ensures)

pub vars_of-requires-clause-once : goal.vars_of-requires-clause-once
vars_of-requires-clause-once c = ap all_differ c.as_slice-nets.ensures.keys ∙ c.in_ok-found.ensures.once

pub counts_of-requires : goal.counts_of-requires
counts_of-requires c =
    nets_there c.args.net.now c.args.w.now c.args.n.0 c.requires.window c.well_formed-2.ensures c.in_ok-found.found.keys (rw c.as_slice-tables.ensures at c.in_ok-found.ensures.members)
    c.as_slice-nets.result.now c.as_slice-nets.ensures.keys

pub returns : goal.returns
returns c =
    let net = c.args.net.now in
    let f : Frame = record {
      vars = c.in_ok-vars.vars;
      counts = c.in_ok-counts.counts;
      own = c.index-own.result.now;
      fanins = c.in_ok-fanins.fanins;
      table = c.in_ok-table.table;
    } in
    let long = c.in_ok-vars.ensures.long ∙ c.len-size.ensures ∙ ap (λ (p : NetParts). length p.nets) c.parts.ensures in
    let low = is_held_below net.nets c.args.n.0 (table_is_held net c.args.w.now c.args.n.0 c.requires.window c.args.n.0 (own_table net c.args.w.now c.args.n.0 c.requires.window c.requires.table)) in
    frame_made net c.args.w.now c.args.n.0 c.requires.window c.well_formed-2.ensures c.in_ok-found.found.keys (rw c.as_slice-tables.ensures at c.in_ok-found.ensures.members)
    f (rw c.as_slice-nets.ensures.keys at c.in_ok-counts.ensures) long (rw c.as_slice-nets.ensures.keys at c.in_ok-vars.ensures.each)
    (get_or_read c.in_ok-vars.vars.items c.args.n.0 c.index-own.result.now (omega (arith, low, long)) c.index-own.ensures 0)
    (λ m. ap (λ (l : List NetId). has_id l m) c.in_ok-fanins.ensures.items ∙ c.fanins.ensures.members m)
    (search rules)
