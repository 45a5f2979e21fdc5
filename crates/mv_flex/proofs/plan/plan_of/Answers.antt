-- The parts of a window have no more points than the window.
use Rattle.mv_flex.proofs.Sizes.{numbered_as, shown_numbered, hidden_numbered, fanins_numbered, pairs_numbered, here_table}
use Rattle.mv_flex.proofs.plan.plan_of.Goals as goal

pub of-requires-clause-held : goal.of-requires-clause-held
of-requires-clause-held c =
    (numbered_as c.args.net.now _ _ c.in_ok-shown.ensures (shown_numbered c.args.net.now c.args.w.now c.args.n.0 c.well_formed-2.ensures c.requires.window c.requires.few)).held

pub of-requires-clause-few : goal.of-requires-clause-few
of-requires-clause-few c =
    (numbered_as c.args.net.now _ _ c.in_ok-shown.ensures (shown_numbered c.args.net.now c.args.w.now c.args.n.0 c.well_formed-2.ensures c.requires.window c.requires.few)).few

pub of-requires-2-clause-held : goal.of-requires-2-clause-held
of-requires-2-clause-held c =
    (numbered_as c.args.net.now _ _ c.in_ok-hidden.ensures (hidden_numbered c.args.net.now c.args.w.now c.args.n.0 c.well_formed-2.ensures c.requires.window c.requires.few)).held

pub of-requires-2-clause-few : goal.of-requires-2-clause-few
of-requires-2-clause-few c =
    (numbered_as c.args.net.now _ _ c.in_ok-hidden.ensures (hidden_numbered c.args.net.now c.args.w.now c.args.n.0 c.well_formed-2.ensures c.requires.window c.requires.few)).few

pub of-requires-3-clause-held : goal.of-requires-3-clause-held
of-requires-3-clause-held c =
    (numbered_as c.args.net.now _ _ c.in_ok-joined-2.ensures (fanins_numbered c.args.net.now c.args.w.now c.args.n.0 c.well_formed-2.ensures c.requires.window c.requires.few c.args.n.0 c.fanins-fanins.result.now (here_table c.args.net.now c.args.w.now c.args.n.0 c.well_formed-2.ensures c.requires.window c.requires.few c.requires.table) c.fanins-fanins.ensures)).held

pub of-requires-3-clause-few : goal.of-requires-3-clause-few
of-requires-3-clause-few c =
    (numbered_as c.args.net.now _ _ c.in_ok-joined-2.ensures (fanins_numbered c.args.net.now c.args.w.now c.args.n.0 c.well_formed-2.ensures c.requires.window c.requires.few c.args.n.0 c.fanins-fanins.result.now (here_table c.args.net.now c.args.w.now c.args.n.0 c.well_formed-2.ensures c.requires.window c.requires.few c.requires.table) c.fanins-fanins.ensures)).few

pub of-requires-4-clause-held : goal.of-requires-4-clause-held
of-requires-4-clause-held c =
    (numbered_as c.args.net.now _ _ c.in_ok-joined-3.ensures (pairs_numbered c.args.net.now c.args.w.now c.args.n.0 c.well_formed-2.ensures c.requires.window c.requires.few c.args.n.0 c.fanins-fanins.result.now (here_table c.args.net.now c.args.w.now c.args.n.0 c.well_formed-2.ensures c.requires.window c.requires.few c.requires.table) c.fanins-fanins.ensures)).held

pub of-requires-4-clause-few : goal.of-requires-4-clause-few
of-requires-4-clause-few c =
    (numbered_as c.args.net.now _ _ c.in_ok-joined-3.ensures (pairs_numbered c.args.net.now c.args.w.now c.args.n.0 c.well_formed-2.ensures c.requires.window c.requires.few c.args.n.0 c.fanins-fanins.result.now (here_table c.args.net.now c.args.w.now c.args.n.0 c.well_formed-2.ensures c.requires.window c.requires.few c.requires.table) c.fanins-fanins.ensures)).few
