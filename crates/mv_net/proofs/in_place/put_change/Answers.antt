-- What is taken in is that of the changed network, or of the one before.
use Rattle.std.proofs.Common.{◌∙◌, ℕ, List, Option, map, take, sym, ap, subst}
use Rattle.std.proofs.lemmas.List.{take_at}
use Rattle.mv_dag.specs.Rows.{changed_rows}
use Rattle.mv_net.specs.declared.parts.FlatNet.{FlatNet}
use Rattle.mv_net.specs.Changes.{made_net}
use Rattle.mv_net.specs.Fresh.{AreMade}
use Rattle.mv_net.specs.Kept.{IsNetwork}
use Rattle.mv_net.specs.Names.{AreNamed, AreNames}
use Rattle.mv_net.specs.NewRows.{tables_of, AreRows, CanTake}
use Rattle.mv_net.specs.Tallies.{AreTallies}
use Rattle.mv_net.proofs.Placed.{with_new, parts_changed, network_changed, network_left}
use Rattle.mv_net.proofs.Fitting.{came, placed, named_grown}
use Rattle.mv_net.proofs.RowsGiven.{can_take}
use Rattle.mv_net.proofs.in_place.put_change.Goals as goal

pub take_in-requires-clause-graph : goal.take_in-requires-clause-graph
take_in-requires-clause-graph c =
    let parts = c.args.parts.now in
    let grown = c.as_slice.ensures ∙ c.in_ok-push_nets.ensures.ok in
    let more = came parts c.args.change c.as_slice.result.now c.len-long.result grown c.len-long.ensures in
    let P : ℕ → Type 0 = λ k. CanTake c.args.kept.now.graph k c.in_ok-rows.rows in
    let Q : ℕ → Type 0 = λ k. AreRows (tables_of c.args.change k) c.in_ok-rows.rows in
    subst P (sym more) (can_take parts c.args.change c.args.kept.now.graph c.in_ok-rows.rows c.requires.fits c.requires.few c.requires.formed c.requires.network.known.graph (subst Q c.len-long.ensures c.in_ok-rows.ensures))

pub take_in-requires-clause-named : goal.take_in-requires-clause-named
take_in-requires-clause-named c =
    subst AreNamed (sym (c.as_slice.ensures ∙ c.in_ok-push_nets.ensures.ok)) (named_grown c.args.parts.now c.args.change c.requires.fits c.requires.network.formed c.requires.formed)

pub returns-in_err-push_nets-clause-network : goal.returns-in_err-push_nets-clause-network
returns-in_err-push_nets-clause-network c =
    let P : List (Option FlatNet) → Type 0 = λ ns. IsNetwork (with_new c.args.parts.now ns) c.args.kept.now in
    subst P (sym c.in_err-push_nets.ensures.err) c.requires.network

pub returns-in-Err-clause-network : goal.returns-in-Err-clause-network
returns-in-Err-clause-network c =
    let parts = c.args.parts.now in
    let left = c.truncate.ensures ∙ (ap (take c.len-long.result) c.in_ok-push_nets.ensures.ok ∙ take_at parts.nets (map made_net c.args.change.add) c.len-long.result (sym c.len-long.ensures)) in
    let front = ap (take c.len-long.result) c.as_slice.ensures ∙ sym c.truncate.ensures in
    let P : List (Option FlatNet) → Type 0 = λ ns. AreTallies ns c.take_in.new.kept.tallies in
    let Q : List (Option FlatNet) → Type 0 = λ ns. AreNames ns c.take_in.new.kept.names in
    let R : List (Option FlatNet) → Type 0 = λ ns. AreMade ns c.take_in.new.kept.made in
    network_left parts (with_new parts c.truncate.new.self) c.args.kept.now c.take_in.new.kept c.requires.network (ap (with_new parts) left)
    (subst P front c.in-Err.ensures.err.tallies) (subst Q front c.in-Err.ensures.err.names) (subst R front c.in-Err.ensures.err.made) c.in-Err.ensures.err.graph c.take_in.ensures.seen

pub returns-clause-ok : goal.returns-clause-ok
returns-clause-ok c =
    let parts = c.args.parts.now in
    parts_changed parts c.args.change c.write_change.new.nets (placed parts c.args.change c.push_nets.new.nets c.write_change.new.nets c.requires.fits c.in_ok-push_nets.ensures.ok c.write_change.ensures.long c.write_change.ensures.each)

pub returns-clause-network : goal.returns-clause-network
returns-clause-network c =
    let parts = c.args.parts.now in
    let grown = c.as_slice.ensures ∙ c.in_ok-push_nets.ensures.ok in
    let more = came parts c.args.change c.as_slice.result.now c.len-long.result grown c.len-long.ensures in
    let Q : ℕ → Type 0 = λ k. AreRows (tables_of c.args.change k) c.in_ok-rows.rows in
    let same = parts_changed parts c.args.change c.write_change.new.nets (placed parts c.args.change c.push_nets.new.nets c.write_change.new.nets c.requires.fits c.in_ok-push_nets.ensures.ok c.write_change.ensures.long c.write_change.ensures.each) in
    network_changed parts (with_new parts c.write_change.new.nets) c.args.change c.args.kept.now _ c.in_ok-rows.rows c.requires.network c.requires.few c.requires.fits c.requires.formed (subst Q c.len-long.ensures c.in_ok-rows.ensures) same
    c.write_change.ensures.tallies c.write_change.ensures.names c.write_change.ensures.made (c.in_default.ensures.ok.graph ∙ ap (λ k. changed_rows c.in_ok-rows.rows k c.args.kept.now.graph) more) c.take_in.ensures.seen
