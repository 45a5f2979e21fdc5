-- Each net found is followed, until none is left.
use Rattle.std.proofs.Common.{◌≡◌, ◌∙◌, ◌<◌, List, Some, length, get_or, sym, ap, arith}
use Rattle.std.specs.Prelude.{slice_get}
use Rattle.std.proofs.lemmas.Option.{slice_get-get_or}
use Rattle.mv_base.specs.declared.number.NetId.{NetId}
use Rattle.mv_dag.specs.Searches.{leads_to}
use Rattle.mv_dag.proofs.Reaching.{search_started, search_next, search_ended, step_below}
use Rattle.mv_dag.proofs.Differing.{differ_from_distinct}
use Rattle.mv_dag.proofs.reach.search.Goals as goal

pub loop-place-init : goal.loop-place-init
loop-place-init c =
    search_started (leads_to c.args.way c.args.fanins.now) (length c.args.fanins.now) c.args.labels.now c.args.starts.now c.args.low c.args.high _ c.requires.starts c.in_ok-found.ensures

pub loop-place-preserved : goal.loop-place-preserved
loop-place-preserved c =
    let none : NetId = record { 0 = 0 } in
    let keys = c.loop-place.found.keys in
    let net : NetId = get_or c.as_slice.result.now c.loop-place.place none in
    let low : c.loop-place.place < length keys = omega (arith, c.loop-place-test.true, c.len.ensures.len) in
    let at : slice_get keys c.loop-place.place ≡ Some net =
    slice_get-get_or keys c.loop-place.place none low ∙ ap (λ (ns : List NetId). Some (get_or ns c.loop-place.place none)) (sym c.as_slice.ensures.keys) in
    search_next (leads_to c.args.way c.args.fanins.now) (length c.args.fanins.now) c.args.labels.now c.args.starts.now c.args.low c.args.high keys c.follow.new.found.keys c.loop-place.place net c.next_nets-nets.result.now c.loop-place.invariant at
    c.next_nets-nets.ensures
    (λ n h. step_below c.args.way c.args.fanins.now net.0 n c.requires.below h)
    c.in_ok-follow.ensures

pub returns-clause-searched : goal.returns-clause-searched
returns-clause-searched c =
    search_ended (leads_to c.args.way c.args.fanins.now) (length c.args.fanins.now) c.args.labels.now c.args.starts.now c.args.low c.args.high c.loop-place.found.keys c.loop-place.place
    (omega (arith, c.loop-place-test.false, c.len.ensures.len))
    c.loop-place.invariant

pub returns-clause-distinct : goal.returns-clause-distinct
returns-clause-distinct c = differ_from_distinct c.loop-place.found.keys c.len.ensures.unique
