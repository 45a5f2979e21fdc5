-- Each net gets its place.
use Rattle.std.proofs.Common.{◌∙◌, get_or, refl, arith}
use Rattle.std.proofs.lemmas.List.{length-set}
use Rattle.mv_base.specs.declared.number.NetId.{NetId}
use Rattle.mv_graph.proofs.Nets.{has_id-at}
use Rattle.mv_wide.proofs.Counting.{numbered_more}
use Rattle.mv_wide.proofs.nets.vars_of.Goals as goal

pub index_mut-requires : goal.index_mut-requires
index_mut-requires c =
    let d : NetId = record { 0 = 0 } in
    let low = c.requires.below (get_or c.args.nets.now c.loop-place.place d).0 (has_id-at c.args.nets.now c.loop-place.place d c.loop-place-test.true) in
    omega (arith, low, c.loop-place.invariant.long)

pub loop-place-preserved : goal.loop-place-preserved
loop-place-preserved c =
    let d : NetId = record { 0 = 0 } in
    let nets = c.args.nets.now in
    let vars = c.loop-place.vars.items in
    let place = c.loop-place.place in
    let low = c.requires.below (get_or nets place d).0 (has_id-at nets place d c.loop-place-test.true) in
    record {
      long = length-set vars (get_or nets place d).0 place ∙ c.loop-place.invariant.long;
      each = numbered_more vars nets place (get_or nets place d) d c.requires.once c.loop-place.invariant.each c.loop-place-test.true refl
          (omega (arith, low, c.loop-place.invariant.long));
    }
