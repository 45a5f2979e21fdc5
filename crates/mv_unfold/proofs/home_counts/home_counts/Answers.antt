-- Place by place.
use Rattle.std.proofs.Common.{◌<◌, ◌++◌, length, map, take, sym, ◌∙◌, ap, arith}
use Rattle.std.specs.List.{flat_map}
use Rattle.std.proofs.lemmas.List.{map-append}
use Rattle.mv_tree.specs.Places.{homes, homes_at}
use Rattle.mv_unfold.specs.Laid.{places_of}
use Rattle.mv_unfold.specs.Locals.{cut}
use Rattle.mv_unfold.specs.Placed.{place_at}
use Rattle.mv_unfold.proofs.Laid.{homes_taken, homes_of_none, places_long}
use Rattle.mv_unfold.proofs.home_counts.home_counts.Goals as goal

pub loop-number-init : goal.loop-number-init
loop-number-init c = λ tells told. c.new-counts.ensures.items ∙ ap (map tells) (sym homes_of_none)

pub loop-number-preserved : goal.loop-number-preserved
loop-number-preserved c = λ tells told.
    let l = c.args.layout.now in
    let ps = places_of l in
    let n = c.loop-number.number in
    let own = c.own.result.now in
    let long = places_long l c.requires.laid in
    let end = c.len-number-end.ensures in
    let t = c.loop-number-test.true in
    let placed = c.requires.laid.placed.long in
    let lt : n < length ps = omega arith in
    c.in_ok-add_spans.ensures
    ∙ (ap (λ ks. ks ++ flat_map (cut c.counts_at.result.now) own) (c.loop-number.invariant tells told)
    ∙ (ap (λ ks. map tells (homes (take n ps)) ++ flat_map (cut ks) own) c.counts_at.ensures
    ∙ (ap (λ ks. map tells (homes (take n ps)) ++ ks) (told.each n own (omega arith) c.own.ensures)
    ∙ (sym (map-append tells (homes (take n ps)) (homes_at (place_at ps n))) ∙ ap (map tells) (sym (homes_taken ps n lt))))))
