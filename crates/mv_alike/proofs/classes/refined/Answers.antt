-- Each value gets the number of the first of its half.
use Rattle.std.proofs.Common.{◌≡◌, ◌∙◌, ap, arith, get_or, refl}
use Rattle.mv_alike.specs.Classes.{half_of}
use Rattle.mv_alike.proofs.Cutting.{half, half_within, none_alone, firsts_begin, firsts_step, refined_from}
use Rattle.mv_alike.proofs.classes.refined.Goals as goal

pub loop-at-init : goal.loop-at-init
loop-at-init c =
    rw c.in_ok-new.ensures.items
    (firsts_begin c.args.classes.now c.args.set c.in_ok-firsts.firsts.items (c.in_ok-firsts.ensures.items_if_clones_equal (none_alone _ (λ x h. h))))

pub index-requires : goal.index-requires
index-requires c =
    let here : c.half_of-half.result ≡ half c.args.classes.now c.args.set c.loop-at.at =
    c.half_of-half.ensures ∙ ap (half_of (get_or c.args.classes.now c.loop-at.at 0)) c.has.ensures in
    let low = half_within c.args.classes.now c.args.set c.loop-at.at c.loop-at-test.true c.requires.numbered in
    let places = c.loop-at.invariant.places in
    omega (arith, here, low, places, c.loop-at.firsts.ok.0)

pub index_mut-requires : goal.index_mut-requires
index_mut-requires c =
    let here : c.half_of-half.result ≡ half c.args.classes.now c.args.set c.loop-at.at =
    c.half_of-half.ensures ∙ ap (half_of (get_or c.args.classes.now c.loop-at.at 0)) c.has.ensures in
    let low = half_within c.args.classes.now c.args.set c.loop-at.at c.loop-at-test.true c.requires.numbered in
    let places = c.loop-at.invariant.places in
    omega (arith, here, low, places, c.loop-at.firsts.ok.0)

pub loop-at-preserved : goal.loop-at-preserved
loop-at-preserved c =
    firsts_step c.args.classes.now c.args.set c.loop-at.at c.half_of-half.result c.loop-at.firsts.items _ c.loop-at.new.items c.push.new.self.items c.index.result.now
    c.first_of-first.result c.loop-at-test.true c.requires.numbered
    (c.half_of-half.ensures ∙ ap (half_of (get_or c.args.classes.now c.loop-at.at 0)) c.has.ensures) c.index.ensures c.first_of-first.ensures refl
    c.in_ok-push.ensures.items c.loop-at.invariant

pub returns : goal.returns
returns c = refined_from c.args.classes.now c.args.set c.loop-at.at c.loop-at.firsts.items c.loop-at.new.items c.loop-at-test.false c.loop-at.invariant
