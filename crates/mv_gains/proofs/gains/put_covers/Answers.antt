use Rattle.std.proofs.Common.{◌∙◌, ◌+◌, ◌<◌, List, length, drop, get_or, refl, ap, subst, arith}
use Rattle.std.proofs.lemmas.List.{drop_all, get_or_default, length-set}
use Rattle.std.proofs.lemmas.List.Elements.{All-get_or}
use Rattle.mv_net.specs.Nets.{slot}
use Rattle.mv_base.specs.declared.number.NetId.{NetId}
use Rattle.mv_gains.specs.Gains.{AreTablesBut, covers_at}
use Rattle.mv_gains.proofs.Renewal.{but_none, but_less, put_none, put_then, waits_on}
use Rattle.mv_gains.proofs.gains.put_covers.Goals as goal

pub loop-n-init : goal.loop-n-init
loop-n-init c = record { put = put_none c.args.kept.now c.requires.ready; long = c.requires.long; others = c.requires.others }

pub loop-n-preserved : goal.loop-n-preserved
loop-n-preserved c =
    let waiting = c.args.waiting.now in
    let nets = c.args.net.now.nets in
    let tables = c.loop-n.kept.covers.items in
    let i = c.loop-n.n-index in
    let none : NetId = record { 0 = 0 } in
    let n : NetId = get_or waiting i none in
    let at = get_or_default waiting i none n c.loop-n-test.true in
    let below = All-get_or (λ (m : NetId). m.0 < length nets) waiting i none c.loop-n-test.true c.requires.below in
    let long = c.loop-n.invariant.long in
    let are = c.in_ok-put_cover.ensures.covers in
    record {
      put = put_then c.args.kept.now c.loop-n.kept c.put_cover.new.kept c.loop-n.invariant.put c.in_ok-put_cover.ensures.put;
      long = ap length are ∙ (length-set tables n.0 (covers_at (slot nets n.0)) ∙ long);
      others =
          but_less covers_at nets tables c.put_cover.new.kept.covers.items n (drop (i + 1) waiting) (omega (arith, below, long)) are
          (subst (λ (ws : List NetId). AreTablesBut covers_at ws nets tables) (waits_on waiting i n c.loop-n-test.true at) c.loop-n.invariant.others);
    }

pub returns-clause-covers : goal.returns-clause-covers
returns-clause-covers c =
    but_none covers_at refl c.args.net.now.nets c.loop-n.kept.covers.items c.loop-n.invariant.long
    (subst (λ (ws : List NetId). AreTablesBut covers_at ws c.args.net.now.nets c.loop-n.kept.covers.items) (drop_all c.loop-n.n-index c.args.waiting.now c.loop-n-test.false) c.loop-n.invariant.others)
