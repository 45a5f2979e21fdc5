use Rattle.std.proofs.Common.{◌∙◌, ◌+◌, ◌<◌, List, length, drop, get_or, refl, ap, subst, arith}
use Rattle.std.proofs.lemmas.List.{drop_all, get_or_default, length-set}
use Rattle.std.proofs.lemmas.List.Elements.{All-get_or}
use Rattle.mv_base.specs.declared.number.NetId.{NetId}
use Rattle.mv_net.specs.Nets.{slot}
use Rattle.mv_gains.specs.Gains.{AreTablesBut, cubes_at}
use Rattle.mv_gains.proofs.Renewal.{but_none, but_less, waits_on}
use Rattle.mv_gains.proofs.cube_gains.put_tables.Goals as goal

pub loop-n-preserved : goal.loop-n-preserved
loop-n-preserved c =
    let waiting = c.args.waiting.now in
    let nets = c.args.net.now.nets in
    let tables = c.loop-n.kept.tables.items in
    let i = c.loop-n.n-index in
    let none : NetId = record { 0 = 0 } in
    let n : NetId = get_or waiting i none in
    let at = get_or_default waiting i none n c.loop-n-test.true in
    let below = All-get_or (λ (m : NetId). m.0 < length nets) waiting i none c.loop-n-test.true c.requires.below in
    let long = c.loop-n.invariant.long in
    let are = c.in_ok-put_cubes.ensures.tables in
    record {
      answers = c.in_ok-put_cubes.ensures.answers;
      long = ap length are ∙ (length-set tables n.0 (cubes_at (slot nets n.0)) ∙ long);
      others =
          but_less cubes_at nets tables c.put_cubes.new.kept.tables.items n (drop (i + 1) waiting) (omega (arith, below, long)) are
          (subst (λ (ws : List NetId). AreTablesBut cubes_at ws nets tables) (waits_on waiting i n c.loop-n-test.true at) c.loop-n.invariant.others);
    }

pub returns-clause-tables : goal.returns-clause-tables
returns-clause-tables c =
    but_none cubes_at refl c.args.net.now.nets c.loop-n.kept.tables.items c.loop-n.invariant.long
    (subst (λ (ws : List NetId). AreTablesBut cubes_at ws c.args.net.now.nets c.loop-n.kept.tables.items) (drop_all c.loop-n.n-index c.args.waiting.now c.loop-n-test.false) c.loop-n.invariant.others)
