-- A cube that doesn't meet the other is the sharp, and else the parts are.
use Rattle.std.proofs.Common.{◌∙◌, sym, ap}
use Rattle.std.proofs.lemmas.Result.{on_ok_weaker}
use Rattle.mv_cover.specs.Overlap.{cubes_meet}
use Rattle.mv_cover.proofs.Sharps.{sharp_alone, sharp_parts}
use Rattle.mv_cover.proofs.sharp.put_sharp.Goals as goal

pub returns-then-not-meet : goal.returns-then-not-meet
returns-then-not-meet c =
    let apart = ap (λ x. cubes_meet x c.args.other.now) (sym c.lits.ensures.lits) ∙ sym c.if-not-meet.ensures in
    sharp_alone c.args.counts.now c.args.cube c.args.other.now c.args.list.now.items c.push.new.self.items apart c.in_ok-push.ensures.items

pub returns : goal.returns
returns c =
    let meets = ap (λ x. cubes_meet x c.args.other.now) (sym c.lits.ensures.lits) ∙ sym c.if-not-meet.ensures in
    on_ok_weaker c.put_parts.result
    (sharp_parts c.args.counts.now c.args.cube c.args.other.now c.args.list.now.items c.put_parts.new.list.items meets) c.put_parts.ensures
