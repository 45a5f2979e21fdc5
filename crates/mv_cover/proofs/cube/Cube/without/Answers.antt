-- The list is the sharp, which has what the clauses say.
use Rattle.std.proofs.Common.{◌≡◌, ◌∙◌, ◌++◌, [], sym, true, false}
use Rattle.mv_cover.specs.Overlap.{cubes_meet}
use Rattle.mv_cover.specs.Sharp.{parts_outside}
use Rattle.mv_cover.proofs.Sharps.{pushed_first, sharp_alone, sharp_parts, IsSharp-sharp_of}
use Rattle.mv_cover.proofs.cube.Cube.without.Goals as goal

pub returns-then-not-meet : goal.returns-then-not-meet
returns-then-not-meet c =
    let apart : cubes_meet c.args.self.now c.args.other.now ≡ false = (λ i. cubes_meet (sym c.lits.ensures.lits i) (sym c.lits-2.ensures.lits i)) ∙ sym c.if-not-meet.ensures in
    let put = pushed_first c.push.new.self.items c.new-cubes.result.items c.in_ok-copy.field-0 c.args.self.now c.in_ok-push.ensures.items c.new-cubes.ensures.items c.in_ok-copy.ensures.copy in
    let list = sharp_alone c.args.counts.now c.args.self.now c.args.other.now [] c.push.new.self.items apart put in
    let is = IsSharp-sharp_of c.args.counts.now c.args.self.now c.args.other.now c.push.new.self.items list c.lits.ensures.formed c.lits-2.ensures.formed c.requires.own c.requires.other in
    record { list = is.list; points = is.points; apart = is.apart; suited = is.suited }

pub returns : goal.returns
returns c =
    let meets : cubes_meet c.args.self.now c.args.other.now ≡ true = (λ i. cubes_meet (sym c.lits.ensures.lits i) (sym c.lits-2.ensures.lits i)) ∙ sym c.if-not-meet.ensures in
    let put : c.put_parts.new.list.items ≡ [] ++ parts_outside c.args.counts.now c.args.self.now c.args.other.now = c.in_ok-put_parts.ensures ∙ (λ i. c.new-cubes.ensures.items i ++ parts_outside c.args.counts.now c.args.self.now (c.lits-3.ensures.lits i)) in
    let list = sharp_parts c.args.counts.now c.args.self.now c.args.other.now [] c.put_parts.new.list.items meets put in
    let is = IsSharp-sharp_of c.args.counts.now c.args.self.now c.args.other.now c.put_parts.new.list.items list c.lits.ensures.formed c.lits-2.ensures.formed c.requires.own c.requires.other in
    record { list = is.list; points = is.points; apart = is.apart; suited = is.suited }
