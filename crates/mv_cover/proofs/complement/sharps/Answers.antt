-- Each cube's sharp is put behind those of the cubes before it, so the list grows to all of them.
use Rattle.std.proofs.Common.{◌∙◌, sym, ap, ◌++◌, length, map-id, arith}
use Rattle.std.proofs.lemmas.Iterator.Adapters.{YieldsList-from_vec}
use Rattle.std.proofs.lemmas.Iterator.Consumers.{YieldsList-so_far, YieldsList-turn}
use Rattle.mv_base.specs.declared.limits.TheConstants.{MAX_COMPLEMENT_CUBES}
use Rattle.mv_cover.specs.Sharp.{sharp_of}
use Rattle.mv_cover.proofs.Complements.{sharps-none, sharps-more, sharps_pass}
use Rattle.mv_cover.proofs.complement.sharps.Goals as goal

pub loop-cube-init : goal.loop-cube-init
loop-cube-init c =
    let none = c.new-left.ensures.items in
    record { list = none ∙ sym (sharps-none c.args.counts.now c.args.other.now); narrow = omega (arith, ap length none) }

pub loop-cube-preserved : goal.loop-cube-preserved
loop-cube-preserved c = record {
  list = c.in_ok-put_sharp.ensures ∙ (ap (λ x. x ++ sharp_of c.args.counts.now c.in-Some.cube c.args.other.now) c.loop-cube.invariant.list ∙ sym (sharps-more c.args.counts.now c.args.other.now c.loop-cube.yielded c.in-Some.cube));
  narrow = omega arith;
}

pub returns-then-len-gt-MAX_COMPLEMENT_CUBES-clause-wide :
    goal.returns-then-len-gt-MAX_COMPLEMENT_CUBES-clause-wide
returns-then-len-gt-MAX_COMPLEMENT_CUBES-clause-wide c _ =
    let gives = c.into_iter-cube-iterator.ensures.into_iter_gives in
    let road = YieldsList-from_vec {s = c.into_iter-cube-iterator.result} _ gives.0 (gives.1 ∙ c.args.cubes.ok.0) in
    let turn = YieldsList-turn road c.loop-cube.yielded c.loop-cube.cube-iterator c.loop-cube.yielded_by c.next.result c.next.new.self c.in-Some.cube c.in-Some.is c.next.ensures.steps in
    let front = sym (map-id c.loop-cube.yielded) ∙ YieldsList-so_far road c.loop-cube.yielded c.loop-cube.cube-iterator c.loop-cube.yielded_by in
    sharps_pass c.args.counts.now c.args.other.now c.args.cubes.items c.loop-cube.yielded c.put_sharp.new.list.items c.in-Some.cube MAX_COMPLEMENT_CUBES front turn.0 turn.1
    (c.in_ok-put_sharp.ensures ∙ ap (λ x. x ++ sharp_of c.args.counts.now c.in-Some.cube c.args.other.now) c.loop-cube.invariant.list) (omega arith)
