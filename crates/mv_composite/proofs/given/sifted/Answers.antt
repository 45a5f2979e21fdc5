-- With each pass more of the lines that stay are known.
use Rattle.std.proofs.Common.{ℕ, Option, subst, arith}
use Rattle.std.specs.List.{flat_map}
use Rattle.mv_composite.specs.Takers.{KeepsLightest}
use Rattle.mv_composite.proofs.Sifting.{sifted_all, sifted_wide, sifted_again}
use Rattle.mv_composite.proofs.given.sifted.Goals as goal

pub returns-then-is_none-clause-same : goal.returns-then-is_none-clause-same
returns-then-is_none-clause-same g c =
    sifted_all (flat_map (g.G.Giver.gives c.args.giver.now) c.args.lines.now) c.loop-pass.lightest.left c.loop-pass.lightest.cap c.if-is_none.ensures c.loop-pass.invariant

pub returns-then-len-gt-MAX_COMPOSED_LINES-clause-wide : goal.returns-then-len-gt-MAX_COMPOSED_LINES-clause-wide
returns-then-len-gt-MAX_COMPOSED_LINES-clause-wide g c = λ _.
    sifted_wide (flat_map (g.G.Giver.gives c.args.giver.now) c.args.lines.now) c.loop-pass.lightest.left c.loop-pass.lightest.cap c.requires.cubes c.loop-pass.invariant (omega (arith, c.len.ensures))

pub loop-pass-preserved : goal.loop-pass-preserved
loop-pass-preserved g c =
    let ls = flat_map (g.G.Giver.gives c.args.giver.now) c.args.lines.now in
    sifted_again ls c.loop-pass.lightest.left c.new-lightest.result.left c.put_lines.new.taker.left c.loop-pass.lightest.cap c.put_lines.new.taker.cap c.new-lightest.ensures.left c.if-is_none.ensures c.loop-pass.invariant
    (subst (λ (o : Option ℕ). KeepsLightest c.new-lightest.result.left c.put_lines.new.taker.left o c.put_lines.new.taker.cap ls) c.new-lightest.ensures.cap c.in_ok-put_lines.ensures)
