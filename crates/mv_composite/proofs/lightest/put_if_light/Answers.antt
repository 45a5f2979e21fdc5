use Rattle.std.proofs.Common.{arith}
use Rattle.mv_composite.proofs.Sifting.{light_heavy, light_put}
use Rattle.mv_composite.proofs.lightest.put_if_light.Goals as goal

pub returns-then-weight_of-cap : goal.returns-then-weight_of-cap
returns-then-weight_of-cap c =
    light_heavy c.args.cap c.args.left.now c.args.line.now (record { weighed = omega (arith, c.weight_of.ensures.value); cube = c.weight_of.ensures.formed })

pub returns : goal.returns
returns c =
    light_put c.args.cap c.args.left.now c.put.new.self c.args.line.now c.in_ok-copy.field-0 c.in_ok-copy.ensures.copy (record { weighed = omega (arith, c.weight_of.ensures.value); counted = c.weight_of.ensures.counted })
    c.in_ok-put.ensures.ok
