-- After the first pass all lines that are left are known, or the lightest of them.
use Rattle.std.proofs.Common.{◌∙◌}
use Rattle.std.specs.List.{flat_map}
use Rattle.mv_composite.proofs.Sifting.{all_left, cubes_first, lightest_first, sifted_first}
use Rattle.mv_composite.proofs.given.left_of_given.Goals as goal

pub returns-then-is_none-clause-left : goal.returns-then-is_none-clause-left
returns-then-is_none-clause-left g c =
    let ls = flat_map (g.G.Giver.gives c.args.giver.now) c.args.lines.now in
    all_left ls c.put_lines.new.taker.left c.put_lines.new.taker.cap c.if-is_none.ensures
    (lightest_first ls c.new-lightest.result.left c.put_lines.new.taker.left c.new-lightest.result.cap c.put_lines.new.taker.cap (c.new-lightest.ensures.left ∙ c.new.ensures) c.new-lightest.ensures.cap c.in_ok-put_lines.ensures)

pub sifted-requires-clause-cubes : goal.sifted-requires-clause-cubes
sifted-requires-clause-cubes g c =
    let ls = flat_map (g.G.Giver.gives c.args.giver.now) c.args.lines.now in
    cubes_first ls c.put_lines.new.taker.left c.put_lines.new.taker.cap
    (lightest_first ls c.new-lightest.result.left c.put_lines.new.taker.left c.new-lightest.result.cap c.put_lines.new.taker.cap (c.new-lightest.ensures.left ∙ c.new.ensures) c.new-lightest.ensures.cap c.in_ok-put_lines.ensures)

pub sifted-requires-clause-begun : goal.sifted-requires-clause-begun
sifted-requires-clause-begun g c =
    let ls = flat_map (g.G.Giver.gives c.args.giver.now) c.args.lines.now in
    sifted_first ls c.put_lines.new.taker.left c.put_lines.new.taker.cap
    (lightest_first ls c.new-lightest.result.left c.put_lines.new.taker.left c.new-lightest.result.cap c.put_lines.new.taker.cap (c.new-lightest.ensures.left ∙ c.new.ensures) c.new-lightest.ensures.cap c.in_ok-put_lines.ensures)

pub in_order-requires-clause-cubes : goal.in_order-requires-clause-cubes
in_order-requires-clause-cubes g c =
    let ls = flat_map (g.G.Giver.gives c.args.giver.now) c.args.lines.now in
    cubes_first ls c.put_lines.new.taker.left c.put_lines.new.taker.cap
    (lightest_first ls c.new-lightest.result.left c.put_lines.new.taker.left c.new-lightest.result.cap c.put_lines.new.taker.cap (c.new-lightest.ensures.left ∙ c.new.ensures) c.new-lightest.ensures.cap c.in_ok-put_lines.ensures)
