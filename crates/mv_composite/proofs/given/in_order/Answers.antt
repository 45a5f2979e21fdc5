use Rattle.std.proofs.Common.{◌∙◌, [], ap}
use Rattle.std.specs.List.{flat_map}
use Rattle.mv_cover.specs.declared.cover.Cover.{Cover}
use Rattle.mv_composite.proofs.Puts.{left_none}
use Rattle.mv_composite.proofs.Sifting.{picked_left}
use Rattle.mv_composite.proofs.given.in_order.Goals as goal

pub returns-in_default : goal.returns-in_default
returns-in_default g c = c.in_ok-put_lines.ensures.left [] (left_none c.new-all.result c.new-all.ensures)

pub returns : goal.returns
returns g c =
    picked_left (flat_map (g.G.Giver.gives c.args.giver.now) c.args.lines.now) c.in_ok-picked.picked.others.keys c.in-Some.left c.as_slice.result.now c.put_lines-2.new.taker.left c.requires.cubes c.in_ok-picked.ensures.others
    (c.as_slice.ensures ∙ ap (λ (x : Cover). x.lines) c.finish.ensures) (rw c.in-Some.is at c.requires.same) (c.in_ok-put_lines-2.ensures.left [] (left_none c.in_ok-picked.picked.left c.in_ok-picked.ensures.left))
