-- The next line is kept, unless it is a product.
use Rattle.std.proofs.Common.{subst}
use Rattle.std.proofs.lemmas.List.Elements.{All-more}
use Rattle.mv_cover.specs.Cubes.{IsCube}
use Rattle.mv_cover.specs.declared.line.Line.{Line}
use Rattle.mv_divide.specs.Grouped as grouped
use Rattle.mv_divide.proofs.Leaving.{kept_more}
use Rattle.mv_divide.proofs.divided.rest.Goals as goal

pub loop-line-preserved : goal.loop-line-preserved
loop-line-preserved c = record {
  rest = kept_more (grouped.is_product c.args.left.now.keys c.args.divisor.now) c.args.lines.now c.loop-line.line-index c.line-item.result c.loop-line.rest.items c.keep.new.rest.items c.in_ok-is_product.is_product c.loop-line-test.true c.line-item.is c.in_ok-is_product.ensures.found c.in_ok-keep.ensures c.loop-line.invariant.rest;
  formed = All-more (λ (x : Line). IsCube x.cube) c.args.lines.now c.loop-line.line-index c.line-item.result c.loop-line-test.true c.loop-line.invariant.formed (subst (λ (x : Line). IsCube x.cube) c.line-item.is c.in_ok-is_product.ensures.formed);
}
