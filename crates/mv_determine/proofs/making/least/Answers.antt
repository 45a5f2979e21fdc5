-- The least value of an output is one of the net's.
use Rattle.std.proofs.Common.{◌≡◌, sym, subst, arith}
use Rattle.mv_cover.specs.Lines.{IsOutput}
use Rattle.mv_determine.specs.Determined.{least_of}
use Rattle.mv_determine.proofs.Least.{least_is, output_found, value_below}
use Rattle.mv_determine.proofs.making.least.Goals as goal

pub unwrap-requires : goal.unwrap-requires
unwrap-requires c = output_found c.least.result c.args.values c.get.result c.least.ensures.none (subst (IsOutput c.args.values) (sym c.get.ensures) c.requires.some)

pub one-requires : goal.one-requires
one-requires c =
    let there = rw c.unwrap.ensures at c.least.ensures.some in
    let low = value_below c.args.values c.get.result c.unwrap.result.0 (subst (IsOutput c.args.values) (sym c.get.ensures) c.requires.some) there in
    omega (arith, low, c.requires.few)

pub returns : goal.returns
returns c =
    let there = rw c.unwrap.ensures at c.least.ensures.some in
    let low = value_below c.args.values c.get.result c.unwrap.result.0 (subst (IsOutput c.args.values) (sym c.get.ensures) c.requires.some) there in
    let is : least_of c.get.result ≡ c.unwrap.result.0 = least_is c.get.result c.unwrap.result.0 there (rw c.unwrap.ensures at c.least.ensures.least) (omega (arith, low, c.requires.few)) in
    rw (← c.get.ensures) (rw is c.one.ensures)
