-- What the lines give, and what the default gives where it is asked for.
use Rattle.std.proofs.Common.{◌∙◌, List, filter, sym, subst}
use Rattle.std.specs.List.{flat_map}
use Rattle.mv_cover.specs.declared.line.Line.{Line}
use Rattle.mv_cover.specs.Meets.{met}
use Rattle.mv_cover.specs.Cofactors.{cubes_of}
use Rattle.mv_cover.specs.Complement.{lines_for}
use Rattle.mv_composite.specs.Composite.{set_meets}
use Rattle.mv_composite.proofs.Puts.{puts_giving, puts_where}
use Rattle.mv_composite.proofs.put.put_where.Goals as goal

pub returns-then-not-default_meets : goal.returns-then-not-default_meets
returns-then-not-default_meets g c =
    let P = g.T.Taker.takes c.args.taker.now c.put_giving.new.taker in
    puts_giving P c.args.outside.now c.args.cover.now c.args.asked.now c.args.rest.now c.args.out.now (sym c.default_meets.ensures ∙ c.if-not-default_meets.true)
    (subst (λ (ls : List Line). P (lines_for c.args.out.now (flat_map (met c.args.rest.now) (cubes_of (filter (λ (l : Line). set_meets c.args.asked.now l.out) ls))))) c.as_slice.ensures c.in_ok-put_giving.ensures)

pub returns : goal.returns
returns g c =
    let own = λ (ls : List Line). lines_for c.args.out.now (flat_map (met c.args.rest.now) (cubes_of (filter (λ (l : Line). set_meets c.args.asked.now l.out) ls))) in
    puts_where (g.T.Taker.takes c.args.taker.now c.put_all.new.taker) c.args.outside.now c.args.cover.now c.args.asked.now c.args.rest.now c.args.out.now (sym c.default_meets.ensures ∙ c.if-not-default_meets.false)
    (g.met.T.Taker.takes_more c.args.taker.now c.put_giving.new.taker c.put_all.new.taker (own c.args.cover.now.lines) (lines_for c.args.out.now (flat_map (met c.args.rest.now) c.args.outside.now))
    (subst (λ (ls : List Line). g.T.Taker.takes c.args.taker.now c.put_giving.new.taker (own ls)) c.as_slice.ensures c.in_ok-put_giving.ensures)
    c.in_ok-put_all.ensures)
