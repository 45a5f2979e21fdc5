-- The list after each line is what the definition makes of the lines so far.
use Rattle.std.proofs.Common.{◌≡◌, ◌∙◌, [], ◌<◌, length, get_or, sym, ap, subst, arith}
use Rattle.mv_base.specs.declared.limits.TheConstants.{MAX_COMPLEMENT_CUBES}
use Rattle.mv_cover.specs.Sharp.{Suits}
use Rattle.mv_cover.specs.Complement.{sharps_of, IsWide}
use Rattle.mv_cover.specs.declared.line.Line.{Line}
use Rattle.mv_cover.proofs.Sharps.{pushed_first}
use Rattle.mv_cover.proofs.Complements.{IsComplement, left_none, left_more, left_wide, left_all}
use Rattle.mv_cover.proofs.cover.Cover.complement.Goals as goal

pub loop-line-init : goal.loop-line-init
loop-line-init c =
    left_none c.args.counts.now c.as_slice-line-items.result.now c.push.new.self.items
    (pushed_first c.push.new.self.items c.new-cubes.result.items c.in_ok-new.field-0 [] c.in_ok-push.ensures.items c.new-cubes.ensures.items c.in_ok-new.ensures)

pub loop-line-preserved : goal.loop-line-preserved
loop-line-preserved c =
    let n = c.loop-line.line-index in
    let line = c.line-item.result in
    let lines = c.as_slice-line-items.result.now in
    let here : line ≡ get_or c.args.self.now.lines n line = c.line-item.is ∙ ap (λ x. get_or x n line) c.as_slice-line-items.ensures in
    let low : n < length c.args.self.now.lines = omega (arith, ap length c.as_slice-line-items.ensures) in
    let suits : Suits c.args.counts.now line.cube = subst (λ (l : Line). Suits c.args.counts.now l.cube) (sym here) (c.requires n line low) in
    left_more c.args.counts.now lines n c.loop-line.cubes.items c.in-Ok.left.items line c.loop-line-test.true c.line-item.is c.lits.ensures.formed suits
    (c.in-Ok.ensures.list ∙ ap (λ x. sharps_of c.args.counts.now x c.loop-line.cubes.items) c.lits.ensures.lits) c.in-Ok.ensures.narrow c.loop-line.invariant

pub returns-in-Err-clause-wide : goal.returns-in-Err-clause-wide
returns-in-Err-clause-wide c stop =
    let n = c.loop-line.line-index in
    let line = c.line-item.result in
    let lines = c.as_slice-line-items.result.now in
    let many = subst (λ x. MAX_COMPLEMENT_CUBES < length (sharps_of c.args.counts.now x c.loop-line.cubes.items)) c.lits.ensures.lits (c.in-Err.ensures.wide stop) in
    subst (λ x. IsWide c.args.counts.now x) c.as_slice-line-items.ensures (left_wide c.args.counts.now lines n c.loop-line.cubes.items line c.loop-line-test.true c.line-item.is many c.loop-line.invariant)

pub returns : goal.returns
returns c =
    let all = left_all c.args.counts.now c.as_slice-line-items.result.now c.loop-line.line-index c.loop-line.cubes.items c.loop-line-test.false c.loop-line.invariant in
    let is : IsComplement c.args.counts.now c.args.self.now.lines c.loop-line.cubes.items = subst (λ x. IsComplement c.args.counts.now x c.loop-line.cubes.items) c.as_slice-line-items.ensures all in
    record { list = is.list; narrow = is.narrow; wide = tt; points = is.points; apart = is.apart; suited = is.suited }
