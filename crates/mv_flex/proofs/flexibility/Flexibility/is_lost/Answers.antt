-- One point more at which nothing is lost.
use Rattle.std.proofs.Common.{◌≡◌, ◌∙◌, ◌<◌, ◌≤◌, sym, ap, ⊎_elim, arith}
use Rattle.std.proofs.lemmas.Bool.{cases_lt}
use Rattle.mv_flex.specs.Checks.{loses}
use Rattle.mv_flex.proofs.flexibility.Flexibility.is_lost.Goals as goal

pub loop-point-preserved : goal.loop-point-preserved
loop-point-preserved c =
    λ k low.
    ⊎_elim
    (λ (less : k < c.loop-point.point). c.loop-point.invariant k less)
    (λ (last : c.loop-point.point ≤ k).
    let same : k ≡ c.loop-point.point = omega (arith, last, low) in
    ap (loses c.args.self.now c.args.new.now) same ∙ sym c.in_ok-loses.ensures ∙ c.if-branch.false)
    (cases_lt k c.loop-point.point)
