-- The values that aren't blocked are put in.
use Rattle.std.proofs.Common.{◌≡◌, ◌∙◌, ◌≤◌, ℕ, sym, ap, subst}
use Rattle.mv_base.specs.Set.{full, minus}
use Rattle.mv_base.specs.declared.limits.TheConstants.{MAX_VALUES}
use Rattle.mv_net.specs.Nets.{slot, values_in}
use Rattle.mv_net.proofs.Known.{values_few}
use Rattle.mv_tight.specs.Growing.{put_in}
use Rattle.mv_tight.proofs.Growth.{grown_at}
use Rattle.mv_tight.proofs.growing.grown_at.Goals as goal

pub full-all-requires : goal.full-all-requires
full-all-requires c = subst (λ (k : ℕ). k ≤ MAX_VALUES) (sym c.values.ensures) (values_few c.args.net.now c.args.m.0 c.well_formed-2.ensures)

pub returns-clause-ok : goal.returns-clause-ok
returns-clause-ok c =
    λ w n budget flex reads over.
    let all : c.full-all.result ≡ full (values_in (slot c.args.net.now.nets c.args.m.0)) = c.full-all.ensures ∙ ap full c.values.ensures in
    let values : c.minus.result ≡ minus (full (values_in (slot c.args.net.now.nets c.args.m.0))) c.in-Ok.blocked = c.minus.ensures ∙ ap (λ s. minus s c.in-Ok.blocked) all in
    grown_at c.args.net.now.nets w n c.args.m.0 c.args.line.now (record { cube = c.in_ok-cube.cube; out = c.in_ok-out.out }) c.in-Ok.blocked
    (c.in-Ok.ensures.ok c.args.net.now w n budget flex over reads)
    (c.in_ok-cube.ensures ∙ (λ i. put_in c.args.m.0 (values i) (all i) (c.lits.ensures.lits i)))
    c.in_ok-out.ensures

pub returns-in-Err-clause-err : goal.returns-in-Err-clause-err
returns-in-Err-clause-err c = λ w n budget flex. c.in-Err.ensures.err c.args.net.now w n budget flex
