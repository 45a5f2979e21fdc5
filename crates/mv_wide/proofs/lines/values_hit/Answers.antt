-- One value after another.
use Rattle.std.proofs.Common.{◌∙◌, ◌<◌, Some, length, refl, sym, subst, arith}
use Rattle.std.specs.Prelude.{MatchBool}
use Rattle.std.proofs.lemmas.List.{get_or_read}
use Rattle.mv_base.specs.Set.{has, one}
use Rattle.mv_factors.specs.Families.{Family, set_at}
use Rattle.mv_wide.specs.Choosing.{Hits, and_in, in_line}
use Rattle.mv_wide.specs.Wides.{IsReady}
use Rattle.mv_wide.proofs.Hitting.{AreHit, hit_all, hit_none, hit_step}
use Rattle.mv_wide.proofs.lines.values_hit.Goals as goal

pub loop-value-init : goal.loop-value-init
loop-value-init c =
    let f = c.args.frame.now in
    record {
      same = refl;
      hit = λ listed.
          subst (λ k. AreHit f.counts.items (λ p. set_at c.args.factors.now 0 p) (in_line (Some c.args.fanin) f.vars.items f.own c.args.line.now) c.index-var.result.now k 0) (sym c.empty-hit.ensures)
          (hit_none f.counts.items (λ p. set_at c.args.factors.now 0 p) (in_line (Some c.args.fanin) f.vars.items f.own c.args.line.now) c.index-var.result.now);
    }

pub hits_value-requires-clause-ready : goal.hits_value-requires-clause-ready
hits_value-requires-clause-ready c = subst (λ (f : Family). IsReady f c.args.frame.now) (sym c.loop-value.invariant.same) c.requires

pub loop-value-preserved : goal.loop-value-preserved
loop-value-preserved c =
    let f = c.args.frame.now in
    let same = c.loop-value.invariant.same in
    record {
      same = c.hits_value.ensures.same ∙ same;
      hit = λ listed.
          hit_step f.counts.items (λ p. set_at c.args.factors.now 0 p) (in_line (Some c.args.fanin) f.vars.items f.own c.args.line.now) c.index-var.result.now
          c.loop-value.hit c.loop-value.value c.with_value-hit.result c.in_ok-hits.hits (c.loop-value.invariant.hit listed)
          (subst (λ (s : Family). MatchBool c.in_ok-hits.hits
          (Hits f.counts.items (λ p. set_at s 0 p) (and_in (in_line (Some c.args.fanin) f.vars.items f.own c.args.line.now) c.index-var.result.now (one c.loop-value.value)))
          (Hits f.counts.items (λ p. set_at s 0 p) (and_in (in_line (Some c.args.fanin) f.vars.items f.own c.args.line.now) c.index-var.result.now (one c.loop-value.value)) → ⊥))
          same (c.in_ok-hits.ensures.hits listed))
          c.with_value-hit.ensures;
    }

pub returns-clause-hits : goal.returns-clause-hits
returns-clause-hits c = λ in_vars in_counts listed u.
    let f = c.args.frame.now in
    let read = get_or_read f.vars.items c.args.fanin.0 c.index-var.result.now in_vars c.index-var.ensures 0 in
    let inside : c.index-var.result.now < length f.counts.items = omega (arith, c.if-var-len.false, c.len-2.ensures) in
    let last = get_or_read f.counts.items c.index-var.result.now c.index-value-end.result.now inside c.index-value-end.ensures 0 in
    subst (λ v. MatchBool (has c.loop-value.hit u)
    (Hits f.counts.items (λ p. set_at c.args.factors.now 0 p) (and_in (in_line (Some c.args.fanin) f.vars.items f.own c.args.line.now) v (one u)))
    (Hits f.counts.items (λ p. set_at c.args.factors.now 0 p) (and_in (in_line (Some c.args.fanin) f.vars.items f.own c.args.line.now) v (one u)) → ⊥)) read
    (hit_all f.counts.items (λ p. set_at c.args.factors.now 0 p) (in_line (Some c.args.fanin) f.vars.items f.own c.args.line.now) c.index-var.result.now
    c.loop-value.hit c.loop-value.value (c.loop-value.invariant.hit listed) inside (omega (arith, last, c.loop-value-test.false)) u)
