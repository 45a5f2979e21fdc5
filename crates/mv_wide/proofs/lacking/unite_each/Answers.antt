use Rattle.std.proofs.Common.{◌≡◌, ◌∙◌, ◌<◌, ◌≤◌, ℕ, List, length, All, sym, subst, refl, arith}
use Rattle.mv_factors.specs.declared.inner.Inner.{Inner}
use Rattle.mv_factors.specs.Families.{Keeps}
use Rattle.mv_factors.specs.Leaving.{is_inner}
use Rattle.mv_factors.proofs.Keeping.{Keeps-self, Keeps-then}
use Rattle.mv_wide.specs.Families.{AddsMissedIn, between}
use Rattle.mv_wide.proofs.Lacks.{missed_more, missed_none}
use Rattle.mv_wide.proofs.lacking.unite_each.Goals as goal

pub loop-place-init : goal.loop-place-init
loop-place-init c =
    let f = c.args.factors.now in
    record {
      same = refl;
      keeps = Keeps-self f (between (length f.list));
      long = refl;
      sets = missed_none f c.args.tables c.args.left_out c.args.from (is_inner c.args.beside.now);
    }

pub unite_missed-requires-clause-beside : goal.unite_missed-requires-clause-beside
unite_missed-requires-clause-beside c =
    subst (λ (cs : List ℕ). All (λ (i : Inner). i.var < length cs) c.args.beside.now) (sym c.loop-place.invariant.keeps.counts) c.requires.beside

pub loop-place-preserved : goal.loop-place-preserved
loop-place-preserved c =
    let f = c.args.factors.now in
    let now = c.loop-place.factors in
    let long = c.loop-place.invariant.long in
    let more = c.in-Ok.ensures.long in
    let is = c.len-last.ensures in
    let inside : c.loop-place.place < length f.list = omega arith in
    let first : c.args.from ≤ c.loop-place.place = omega arith in
    record {
      same = c.unite_missed.ensures.same ∙ c.loop-place.invariant.same;
      keeps = Keeps-then f now c.unite_missed.new.factors (between (length f.list)) c.loop-place.invariant.keeps
          (subst (λ n. Keeps now c.unite_missed.new.factors (between n)) long c.unite_missed.ensures.keeps);
      long = more ∙ long;
      sets = missed_more f now c.unite_missed.new.factors c.args.tables c.args.left_out c.args.from c.loop-place.place (length f.list) (is_inner c.args.beside.now)
          c.loop-place.invariant.sets c.loop-place.invariant.keeps c.in-Ok.ensures.set c.requires.tables c.requires.some first inside;
    }

pub returns-in-Err-clause-keeps : goal.returns-in-Err-clause-keeps
returns-in-Err-clause-keeps c =
    let f = c.args.factors.now in
    let now = c.loop-place.factors in
    Keeps-then f now c.unite_missed.new.factors (between (length f.list)) c.loop-place.invariant.keeps
    (subst (λ n. Keeps now c.unite_missed.new.factors (between n)) c.loop-place.invariant.long c.unite_missed.ensures.keeps)

pub returns-clause-set : goal.returns-clause-set
returns-clause-set c =
    let is = c.len-last.ensures in
    let low = c.requires.from in
    let e : c.loop-place.place ≡ length c.args.factors.now.list = omega arith in
    subst (λ n. AddsMissedIn c.args.factors.now c.loop-place.factors c.args.tables c.args.left_out c.args.from n (is_inner c.args.beside.now))
    e c.loop-place.invariant.sets
