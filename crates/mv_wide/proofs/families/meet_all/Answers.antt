use Rattle.std.proofs.Common.{◌≡◌, ◌+◌, ◌<◌, length, subst, arith}
use Rattle.mv_factors.specs.Families.{but}
use Rattle.mv_factors.proofs.Keeping.{Keeps-self, Keeps-then}
use Rattle.mv_wide.specs.Families.{IsInEach}
use Rattle.mv_wide.proofs.Gathering.{each_first, each_more, first_each, more_each}
use Rattle.mv_wide.proofs.families.meet_all.Goals as goal

pub loop-other-init : goal.loop-other-init
loop-other-init c =
    let f = c.args.factors.now in
    record {
      keeps = Keeps-self f (but c.args.place);
      long = λ i. length f.list;
      only = λ p is. each_first f c.args.place p is;
      all = λ p each. first_each f c.args.place (c.args.place + 1) p (omega arith) each;
    }

pub loop-other-preserved : goal.loop-other-preserved
loop-other-preserved c =
    let low : c.args.place < c.loop-other.other = omega arith in
    let long = c.loop-other.invariant.long in
    let more = c.meet.ensures.long in
    record {
      keeps = Keeps-then _ _ _ (but c.args.place) c.loop-other.invariant.keeps c.meet.ensures.keeps;
      long = omega arith;
      only = each_more c.args.factors.now c.loop-other.factors c.meet.new.self c.args.place c.loop-other.other low c.loop-other.invariant.keeps
          c.in-Ok.ensures.set c.loop-other.invariant.only;
      all = more_each c.args.factors.now c.loop-other.factors c.meet.new.self c.args.place c.loop-other.other low c.loop-other.invariant.keeps
          c.in-Ok.ensures.set c.loop-other.invariant.all;
    }

pub returns-clause-only : goal.returns-clause-only
returns-clause-only c = λ p is.
    let e : c.loop-other.other ≡ length c.args.factors.now.list = omega arith in
    subst (λ n. IsInEach c.args.factors.now c.args.place n p) e (c.loop-other.invariant.only p is)

pub returns-clause-all : goal.returns-clause-all
returns-clause-all c = λ p each.
    let e : length c.args.factors.now.list ≡ c.loop-other.other = omega arith in
    c.loop-other.invariant.all p (subst (λ n. IsInEach c.args.factors.now c.args.place n p) e each)
