-- The first set stays.
use Rattle.std.proofs.Common.{sym, subst}
use Rattle.mv_factors.specs.Families.{before}
use Rattle.mv_wide.specs.Wides.{IsWide, Wide}
use Rattle.mv_wide.proofs.Deciding.{verdict_told}
use Rattle.mv_wide.proofs.Finding.{stop_after, wide_kept}
use Rattle.mv_wide.proofs.wide.WideFlexibility.judge.Goals as goal
use Rattle.mv_wide.proofs.wide.WideFlexibility.judge.Goals.{in-Ok, in-Err}

pub returns-clause-keeps : goal.returns-clause-keeps
returns-clause-keeps c = λ net w n is.
    wide_kept net w n c.self.inside.factors c.judge.new.factors c.self.inside.frame c.judge.ensures.keeps
    (subst (λ (f : Wide). IsWide net w n f) (sym c.self.view_is) is)

pub returns-clause-ok : goal.returns-clause-ok
returns-clause-ok c =
    elim c.match-judge.branch [
      | in-Ok b ↦ rw b.result-is (λ net w n is over old table.
          verdict_told net w n (record { family = c.self.inside.factors; frame = c.self.inside.frame }) (subst (λ (f : Wide). IsWide net w n f) (sym c.self.view_is) is)
          c.args.new.now over old table b.in-Ok.verdict b.in-Ok.ensures.verdict)
      | in-Err b ↦ rw b.result-is tt
    ]

pub returns-clause-err : goal.returns-clause-err
returns-clause-err c =
    elim c.match-judge.branch [
      | in-Ok b ↦ rw b.result-is tt
      | in-Err b ↦ rw b.result-is (λ net w n is.
          rw (← c.self.view_is)
          (stop_after net w n (record { family = c.self.inside.factors; frame = c.self.inside.frame }) c.judge.new.factors (before 1) b.in-Err.stop b.stop_of.result
          (subst (λ (f : Wide). IsWide net w n f) (sym c.self.view_is) is) c.self.invariant.counts c.judge.ensures.keeps b.in-Err.ensures.stop b.stop_of.ensures))
    ]
