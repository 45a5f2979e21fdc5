use Rattle.std.proofs.Common.{◌∙◌, sym, ap, inl, inr}
use Rattle.mv_factors.specs.Seen.{may}
use Rattle.mv_factors.proofs.Joining.{goes_none, put, put_not}
use Rattle.mv_factors.proofs.Keeping.{on_err, on_ok}
use Rattle.mv_factors.proofs.join.put_if.Goals as goal

pub returns-then-place-given-clause-ok : goal.returns-then-place-given-clause-ok
returns-then-place-given-clause-ok c =
    put_not _ _ _ _ _ _ c.requires.later c.requires.place c.requires.seen (inl c.if-place-given.true)

pub returns-then-not-may_depend-clause-ok : goal.returns-then-not-may_depend-clause-ok
returns-then-not-may_depend-clause-ok c =
    put_not _ _ _ _ _ _ c.requires.later c.requires.place c.requires.seen
    (inr (ap (λ rows. may rows c.args.place c.args.var) (sym c.as_slice.ensures.value) ∙ sym c.if-not-may_depend.ensures))

pub returns-clause-ok : goal.returns-clause-ok
returns-clause-ok c =
    on_ok c.leave_out.result _ _
    (λ set. put _ _ _ _ c.args.from c.args.var c.args.given c.args.place c.if-place-given.false c.requires.first c.requires.later
    c.requires.given c.requires.place c.requires.function c.leave_out.ensures.sees c.leave_out.ensures.keeps set)
    c.leave_out.ensures.set

pub returns-clause-err : goal.returns-clause-err
returns-clause-err c =
    on_err c.leave_out.result _ _ (λ same. goes_none _ _ _ _ c.args.from c.leave_out.ensures.sees same) c.leave_out.ensures.same
