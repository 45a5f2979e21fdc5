use Rattle.std.proofs.Common.{◌∙◌, sym, ap, inl, inr}
use Rattle.mv_factors.specs.Seen.{may}
use Rattle.mv_factors.proofs.Joining.{goes_none, joined, joined_not}
use Rattle.mv_factors.proofs.Keeping.{on_err, on_ok_both}
use Rattle.mv_factors.proofs.join.join_if.Goals as goal

pub returns-then-other-place-clause-ok : goal.returns-then-other-place-clause-ok
returns-then-other-place-clause-ok c =
    joined_not _ _ _ _ _ _ c.requires.later c.requires.other c.requires.seen (inl c.if-other-place.true)

pub returns-then-not-may_depend-clause-ok : goal.returns-then-not-may_depend-clause-ok
returns-then-not-may_depend-clause-ok c =
    joined_not _ _ _ _ _ _ c.requires.later c.requires.other c.requires.seen
    (inr (ap (λ rows. may rows c.args.other c.args.var) (sym c.as_slice.ensures.value) ∙ sym c.if-not-may_depend.ensures))

pub returns-clause-ok : goal.returns-clause-ok
returns-clause-ok c =
    on_ok_both c.join.result _ _ _
    (λ meet all. joined _ _ _ _ c.args.from c.args.var c.args.place c.args.other c.requires.first c.requires.later c.requires.place
    c.requires.other c.join.ensures.sees c.join.ensures.keeps meet all)
    c.join.ensures.set c.join.ensures.all

pub returns-clause-err : goal.returns-clause-err
returns-clause-err c =
    on_err c.join.result _ _ (λ same. goes_none _ _ _ _ c.args.from c.join.ensures.sees same) c.join.ensures.same
