-- One name more; or it can't be that of a new net.
use Rattle.std.proofs.Common.{subst, sym}
use Rattle.std.proofs.lemmas.List.{take_all}
use Rattle.std.proofs.lemmas.List.Elements.{All-get_or, All-more}
use Rattle.mv_plans.specs.Checks.{IsNewName}
use Rattle.mv_plans.proofs.fresh.all_new.Goals as goal

pub loop-name-preserved : goal.loop-name-preserved
loop-name-preserved c =
    let P = IsNewName c.args.net.now.nets in
    All-more P c.args.names.now c.loop-name.name-index c.name-item.result c.loop-name-test.true c.loop-name.invariant (subst P c.name-item.is (rw c.if-not-is_new_name.false at c.is_new_name.ensures))

pub returns-then-not-is_new_name : goal.returns-then-not-is_new_name
returns-then-not-is_new_name c =
    let P = IsNewName c.args.net.now.nets in
    λ all. (rw c.if-not-is_new_name.true at c.is_new_name.ensures) (subst P (sym c.name-item.is) (All-get_or P c.args.names.now c.loop-name.name-index c.name-item.result c.loop-name-test.true all))

pub returns : goal.returns
returns c = rw (sym (take_all c.loop-name.name-index c.args.names.now c.loop-name-test.false)) c.loop-name.invariant
