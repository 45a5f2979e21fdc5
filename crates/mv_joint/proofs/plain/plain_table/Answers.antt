use Rattle.std.proofs.Common.{◌≡◌, true, false, IfErr, sym, subst, arith}
use Rattle.mv_joint.specs.Plain.{PlainTable}
use Rattle.mv_joint.specs.Split.{all_rows}
use Rattle.mv_joint.specs.Plain.{stays, needs_mark}
use Rattle.mv_joint.specs.Joint.{StopsWith}
use Rattle.mv_joint.proofs.Wide.{plain_none, plain_gone, plain_marked, plain_sets}
use Rattle.mv_joint.proofs.plain.plain_table.Goals as goal

pub returns-in_default-clause-stop : goal.returns-in_default-clause-stop
returns-in_default-clause-stop c =
    subst (λ (p : PlainTable). IfErr c.unmarked.result (λ stop. StopsWith p stop))
    (sym (plain_none c.args.columns.now c.args.table.now c.args.mark c.in_default.is))
    (rw c.in_ok-frame.ensures.columns at c.unmarked.ensures.stop)

pub returns-then-not-branch-clause-stop : goal.returns-then-not-branch-clause-stop
returns-then-not-branch-clause-stop c =
    let columns = c.args.columns.now in
    let gone : stays columns (all_rows columns c.args.table.now.rows) c.in-Some.entries ≡ false = grind arith in
    subst (λ (p : PlainTable). IfErr c.unmarked-then-not-branch.result (λ stop. StopsWith p stop))
    (sym (plain_gone columns c.args.table.now c.args.mark c.in-Some.entries c.in-Some.is gone))
    (rw c.in_ok-frame.ensures.columns at c.unmarked-then-not-branch.ensures.stop)

pub returns-then-branch-clause-stop : goal.returns-then-branch-clause-stop
returns-then-branch-clause-stop c =
    let columns = c.args.columns.now in
    let left : stays columns (all_rows columns c.args.table.now.rows) c.in-Some.entries ≡ true = grind arith in
    let needs : needs_mark (all_rows columns c.args.table.now.rows) c.in-Some.entries ≡ true = grind arith in
    subst (λ (p : PlainTable). IfErr c.marked.result (λ stop. StopsWith p stop))
    (sym (plain_marked columns c.args.table.now c.args.mark c.in-Some.entries c.in-Some.is left needs))
    (rw (c.in_ok-frame.ensures.columns, c.as_slice-entries.ensures) at c.marked.ensures.stop)

pub returns-clause-stop : goal.returns-clause-stop
returns-clause-stop c =
    let columns = c.args.columns.now in
    let left : stays columns (all_rows columns c.args.table.now.rows) c.in-Some.entries ≡ true = grind arith in
    let stands : needs_mark (all_rows columns c.args.table.now.rows) c.in-Some.entries ≡ false = grind arith in
    subst (λ (p : PlainTable). IfErr c.unmarked-2.result (λ stop. StopsWith p stop))
    (sym (plain_sets columns c.args.table.now c.args.mark c.in-Some.entries c.in-Some.is left stands))
    (rw (c.in_ok-frame.ensures.columns, c.in_ok-default.ensures, c.as_slice-entries.ensures) at c.unmarked-2.ensures.stop)
