use Rattle.std.proofs.Common.{sym, ◌∙◌, ap}
use Rattle.std.proofs.lemmas.Result.{IfOk-weaker, IfErr-weaker}
use Rattle.mv_joint.specs.Split.{all_rows}
use Rattle.mv_joint.specs.Plain.{said, marked}
use Rattle.mv_joint.specs.Joint.{StopsWith}
use Rattle.mv_joint.specs.Gather.{AreChoices}
use Rattle.mv_joint.proofs.Gathering.{said-said}
use Rattle.mv_joint.proofs.Wide.{stops_marked, marked_choices, marked_stops}
use Rattle.mv_joint.proofs.plain.marked.Goals as goal

pub returns-in-Err-clause-stop : goal.returns-in-Err-clause-stop
returns-in-Err-clause-stop c =
    let columns = c.args.frame.now.columns in
    stops_marked columns c.args.mark (all_rows columns c.args.table.now.rows) c.args.entries.now c.in-Err.stop c.in-Err.ensures.stop

pub with_default_rows-requires-clause-said : goal.with_default_rows-requires-clause-said
with_default_rows-requires-clause-said c =
    let is = c.in-Ok.ensures.rows.rows in
    ap said is ∙ (said-said (all_rows c.args.frame.now.columns c.args.table.now.rows) ∙ sym is)

pub returns-clause-found : goal.returns-clause-found
returns-clause-found c =
    let cs = c.args.frame.now.columns in
    let mark = c.args.mark in
    let all = all_rows cs c.args.table.now.rows in
    let rows = c.in-Ok.gathered.rows in
    let entries = c.args.entries.now in
    IfOk-weaker c.with_default_rows.result (AreChoices (marked cs mark rows entries)) (AreChoices (marked cs mark all entries))
    (λ f a. marked_choices cs mark all rows entries f c.in-Ok.ensures.rows.rows a)
    (rw c.as_slice.ensures at c.with_default_rows.ensures.found)

pub returns-clause-stop : goal.returns-clause-stop
returns-clause-stop c =
    let cs = c.args.frame.now.columns in
    let mark = c.args.mark in
    let all = all_rows cs c.args.table.now.rows in
    let rows = c.in-Ok.gathered.rows in
    let entries = c.args.entries.now in
    IfErr-weaker c.with_default_rows.result (StopsWith (marked cs mark rows entries)) (StopsWith (marked cs mark all entries))
    (λ stop h. marked_stops cs mark all rows entries stop c.in-Ok.ensures.rows.rows h)
    (rw c.as_slice.ensures at c.with_default_rows.ensures.stop)
