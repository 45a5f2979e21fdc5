use Rattle.std.proofs.Common.{◌≡◌, List, [], ◌++◌, map, refl, sym, ◌∙◌, ap}
use Rattle.std.proofs.lemmas.List.Elements.{All-weaker}
use Rattle.indexmap.specs.IndexSet.{insert_all}
use Rattle.mv_rows.specs.Flat.{with_mark}
use Rattle.mv_rows.specs.Lines.{FitEntry}
use Rattle.mv_rows.proofs.Flat.{fit_with_mark}
use Rattle.mv_rows.proofs.Rows.{fit_marked}
use Rattle.mv_joint.specs.declared.gather.Gathered.{Gathered}
use Rattle.mv_joint.specs.OutRows.{same_outs}
use Rattle.mv_joint.specs.Plain.{with_any_mark}
use Rattle.mv_joint.specs.declared.split.PlainRow.{PlainRow}
use Rattle.mv_joint.specs.Gather.{joined}
use Rattle.mv_joint.proofs.Wide.{default_rows, row_outs, distinct_marked, joined_default, stops_with}
use Rattle.mv_joint.proofs.plain.with_default_rows.Goals as goal

pub put_rows-requires-clause-sets : goal.put_rows-requires-clause-sets
put_rows-requires-clause-sets c =
    rw (c.as_slice-2.ensures.value ∙ c.in_ok-sets.ensures)
    (rw (c.in_ok-frame.ensures.columns ∙ (c.as_slice.ensures.value ∙ c.in_ok-both.ensures)) (fit_marked c.args.columns.now c.args.mark))

pub put_rows-requires-clause-entries : goal.put_rows-requires-clause-entries
put_rows-requires-clause-entries c =
    let columns = c.args.columns.now in
    rw (c.in_ok-frame.ensures.columns ∙ (c.as_slice.ensures.value ∙ c.in_ok-both.ensures))
    (All-weaker (FitEntry columns) (FitEntry (with_mark columns c.args.mark)) (λ e fit. fit_with_mark columns c.args.mark e fit) c.args.entries.now c.requires.entries)

pub returns-in-Err-clause-stop : goal.returns-in-Err-clause-stop
returns-in-Err-clause-stop c =
    let old : Gathered = record { rows = c.in_ok-with_any_mark.field-0; outs = c.args.gathered.outs } in
    stops_with c.args.columns.now c.args.mark c.args.gathered.rows c.args.entries.now old c.in-Err.stop c.requires.some c.requires.gathered.outs
    (rw (c.in_ok-frame.ensures.columns ∙ (c.as_slice.ensures.value ∙ c.in_ok-both.ensures), c.as_slice-2.ensures.value ∙ c.in_ok-sets.ensures) at c.in-Err.ensures.stop)

pub returns-clause-found : goal.returns-clause-found
returns-clause-found c =
    let columns = c.args.columns.now in
    let entries = c.args.entries.now in
    let mark = c.args.mark in
    let rows = c.args.gathered.rows in
    let more = default_rows columns mark entries in
    let gathers = rw (c.in_ok-frame.ensures.columns ∙ (c.as_slice.ensures.value ∙ c.in_ok-both.ensures), c.as_slice-2.ensures.value ∙ c.in_ok-sets.ensures) at c.in-Ok.ensures.rows in
    let kept =
    gathers.rows ∙ (ap (λ rs. rs ++ more) c.in_ok-with_any_mark.ensures ∙ ap (λ (rs : List PlainRow). map with_any_mark rs ++ more) (sym c.requires.said)) in
    let keys : c.put_rows.new.gathered.outs.keys ≡ insert_all same_outs (joined [] rows) (row_outs more) =
    gathers.outs ∙ (ap (λ ks. joined ks more) c.requires.gathered.outs ∙ joined_default columns mark entries (joined [] rows) c.requires.some) in
    record {
      columns = c.of.ensures ∙ c.in_ok-both.ensures;
      rows = kept;
      default = refl;
      choices = distinct_marked columns mark rows entries c.put_rows.new.gathered.outs.keys keys;
    }
