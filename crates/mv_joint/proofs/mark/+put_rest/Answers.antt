use Rattle.std.proofs.Common.{◌≡◌, ◌+◌, ◌-◌, ◌∷◌, true, Some, None, sym, ◌∙◌, ap, subst, arith, rules, All}
use Rattle.std.proofs.lemmas.List.Elements.{All-tail}
use Rattle.mv_design.specs.declared.table.Entry.TheVariants.{Same}
use Rattle.mv_rows.specs.Lines.{FitEntry, count_at}
use Rattle.mv_joint.specs.Split.{is_possible, IsFit}
use Rattle.mv_joint.specs.Gather.{listed}
use Rattle.mv_joint.proofs.Resting.{IsFound, found_is}
use Rattle.mv_joint.proofs.Marks.{marks_no_value, marks_value, stops_value, marks_same}
use Rattle.mv_joint.proofs.mark.+put_rest.Goals as goal

pub loop-value-preserved-in_default-2 : goal.loop-value-preserved-in_default-2
loop-value-preserved-in_default-2 t c =
    let cs = c.args.frame.now.columns in
    let rest = All-tail (FitEntry cs) c.in-Some.entry.now c.in-Some.rest.now (subst (All (FitEntry cs)) c.in-Some.ensures.cases.0 c.requires.entries) in
    let found : IsFound cs c.in-Some.rest.now c.in-Same.place c.args.row c.loop-value.value None = record {
      columns = c.requires.frame.columns;
      entries = rest;
      fit = c.requires.fit;
      is = ap listed (sym c.in_default-2.is) ∙ c.in_ok-next-in-Same.ensures;
    } in
    marks_no_value cs c.in-Some.rest.now c.in-Same.place c.args.row c.loop-value.value _ _ found c.loop-value.invariant

pub put_rest-requires-in-loop-value : goal.put_rest-requires-in-loop-value
put_rest-requires-in-loop-value t c =
    let cs = c.args.frame.now.columns in
    let rest = All-tail (FitEntry cs) c.in-Some.entry.now c.in-Some.rest.now (subst (All (FitEntry cs)) c.in-Some.ensures.cases.0 c.requires.entries) in
    let found : IsFound cs c.in-Some.rest.now c.in-Same.place c.args.row c.loop-value.value (Some c.in-Some-2.next) = record {
      columns = c.requires.frame.columns;
      entries = rest;
      fit = c.requires.fit;
      is = ap listed (sym c.in-Some-2.is) ∙ c.in_ok-next-in-Same.ensures;
    } in
    let is = found_is cs c.in-Some.rest.now c.in-Same.place c.args.row c.loop-value.value c.in-Some-2.next found in
    let fit : IsFit cs c.in-Some-2.next = is.0 in
    let possible : is_possible cs c.in-Some-2.next ≡ true = is.1 in
    search (rules, fit, possible)

pub returns-in-Err-clause-stop : goal.returns-in-Err-clause-stop
returns-in-Err-clause-stop t c =
    let cs = c.args.frame.now.columns in
    let rest = All-tail (FitEntry cs) c.in-Some.entry.now c.in-Some.rest.now (subst (All (FitEntry cs)) c.in-Some.ensures.cases.0 c.requires.entries) in
    let found : IsFound cs c.in-Some.rest.now c.in-Same.place c.args.row c.loop-value.value (Some c.in-Some-2.next) = record {
      columns = c.requires.frame.columns;
      entries = rest;
      fit = c.requires.fit;
      is = ap listed (sym c.in-Some-2.is) ∙ c.in_ok-next-in-Same.ensures;
    } in
    let entries : c.args.entries.now ≡ Same c.in-Same.place ∷ c.in-Some.rest.now = grind arith in
    let many : (c.loop-value.value + 1) + (count_at cs c.in-Same.place - (c.loop-value.value + 1)) ≡ count_at cs c.in-Same.place = omega arith in
    rw entries
    (stops_value cs c.in-Some.rest.now c.in-Same.place c.args.row c.loop-value.value _ c.in-Some-2.next _ _ c.in-Err.stop many found c.loop-value.invariant c.in-Err.ensures.stop)

pub loop-value-preserved : goal.loop-value-preserved
loop-value-preserved t c =
    let cs = c.args.frame.now.columns in
    let rest = All-tail (FitEntry cs) c.in-Some.entry.now c.in-Some.rest.now (subst (All (FitEntry cs)) c.in-Some.ensures.cases.0 c.requires.entries) in
    let found : IsFound cs c.in-Some.rest.now c.in-Same.place c.args.row c.loop-value.value (Some c.in-Some-2.next) = record {
      columns = c.requires.frame.columns;
      entries = rest;
      fit = c.requires.fit;
      is = ap listed (sym c.in-Some-2.is) ∙ c.in_ok-next-in-Same.ensures;
    } in
    marks_value cs c.in-Some.rest.now c.in-Same.place c.args.row c.loop-value.value c.in-Some-2.next _ _ _ found c.loop-value.invariant c.in-Ok.ensures.rows

pub returns-after-loop-value-clause-rows : goal.returns-after-loop-value-clause-rows
returns-after-loop-value-clause-rows t c =
    let cs = c.args.frame.now.columns in
    let entries : c.args.entries.now ≡ Same c.in-Same.place ∷ c.in-Some.rest.now = grind arith in
    let many : c.loop-value.value ≡ count_at cs c.in-Same.place = omega arith in
    rw entries (marks_same cs c.in-Some.rest.now c.in-Same.place c.args.row c.loop-value.value _ _ many c.loop-value.invariant)
