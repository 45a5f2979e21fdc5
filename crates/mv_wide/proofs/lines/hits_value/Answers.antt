-- The points of the line, and of these those with the value.
use Rattle.std.proofs.Common.{Some}
use Rattle.mv_factors.specs.Families.{set_at}
use Rattle.mv_wide.specs.Choosing.{and_in, in_line}
use Rattle.mv_wide.proofs.Hitting.{choices_there, hits_there, value_none, value_some}
use Rattle.mv_base.specs.Set.{one}
use Rattle.mv_wide.proofs.lines.hits_value.Goals as goal

pub returns-then-not-narrow-clause-hits : goal.returns-then-not-narrow-clause-hits
returns-then-not-narrow-clause-hits c = λ listed.
    let f = c.args.frame.now in
    value_none f.counts.items c.as_slice-counts.result.now f.vars.items c.as_slice-vars.result.now c.choose_line.new.choices.items (Some c.args.left_out)
    f.own c.args.line.now c.in_ok-choose_line.field-0 c.as_slice-counts.ensures.value c.as_slice-vars.ensures.value c.in_ok-choose_line.ensures.some
    c.if-not-branch.false c.args.var c.args.value c.one.result c.one.ensures c.narrow.result (λ p. set_at c.args.factors.now 0 p) c.narrow.ensures.none
    c.if-not-narrow.true c.requires.var

pub meets-requires-clause-sets : goal.meets-requires-clause-sets
meets-requires-clause-sets c =
    let f = c.args.frame.now in
    choices_there f.counts.items c.args.factors.now.contents.counts c.narrow.new.choices.items c.as_slice.result.now
    (and_in (in_line (Some c.args.left_out) f.vars.items f.own c.args.line.now) c.args.var (one c.args.value)) c.requires.ready.counts c.as_slice.ensures.value
    (value_some f.counts.items c.as_slice-counts.result.now f.vars.items c.as_slice-vars.result.now c.choose_line.new.choices.items (Some c.args.left_out)
    f.own c.args.line.now c.in_ok-choose_line.field-0 c.as_slice-counts.ensures.value c.as_slice-vars.ensures.value c.in_ok-choose_line.ensures.some
    c.if-not-branch.false c.args.var c.args.value c.one.result c.one.ensures c.narrow.result c.narrow.new.choices.items c.narrow.ensures.some
    c.if-not-narrow.false)

pub returns-clause-hits : goal.returns-clause-hits
returns-clause-hits c = λ listed.
    let f = c.args.frame.now in
    hits_there f.counts.items c.args.factors.now.contents.counts c.narrow.new.choices.items c.as_slice.result.now (λ p. set_at c.args.factors.now 0 p)
    (and_in (in_line (Some c.args.left_out) f.vars.items f.own c.args.line.now) c.args.var (one c.args.value)) c.meets.result c.requires.ready.counts
    c.as_slice.ensures.value
    (value_some f.counts.items c.as_slice-counts.result.now f.vars.items c.as_slice-vars.result.now c.choose_line.new.choices.items (Some c.args.left_out)
    f.own c.args.line.now c.in_ok-choose_line.field-0 c.as_slice-counts.ensures.value c.as_slice-vars.ensures.value c.in_ok-choose_line.ensures.some
    c.if-not-branch.false c.args.var c.args.value c.one.result c.one.ensures c.narrow.result c.narrow.new.choices.items c.narrow.ensures.some
    c.if-not-narrow.false)
    c.meets.ensures.some c.meets.ensures.none
