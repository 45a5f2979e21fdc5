-- All values, then those of the cube, then those of the output.
use Rattle.std.proofs.Common.{refl}
use Rattle.mv_wide.proofs.Narrowing.{false_on, in_cube, in_parts, line_chosen, listed_there, on_false, on_true, true_on}
use Rattle.mv_wide.proofs.choices.choose_line.Goals as goal

pub returns-then-not-narrow_by_all-clause-none : goal.returns-then-not-narrow_by_all-clause-none
returns-then-not-narrow_by_all-clause-none c = λ listed p range chosen.
    let vars = c.args.vars.now in
    let l = c.args.line.now in
    c.if-not-narrow_by_all.ensures.none c.args.counts.now _ c.in_ok-choose_all.ensures
    (listed_there vars c.args.own c.args.left_out l c.lits.result.now l.out c.lits.ensures.lits refl c.args.counts.now listed) p range refl
    (in_cube vars c.args.own c.args.left_out l c.lits.result.now l.out c.lits.ensures.lits refl p chosen)

pub returns-clause-some : goal.returns-clause-some
returns-clause-some c =
    on_true c.narrow.result _ (λ some.
    line_chosen c.args.vars.now c.args.own c.args.left_out c.args.line.now c.lits.result.now c.get.result c.lits.ensures.lits c.get.ensures
    c.args.counts.now c.narrow.new.choices.items
    (true_on c.narrow.result _ c.narrow.ensures.some some c.args.counts.now _
    (c.if-not-narrow_by_all.ensures.some c.args.counts.now _ c.in_ok-choose_all.ensures)))

pub returns-clause-none : goal.returns-clause-none
returns-clause-none c =
    on_false c.narrow.result _ (λ none. λ listed p range chosen.
    false_on c.narrow.result _ c.narrow.ensures.none none c.args.counts.now _
    (c.if-not-narrow_by_all.ensures.some c.args.counts.now _ c.in_ok-choose_all.ensures) c.requires.own p range
    (in_parts c.args.vars.now c.args.own c.args.left_out c.args.line.now c.lits.result.now c.get.result c.lits.ensures.lits c.get.ensures p chosen))
