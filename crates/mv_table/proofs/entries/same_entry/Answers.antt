use Rattle.std.proofs.Common.{refl, sym, ◌∙◌, inr}
use Rattle.mv_table.proofs.Ended.{values_at-named, same_at-equal, same_at-other}
use Rattle.mv_table.proofs.entries.same_entry.Goals as goal

pub returns-then-values_at-values-clause-fault : goal.returns-then-values_at-values-clause-fault
returns-then-values_at-values-clause-fault c =
    let place = sym c.place.ensures.place ∙ c.in-Some.is in
    let values = values_at-named c.args.decls.now c.args.ins.now c.values_at.result.now c.in_ok-name.name c.args.places.now c.in-Some.place _ c.requires.places place c.values_at.ensures.value in
    inr (rw (sym c.in_ok-name.ensures, same_at-other c.args.decls.now c.args.values.now c.in_ok-name.name _ c.in-Some.place place (rw values at c.if-values_at-values.true)) refl)

pub returns-clause-ok : goal.returns-clause-ok
returns-clause-ok c =
    let place = sym c.place.ensures.place ∙ c.in-Some.is in
    let values = values_at-named c.args.decls.now c.args.ins.now c.values_at.result.now c.in_ok-name.name c.args.places.now c.in-Some.place _ c.requires.places place c.values_at.ensures.value in
    rw (sym c.in_ok-name.ensures) (same_at-equal c.args.decls.now c.args.values.now c.in_ok-name.name _ c.in-Some.place place (rw values at c.if-values_at-values.false))

pub returns-clause-fault : goal.returns-clause-fault
returns-clause-fault c =
    let place = sym c.place.ensures.place ∙ c.in-Some.is in
    let values = values_at-named c.args.decls.now c.args.ins.now c.values_at.result.now c.in_ok-name.name c.args.places.now c.in-Some.place _ c.requires.places place c.values_at.ensures.value in
    rw (sym c.in_ok-name.ensures, same_at-equal c.args.decls.now c.args.values.now c.in_ok-name.name _ c.in-Some.place place (rw values at c.if-values_at-values.false)) refl
