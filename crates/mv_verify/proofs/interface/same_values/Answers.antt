use Rattle.std.proofs.Common.{◌≡◌, ◌∙◌, sym}
use Rattle.mv_net.specs.Nets.{slot, values_in, spelled_in}
use Rattle.mv_verify.proofs.Looks.{answers, values_alike, spelled_from, names_from}
use Rattle.mv_verify.proofs.interface.same_values.Goals as goal

pub returns-then-values : goal.returns-then-values
returns-then-values c = λ same. c.if-values.true (c.values.ensures ∙ (values_alike c.args.b.now c.args.a.now c.args.n.0 c.args.m.0 c.well_formed-2.ensures c.well_formed-3.ensures same ∙ sym c.values-2.ensures))

pub returns : goal.returns
returns c =
    let b = c.args.b.now in
    let a = c.args.a.now in
    let n = c.args.n.0 in
    let m = c.args.m.0 in
    let count : values_in (slot b.nets n) ≡ values_in (slot a.nets m) = sym c.values.ensures ∙ (c.if-values.false ∙ c.values-2.ensures) in
    answers c.same_names.result (c.value_names.result.now ≡ c.value_names-2.result.now) (spelled_in (slot b.nets n) ≡ spelled_in (slot a.nets m))
    (λ names. spelled_from b a n m c.well_formed-2.ensures c.well_formed-3.ensures c.requires.held_in_b c.requires.held_in_a count (sym c.value_names.ensures ∙ (names ∙ c.value_names-2.ensures)))
    (λ same. c.value_names.ensures ∙ (names_from b a n m c.well_formed-2.ensures c.well_formed-3.ensures c.requires.held_in_b c.requires.held_in_a same ∙ sym c.value_names-2.ensures))
    c.same_names.ensures
