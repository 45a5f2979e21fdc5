-- The first declaration of the net, if it has one.
use Rattle.std.proofs.Common.{◌≡◌, get_or, sym, ◌∙◌, ap}
use Rattle.std.proofs.lemmas.Result.{IfOk-weaker}
use Rattle.mv_design.specs.declared.design.Decl.{Decl}
use Rattle.mv_design.specs.Values.{two_values, values_of}
use Rattle.mv_unfold.proofs.Found.{values_found, values_none}
use Rattle.mv_unfold.proofs.decls.values_of.Goals as goal

pub returns-in-Some : goal.returns-in-Some
returns-in-Some c =
    let v = c.args.values.now in
    let net = c.args.net.now in
    let decl = c.index-values-place.result in
    IfOk-weaker c.copy_names.result (λ names. names ≡ (get_or v.decls.now c.in-Some.place decl).values) (λ names. names ≡ values_of v.decls.now net)
    (λ names e.
    e
    ∙ (ap (λ (d : Decl). d.values) (sym c.index-values-place.is)
    ∙ values_found v.places.now v.decls.now net c.in-Some.place decl c.requires (sym c.in-Some.ensures) c.index-values-place.is)) c.copy_names.ensures

pub returns-in-None : goal.returns-in-None
returns-in-None c =
    let v = c.args.values.now in
    let net = c.args.net.now in
    IfOk-weaker c.zero_and_one.result (λ names. names ≡ two_values) (λ names. names ≡ values_of v.decls.now net)
    (λ names e. e ∙ values_none v.places.now v.decls.now net c.requires (sym c.in-None.ensures)) c.zero_and_one.ensures
