use Rattle.std.proofs.Common.{◌≡◌, ◌∙◌, sym, ap, Some, None}
use Rattle.mv_base.specs.Names.{place_of}
use Rattle.mv_design.specs.Values.{declared_of, values_of}
use Rattle.mv_decl.proofs.Kept.{values_found, values_two, values_some, values_few, place_taken}
use Rattle.mv_decl.proofs.decls.Decls.values_at.Goals as goal

pub returns-in_default-clause-value : goal.returns-in_default-clause-value
returns-in_default-clause-value c =
    λ net e. let place : place_of net (declared_of c.self.inside.list) ≡ None = ap (λ ds. place_of net (declared_of ds)) c.self.view_is ∙ (sym e ∙ c.in_default.is) in
    (values_two c.self.inside.list net c.as_slice.result.now place (c.as_slice.ensures ∙ c.self.invariant.plain)).value ∙ ap (λ ds. values_of ds net) c.self.view_is

pub returns-in-Some-get-clause-value : goal.returns-in-Some-get-clause-value
returns-in-Some-get-clause-value c =
    λ net e. let place : place_of net (declared_of c.self.inside.list) ≡ Some c.in-Some.at = ap (λ ds. place_of net (declared_of ds)) c.self.view_is ∙ (sym e ∙ c.in-Some.is) in
    (values_found c.self.inside.list net c.in-Some.at c.as_slice-in-Some-get.result.now c.self.invariant.counts place (rw (← c.in-Some-get.ensures) c.as_slice-in-Some-get.ensures)).value ∙ ap (λ ds. values_of ds net) c.self.view_is

pub returns-in-Some-get-clause-some : goal.returns-in-Some-get-clause-some
returns-in-Some-get-clause-some c =
    values_some c.self.inside.list c.in-Some.at c.in-Some-get.decl.now c.as_slice-in-Some-get.result.now c.self.invariant.counts (sym c.in-Some-get.ensures) c.as_slice-in-Some-get.ensures

pub returns-in-Some-get-clause-within : goal.returns-in-Some-get-clause-within
returns-in-Some-get-clause-within c =
    values_few c.self.inside.list c.in-Some.at c.in-Some-get.decl.now c.as_slice-in-Some-get.result.now c.self.invariant.counts (sym c.in-Some-get.ensures) c.as_slice-in-Some-get.ensures

pub returns-in-None-clause-value : goal.returns-in-None-clause-value
returns-in-None-clause-value c =
    λ net e. let place : place_of net (declared_of c.self.inside.list) ≡ Some c.in-Some.at = ap (λ ds. place_of net (declared_of ds)) c.self.view_is ∙ (sym e ∙ c.in-Some.is) in
    absurd (place_taken c.self.inside.list net c.in-Some.at place (sym c.in-None.ensures))
