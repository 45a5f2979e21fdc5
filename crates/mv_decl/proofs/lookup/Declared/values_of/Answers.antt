-- The first declaration of the net stands at its place.
use Rattle.std.proofs.Common.{◌≡◌, ◌∙◌, sym, ap, Some, None}
use Rattle.mv_base.specs.Names.{place_of}
use Rattle.mv_design.specs.Values.{declared_of, values_of}
use Rattle.mv_decl.proofs.Kept.{values_found, values_two}
use Rattle.mv_decl.proofs.lookup.Declared.values_of.Goals as goal

pub returns-in-Some : goal.returns-in-Some
returns-in-Some c =
    let net = c.args.net.now in
    let place : place_of net (declared_of c.self.inside.decls.now) ≡ Some c.in-Some.at = ap (λ ds. place_of net (declared_of ds)) c.self.view_is ∙ (sym c.place.ensures ∙ c.in-Some.is) in
    let v = values_found c.self.inside.decls.now net c.in-Some.at c.declared_at.result.now c.self.invariant.counts place c.declared_at.ensures in
    record { value = v.value ∙ ap (λ ds. values_of ds net) c.self.view_is; some = v.some; within = v.within }

pub returns-in-None : goal.returns-in-None
returns-in-None c =
    let net = c.args.net.now in
    let place : place_of net (declared_of c.self.inside.decls.now) ≡ None = ap (λ ds. place_of net (declared_of ds)) c.self.view_is ∙ (sym c.place.ensures ∙ c.in-None.is) in
    let v = values_two c.self.inside.decls.now net c.as_slice.result.now place (c.as_slice.ensures ∙ c.self.invariant.plain) in
    record { value = v.value ∙ ap (λ ds. values_of ds net) c.self.view_is; some = v.some; within = v.within }
