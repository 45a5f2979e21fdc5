-- A net of the list has a place there.
use Rattle.std.proofs.Common.{◌∙◌, nat_eq, sym}
use Rattle.std.proofs.lemmas.Bool.{eqb-true}
use Rattle.std.proofs.lemmas.List.Quantifiers.{position-Some}
use Rattle.mv_base.specs.declared.number.NetId.{NetId}
use Rattle.mv_wide.proofs.Listing.{has_place}
use Rattle.mv_wide.proofs.inner.place_of.Goals as goal

pub unwrap-requires : goal.unwrap-requires
unwrap-requires c = has_place c.args.nets.now c.args.n.0 c.place_in.result c.requires c.place_in.ensures

pub returns-clause-here : goal.returns-clause-here
returns-clause-here c = λ d.
    let found = position-Some (λ (m : NetId). nat_eq m.0 c.args.n.0) c.args.nets.now c.unwrap.result d (sym c.place_in.ensures ∙ c.unwrap.ensures) in
    eqb-true _ _ found.1
