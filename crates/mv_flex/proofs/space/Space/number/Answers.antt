-- The number is below the ways, which are the size.
use Rattle.std.proofs.Common.{◌∙◌, sym, ap, subst}
use Rattle.mv_flex.specs.Spaces.{NetSpace, placed, code, AreBelow}
use Rattle.mv_flex.proofs.Numbering.{code_low}
use Rattle.mv_flex.proofs.space.Space.number.Goals as goal

pub returns-clause-low : goal.returns-clause-low
returns-clause-low c =
    rw (← c.self.view_is)
    (code_low c.self.inside.counts (placed c.args.places.now c.args.values.now) c.self.inside.size c.number.result (subst (λ (s : NetSpace). AreBelow s.counts (placed c.args.places.now c.args.values.now)) (sym c.self.view_is) c.requires) c.self.invariant (c.number.ensures ∙ ap (λ l. code l (placed c.args.places.now c.args.values.now)) c.as_slice.ensures))
