-- What is left where enough match is what is left where the rest is lawful.
use Rattle.std.proofs.Common.{◌≡◌, ◌∙◌, List, [], sym, subst}
use Rattle.mv_cover.specs.declared.line.Line.{Line}
use Rattle.mv_flex.specs.Left.{AreLeft}
use Rattle.mv_flex.specs.Places.{space_for, ArePlaces}
use Rattle.mv_flex.proofs.Leaving.{matching}
use Rattle.mv_flex.proofs.Needing.{lawful_left}
use Rattle.mv_flex.proofs.flexibility.Flexibility.lines_left.Goals as goal

pub returns-clause-ok : goal.returns-clause-ok
returns-clause-ok c =
    λ net w n budget flex over inside old table.
    let f = c.args.self.now in
    let default = c.args.cover.now.default in
    let same : c.nets-nets.result.now ≡ (space_for f default).nets = c.nets-nets.ensures ∙ (λ i. (c.space_for.ensures i).nets) in
    lawful_left net w n budget f flex c.args.cover.now over inside c.nets-nets.result.now c.as_slice.result.now c.in_ok-lines_matching.field-0 same
    (subst (ArePlaces f default (space_for f default).size) (sym c.as_slice.ensures) c.in_ok-places.ensures)
    (subst (λ (ls : List Line). AreLeft (matching c.nets-nets.result.now c.as_slice.result.now) [] ls c.in_ok-lines_matching.field-0) c.as_slice-2.ensures c.in_ok-lines_matching.ensures)
    old table
