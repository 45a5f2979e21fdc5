-- The answer on the cubes is the answer on the lines.
use Rattle.std.proofs.Common.{◌≡◌, ◌∙◌, ap}
use Rattle.mv_cover.specs.Cofactors.{cubes_of}
use Rattle.mv_cover.proofs.Covering.{lines_within, lines_result}
use Rattle.mv_cover.proofs.cover.Cover.covers_all.Goals as goal

pub covers-requires : goal.covers-requires
covers-requires c =
    let same : c.as_slice-2.result.now ≡ cubes_of c.args.self.now.lines = c.as_slice-2.ensures ∙ (c.in_ok-cubes.ensures ∙ ap cubes_of c.as_slice.ensures) in
    lines_within c.args.counts.now c.as_slice-2.result.now c.args.self.now.lines same c.requires

pub returns : goal.returns
returns c =
    let same : c.as_slice-2.result.now ≡ cubes_of c.args.self.now.lines = c.as_slice-2.ensures ∙ (c.in_ok-cubes.ensures ∙ ap cubes_of c.as_slice.ensures) in
    lines_result c.covers.result c.args.counts.now c.as_slice-2.result.now c.args.self.now.lines same c.covers.ensures
