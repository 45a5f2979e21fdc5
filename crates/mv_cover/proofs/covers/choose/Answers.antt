-- A cube without literals matches everywhere.
use Rattle.std.proofs.Common.{◌∙◌, sym}
use Rattle.mv_cover.proofs.Covering.{matched_empty}
use Rattle.mv_cover.proofs.covers.choose.Goals as goal

pub returns-then-some_is_empty : goal.returns-then-some_is_empty
returns-then-some_is_empty c = matched_empty c.args.cubes.now (sym c.some_is_empty.ensures ∙ c.if-some_is_empty.true)
