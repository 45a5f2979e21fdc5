-- The lines that are left, with the default, are the table; where too many are left it is too wide.
use Rattle.std.proofs.Common.{◌∙◌, List, subst}
use Rattle.std.specs.List.{flat_map}
use Rattle.mv_cover.specs.declared.line.Line.{Line}
use Rattle.mv_cover.specs.Absorb.{IsLeftOf, default_beside}
use Rattle.mv_codes.specs.Tables.{line_coded}
use Rattle.mv_codes.proofs.Encoded.{coded_is, many_left}
use Rattle.mv_codes.proofs.reader.rewritten.Goals as goal

pub returns-in-Err-clause-wide : goal.returns-in-Err-clause-wide
returns-in-Err-clause-wide c = λ e. many_left c.args.coding.now c.args.reader.now c.as_slice.result.now c.as_slice.ensures (c.in-Err.ensures.wide e)

pub returns-clause-cover : goal.returns-clause-cover
returns-clause-cover c =
    coded_is c.args.coding.now c.args.reader.now c.finish.result c.in-Ok.left
    (subst (λ (ls : List Line). IsLeftOf (flat_map (line_coded c.args.coding.now) ls) c.in-Ok.left) c.as_slice.ensures c.in-Ok.ensures.left)
    (c.finish.ensures ∙ λ i. record { lines = c.in-Ok.left; default = default_beside c.in-Ok.left (c.in_ok-copied_default.ensures i) })
