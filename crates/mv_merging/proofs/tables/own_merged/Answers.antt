-- The lines with their outputs, and the default, absorbed.
use Rattle.std.proofs.Common.{◌∙◌, ap, map}
use Rattle.mv_merging.specs.Tables.{output_merged}
use Rattle.mv_merging.proofs.Written.{own_is}
use Rattle.mv_merging.proofs.tables.own_merged.Goals as goal

pub returns : goal.returns
returns c =
    own_is c.args.m c.args.cover.now c.in_ok-new.new c.in_ok-lines.lines c.in_ok-default.default (c.in_ok-lines.ensures ∙ ap (map (output_merged c.args.m)) c.as_slice.ensures) c.in_ok-default.ensures c.in_ok-new.ensures
