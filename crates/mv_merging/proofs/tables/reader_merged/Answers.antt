-- The lines that are left, with the default, absorbed.
use Rattle.std.proofs.Common.{◌∙◌, ap}
use Rattle.std.specs.List.{flat_map}
use Rattle.mv_merging.specs.Tables.{line_merged}
use Rattle.mv_merging.proofs.Written.{reader_is}
use Rattle.mv_merging.proofs.tables.reader_merged.Goals as goal

pub returns : goal.returns
returns c =
    reader_is c.args.m c.args.n.0 c.args.cover.now c.in_ok-new.new c.in_ok-lines.lines c.in_ok-default.default (c.in_ok-lines.ensures ∙ ap (flat_map (line_merged c.args.m c.args.n.0)) c.as_slice.ensures)
    c.in_ok-default.ensures c.in_ok-new.ensures
