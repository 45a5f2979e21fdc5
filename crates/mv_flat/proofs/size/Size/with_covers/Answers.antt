-- The steps count what the covers have.
use Rattle.std.proofs.Common.{List, sym, ◌∙◌, ap}
use Rattle.std.specs.List.{flat_map}
use Rattle.mv_cover.specs.declared.cover.Cover.{Cover}
use Rattle.mv_flat.specs.Sized.{with_covers, with_lines}
use Rattle.mv_flat.proofs.Sizes.{cover_lines, counted_joint, counted_single}
use Rattle.mv_flat.proofs.size.Size.with_covers.Goals as goal

pub returns-in-Single : goal.returns-in-Single
returns-in-Single c =
    counted_single c.args.self c.with_reset-size.result c.with_mark.result c.with_lines.result c.args.table.now c.in-Single.flat c.with_reset-size.ensures
    c.with_mark.ensures.size c.with_lines.ensures.size
    ∙ ap (with_covers c.args.self c.args.table.now) (sym c.in-Single.is)

pub returns-in-Joint : goal.returns-in-Joint
returns-in-Joint c =
    counted_joint c.args.self c.with_reset-size.result c.with_mark-in-Joint.result c.with_made-made.result c.with_outputs.result c.args.table.now c.in-Joint.joint
    c.with_reset-size.ensures c.with_mark-in-Joint.ensures.size c.with_made-made.ensures.size
    (c.with_outputs.ensures ∙ ap (λ (cs : List Cover). with_lines c.with_made-made.result (flat_map cover_lines cs)) c.as_slice.ensures)
    ∙ ap (with_covers c.args.self c.args.table.now) (sym c.in-Joint.is)
