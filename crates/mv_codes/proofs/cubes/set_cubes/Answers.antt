-- The cubes behind no literals, of the marks of the set.
use Rattle.std.proofs.Common.{◌∙◌, ap}
use Rattle.mv_codes.specs.CodeCubes.{marks_of}
use Rattle.mv_codes.proofs.Building.{put_first}
use Rattle.mv_codes.proofs.cubes.set_cubes.Goals as goal

pub returns : goal.returns
returns c =
    put_first c.args.coding.now.bits c.args.coding.now.first.0 (marks_of c.args.coding.now.values c.args.set) c.as_slice-2.result.now c.in_ok-everywhere.everywhere c.new-cubes.result.items c.put_cubes.new.cubes.items c.in_ok-everywhere.ensures c.new-cubes.ensures.items
    (c.as_slice-2.ensures.value ∙ (c.in_ok-marks.ensures ∙ ap (λ vs. marks_of vs c.args.set) c.as_slice.ensures)) c.in_ok-put_cubes.ensures
