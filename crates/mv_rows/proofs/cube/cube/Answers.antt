use Rattle.std.proofs.Common.{◌≡◌, ◌∙◌, sym, ap, true}
use Rattle.mv_rows.specs.Meeting.{all_possible}
use Rattle.mv_rows.proofs.Cubes.{IsCube-literals}
use Rattle.mv_rows.proofs.cube.cube.Goals as goal

pub of-requires : goal.of-requires
of-requires c =
    let some : all_possible c.put_literals.new.lits.items ≡ true = ap all_possible (sym c.as_slice.ensures) ∙ sym c.if-not-possible.ensures in
    IsCube-literals c.args.sets.now c.args.order.now c.put_literals.new.lits.items c.requires.rises c.in_ok-put_literals.ensures some
