use Rattle.std.proofs.Common.{◌≡◌, false, length, arith}
use Rattle.std.specs.List.{list_any}
use Rattle.mv_joint.specs.Plain.{is_same}
use Rattle.mv_joint.proofs.Looks.{silent-all}
use Rattle.mv_joint.proofs.marked.needs_mark.Goals as goal

pub returns : goal.returns
returns c =
    let none : list_any is_same c.args.entries.now ≡ false = grind arith in
    rw none (rw (silent-all c.args.frame.now.columns (length c.args.table.now.outputs) c.args.table.now.rows c.requires.frame.columns c.requires.table.rows) c.some_silent.ensures)
