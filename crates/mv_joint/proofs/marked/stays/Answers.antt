use Rattle.std.proofs.Common.{◌≡◌, false, not, length, sym, ◌∙◌, ap, refl, arith}
use Rattle.std.specs.List.{list_any}
use Rattle.mv_rows.specs.Flat.{says_nothing}
use Rattle.mv_joint.proofs.Looks.{bare-all}
use Rattle.mv_joint.proofs.marked.stays.Goals as goal

pub returns : goal.returns
returns c =
    let some : list_any says_nothing c.args.entries.now ≡ false = grind arith in
    let bare = bare-all c.args.frame.now.columns (length c.args.table.now.outputs) c.args.table.now.rows c.requires.frame.columns c.requires.table.rows in
    ap not (c.in_ok-bare.ensures ∙ sym bare) ∙ rw some refl
