use Rattle.std.proofs.Common.{sym}
use Rattle.std.proofs.lemmas.List.{append-nil}
use Rattle.mv_design.specs.declared.table.FileTable.{FileTable}
use Rattle.mv_unfold.specs.Laid.{places_of}
use Rattle.mv_unfold.specs.Placed.{place_at}
use Rattle.mv_unfold.proofs.Before.{before_zero}
use Rattle.mv_unfold.proofs.reset_tables.add_resets.Goals as goal

pub loop-reset-init : goal.loop-reset-init
loop-reset-init c = record {
  before = before_zero (λ (t : FileTable). t.line) (place_at (places_of c.args.layout.now) c.args.number).model.tables;
  resets = sym (append-nil c.args.resets.now);
  right = c.requires.right;
}
