use Rattle.std.proofs.Common.{refl, sym}
use Rattle.std.proofs.lemmas.List.{append-nil}
use Rattle.mv_work.specs.Drawing.{several}
use Rattle.mv_work.proofs.RowSteps.{rows-text, rows-rest}
use Rattle.mv_work.proofs.rows.add_rows.Goals as goal

pub rows-init : goal.rows-init
unfolding several
rows-init c = record { text = sym (append-nil c.args.text.now.items); rest = refl }

pub rows-preserved : goal.rows-preserved
rows-preserved c = record {
  text = rows-text c.args.counts.now c.args.values c.rows.counter _ _ _ _ _ c.rows.invariant.text c.rows.invariant.rest c.in_ok-add_row.ensures.text;
  rest = rows-rest c.args.counts.now c.args.values c.rows.counter _ _ _ c.rows.invariant.rest c.in_ok-add_row.ensures.rest;
}
