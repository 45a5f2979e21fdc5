use Rattle.std.proofs.Common.{◌∙◌, refl, sym, arith}
use Rattle.mv_work.specs.Work.{entry_drawn}
use Rattle.mv_work.proofs.Draws.{each-end}
use Rattle.mv_work.proofs.RowSteps.{entries-text, entries-rest, entries-none}
use Rattle.mv_work.proofs.rows.add_entries.Goals as goal

pub loop-values-preserved : goal.loop-values-preserved
loop-values-preserved c = record {
  text = entries-text _ _ _ _ _ _ _ c.loop-values-test.true refl c.in_ok-add_entry.ensures.text c.in_ok-add_entry.ensures.rest ∙ c.loop-values.invariant.text;
  rest = entries-rest _ _ _ _ _ c.loop-values-test.true refl c.in_ok-add_entry.ensures.rest ∙ c.loop-values.invariant.rest;
}

pub returns-clause-text : goal.returns-clause-text
returns-clause-text c = sym (entries-none c.args.counts.now _ _ _ (omega (arith, c.loop-values-test.false))) ∙ c.loop-values.invariant.text

pub returns-clause-rest : goal.returns-clause-rest
returns-clause-rest c = sym (each-end entry_drawn c.args.counts.now _ _ (omega (arith, c.loop-values-test.false))) ∙ c.loop-values.invariant.rest
