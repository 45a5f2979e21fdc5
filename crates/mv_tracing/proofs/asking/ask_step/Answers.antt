-- What a step gives: its own values, and those of the step behind it.
use Rattle.std.proofs.Common.{◌∙◌, Some, sym, ap}
use Rattle.std.proofs.lemmas.Option.{slice_get-get_or}
use Rattle.mv_tracing.proofs.Giving.{parts_asked, parts_ordered}
use Rattle.mv_tracing.proofs.asking.ask_step.Goals as goal

pub ask_columns-requires-clause-held : goal.ask_columns-requires-clause-held
ask_columns-requires-clause-held c =
    let run = c.args.run.now in
    let step = c.index-run-k.result in
    let there = slice_get-get_or run c.args.k step c.requires.within ∙ ap Some (sym c.index-run-k.is) in
    rw c.clear.ensures.order (parts_ordered c.args.net.now run c.args.k step there c.args.solver.now.order c.well_formed-2.ensures c.requires.order c.requires.fits).columns

pub ask_first-requires-clause-held : goal.ask_first-requires-clause-held
ask_first-requires-clause-held c =
    let run = c.args.run.now in
    let step = c.index-run-k.result in
    let there = slice_get-get_or run c.args.k step c.requires.within ∙ ap Some (sym c.index-run-k.is) in
    rw (c.ask_columns.ensures.order, c.clear.ensures.order) (parts_ordered c.args.net.now run c.args.k step there c.args.solver.now.order c.well_formed-2.ensures c.requires.order c.requires.fits).first

pub ask_next-requires-clause-held : goal.ask_next-requires-clause-held
ask_next-requires-clause-held c =
    let run = c.args.run.now in
    let step = c.index-run-k.result in
    let there = slice_get-get_or run c.args.k step c.requires.within ∙ ap Some (sym c.index-run-k.is) in
    rw (c.ask_first.ensures.order, c.ask_columns.ensures.order, c.clear.ensures.order) (parts_ordered c.args.net.now run c.args.k step there c.args.solver.now.order c.well_formed-2.ensures c.requires.order c.requires.fits).next

pub returns : goal.returns
returns c =
    let run = c.args.run.now in
    let step = c.index-run-k.result in
    let there = slice_get-get_or run c.args.k step c.requires.within ∙ ap Some (sym c.index-run-k.is) in
    parts_asked c.args.net.now run c.args.k step there _ _ _ _ _ c.clear.ensures.order c.clear.ensures.asked c.ask_columns.ensures c.ask_first.ensures c.ask_next.ensures
