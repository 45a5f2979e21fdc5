-- The collapses, and the notes behind them.
use Rattle.std.proofs.Common.{Ok, Err}
use Rattle.mv_pass.specs.Courses.{VisitsAll, VisitsSome}
use Rattle.mv_pass.proofs.Stepped.{stuck}
use Rattle.mv_pass.proofs.Visiting.{followed, stopped_short}
use Rattle.mv_eliminate.specs.Eliminates.{CollapsesAll, CollapsesSome, Eliminates, EliminatesAll, NotesWide}
use Rattle.mv_eliminate.proofs.Eliminated.{not_begun}
use Rattle.mv_eliminate.proofs.eliminating.collapse_and_note.Goals as goal

pub returns-in-Err-clause-passes : goal.returns-in-Err-clause-passes
returns-in-Err-clause-passes g c = stuck c.args.terms.free (EliminatesAll c.args.terms.free) (Eliminates c.args.terms.free) _ _ (not_begun _ _)

pub returns-in-Err-collapse_each-clause-passes : goal.returns-in-Err-collapse_each-clause-passes
returns-in-Err-collapse_each-clause-passes g c =
    let free = c.args.terms.free in
    stopped_short free (CollapsesAll free) (CollapsesSome free) (VisitsAll NotesWide) (VisitsSome NotesWide) _ _ _ _ _ c.in-Err-collapse_each.ensures.passes

pub returns-in-Ok-note_wide-clause-passes : goal.returns-in-Ok-note_wide-clause-passes
returns-in-Ok-note_wide-clause-passes g c =
    let free = c.args.terms.free in
    followed free (CollapsesAll free) (CollapsesSome free) (VisitsAll NotesWide) (VisitsSome NotesWide) _ _ _ _ c.in-Ok-collapse_each.ensures.passes _ _ (Ok tt) c.in-Ok-note_wide.ensures

pub returns-clause-passes : goal.returns-clause-passes
returns-clause-passes g c =
    let free = c.args.terms.free in
    followed free (CollapsesAll free) (CollapsesSome free) (VisitsAll NotesWide) (VisitsSome NotesWide) _ _ _ _ c.in-Ok-collapse_each.ensures.passes _ _ (Err _) c.in-Err-note_wide.ensures
