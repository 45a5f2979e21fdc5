-- A net whose table allows something everywhere is let be; another is noted where nothing is free or a varied table is above it.
use Rattle.std.proofs.Common.{◌∙◌, refl, sym}
use Rattle.mv_pass.specs.Courses.{Perhaps, Still}
use Rattle.mv_pass.proofs.Stepped.{stuck, idle}
use Rattle.mv_fill.specs.Fills.{FillsNet, LetBe}
use Rattle.mv_fill.proofs.Marking.{marked_above, unmarked_plain}
use Rattle.mv_fill.proofs.Unfilled.{unfilled_held, keeps_none}
use Rattle.mv_fill.proofs.filling.visit.Goals as goal

pub returns-in-Ok-false : goal.returns-in-Ok-false
returns-in-Ok-false g c = record {
  keeps = keeps_none c.args.net.now.nets;
  passes = idle c.args.terms.free (FillsNet c.args.terms.free c.args.n.0) (Perhaps (FillsNet c.args.terms.free c.args.n.0)) c.args.net.now _ (LetBe (rw c.in-Ok-false.field-0-test at c.in-Ok-false.ensures) (refl, refl));
}

pub returns-in-Err : goal.returns-in-Err
returns-in-Err g c = record {
  keeps = keeps_none c.args.net.now.nets;
  passes = stuck c.args.terms.free (FillsNet c.args.terms.free c.args.n.0) (Perhaps (FillsNet c.args.terms.free c.args.n.0)) c.args.net.now _ (Still (refl, refl));
}

pub note_reason-requires : goal.note_reason-requires
note_reason-requires g c = record {
  unfilled = rw c.in-Ok-true.field-0-test at c.in-Ok-true.ensures;
  stays = c.if-not-free.true;
}

pub returns-then-not-free : goal.returns-then-not-free
returns-then-not-free g c = record { keeps = keeps_none c.args.net.now.nets; passes = c.note_reason.ensures }

pub note_reason-requires-then-has_mark : goal.note_reason-requires-then-has_mark
note_reason-requires-then-has_mark g c =
    let unfilled = rw c.in-Ok-true.field-0-test at c.in-Ok-true.ensures in
    record {
      unfilled = unfilled;
      stays = (c.if-not-free.false, marked_above c.args.net.now.nets c.args.n.0 _ (sym c.has_mark.ensures ∙ c.if-has_mark.true) (c.requires.each c.args.n.0 (unfilled_held c.args.net.now.nets c.args.n.0 unfilled)));
    }

pub returns-then-has_mark : goal.returns-then-has_mark
returns-then-has_mark g c = record { keeps = keeps_none c.args.net.now.nets; passes = c.note_reason-then-has_mark.ensures }

pub fill_one-requires : goal.fill_one-requires
fill_one-requires g c =
    let unfilled = rw c.in-Ok-true.field-0-test at c.in-Ok-true.ensures in
    record {
      unfilled = unfilled;
      free = c.if-not-free.false;
      plain = unmarked_plain c.args.net.now.nets c.args.n.0 _ (sym c.has_mark.ensures ∙ c.if-has_mark.false) (c.requires.each c.args.n.0 (unfilled_held c.args.net.now.nets c.args.n.0 unfilled));
    }
