-- A net without a table is let be, and so is one whose table is plainly deterministic. The others are as the questions tell.
use Rattle.std.proofs.Common.{◌∙◌, refl, sym}
use Rattle.mv_choose.specs.Choices.{Determinizing}
use Rattle.mv_choose.proofs.Determinized.{lets_be, partial, varied}
use Rattle.mv_pass.specs.Courses.{Perhaps}
use Rattle.mv_pass.proofs.Stepped.{idle}
use Rattle.mv_visit.specs.Visits.{HasNone, Treats}
use Rattle.mv_visit.proofs.Tabled.{tabled_held}
use Rattle.mv_visit.proofs.Visited.{always}
use Rattle.mv_choose.proofs.choosing.visit.Goals as goal

pub returns-then-not-has_table : goal.returns-then-not-has_table
returns-then-not-has_table g c = record {
  right = c.requires;
  passes = idle c.args.terms.free (Treats Determinizing c.args.n.0) (Perhaps (Treats Determinizing c.args.n.0)) c.args.net.now _ (HasNone (sym c.has_table.ensures ∙ c.if-not-has_table.true) (refl, refl));
}

pub is_plainly_deterministic-requires : goal.is_plainly_deterministic-requires
is_plainly_deterministic-requires g c = tabled_held c.args.net.now.nets c.args.n.0 (sym c.has_table.ensures ∙ c.if-not-has_table.false)

pub returns-then-is_plainly_deterministic : goal.returns-then-is_plainly_deterministic
returns-then-is_plainly_deterministic g c = record {
  right = c.requires;
  passes =
      idle c.args.terms.free (Treats Determinizing c.args.n.0) (Perhaps (Treats Determinizing c.args.n.0)) c.args.net.now _
      (lets_be c.args.net.now c.args.n.0 (rw c.if-is_plainly_deterministic.true at c.is_plainly_deterministic.ensures));
}

pub is_below-requires : goal.is_below-requires
is_below-requires g c = record { held = tabled_held c.args.net.now.nets c.args.n.0 (sym c.has_table.ensures ∙ c.if-not-has_table.false); right = c.requires }

pub note_reason-requires : goal.note_reason-requires
note_reason-requires g c = record {
  table = sym c.has_table.ensures ∙ c.if-not-has_table.false;
  notes = λ table is.
      partial c.args.net.now c.args.n.0 table is (rw c.if-is_plainly_deterministic.false at c.is_plainly_deterministic.ensures) (rw c.if-is_below.true at c.is_below.ensures);
}

pub returns-then-is_below : goal.returns-then-is_below
returns-then-is_below g c = record { right = always _ _ c.requires; passes = c.note_reason.ensures }

pub take-requires : goal.take-requires
take-requires g c = record {
  right = c.requires;
  table = sym c.has_table.ensures ∙ c.if-not-has_table.false;
  varied = λ table is.
      varied c.args.net.now c.args.n.0 table is (rw c.if-is_plainly_deterministic.false at c.is_plainly_deterministic.ensures) (rw c.if-is_below.false at c.is_below.ensures);
}
