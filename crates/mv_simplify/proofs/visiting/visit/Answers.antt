-- A net without a table is let be, and one above a partial table is noted.
use Rattle.std.proofs.Common.{◌∙◌, refl, sym}
use Rattle.mv_pass.specs.Courses.{Perhaps}
use Rattle.mv_pass.proofs.Stepped.{idle}
use Rattle.mv_simplify.specs.Simplifies.{LetBe}
use Rattle.mv_simplify.specs.Simplifying.{Visit}
use Rattle.mv_simplify.proofs.Taking.{always, tabled_held}
use Rattle.mv_simplify.proofs.visiting.visit.Goals as goal

pub returns-then-not-has_table : goal.returns-then-not-has_table
returns-then-not-has_table g c = record {
  right = c.requires.right;
  passes = idle c.args.asked.terms.free (Visit c.args.asked c.args.n.0) (Perhaps (Visit c.args.asked c.args.n.0)) c.args.net.now _ (LetBe (sym c.has_table.ensures ∙ c.if-not-has_table.true) (refl, refl));
}

pub is_below-requires : goal.is_below-requires
is_below-requires g c = record {
  held = tabled_held c.args.net.now.nets c.args.n.0 (sym c.has_table.ensures ∙ c.if-not-has_table.false);
  right = c.requires.right;
}

pub note_reason-requires : goal.note_reason-requires
note_reason-requires g c = record {
  table = sym c.has_table.ensures ∙ c.if-not-has_table.false;
  keeps = rw c.if-is_below.true at c.is_below.ensures;
}

pub returns-then-is_below : goal.returns-then-is_below
returns-then-is_below g c = record { right = always _ _ c.requires.right; passes = c.note_reason.ensures }

pub tighten-requires : goal.tighten-requires
tighten-requires g c = record {
  within = c.requires.within;
  right = c.requires.right;
  table = sym c.has_table.ensures ∙ c.if-not-has_table.false;
  below = rw c.if-is_below.false at c.is_below.ensures;
}
