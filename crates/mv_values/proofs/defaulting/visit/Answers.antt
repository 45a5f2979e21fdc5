-- A net without a table is let be, and so is one with a default. The others are as the questions tell.
use Rattle.std.proofs.Common.{◌∙◌, refl, sym}
use Rattle.mv_pass.specs.Courses.{Perhaps, Still}
use Rattle.mv_pass.proofs.Stepped.{idle, stuck}
use Rattle.mv_values.specs.Defaults.{Defaulting}
use Rattle.mv_values.proofs.Defaulted.{can_default, has_one, partial, varied}
use Rattle.mv_visit.specs.Visits.{HasNone, Treats}
use Rattle.mv_visit.proofs.Tabled.{tabled_held}
use Rattle.mv_visit.proofs.Visited.{always}
use Rattle.mv_values.proofs.defaulting.visit.Goals as goal

pub returns-then-not-has_table : goal.returns-then-not-has_table
returns-then-not-has_table g c = record {
  right = c.requires;
  passes = idle c.args.terms.free (Treats Defaulting c.args.n.0) (Perhaps (Treats Defaulting c.args.n.0)) c.args.net.now _ (HasNone (sym c.has_table.ensures ∙ c.if-not-has_table.true) (refl, refl));
}

pub has_default-requires : goal.has_default-requires
has_default-requires g c = sym c.has_table.ensures ∙ c.if-not-has_table.false

pub returns-then-has_default : goal.returns-then-has_default
returns-then-has_default g c = record {
  right = c.requires;
  passes =
      idle c.args.terms.free (Treats Defaulting c.args.n.0) (Perhaps (Treats Defaulting c.args.n.0)) c.args.net.now _
      (has_one c.args.terms.free c.args.net.now c.args.n.0 (sym c.has_table.ensures ∙ c.if-not-has_table.false) (λ table is. rw c.if-has_default.true at (c.has_default.ensures table is)));
}

pub is_plainly_deterministic-requires : goal.is_plainly_deterministic-requires
is_plainly_deterministic-requires g c = tabled_held c.args.net.now.nets c.args.n.0 (sym c.has_table.ensures ∙ c.if-not-has_table.false)

pub returns-in-Err-clause-passes : goal.returns-in-Err-clause-passes
returns-in-Err-clause-passes g c =
    stuck c.args.terms.free (Treats Defaulting c.args.n.0) (Perhaps (Treats Defaulting c.args.n.0)) c.args.net.now _ (Still (refl, refl))
