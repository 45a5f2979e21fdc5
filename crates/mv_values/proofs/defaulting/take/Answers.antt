-- The table with the default taken is one that allows less.
use Rattle.std.proofs.Common.{is_some, refl}
use Rattle.mv_pass.specs.Courses.{Perhaps, Still}
use Rattle.mv_pass.proofs.Stepped.{idle, stuck}
use Rattle.mv_values.specs.Defaults.{Defaulting}
use Rattle.mv_values.proofs.Defaulted.{above_partial, gives, may_default, spares}
use Rattle.mv_values.proofs.Taking.{lesser}
use Rattle.mv_visit.specs.Visits.{Treats}
use Rattle.mv_visit.proofs.Tabled.{has_cover, tabled_held}
use Rattle.mv_visit.proofs.Visited.{always}
use Rattle.mv_values.proofs.defaulting.take.Goals as goal

pub returns-in-Ok-None : goal.returns-in-Ok-None
returns-in-Ok-None g c = record {
  right = c.requires.right;
  passes =
      idle c.args.terms.free (Treats Defaulting c.args.n.0) (Perhaps (Treats Defaulting c.args.n.0)) c.args.net.now _
      (spares c.args.terms.free c.args.net.now c.args.n.0 c.requires.table c.in-Ok-None.field-0 c.in-Ok-None.field-0-is c.requires.can c.in-Ok-None.ensures);
}

pub returns-in-Err : goal.returns-in-Err
returns-in-Err g c = record {
  right = tt;
  passes = stuck c.args.terms.free (Treats Defaulting c.args.n.0) (Perhaps (Treats Defaulting c.args.n.0)) c.args.net.now _ (Still (refl, refl));
}

pub is_below-requires : goal.is_below-requires
is_below-requires g c = record { held = tabled_held c.args.net.now.nets c.args.n.0 c.requires.table; right = c.requires.right }

pub note_reason-requires : goal.note_reason-requires
note_reason-requires g c = record {
  table = c.requires.table;
  notes = λ table is.
      above_partial c.args.net.now c.args.n.0 table is c.in-Ok-Some.field-0 c.in-Ok-Some.table c.in-Ok-Some.field-0-is (c.requires.can table is) (c.in-Ok-Some.ensures table is)
      (rw c.if-is_below.true at c.is_below.ensures);
}

pub returns-then-is_below : goal.returns-then-is_below
returns-then-is_below g c = record { right = always _ _ c.requires.right; passes = c.note_reason.ensures }

pub lessen-requires : goal.lessen-requires
lessen-requires g c =
    let t = has_cover c.args.net.now.nets c.args.n.0 c.requires.table in
    record {
      right = c.requires.right;
      below = rw c.if-is_below.false at c.is_below.ensures;
      lesser =
          lesser c.args.net.now c.args.n.0 t.cover c.well_formed-2.ensures t.is c.in-Ok-Some.table
          (gives c.args.net.now c.args.n.0 t.cover t.is c.in-Ok-Some.field-0 c.in-Ok-Some.table c.in-Ok-Some.field-0-is (c.requires.can t.cover t.is) (c.in-Ok-Some.ensures t.cover t.is));
    }

pub returns : goal.returns
returns g c =
    let t = has_cover c.args.net.now.nets c.args.n.0 c.requires.table in
    record {
      right = c.lessen.ensures.right;
      passes =
          may_default c.args.net.now c.args.n.0 t.cover t.is c.in-Ok-Some.field-0 c.in-Ok-Some.table c.in-Ok-Some.field-0-is (c.requires.can t.cover t.is) (c.in-Ok-Some.ensures t.cover t.is)
          (rw c.if-is_below.false at c.is_below.ensures) c.args.terms.free c.lessen.new.net _ _ _ c.lessen.ensures.passes;
    }
