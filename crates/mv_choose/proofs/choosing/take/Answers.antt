-- The table that the net's own is made into is one that allows less.
use Rattle.std.proofs.Common.{refl}
use Rattle.mv_choose.specs.Choices.{Determinizing, GivesDetermined}
use Rattle.mv_choose.proofs.Determinized.{may_determine}
use Rattle.mv_choose.proofs.Taking.{lesser}
use Rattle.mv_pass.specs.Courses.{Perhaps, Still}
use Rattle.mv_pass.proofs.Stepped.{stuck}
use Rattle.mv_visit.specs.Visits.{Treats}
use Rattle.mv_visit.proofs.Tabled.{has_cover}
use Rattle.mv_visit.proofs.Visited.{always}
use Rattle.mv_choose.proofs.choosing.take.Goals as goal

pub note_reason-requires : goal.note_reason-requires
note_reason-requires g c = record { table = c.requires.table; notes = λ table is. (c.requires.varied table is, c.in-Err-Wide.ensures.long c.in-Err-Wide.field-0-is table is) }

pub returns-in-Err-Wide : goal.returns-in-Err-Wide
returns-in-Err-Wide g c = record { right = always _ _ c.requires.right; passes = c.note_reason.ensures }

pub returns-in-Err-Memory : goal.returns-in-Err-Memory
returns-in-Err-Memory g c = record {
  right = tt;
  passes = stuck c.args.terms.free (Treats Determinizing c.args.n.0) (Perhaps (Treats Determinizing c.args.n.0)) c.args.net.now _ (Still (refl, refl));
}

pub lessen-requires : goal.lessen-requires
lessen-requires g c =
    let t = has_cover c.args.net.now.nets c.args.n.0 c.requires.table in
    record {
      right = c.requires.right;
      below = (c.requires.varied t.cover t.is).below;
      lesser =
          lesser c.args.net.now c.args.n.0 t.cover c.well_formed-2.ensures t.is c.in-Ok.table
          (record { varied = c.requires.varied t.cover t.is; short = c.in-Ok.ensures.short t.cover t.is; is = c.in-Ok.ensures.made t.cover t.is });
    }

pub returns : goal.returns
returns g c =
    let t = has_cover c.args.net.now.nets c.args.n.0 c.requires.table in
    record {
      right = c.lessen.ensures.right;
      passes =
          may_determine c.args.net.now c.args.n.0 t.cover t.is c.in-Ok.table
          (record { varied = c.requires.varied t.cover t.is; short = c.in-Ok.ensures.short t.cover t.is; is = c.in-Ok.ensures.made t.cover t.is })
          c.args.terms.free c.lessen.new.net _ _ _ c.lessen.ensures.passes;
    }
