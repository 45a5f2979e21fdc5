-- Three faults can be the rule's. Two of them are noted, and where the numbers run out nothing is done.
use Rattle.std.proofs.Common.{refl}
use Rattle.mv_pass.specs.Courses.{Perhaps, Still}
use Rattle.mv_pass.proofs.Stepped.{stuck}
use Rattle.mv_encode.specs.Encodes.{EncodesNet}
use Rattle.mv_encode.proofs.Refused.{no_other, stays_varied, stays_wide}
use Rattle.mv_encode.proofs.encoding.refuse.Goals as goal

pub note_reason-requires : goal.note_reason-requires
note_reason-requires g c = record {
  to_encode = c.requires.to_encode;
  stays = stays_varied c.args.net.now c.args.n.0 c.well_formed-2.ensures c.few.ensures c.requires.to_encode c.args.rule.now c.args.fault c.requires.refused c.in-Varied.is;
}

pub note_reason-requires-in-Wide : goal.note_reason-requires-in-Wide
note_reason-requires-in-Wide g c = record {
  to_encode = c.requires.to_encode;
  stays = stays_wide c.args.net.now c.args.n.0 c.well_formed-2.ensures c.few.ensures c.requires.to_encode c.args.rule.now c.args.fault c.requires.refused c.in-Wide.is;
}

pub unreachable-requires : goal.unreachable-requires
unreachable-requires g c =
    no_other c.args.net.now c.args.n.0 c.well_formed-2.ensures c.few.ensures c.requires.to_encode c.args.rule.now c.args.fault c.requires.refused c.in_default.not-Varied c.in_default.not-Wide c.in_default.not-Nets

pub returns-in-Err : goal.returns-in-Err
returns-in-Err g c = stuck c.args.terms.free (EncodesNet c.args.n.0) (Perhaps (EncodesNet c.args.n.0)) c.args.net.now _ (Still (refl, refl))
