-- The beginning, the visits and the end, as far as they came.
use Rattle.std.proofs.Common.{false}
use Rattle.mv_base.proofs.Meanings.{Refines-refl}
use Rattle.mv_entry.specs.declared.note.Command.TheVariants.{Encode}
use Rattle.mv_net.specs.Allowed.{of_net}
use Rattle.mv_pass.proofs.Passed.{ended, halted, unbegun}
use Rattle.mv_encode.specs.Encodes.{EncodesAll, EncodesSome}
use Rattle.mv_encode.proofs.Visited.{not_begun}
use Rattle.mv_encode.proofs.visiting.encode.Goals as goal

pub returns-in-Err : goal.returns-in-Err
returns-in-Err g c = record {
  passes = unbegun c.args.terms.free EncodesAll EncodesSome Encode _ _ _ _ (not_begun c.args.net.now) c.in-Err.ensures;
  refines = Refines-refl false (of_net c.args.net.now);
}

pub returns-in-Ok-encode_nets : goal.returns-in-Ok-encode_nets
returns-in-Ok-encode_nets g c = record {
  passes = ended c.args.terms.free EncodesAll EncodesSome Encode _ _ _ c.in-Ok.ensures _ _ c.in-Ok-encode_nets.ensures.passes _ _ c.end.ensures;
  refines = c.in-Ok-encode_nets.ensures.refines;
}

pub returns-in-Err-encode_nets : goal.returns-in-Err-encode_nets
returns-in-Err-encode_nets g c = record {
  passes = halted c.args.terms.free EncodesAll EncodesSome Encode _ _ _ c.in-Ok.ensures _ _ _ c.in-Err-encode_nets.ensures.passes;
  refines = c.in-Err-encode_nets.ensures.refines;
}
