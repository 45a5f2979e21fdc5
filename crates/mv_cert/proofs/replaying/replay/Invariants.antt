-- The steps so far applied in turn, and what is known of partial tables is right.
use Rattle.std.proofs.Common.{take}
use Rattle.std.specs.Prelude.{IfSome}
use Rattle.mv_base.specs.Meaning.{Refines}
use Rattle.mv_net.specs.Allowed.{of_net}
use Rattle.mv_partial.specs.Partial.{ArePartial}
use Rattle.mv_rules.specs.Replaying.{Replays}
use Rattle.mv_cert.specs.Replay.{rules_in}
use Rattle.mv_cert.proofs.replaying.replay.Given as goal

abbrev pub invariant-loop-step : goal.invariant-loop-step
invariant-loop-step l = record {
  ran : Replays l.terms.free (rules_in (take l.step-index l.steps)) l.fn.net l.net;
  refines : Refines l.terms.free (of_net l.net) (of_net l.fn.net);
  right : IfSome l.known (ArePartial l.net.nets);
}
