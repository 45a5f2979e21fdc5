-- A look-up finds a net where one has the name.
use Rattle.std.proofs.Common.{◌∙◌, sym}
use Rattle.mv_net.proofs.FreshNames.{taken_answer}
use Rattle.mv_net.proofs.network.Network.free_name.Goals as goal

pub returns-then-is_some : goal.returns-then-is_some
returns-then-is_some c =
    sym (c.is_some.ensures ∙ taken_answer c.args.self.now.nets c.bytes.result.now c.args.number c.find.result (c.bytes.ensures ∙ c.in_ok-name.ensures) c.find.ensures.some c.find.ensures.none) ∙ c.if-is_some.true

pub returns : goal.returns
returns c = record {
  is = c.in_ok-name.ensures;
  free =
      sym (c.is_some.ensures ∙ taken_answer c.args.self.now.nets c.bytes.result.now c.args.number c.find.result (c.bytes.ensures ∙ c.in_ok-name.ensures) c.find.ensures.some c.find.ensures.none) ∙ c.if-is_some.false;
}
