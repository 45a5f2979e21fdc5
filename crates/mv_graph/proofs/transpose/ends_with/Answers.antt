use Rattle.std.proofs.Common.{◌∙◌, sym, ap}
use Rattle.mv_graph.proofs.Transposes.{is_net, is_last-read}
use Rattle.mv_graph.proofs.transpose.ends_with.Goals as goal

pub returns-in-Some : goal.returns-in-Some
returns-in-Some c = c.eq.ensures ∙ (ap (λ o. is_net o c.args.net) c.in-Some.ensures.value ∙ sym (is_last-read c.args.nets.now c.args.net))
