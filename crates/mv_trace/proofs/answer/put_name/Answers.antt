use Rattle.std.proofs.Common.{sym}
use Rattle.mv_base.proofs.Gains.{same}
use Rattle.mv_page.proofs.Adding.{adds}
use Rattle.mv_net.specs.Nets.{slot}
use Rattle.mv_trace.specs.Answer.{net_name}
use Rattle.mv_trace.proofs.AnswerTexts.{unheld-word, named}
use Rattle.mv_trace.proofs.answer.put_name.Goals as goal

pub returns-then-not-holds : goal.returns-then-not-holds
returns-then-not-holds g c =
    same adds (sym (unheld-word (net_name c.args.n.0) (slot c.args.net.now.nets c.args.n.0) (sym c.if-not-holds.ensures))) (adds.nothing _)

pub returns : goal.returns
returns g c =
    same adds (named c.args.n.0 (slot c.args.net.now.nets c.args.n.0) c.name.result.now (sym c.if-not-holds.ensures) c.name.ensures) c.put_both.ensures
