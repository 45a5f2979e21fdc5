use Rattle.std.proofs.Common.{◌∙◌, map, decimal, sym, ap}
use Rattle.std.proofs.lemmas.List.{get_or-map}
use Rattle.mv_base.specs.declared.number.Value.{Value}
use Rattle.mv_base.proofs.Gains.{same}
use Rattle.mv_page.proofs.Adding.{adds}
use Rattle.mv_net.specs.Nets.{slot}
use Rattle.mv_trace.specs.Answer.{net_value, at_of}
use Rattle.mv_trace.proofs.AnswerTexts.{unheld-word, valued}
use Rattle.mv_trace.proofs.answer.put_value.Goals as goal

pub returns-then-not-holds : goal.returns-then-not-holds
returns-then-not-holds g c =
    same adds (sym (unheld-word (net_value (at_of (map (λ v. v.0) c.args.values.now)) c.args.n.0) (slot c.args.net.now.nets c.args.n.0) (sym c.if-not-holds.ensures))) (adds.nothing _)

pub returns : goal.returns
returns g c =
    same adds (valued (at_of (map (λ v. v.0) c.args.values.now)) c.args.n.0 (slot c.args.net.now.nets c.args.n.0) c.as_bytes.result.now (sym c.if-not-holds.ensures) (c.as_bytes.ensures.value ∙ c.format.ensures.text ∙ ap decimal (sym (get_or-map (λ (v : Value). v.0) c.args.values.now c.args.n.0 (record { 0 = 0 }) 0 c.requires)))) c.put_both.ensures
