use Rattle.mv_verify.proofs.Values.{allowed_values}
use Rattle.mv_verify.proofs.laws.answer_laws.Goals as goal

pub returns : goal.returns
returns c = record {
  extra = λ free b a p x e r. e.refused (r.narrows.only p.inputs p.latches x.outputs x.next x.resets e.some e.given);
  lost = λ free b a p e r. e.none (r.some p.inputs p.latches e.some);
  values = allowed_values;
}
