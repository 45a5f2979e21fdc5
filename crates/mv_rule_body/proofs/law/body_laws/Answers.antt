use Rattle.mv_rule_body.proofs.Said.{cover_held, body_known, body_tidy, cover_back}
use Rattle.mv_rule_body.proofs.law.body_laws.Goals as goal

pub returns : goal.returns
returns c = record {
  held = λ net values t is. cover_held net.nets values t is;
  known = λ net values t is. body_known net.nets values t is;
  tidy = λ net values t formed is. body_tidy net formed values t is;
  said = λ net values t formed is. cover_back net formed values t is;
}
