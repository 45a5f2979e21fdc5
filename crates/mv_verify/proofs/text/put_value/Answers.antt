use Rattle.std.proofs.Common.{◌∙◌, ◌∷◌, ap}
use Rattle.mv_base.proofs.Gains.{same}
use Rattle.mv_page.proofs.Adding.{adds}
use Rattle.mv_verify.proofs.text.put_value.Goals as goal

pub returns : goal.returns
returns g c = same adds (ap (λ w. 32 ∷ w) (c.as_bytes.ensures.value ∙ c.format.ensures.text)) c.put_both.ensures
