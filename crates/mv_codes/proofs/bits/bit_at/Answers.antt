-- What stands at the place, or 0.
use Rattle.std.proofs.Common.{◌∙◌, Option, Bool, false, unwrap_or, ap}
use Rattle.std.proofs.lemmas.Option.{unwrap_or-slice_get}
use Rattle.mv_codes.proofs.bits.bit_at.Goals as goal

pub returns-in-None : goal.returns-in-None
returns-in-None c = ap (λ (o : Option Bool). unwrap_or o false) c.in-None.ensures ∙ unwrap_or-slice_get c.args.code.now.bits c.args.place false

pub returns-in-Some : goal.returns-in-Some
returns-in-Some c = ap (λ (o : Option Bool). unwrap_or o false) c.in-Some.ensures ∙ unwrap_or-slice_get c.args.code.now.bits c.args.place false
