use Rattle.std.proofs.Common.{refl}
use Rattle.std.proofs.lemmas.Bool.{false≢true}
use Rattle.mv_body.proofs.Numbers.{unnamed_unknown}
use Rattle.mv_body.proofs.known.is_literal_known.Goals as goal

pub returns-in_default : goal.returns-in_default
returns-in_default c =
    (λ e. absurd (false≢true e), λ k. absurd (unnamed_unknown c.args.net.now.nets c.args.literal.now c.bytes.result.now c.bytes.ensures (c.in_default.ensures.none refl) k))
