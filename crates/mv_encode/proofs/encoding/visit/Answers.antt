-- The net is let be, or the rule for it applied, or it was refused.
use Rattle.std.proofs.Common.{refl, sym, subst}
use Rattle.mv_net.specs.declared.parts.NetParts.{NetParts}
use Rattle.mv_pass.specs.Courses.{Perhaps, Still}
use Rattle.mv_pass.proofs.Stepped.{applied, idle, stuck}
use Rattle.mv_encode.specs.Encodes.{EncodesNet, IsToEncode, LetBe}
use Rattle.mv_encode.specs.Encoding.{WasRefused}
use Rattle.mv_encode.proofs.Refused.{was_refused}
use Rattle.mv_encode.proofs.Visited.{encode_stopped, encoded_so, from_there}
use Rattle.mv_encode.proofs.encoding.visit.Goals as goal

pub returns-then-not-is_to_encode : goal.returns-then-not-is_to_encode
returns-then-not-is_to_encode g c =
    idle c.args.terms.free (EncodesNet c.args.n.0) (Perhaps (EncodesNet c.args.n.0)) c.args.net.now _ (LetBe (rw c.if-not-is_to_encode.true at c.is_to_encode.ensures) (refl, refl))

pub returns-in-Err : goal.returns-in-Err
returns-in-Err g c = stuck c.args.terms.free (EncodesNet c.args.n.0) (Perhaps (EncodesNet c.args.n.0)) c.args.net.now _ (Still (refl, refl))

pub returns-in-Ok-None : goal.returns-in-Ok-None
returns-in-Ok-None g c =
    let to = rw c.if-not-is_to_encode.false at c.is_to_encode.ensures in
    let r = c.in-Ok-None.ensures in
    applied c.args.terms.free (EncodesNet c.args.n.0) (Perhaps (EncodesNet c.args.n.0)) c.args.net.now _ c.attempt.new.net _ c.in-Ok.rule r.refines r.goes_on
    (λ applies. encoded_so c.args.terms.free c.args.net.now c.args.n.0 c.in-Ok.rule c.attempt.new.net to c.in-Ok.ensures applies) (rw c.in-Ok-None.field-0-is at r.ok)

pub refuse-requires : goal.refuse-requires
refuse-requires g c =
    let to = rw c.if-not-is_to_encode.false at c.is_to_encode.ensures in
    let refused = rw c.in-Ok-Some.field-0-is at c.in-Ok-Some.ensures.ok in
    let was = was_refused c.args.terms.free c.args.net.now c.args.n.0 c.in-Ok.rule c.in-Ok-Some.fault c.in-Ok.ensures refused.fails in
    record {
      to_encode = subst (λ (q : NetParts). IsToEncode q c.args.n.0) (sym refused.same) to;
      refused = subst (λ (q : NetParts). WasRefused q c.args.n.0 c.in-Ok.rule c.in-Ok-Some.fault) (sym refused.same) was;
    }

pub returns-in-Ok-Some : goal.returns-in-Ok-Some
returns-in-Ok-Some g c =
    let refused = rw c.in-Ok-Some.field-0-is at c.in-Ok-Some.ensures.ok in
    from_there c.args.terms.free c.args.n.0 c.args.net.now c.attempt.new.net c.attempt.new.net _ _ _ _ refused.same refused.still c.refuse.ensures

pub returns : goal.returns
returns g c =
    let to = rw c.if-not-is_to_encode.false at c.is_to_encode.ensures in
    let r = c.in-Err-attempt.ensures in
    encode_stopped c.args.terms.free c.args.net.now c.args.n.0 c.in-Ok.rule c.attempt.new.net _ _ _ to c.in-Ok.ensures r.refines r.goes_on r.note r.cause r.net r.journal
