-- One digit after the other, the highest first.
use Rattle.std.proofs.Common.{◌≡◌, ◌-◌, ◌++◌, refl, sym, subst, arith}
use Rattle.mv_encode.specs.Encodes.{binary}
use Rattle.mv_encode.proofs.Binary.{binary_more}
use Rattle.mv_encode.proofs.codes.code_of.Goals as goal

pub digits-preserved : goal.digits-preserved
digits-preserved c =
    let left = c.digits.left - 1 in
    record {
      low = omega (arith, c.digits.invariant.low);
      so_far =
          subst (λ digits. digits ++ binary left c.args.value ≡ binary c.args.bits c.args.value) (sym c.in_ok-push.ensures.ok)
          (binary_more c.digits.digits c.args.bits c.digits.left left c.args.value c.digits-test.true refl c.digits.invariant.so_far);
    }
