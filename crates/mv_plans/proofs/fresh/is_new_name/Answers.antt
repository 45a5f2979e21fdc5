-- The name is lawful and short, and a net has it, or none.
use Rattle.std.proofs.Common.{◌∙◌, length, refl, sym, ap, arith}
use Rattle.mv_plans.proofs.fresh.is_new_name.Goals as goal

pub returns-in-Some : goal.returns-in-Some
returns-in-Some c = λ f. f.free c.in-Some._net.0 (rw c.bytes-3.ensures at c.in-Some.ensures.some)

pub returns-in-None : goal.returns-in-None
returns-in-None c = record {
  lawful = sym (rw c.bytes.ensures at c.is_net_name.ensures) ∙ c.if-not-is_net_name.false;
  short = omega (arith, c.if-bytes-gt-MAX_WORD_BYTES.false, ap length c.bytes-2.ensures);
  free = rw c.bytes-3.ensures at (c.in-None.ensures.none refl);
}
