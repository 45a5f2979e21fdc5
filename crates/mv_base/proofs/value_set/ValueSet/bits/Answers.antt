use Rattle.std.proofs.Common.{◌≡◌, ℕ, sym, ◌∙◌, arith}
use Rattle.std.specs.Prelude.{bit_or}
use Rattle.std.proofs.lemmas.Nat.{le_or_l, le_or_r}
use Rattle.mv_base.proofs.value_set.ValueSet.bits.Goals as goal

both_zero : (a b : ℕ) → bit_or a b ≡ 0 → (a ≡ 0) × (b ≡ 0)
both_zero a b e = (omega (arith, e, le_or_l a b), omega (arith, e, le_or_r a b))

pub returns-clause-some : goal.returns-clause-some
returns-clause-some c =
    let s = c.self.inside in
    let p7 = both_zero _ s.w7 c.if-above-ne0.false in
    let p6 = both_zero _ s.w6 p7.0 in
    let p5 = both_zero _ s.w5 p6.0 in
    let p4 = both_zero _ s.w4 p5.0 in
    let p3 = both_zero _ s.w3 p4.0 in
    let p2 = both_zero _ s.w2 p3.0 in
    sym c.self.view_is ∙ omega (arith, p7.1, p6.1, p5.1, p4.1, p3.1, p2.1, p2.0)
