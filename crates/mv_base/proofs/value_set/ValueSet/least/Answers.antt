use Rattle.std.proofs.Common.{◌≡◌, ℕ, ◌<◌, ◌+◌, ◌*◌, ◌^◌, true, false, refl, sym, ◌∙◌, ap, arith}
use Rattle.std.specs.Int.{bit_at, w128, trailing_zeros}
use Rattle.std.proofs.lemmas.Bool.{false≢true}
use Rattle.std.proofs.lemmas.Nat.Bits.{bit_at-trailing_zeros}
use Rattle.mv_base.specs.Set.{empty}
use Rattle.mv_base.specs.Words.{word_of}
use Rattle.mv_base.specs.SetInside.{words, word_of-zero}
use Rattle.mv_base.proofs.Sets.{IsLeast}
use Rattle.mv_base.proofs.WordLemmas.{IsLeast-from_words, zero_from_words, number-lt}
use Rattle.mv_base.proofs.value_set.ValueSet.least.Goals as goal

-- the lowest bit of the first word that isn't 0
least_here : (s at w : ℕ) → w ≡ word_of s at → (w ≡ 0 → ⊥) → w < 2 ^ 128 → ((k : ℕ) → k < at → word_of s k ≡ 0) → IsLeast s (128 * at + trailing_zeros w128 w)
least_here s at w e some small before =
    let lowest = bit_at-trailing_zeros w128 w (omega (arith, some)) small in
    IsLeast-from_words s at (trailing_zeros w128 w) before lowest.0 (ap (λ x. bit_at x (trailing_zeros w128 w)) (sym e) ∙ lowest.1)
    (λ i h. ap (λ x. bit_at x i) (sym e) ∙ lowest.2 i h)

pub returns-then-word-ne0-clause-none : goal.returns-then-word-ne0-clause-none
unfolding empty
returns-then-word-ne0-clause-none c = (
  λ (e : true ≡ false). absurd (false≢true (sym e)),
  λ (e : c.args.self ≡ 0). absurd (c.if-word-ne0.true (c.word-word.ensures ∙ (ap (λ s. word_of s c.loop-at.at) e ∙ word_of-zero c.loop-at.at))),
)

pub returns-then-word-ne0-clause-some : goal.returns-then-word-ne0-clause-some
returns-then-word-ne0-clause-some c = (least_here c.args.self c.loop-at.at c.word-word.result c.word-word.ensures c.if-word-ne0.true c.word-word.type_inv c.loop-at.invariant).member

pub returns-then-word-ne0-clause-least : goal.returns-then-word-ne0-clause-least
returns-then-word-ne0-clause-least c = (least_here c.args.self c.loop-at.at c.word-word.result c.word-word.ensures c.if-word-ne0.true c.word-word.type_inv c.loop-at.invariant).least

pub returns-clause-none : goal.returns-clause-none
unfolding empty
returns-clause-none c = (λ _. zero_from_words 8 c.args.self (rw (← c.self.view_is) (number-lt (words c.self.inside) c.self.invariant)) (λ i h. c.loop-at.invariant i (omega (arith, h, c.loop-at-test.false))), λ _. refl)
