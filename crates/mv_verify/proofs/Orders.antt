-- First values in their order: what comes before the next came before these, or begins with them.
use Rattle.std.proofs.Common.{◌≡◌, ◌∙◌, ℕ, zero, suc, ◌+◌, ◌<◌, ◌≤◌, ◌⊎◌, inl, inr, sym, subst, ⊎_elim, arith}
use Rattle.std.proofs.lemmas.Bool.{cases_eq, cases_lt}
use Rattle.mv_verify.specs.Prefixes.{IsSame, IsBefore, IsNext, AreLast}

same_next : (end : ℕ) (t u : ℕ → ℕ) → IsSame end t u → t end ≡ u end → IsSame (suc end) t u
same_next end t u same here = record {
  each = λ k less.
      ⊎_elim
      (λ (e : k ≡ end). let P : ℕ → Type 0 = λ j. t j ≡ u j in subst P (sym e) here)
      (λ (ne : k ≡ end → ⊥). same.each k (omega arith))
      (cases_eq k end);
}

before_more : (end : ℕ) (t u : ℕ → ℕ) → IsBefore end t u → IsBefore (suc end) t u
before_more end t u b = record { place = b.place; within = omega (arith, b.within); same = b.same; less = b.less }

-- where they are the same up to a place and no more behind it
settled : (start end : ℕ) (t u : ℕ → ℕ) → IsSame start t u → ((k : ℕ) → start ≤ k → k < end → t k ≤ u k) → IsBefore end t u ⊎ IsSame end t u
settled start zero t u same low = inr (record { each = λ k less. absurd (omega arith) })
settled start (suc end) t u same low =
    ⊎_elim
    (λ (b : IsBefore end t u). inl (before_more end t u b))
    (λ (e : IsSame end t u).
    ⊎_elim
    (λ (less : end < start). inr (same_next end t u e (same.each end less)))
    (λ (past : start ≤ end).
    let le : t end ≤ u end = low end past (omega arith) in
    ⊎_elim
    (λ (less : t end < u end). inl (record { place = end; within = omega arith; same = e; less = less }))
    (λ (more : u end ≤ t end). inr (same_next end t u e (omega arith)))
    (cases_lt (t end) (u end)))
    (cases_lt end start))
    (settled start end t u same (λ k from to. low k from (omega arith)))

pub before_next : (counts old new : ℕ → ℕ) (end next : ℕ) (t : ℕ → ℕ) → IsNext counts old new end next → ((k : ℕ) → k < end → t k < counts k) → IsBefore next t new → IsBefore end t old ⊎ IsSame end t old
before_next counts old new end next t n within b =
    let q = n.place in
    let back : q < end = n.back in
    let behind : next ≡ q + 1 = n.behind in
    let more : new q ≡ old q + 1 = n.more in
    let p = b.place in
    let inside : p < next = b.within in
    ⊎_elim
    (λ (less : p < q).
    let low : t p < new p = b.less in
    let same : new p ≡ old p = n.same.each p less in
    inl (record {
      place = p;
      within = omega arith;
      same = record { each = λ k l. b.same.each k l ∙ n.same.each k (omega arith) };
      less = omega arith;
    }))
    (λ (past : q ≤ p).
    let here : p ≡ q = omega arith in
    let P : ℕ → Type 0 = λ k. t k < new k in
    let low : t q < new q = subst P here b.less in
    settled q end t old (record { each = λ k l. b.same.each k (omega arith) ∙ n.same.each k l }) (λ k from to.
    ⊎_elim
    (λ (e : k ≡ q). let Q : ℕ → Type 0 = λ j. t j ≤ old j in subst Q (sym e) (omega arith))
    (λ (ne : k ≡ q → ⊥). omega (arith, within k to, n.last k (omega arith) to))
    (cases_eq k q)))
    (cases_lt p q)

pub before_last : (counts old : ℕ → ℕ) (end : ℕ) (t : ℕ → ℕ) → AreLast counts old end → ((k : ℕ) → k < end → t k < counts k) → IsBefore end t old ⊎ IsSame end t old
before_last counts old end t n within =
    settled 0 end t old (record { each = λ k less. absurd (omega arith) }) (λ k from to. omega (arith, within k to, n.last k to))
