-- Nets are marked one after another, and what isn't marked stays.
use Rattle.std.proofs.Common.{◌≡◌, ◌∙◌, ℕ, ◌+◌, ◌-◌, ◌^◌, ◌<◌, ◌≤◌, List, [], ◌∷◌, ◌++◌, length, take, set, get_or, inl, inr, refl, sym, subst, arith, get_or-set_other, get_or-set_same}
use Rattle.std.proofs.lemmas.Bool.{cases_eq}
use Rattle.std.proofs.lemmas.List.{get_or_past}
use Rattle.mv_gains.specs.Grown.{IsOneOf}
use Rattle.mv_gains.specs.Known.{IsMarked, stamp_at}
use Rattle.mv_gains.proofs.Growing.{last_cases}
use Rattle.mv_gains.proofs.Noting.{take_more}
use Rattle.mv_kernels.proofs.Lists.{Contains-none}

pub marked_one : (old : List ℕ) (p now : ℕ) → p < length old → IsMarked now (λ m. p ≡ m) old (set old p now)
marked_one old p now low = record {
  each = λ m.
      elim (cases_eq m p) [
        | inl same ↦ inr (subst (λ k. now ≤ stamp_at (set old p now) k) (sym same) here)
        | inr other ↦ inl (get_or-set_other old p m now (2 ^ 64 - 1) other)
      ];
  all = λ m e. subst (λ k. now ≤ stamp_at (set old p now) k) e here;
}
  where
    here : now ≤ stamp_at (set old p now) p
    here = let e : get_or (set old p now) p (2 ^ 64 - 1) ≡ now = get_or-set_same old p now (2 ^ 64 - 1) low in omega (arith, e)

pub marked_past : (old : List ℕ) (p now : ℕ) → length old ≤ p → now ≤ 2 ^ 64 - 1 → IsMarked now (λ m. p ≡ m) old old
marked_past old p now past small = record {
  each = λ m. inl refl;
  all = λ m e. let far : get_or old m (2 ^ 64 - 1) ≡ 2 ^ 64 - 1 = get_or_past old m (2 ^ 64 - 1) (omega (arith, past, e)) in omega (arith, far, small);
}

module _ {X : Type 0} (now : ℕ) (On : X → ℕ → Type 0) where
  pub marked_none : (old : List ℕ) → IsMarked now (IsOneOf On []) old old
  marked_none old = record { each = λ m. inl refl; all = λ m h. absurd (Contains-none h.from h.there) }

  marked_push : (xs : List X) (x : X) (old mid new : List ℕ) → IsMarked now (IsOneOf On xs) old mid → IsMarked now (On x) mid new → IsMarked now (IsOneOf On (xs ++ x ∷ [])) old new
  marked_push xs x old mid new a b = record {
    each = λ m.
        elim (b.each m) [
          | inr later ↦ inr later
          | inl same ↦
              elim (a.each m) [
                | inl was ↦ inl (same ∙ was)
                | inr later ↦ inr (subst (λ k. now ≤ k) (sym same) later)
              ]
        ];
    all = λ m h.
        elim (last_cases xs x h.from h.there) [
          | inl e ↦ b.all m (subst (λ y. On y m) (sym e) h.is)
          | inr t ↦
              let before = a.all m (record { from = h.from; there = t; is = h.is }) in
              elim (b.each m) [
                | inl same ↦ subst (λ k. now ≤ k) (sym same) before
                | inr later ↦ later
              ]
        ];
  }

  pub marked_more : (xs : List X) (i : ℕ) (x : X) (old mid new : List ℕ) → i < length xs → x ≡ get_or xs i x → IsMarked now (IsOneOf On (take i xs)) old mid → IsMarked now (On x) mid new → IsMarked now (IsOneOf On (take (i + 1) xs)) old new
  marked_more xs i x old mid new low at a b =
      subst (λ (ys : List X). IsMarked now (IsOneOf On ys) old new) (sym (take_more xs i x low at)) (marked_push (take i xs) x old mid new a b)
