-- What has each of some literals is noted, one literal after another.
use Rattle.std.proofs.Common.{◌≡◌, ◌∙◌, ℕ, suc, ◌+◌, ◌<◌, ◌||◌, Bool, true, false, List, [], ◌∷◌, ◌++◌, length, take, get_or, if◌then◌else◌, inl, inr, refl, sym, ap, subst, arith}
use Rattle.std.proofs.Math.Seq.{take-suc}
use Rattle.std.proofs.lemmas.Bool.{cases_Bool, false_from_ne_true}
use Rattle.std.proofs.lemmas.List.{length-take-le, get_or-take}
use Rattle.std.proofs.lemmas.List.Folds.{list_any-append}
use Rattle.std.proofs.lemmas.Map.Made.{AllPairs-from_IsDistinct}
use Rattle.std.proofs.lemmas.Map.Views.{Contains-from_any}
use Rattle.std.specs.List.{list_any, IsDistinct}
use Rattle.mv_cover.specs.Literal.{Lit}
use Rattle.mv_cover.specs.Equal.{lit_eq}
use Rattle.mv_cover.specs.Keys.{lit_eq-Decides}
use Rattle.mv_gains.specs.Holders.{IsNoted}

pub take_more : {X : Type 0} (xs : List X) (i : ℕ) (x : X) → i < length xs → x ≡ get_or xs i x → take (i + 1) xs ≡ take i xs ++ x ∷ []
take_more xs i x low is =
    let next : i + 1 ≡ suc i = omega arith in
    ap (λ n. take n xs) next ∙ (take-suc xs i x low ∙ ap (λ y. take i xs ++ y ∷ []) (sym is))

-- one of distinct literals isn't among those before it
fresh : (xs : List Lit) (i : ℕ) (x : Lit) → IsDistinct lit_eq xs → i < length xs → x ≡ get_or xs i x → list_any (lit_eq x) (take i xs) ≡ false
fresh xs i x d low at =
    false_from_ne_true (list_any (lit_eq x) (take i xs)) (λ t.
    let c = Contains-from_any {eq = lit_eq} (λ a b e. (lit_eq-Decides a b).0 e) x (take i xs) t in
    let long : length (take i xs) ≡ i = length-take-le i xs (omega arith) in
    let before : c.0 < i = omega (arith, c.1, long) in
    AllPairs-from_IsDistinct lit_eq-Decides xs d c.0 i x before low (sym (get_or-take i xs c.0 x before) ∙ (c.2 ∙ at)))

pub noted_none : (number : ℕ) (f : Lit → List ℕ) → IsNoted [] number f f
noted_none number f = record { each = λ l. refl }

pub noted_more : (xs : List Lit) (i : ℕ) (x : Lit) (number : ℕ) (old mid new : Lit → List ℕ) → IsDistinct lit_eq xs → i < length xs → x ≡ get_or xs i x → IsNoted (take i xs) number old mid → IsNoted (x ∷ []) number mid new → IsNoted (take (i + 1) xs) number old new
noted_more xs i x number old mid new d low at a b =
    let more = take_more xs i x low at in
    record {
      each = λ l.
          let any : list_any (lit_eq l) (take (i + 1) xs) ≡ (list_any (lit_eq l) (take i xs) || list_any (lit_eq l) (x ∷ [])) =
          ap (list_any (lit_eq l)) more ∙ list_any-append (lit_eq l) (take i xs) (x ∷ []) in
          elim (cases_Bool (lit_eq l x)) [
            | inl t ↦
                let same : l ≡ x = (lit_eq-Decides l x).0 t in
                let apart : list_any (lit_eq l) (take i xs) ≡ false = subst (λ m. list_any (lit_eq m) (take i xs) ≡ false) (sym same) (fresh xs i x d low at) in
                rw (any, b.each l, a.each l, apart, t) refl
            | inr f ↦ rw (any, b.each l, a.each l, f) (halves (list_any (lit_eq l) (take i xs)) (old l ++ number ∷ []) (old l))
          ];
    }
  where
    halves : (t : Bool) (p q : List ℕ) → (if t then p else q) ≡ (if t || false then p else q)
    halves true p q = refl
    halves false p q = refl
