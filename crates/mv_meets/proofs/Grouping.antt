-- The literals of one cube after another are noted with its place.
use Rattle.std.proofs.Common.{◌≡◌, ◌∙◌, ℕ, suc, ◌+◌, ◌<◌, ◌≤◌, ◌||◌, Bool, true, false, not, nat_lt, List, [], ◌∷◌, ◌++◌, length, take, filter, get_or, if◌then◌else◌, Contains, inl, inr, refl, sym, ap, subst, arith}
use Rattle.std.proofs.Math.Seq.{take-suc}
use Rattle.std.proofs.lemmas.Bool.{cases_Bool, false_from_ne_true, false≢true, cond-true, cond-false, lt-ltb, le-ltb}
use Rattle.std.proofs.lemmas.List.{append-nil, length-take-le, get_or-take}
use Rattle.std.proofs.lemmas.List.Elements.{filter-append}
use Rattle.std.proofs.lemmas.List.Folds.{list_any-append}
use Rattle.std.proofs.lemmas.Map.Made.{AllPairs-from_IsDistinct}
use Rattle.std.proofs.lemmas.Map.Views.{Contains-from_any, list_any-from_Contains}
use Rattle.std.specs.Cmp.{decided}
use Rattle.std.specs.List.{list_any, IsDistinct}
use Rattle.mv_cover.specs.Literal.{Lit}
use Rattle.mv_cover.specs.Equal.{lit_eq}
use Rattle.mv_cover.specs.Keys.{lit_eq-Decides}
use Rattle.mv_kernels.specs.Symbols.{has_symbol}
use Rattle.mv_kernels.proofs.Lists.{Contains-filter, Contains-from_filter}
use Rattle.mv_kernels.proofs.Quotients.{symbol_in, in_symbol}
use Rattle.mv_meets.specs.Groups.{AreGroups, IsNoted, from_net}
use Rattle.mv_meets.specs.Meets.{at}
use Rattle.mv_meets.proofs.Places.{at_item, own_item}

pub take_more : {X : Type 0} (xs : List X) (i : ℕ) (x : X) → i < length xs → x ≡ get_or xs i x → take (i + 1) xs ≡ take i xs ++ x ∷ []
take_more xs i x low is =
    let next : i + 1 ≡ suc i = omega arith in
    ap (λ n. take n xs) next ∙ (take-suc xs i x low ∙ ap (λ y. take i xs ++ y ∷ []) (sym is))

-- a filter of a list with one more
pub filter_yes : {X : Type 0} (p : X → Bool) (xs : List X) (x : X) → p x ≡ true → filter p (xs ++ x ∷ []) ≡ filter p xs ++ x ∷ []
filter_yes p xs x t = filter-append p xs (x ∷ []) ∙ ap (λ ys. filter p xs ++ ys) (cond-true (p x) (x ∷ []) [] t)

pub filter_no : {X : Type 0} (p : X → Bool) (xs : List X) (x : X) → p x ≡ false → filter p (xs ++ x ∷ []) ≡ filter p xs
filter_no p xs x f = filter-append p xs (x ∷ []) ∙ (ap (λ ys. filter p xs ++ ys) (cond-false (p x) (x ∷ []) [] f) ∙ append-nil (filter p xs))

found_in : (l : Lit) (xs : List Lit) → list_any (lit_eq l) xs ≡ true → Contains xs l
found_in l xs t = Contains-from_any {eq = lit_eq} (λ a b e. (lit_eq-Decides a b).0 e) l xs t

in_found : (l : Lit) (xs : List Lit) → Contains xs l → list_any (lit_eq l) xs ≡ true
in_found l xs i = list_any-from_Contains {eq = lit_eq} (decided lit_eq lit_eq-Decides) l xs i

-- ---- the literals of one cube

abbrev is_from : ℕ → Lit → Bool
is_from low l = not (nat_lt l.net.0 low)

from_yes : (low : ℕ) (l : Lit) → low ≤ l.net.0 → is_from low l ≡ true
from_yes low l h = ap not (le-ltb l.net.0 low h)

from_no : (low : ℕ) (l : Lit) → l.net.0 < low → is_from low l ≡ false
from_no low l h = ap not (lt-ltb l.net.0 low h)

-- one of distinct literals isn't among those before it
fresh : (low : ℕ) (xs : List Lit) (i : ℕ) (x : Lit) → IsDistinct lit_eq xs → i < length xs → x ≡ get_or xs i x → list_any (lit_eq x) (from_net low (take i xs)) ≡ false
fresh low xs i x d within at_x =
    false_from_ne_true (list_any (lit_eq x) (from_net low (take i xs))) (λ t.
    let c = (Contains-from_filter (is_from low) (take i xs) x (found_in x (from_net low (take i xs)) t)).0 in
    let long : length (take i xs) ≡ i = length-take-le i xs (omega arith) in
    let before : c.0 < i = omega (arith, c.1, long) in
    AllPairs-from_IsDistinct lit_eq-Decides xs d c.0 i x before within (sym (get_or-take i xs c.0 x before) ∙ (c.2 ∙ at_x)))

pub noted_none : (place : ℕ) (f : Lit → List ℕ) → IsNoted [] place f f
noted_none place f = record { each = λ l. refl }

pub noted_more : (ys : List Lit) (x : Lit) (place : ℕ) (old mid new : Lit → List ℕ) → list_any (lit_eq x) ys ≡ false → IsNoted ys place old mid → IsNoted (x ∷ []) place mid new → IsNoted (ys ++ x ∷ []) place old new
noted_more ys x place old mid new apart a b = record {
  each = λ l.
      let any : list_any (lit_eq l) (ys ++ x ∷ []) ≡ (list_any (lit_eq l) ys || list_any (lit_eq l) (x ∷ [])) = list_any-append (lit_eq l) ys (x ∷ []) in
      elim (cases_Bool (lit_eq l x)) [
        | inl t ↦
            let same : l ≡ x = (lit_eq-Decides l x).0 t in
            let none : list_any (lit_eq l) ys ≡ false = subst (λ m. list_any (lit_eq m) ys ≡ false) (sym same) apart in
            rw (any, b.each l, a.each l, none, t) refl
        | inr f ↦ rw (any, b.each l, a.each l, f) (halves (list_any (lit_eq l) ys) (old l ++ place ∷ []) (old l))
      ];
}
  where
    halves : (t : Bool) (p q : List ℕ) → (if t then p else q) ≡ (if t || false then p else q)
    halves true p q = refl
    halves false p q = refl

-- the next literal is on a net from the low one on, and is noted
pub noted_from : (low : ℕ) (xs : List Lit) (i : ℕ) (x : Lit) (place : ℕ) (old mid new : Lit → List ℕ) → IsDistinct lit_eq xs → i < length xs → x ≡ get_or xs i x → low ≤ x.net.0
    → IsNoted (from_net low (take i xs)) place old mid → IsNoted (x ∷ []) place mid new → IsNoted (from_net low (take (i + 1) xs)) place old new
noted_from low xs i x place old mid new d within at_x high a b =
    let more : from_net low (take (i + 1) xs) ≡ from_net low (take i xs) ++ x ∷ [] = ap (from_net low) (take_more xs i x within at_x) ∙ filter_yes (is_from low) (take i xs) x (from_yes low x high) in
    subst (λ ls. IsNoted ls place old new) (sym more) (noted_more (from_net low (take i xs)) x place old mid new (fresh low xs i x d within at_x) a b)

-- it is on one before
pub noted_past : (low : ℕ) (xs : List Lit) (i : ℕ) (x : Lit) (place : ℕ) (old new : Lit → List ℕ) → i < length xs → x ≡ get_or xs i x → x.net.0 < low
    → IsNoted (from_net low (take i xs)) place old new → IsNoted (from_net low (take (i + 1) xs)) place old new
noted_past low xs i x place old new within at_x less a =
    let same : from_net low (take (i + 1) xs) ≡ from_net low (take i xs) = ap (from_net low) (take_more xs i x within at_x) ∙ filter_no (is_from low) (take i xs) x (from_no low x less) in
    subst (λ ls. IsNoted ls place old new) (sym same) a

-- ---- one cube after another

pub groups_none : (cubes : List (List Lit)) (low : ℕ) (f : Lit → List ℕ) → ((l : Lit) → f l ≡ []) → AreGroups cubes low [] f
groups_none cubes low f none = record { each = λ l h. none l; below = λ l h. none l }

pub groups_more : (cubes : List (List Lit)) (low : ℕ) (places : List ℕ) (i p : ℕ) (old new : Lit → List ℕ) → i < length places → p ≡ get_or places i p
    → AreGroups cubes low (take i places) old → IsNoted (from_net low (at cubes p)) p old new → AreGroups cubes low (take (i + 1) places) new
groups_more cubes low places i p old new within at_p a noted =
    let cube = at cubes p in
    let more = take_more places i p within at_p in
    record {
      each = λ l high.
          let has : ℕ → Bool = λ q. has_symbol (at cubes q) l in
          elim (cases_Bool (has_symbol cube l)) [
            | inl t ↦
                let any : list_any (lit_eq l) (from_net low cube) ≡ true = in_found l (from_net low cube) (Contains-filter (is_from low) cube l (from_yes low l high) (symbol_in cube l t)) in
                let is : new l ≡ old l ++ p ∷ [] = noted.each l ∙ cond-true (list_any (lit_eq l) (from_net low cube)) (old l ++ p ∷ []) (old l) any in
                is ∙ (ap (λ ps. ps ++ p ∷ []) (a.each l high) ∙ (sym (filter_yes has (take i places) p t) ∙ ap (filter has) (sym more)))
            | inr f ↦
                let any : list_any (lit_eq l) (from_net low cube) ≡ false =
                false_from_ne_true (list_any (lit_eq l) (from_net low cube)) (λ t.
                false≢true (sym f ∙ in_symbol cube l (Contains-from_filter (is_from low) cube l (found_in l (from_net low cube) t)).0)) in
                let is : new l ≡ old l = noted.each l ∙ cond-false (list_any (lit_eq l) (from_net low cube)) (old l ++ p ∷ []) (old l) any in
                is ∙ (a.each l high ∙ (sym (filter_no has (take i places) p f) ∙ ap (filter has) (sym more)))
          ];
      below = λ l less.
          let any : list_any (lit_eq l) (from_net low cube) ≡ false =
          false_from_ne_true (list_any (lit_eq l) (from_net low cube)) (λ t.
          false≢true (sym (from_no low l less) ∙ (Contains-from_filter (is_from low) cube l (found_in l (from_net low cube) t)).1)) in
          noted.each l ∙ (cond-false (list_any (lit_eq l) (from_net low cube)) (old l ++ p ∷ []) (old l) any ∙ a.below l less);
    }

-- the literals that were noted are those of the cube at the next place
pub groups_next : (cubes : List (List Lit)) (low : ℕ) (places : List ℕ) (i : ℕ) (cube literals : List Lit) (old new : Lit → List ℕ) → i < length places → get_or places i 0 < length cubes
    → cube ≡ get_or cubes (get_or places i 0) cube → literals ≡ cube → AreGroups cubes low (take i places) old → IsNoted (from_net low literals) (get_or places i 0) old new → AreGroups cubes low (take (i + 1) places) new
groups_next cubes low places i cube literals old new within there is same a noted =
    let p = get_or places i 0 in
    groups_more cubes low places i p old new within (own_item places i within) a
    (subst (λ ls. IsNoted (from_net low ls) p old new) (same ∙ at_item cubes p cube there is) noted)
