-- What the division of a cover saves is one number, and nothing where the divisor's symbols don't stand in it.
use Rattle.std.proofs.Common.{◌≡◌, ◌∙◌, ℕ, ◌+◌, ◌<◌, ◌≤◌, ◌⊎◌, Bool, true, false, List, [], ◌∷◌, length, map, take, get_or, filter, All, Contains, inl, inr, refl, sym, ap, subst, arith}
use Rattle.std.proofs.lemmas.Bool.{cases_Bool, false≢true, or_right, false_from_ne_true}
use Rattle.std.proofs.lemmas.List.Elements.{All-nil, All-contains, All-contains_itself, All-map, All-weaker}
use Rattle.std.proofs.lemmas.List.Sums.{sum_by_more}
use Rattle.std.specs.List.{list_any, IsDistinct}
use Rattle.std.specs.List.Sorted.{IsStrictlySortedBy}
use Rattle.mv_cover.specs.Literal.{Lit}
use Rattle.mv_cover.specs.Equal.{cube_eq}
use Rattle.mv_cover.specs.Keys.{cube_eq-Decides}
use Rattle.mv_cover.proofs.Absorbing.{any_at, find_any}
use Rattle.mv_kernels.specs.Symbols.{has_symbol}
use Rattle.mv_kernels.specs.Order.{cube_cmp, Ascend}
use Rattle.mv_kernels.proofs.Lists.{Contains-none}
use Rattle.mv_kernels.proofs.Orders.{cube_total, same_sorted}
use Rattle.mv_kernels.proofs.Quotients.{in_symbol, symbol_in}
use Rattle.mv_cover.specs.declared.line.Line.{Line}
use Rattle.mv_meets.proofs.Once.{sorted_once}
use Rattle.mv_divide.specs.declared.part.Part.{Part}
use Rattle.mv_divide.specs.declared.quotient.Quotient.{Quotient}
use Rattle.mv_divide.specs.Tables.{IsUndivided, parts_of}
use Rattle.mv_divide.specs.Division.{IsQuotientCube, IsQuotient, HasJoin}
use Rattle.mv_saving.specs.Saving.{literals, joined, AreCubes, IsSaving}
use Rattle.mv_saving.proofs.Counting.{literals_are}
use Rattle.mv_gains.specs.Tables.{IsPartsSaving, IsTablesGain, IsReady, IsDivisor, HasLiteral, literals_of}
use Rattle.mv_gains.proofs.Noting.{take_more}
use Rattle.mv_gains.proofs.Sums.{sum_push, sum_once, sum_zero}

-- ---- what ascends is there once

pub ascend_once : (cubes : List (List Lit)) → Ascend cubes → IsDistinct cube_eq cubes
ascend_once cubes up = sorted_once cube_cmp cube_eq cube_total cube_eq-Decides cubes up

-- ---- one number

pub one_quotient : (cover divisor p q : List (List Lit)) → IsQuotient cover divisor p → IsQuotient cover divisor q → p ≡ q
one_quotient cover divisor p q a b =
    same_sorted cube_cmp cube_total p q a.ascending b.ascending (All-weaker (IsQuotientCube cover divisor) (Contains q) b.all p a.each)
    (All-weaker (IsQuotientCube cover divisor) (Contains p) a.all q b.each)

pub saving_once : (cover divisor : List (List Lit)) (n m : ℕ) → AreCubes cover → AreCubes divisor → IsSaving cover divisor n → IsSaving cover divisor m → n ≡ m
saving_once cover divisor n m c d a b =
    let same = one_quotient cover divisor a.quotient b.quotient a.is b.is in
    let now = literals_are cover divisor a.quotient a.rest c d a.is a.are in
    let then : literals cover ≡ literals b.rest + joined divisor a.quotient =
    literals_are cover divisor b.quotient b.rest c d b.is b.are ∙ (λ i. literals b.rest + joined divisor (sym same i)) in
    let more : literals b.quotient + length b.quotient ≡ literals a.quotient + length a.quotient = λ i. literals (sym same i) + length (sym same i) in
    omega (arith, now, then, more, a.less, b.less)

pub parts_once : (divisor : List (List Lit)) (parts : List Part) (n m : ℕ) → All (λ (p : Part). AreCubes p.cover) parts → AreCubes divisor → IsPartsSaving divisor parts n → IsPartsSaving divisor parts m → n ≡ m
parts_once divisor parts n m r d =
    sum_once (λ (p : Part) (s : ℕ). IsSaving p.cover divisor s) parts n m
    (λ p a b i. saving_once p.cover divisor a b (All-contains (λ (q : Part). AreCubes q.cover) parts p r i) d)

pub ready_cubes : (parts : List Part) → IsReady parts → All (λ (p : Part). AreCubes p.cover) parts
ready_cubes parts r k d low = record { formed = r.formed k d low; distinct = r.distinct k d low }

pub gain_once : (divisor : List (List Lit)) (tables : List (List Part)) (n m : ℕ) → All IsReady tables → IsDivisor divisor → IsTablesGain tables divisor n → IsTablesGain tables divisor m → n ≡ m
gain_once divisor tables n m r d = sum_once (IsPartsSaving divisor) tables n m (λ parts a b i. parts_once divisor parts a b (ready_cubes parts (All-contains IsReady tables parts r i)) (record { formed = d.formed; distinct = d.distinct }))

-- ---- the covers of a table in turn

pub record SavingMore (divisor : List (List Lit)) (parts : List Part) (total : ℕ) : Type 0 where
  pub sum : IsPartsSaving divisor parts total
  pub few : total ≤ literals_of parts

pub saving_more : (divisor : List (List Lit)) (parts : List Part) (i : ℕ) (part : Part) (total saved : ℕ) → i < length parts → part ≡ get_or parts i part → IsPartsSaving divisor (take i parts) total → total ≤ literals_of (take i parts) → IsSaving part.cover divisor saved → SavingMore divisor (take (i + 1) parts) (total + saved)
saving_more divisor parts i part total saved low at sum few is =
    let size : Part → ℕ = λ p. literals p.cover in
    let more = sum_by_more size parts i part low in
    let here : literals part.cover ≡ literals (get_or parts i part).cover = ap size at in
    record {
      sum =
          subst (λ (ps : List Part). IsPartsSaving divisor ps (total + saved)) (sym (take_more parts i part low at))
          (sum_push (λ (p : Part) (s : ℕ). IsSaving p.cover divisor s) (take i parts) part total saved sum is);
      few = omega (arith, few, more, here, is.less);
    }

-- ---- nothing

-- some cube of the cover has the literal
abbrev cover_has : Lit → Part → Bool
cover_has l p = list_any (λ (c : List Lit). has_symbol c l) p.cover

pub all_stay : (xs : List (List Lit)) → xs ≡ filter (λ (_ : List Lit). true) xs
all_stay [] = refl
all_stay (x ∷ xs) = ap (λ (ys : List (List Lit)). x ∷ ys) (all_stay xs)

-- a divisor with that literal has the empty quotient
no_quotient : (divisor : List (List Lit)) (first : List Lit) (l : Lit) (p : Part) → Contains divisor first → Contains first l → cover_has l p ≡ false → IsQuotient p.cover divisor []
unfolding IsStrictlySortedBy
no_quotient divisor first l p i j none = record {
  ascending = tt;
  each = All-nil (IsQuotientCube p.cover divisor);
  all = λ s h.
      let w = All-contains (HasJoin p.cover s) divisor first h.joins i in
      let has : has_symbol w.cube l ≡ true = w.join.each l ∙ or_right (has_symbol s l) (has_symbol first l) (in_symbol first l j) in
      absurd (false≢true (sym none ∙ any_at (λ (c : List Lit). has_symbol c l) p.cover w.cube w.held has));
}

nothing_saved : (divisor : List (List Lit)) (first : List Lit) (l : Lit) (p : Part) → Contains divisor first → Contains first l → cover_has l p ≡ false → IsSaving p.cover divisor 0
nothing_saved divisor first l p i j none = record {
  quotient = [];
  is = no_quotient divisor first l p i j none;
  rest = p.cover;
  are = record {
    stays = λ _. true;
    kept = λ k h t q. Contains-none q.left q.left_in;
    gone = λ k h f. absurd (false≢true (sym f));
    is = all_stay p.cover;
  };
  less = omega arith;
}

-- a table of whose covers none has the divisor's first literal saves nothing
pub table_cases : (divisor : List (List Lit)) (first : List Lit) (l : Lit) (parts : List Part) → Contains divisor first → Contains first l → HasLiteral l parts ⊎ IsPartsSaving divisor parts 0
table_cases divisor first l parts i j =
    elim (cases_Bool (list_any (cover_has l) parts)) [
      | inl t ↦
          let p = find_any (cover_has l) parts t in
          let c = find_any (λ (q : List Lit). has_symbol q l) p.x.cover p.pass in
          inl (record { part = p.x; there = p.there; cube = c.x; held = c.there; has = symbol_in c.x l c.pass })
      | inr f ↦
          inr
          (sum_zero (λ (p : Part) (s : ℕ). IsSaving p.cover divisor s) parts (λ p h.
          nothing_saved divisor first l p i j (false_from_ne_true (cover_has l p) (λ t. false≢true (sym f ∙ any_at (cover_has l) parts p h t)))))
    ]

abbrev no : Part → Quotient
no p = record { out = p.out; cubes = [] }

-- and has no quotient, so that it isn't divided
pub undivided_at : (lines : List Line) (divisor : List (List Lit)) (first : List Lit) (l : Lit) → Contains divisor first → Contains first l → (HasLiteral l (parts_of lines) → ⊥) → IsUndivided lines divisor
undivided_at lines divisor first l i j none = record {
  quotients = map no (parts_of lines);
  are = record {
    outs = outs_same (parts_of lines);
    each =
        All-map (λ (q : Quotient). (p : Part) × Contains (parts_of lines) p × (p.out ≡ q.out) × IsQuotient p.cover divisor q.cubes) no (parts_of lines)
        (All-weaker (Contains (parts_of lines)) (λ (x : Part). (p : Part) × Contains (parts_of lines) p × (p.out ≡ x.out) × IsQuotient p.cover divisor [])
        (λ p there. (p, there, refl, no_quotient divisor first l p i j (off p there))) (parts_of lines) (All-contains_itself (parts_of lines)));
  };
  none = All-map (λ (q : Quotient). q.cubes ≡ []) no (parts_of lines) (λ k d low. refl);
}
  where
    outs_same : (parts : List Part) → map (λ (q : Quotient). q.out) (map no parts) ≡ map (λ (p : Part). p.out) parts
    outs_same [] = refl
    outs_same (p ∷ ps) = ap (λ (os : List ℕ). p.out ∷ os) (outs_same ps)

    off : (p : Part) → Contains (parts_of lines) p → cover_has l p ≡ false
    off p there =
        false_from_ne_true (cover_has l p) (λ t.
        let c = find_any (λ (q : List Lit). has_symbol q l) p.cover t in
        none (record { part = p; there = there; cube = c.x; held = c.there; has = symbol_in c.x l c.pass }))
