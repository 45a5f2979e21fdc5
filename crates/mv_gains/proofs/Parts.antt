-- The covers of a table: where their cubes come from, and sums over them.
use Rattle.std.proofs.Common.{◌≡◌, ◌∙◌, ℕ, ◌+◌, ◌≤◌, ◌^◌, true, cond, List, [], ◌∷◌, length, map, filter, All, Contains, nat_eq, inl, inr, refl, sym, ap, subst, arith}
use Rattle.std.proofs.lemmas.Bool.{cases_Bool, eqb-true, eq-eqb}
use Rattle.std.proofs.lemmas.List.Elements.{All-weaker, All-contains, All-contains_itself}
use Rattle.std.proofs.lemmas.List.Sums.{sum_by-cons}
use Rattle.std.proofs.lemmas.Map.Keys.{IsDistinct-push}
use Rattle.std.specs.Cmp.{unsigned_Decides, IsEquivalence, decided}
use Rattle.std.specs.List.{sum_by, list_any, IsDistinct}
use Rattle.indexmap.specs.IndexSet.{insert_key, insert_all}
use Rattle.mv_cover.specs.Literal.{Lit}
use Rattle.mv_cover.specs.Cubes.{IsCube}
use Rattle.mv_cover.specs.Covers.{literal_count}
use Rattle.mv_cover.specs.Lines.{lines_differ}
use Rattle.mv_cover.specs.declared.line.Line.{Line}
use Rattle.mv_kernels.proofs.Lists.{Contains-first, Contains-behind, Contains-map, Contains-from_map, Contains-from_filter, insert_all-has}
use Rattle.mv_divide.specs.declared.part.Part.{Part}
use Rattle.mv_divide.specs.Tables.{outputs, cover_of, parts_of}
use Rattle.mv_saving.proofs.Sums.{sum_filter-cons, sum_both, sum_agree, sum_zero, one_passes}
use Rattle.mv_saving.proofs.Covers.{covers_once}
use Rattle.mv_gains.specs.Tables.{literals_of, IsReady}

-- ---- where a cube comes from

pub record FromLine (lines : List Line) (part : Part) (cube : List Lit) : Type 0 where
  pub line : Line
  pub there : Contains lines line
  pub is : cube ≡ line.cube
  pub out : line.out ≡ part.out

pub line_of : (lines : List Line) (part : Part) (cube : List Lit) → Contains (parts_of lines) part → Contains part.cover cube → FromLine lines part cube
line_of lines part cube there held =
    let m = Contains-from_map (λ (out : ℕ). record { out = out; cover = cover_of lines out }) (outputs lines) part there in
    let in_cover : Contains (cover_of lines m.0) cube = subst (λ (p : Part). Contains p.cover cube) m.2 held in
    let n = Contains-from_map (λ (x : Line). x.cube) (filter (λ (x : Line). nat_eq x.out m.0) lines) cube in_cover in
    let f = Contains-from_filter (λ (x : Line). nat_eq x.out m.0) lines n.0 n.1 in
    record { line = n.0; there = f.0; is = n.2; out = eqb-true n.0.out m.0 f.1 ∙ sym (ap (λ (p : Part). p.out) m.2) }

pub formed_parts : (lines : List Line) → All (λ (l : Line). IsCube l.cube) lines → (part : Part) → Contains (parts_of lines) part → All IsCube part.cover
formed_parts lines formed part there =
    All-weaker (Contains part.cover) IsCube
    (λ c i.
    let f = line_of lines part c there i in
    subst IsCube (sym f.is) (All-contains (λ (l : Line). IsCube l.cube) lines f.line formed f.there)) part.cover (All-contains_itself part.cover)

-- ---- the output sets, each once

nat_eq-equiv : IsEquivalence nat_eq
nat_eq-equiv = decided nat_eq unsigned_Decides

insert_all-distinct : (ks xs : List ℕ) → IsDistinct nat_eq ks → IsDistinct nat_eq (insert_all nat_eq ks xs)
insert_all-distinct ks [] d = d
insert_all-distinct ks (x ∷ xs) d =
    insert_all-distinct (insert_key nat_eq ks x) xs
    (elim (cases_Bool (list_any (nat_eq x) ks)) [
      | inl t ↦ rw t d
      | inr f ↦ rw f (IsDistinct-push nat_eq-equiv ks x d f)
    ])

pub outputs_once : (lines : List Line) → IsDistinct nat_eq (outputs lines)
unfolding IsDistinct
outputs_once lines = insert_all-distinct [] (map (λ (l : Line). l.out) lines) tt

pub output_in : (lines : List Line) (l : Line) → Contains lines l → Contains (outputs lines) l.out
output_in lines l i =
    All-contains (Contains (outputs lines)) (map (λ (x : Line). x.out) lines) l.out
    (insert_all-has nat_eq (λ a b h. eqb-true a b h) [] (map (λ (x : Line). x.out) lines)) (Contains-map (λ (x : Line). x.out) lines l i)

-- ---- sums by output sets

-- a sum over lines is the sum over the output sets of those over the lines with each
pub by_outputs : (g : Line → ℕ) (outs : List ℕ) (lines : List Line) → IsDistinct nat_eq outs → ((l : Line) → Contains lines l → Contains outs l.out) → sum_by (λ (out : ℕ). sum_by g (filter (λ (l : Line). nat_eq l.out out) lines)) outs ≡ sum_by g lines
by_outputs g outs [] d h = sum_zero outs
by_outputs g outs (l ∷ ls) d h =
    let here : ℕ → ℕ = λ out. cond (nat_eq l.out out) (g l) 0 in
    let others : ℕ → ℕ = λ out. sum_by g (filter (λ (x : Line). nat_eq x.out out) ls) in
    let once : sum_by here outs ≡ g l =
    one_passes nat_eq unsigned_Decides (λ out. nat_eq l.out out) (g l) outs l.out d (h l (Contains-first l ls)) (eq-eqb l.out l.out refl) (λ out i t. eqb-true l.out out t) in
    let rest = by_outputs g outs ls d (λ x i. h x (Contains-behind x l ls i)) in
    (λ i. sum_by (λ out. sum_filter-cons g (λ (x : Line). nat_eq x.out out) l ls i) outs) ∙
    (sum_both here others outs ∙ ((λ i. once i + rest i) ∙ sym (sum_by-cons g l ls)))

pub sum_map : {X Y : Type 0} (f : Y → ℕ) (g : X → Y) (xs : List X) → sum_by f (map g xs) ≡ sum_by (λ x. f (g x)) xs
sum_map f g [] = refl
sum_map f g (x ∷ xs) =
    let rest = sum_map f g xs in
    rw (sum_by-cons f (g x) (map g xs), sum_by-cons (λ y. f (g y)) x xs) (omega (arith, rest))

-- a sum over the covers of a number for each cube is the sum over the lines
pub by_parts : (f : List Lit → ℕ) (lines : List Line) → sum_by (λ (p : Part). sum_by f p.cover) (parts_of lines) ≡ sum_by (λ (l : Line). f l.cube) lines
by_parts f lines =
    let g : Line → ℕ = λ l. f l.cube in
    sum_map (λ (p : Part). sum_by f p.cover) (λ (out : ℕ). record { out = out; cover = cover_of lines out }) (outputs lines) ∙
    (sum_agree (λ out. sum_by f (cover_of lines out)) (λ out. sum_by g (filter (λ (l : Line). nat_eq l.out out) lines)) (outputs lines)
    (λ out i. sum_map f (λ (l : Line). l.cube) (filter (λ (l : Line). nat_eq l.out out) lines)) ∙
    by_outputs g (outputs lines) lines (outputs_once lines) (output_in lines))

pub count_is : (lines : List Line) → literal_count lines ≡ sum_by (λ (l : Line). length l.cube) lines
count_is [] = refl
count_is (l ∷ ls) =
    let rest = count_is ls in
    rw (sum_by-cons (λ (x : Line). length x.cube) l ls) (omega (arith, rest))

pub parts_literals : (lines : List Line) → literals_of (parts_of lines) ≡ literal_count lines
parts_literals lines = by_parts (λ (c : List Lit). length c) lines ∙ sym (count_is lines)

pub ready_parts : (lines : List Line) → lines_differ lines ≡ true → All (λ (l : Line). IsCube l.cube) lines → literal_count lines ≤ 2 ^ 96 → IsReady (parts_of lines)
ready_parts lines differ formed few = record {
  distinct = covers_once lines differ;
  formed =
      All-weaker (Contains (parts_of lines)) (λ (p : Part). All IsCube p.cover) (formed_parts lines formed) (parts_of lines) (All-contains_itself (parts_of lines));
  few = omega (arith, parts_literals lines, few);
}
