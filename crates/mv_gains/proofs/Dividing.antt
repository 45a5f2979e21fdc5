-- A divided table has fewer literals by what its division saves.
use Rattle.std.proofs.Common.{◌≡◌, ◌∙◌, ℕ, ◌+◌, ◌-◌, ◌<◌, Bool, true, cond, nat_eq, List, [], ◌∷◌, ◌++◌, length, map, filter, All, Contains, refl, sym, ap, subst, arith}
use Rattle.std.proofs.lemmas.Bool.{false≢true, eqb-true}
use Rattle.std.proofs.lemmas.List.{length-append}
use Rattle.std.proofs.lemmas.List.Elements.{All-contains, All-weaker, All-contains_itself}
use Rattle.std.proofs.lemmas.List.Sums.{sum_by-cons}
use Rattle.std.specs.List.{sum_by, flat_map, IsDistinct}
use Rattle.mv_base.specs.Set.{one}
use Rattle.mv_base.specs.declared.number.NetId.{NetId}
use Rattle.mv_cover.specs.Literal.{Lit}
use Rattle.mv_cover.specs.Cubes.{IsCube}
use Rattle.mv_cover.specs.Covers.{literal_count}
use Rattle.mv_cover.specs.Equal.{cube_eq}
use Rattle.mv_cover.specs.Keys.{same_line}
use Rattle.mv_cover.specs.Lines.{lines_differ}
use Rattle.mv_cover.specs.declared.line.Line.{Line}
use Rattle.mv_kernels.proofs.Lists.{Contains-none, Contains-first, Contains-behind, Contains-map, Contains-from_map, Contains-from_filter}
use Rattle.mv_divide.specs.declared.part.Part.{Part}
use Rattle.mv_divide.specs.declared.quotient.Quotient.{Quotient}
use Rattle.mv_divide.specs.Division.{IsQuotient, IsProduct}
use Rattle.mv_divide.specs.Tables.{outputs, cover_of, parts_of, AreQuotients, AreDivided, IsDivided, IsUndivided, lines_for, with_one}
use Rattle.mv_saving.specs.Saving.{literals, joined, AreCubes, IsRest, IsSaving}
use Rattle.mv_saving.proofs.Covers.{covers_once}
use Rattle.mv_saving.proofs.Counting.{literals_are, joined_enough}
use Rattle.mv_saving.proofs.Sums.{sum_filter-cons, sum_agree}
use Rattle.mv_gains.specs.Gains.{IsSum, IsTableSaving, LeavesLess}
use Rattle.mv_gains.proofs.Parts.{by_outputs, outputs_once, output_in, count_is, formed_parts, parts_literals, sum_map}
use Rattle.mv_gains.proofs.Savings.{one_quotient, parts_once, all_stay}
use Rattle.mv_gains.proofs.Sums.{sum_more, sum_to_map, sum_zero}

-- what a filter leaves, summed
sum_filter : {X : Type 0} (f : X → ℕ) (p : X → Bool) (xs : List X) → sum_by f (filter p xs) ≡ sum_by (λ x. cond (p x) (f x) 0) xs
sum_filter f p [] = refl
sum_filter f p (x ∷ xs) =
    let rest = sum_filter f p xs in
    let here = sum_filter-cons f p x xs in
    let there = sum_by-cons (λ y. cond (p y) (f y) 0) x xs in
    omega (arith, rest, here, there)

-- ---- one output set

module _ (lines : List Line) (stays : Line → Bool) where
  abbrev line_of : ℕ → List Lit → Line
  line_of out k = record { cube = k; out = out }

  abbrev rest_of : ℕ → List (List Lit)
  rest_of out = filter (λ (k : List Lit). stays (line_of out k)) (cover_of lines out)

  abbrev size : Line → ℕ
  size l = cond (stays l) (length l.cube) 0

-- a cube of a cover is that of a line with the output set
cube_line : (lines : List Line) (out : ℕ) (k : List Lit) → Contains (cover_of lines out) k → Contains lines (record { cube = k; out = out })
cube_line lines out k i =
    let m = Contains-from_map (λ (l : Line). l.cube) (filter (λ (l : Line). nat_eq l.out out) lines) k i in
    let f = Contains-from_filter (λ (l : Line). nat_eq l.out out) lines m.0 m.1 in
    let same : m.0 ≡ record { cube = k; out = out } = same_line m.0 (record { cube = k; out = out }) (sym m.2) (eqb-true m.0.out out f.1) in
    subst (λ (l : Line). Contains lines l) same f.0

-- the literals of the lines with the output set that stay
rest_sum : (lines : List Line) (stays : Line → Bool) (out : ℕ) → literals (rest_of lines stays out) ≡ sum_by (size lines stays) (filter (λ (l : Line). nat_eq l.out out) lines)
rest_sum lines stays out =
    let these = filter (λ (l : Line). nat_eq l.out out) lines in
    let long : List Lit → ℕ = λ k. length k in
    let part : List Lit → ℕ = λ k. cond (stays (record { cube = k; out = out })) (length k) 0 in
    sum_filter long (λ (k : List Lit). stays (record { cube = k; out = out })) (cover_of lines out) ∙
    (sum_map part (λ (l : Line). l.cube) these ∙
    sum_agree (λ (l : Line). part l.cube) (size lines stays) these
    (λ l i.
    let f = Contains-from_filter (λ (x : Line). nat_eq x.out out) lines l i in
    let same : record { cube = l.cube; out = out } ≡ l = same_line (record { cube = l.cube; out = out }) l refl (sym (eqb-true l.out out f.1)) in
    ap (λ (x : Line). cond (stays x) (length l.cube) 0) same))

-- the literals of all lines that stay
rests_sum : (lines : List Line) (stays : Line → Bool) → sum_by (λ (out : ℕ). literals (rest_of lines stays out)) (outputs lines) ≡ literal_count (filter stays lines)
rests_sum lines stays =
    sum_agree (λ (out : ℕ). literals (rest_of lines stays out)) (λ (out : ℕ). sum_by (size lines stays) (filter (λ (l : Line). nat_eq l.out out) lines)) (outputs lines) (λ out i. rest_sum lines stays out) ∙
    (by_outputs (size lines stays) (outputs lines) lines (outputs_once lines) (output_in lines) ∙
    (sym (sum_filter (λ (l : Line). length l.cube) stays lines) ∙ sym (count_is (filter stays lines))))

-- ---- the lines for the quotients

abbrev own : Quotient → ℕ
own q = literals q.cubes + length q.cubes

ones_sum : (n : NetId) (out : ℕ) (cubes : List (List Lit)) → literal_count (map (λ (s : List Lit). record { cube = with_one n s; out = out }) cubes) ≡ literals cubes + length cubes
ones_sum n out [] = refl
ones_sum n out (c ∷ cs) =
    let rest = ones_sum n out cs in
    let first = sum_by-cons (λ (k : List Lit). length k) c cs in
    let more : length (with_one n c) ≡ length c + 1 = length-append c (record { net = n; set = one 1 } ∷ []) in
    omega (arith, rest, first, more)

count-append : (xs ys : List Line) → literal_count (xs ++ ys) ≡ literal_count xs + literal_count ys
count-append [] ys = omega arith
count-append (x ∷ xs) ys = let rest = count-append xs ys in omega (arith, rest)

lines_sum : (n : NetId) (quotients : List Quotient) → literal_count (flat_map (lines_for n) quotients) ≡ sum_by own quotients
lines_sum n [] = refl
lines_sum n (q ∷ qs) =
    let rest = lines_sum n qs in
    let here = ones_sum n q.out q.cubes in
    let both = count-append (lines_for n q) (flat_map (lines_for n) qs) in
    let first = sum_by-cons own q qs in
    omega (arith, rest, here, both, first)

-- ---- the covers in turn

record Divides (lines : List Line) (stays : Line → Bool) (divisor : List (List Lit)) (q : Quotient) : Type 0 where
  is : IsQuotient (cover_of lines q.out) divisor q.cubes
  rest : IsRest (cover_of lines q.out) divisor q.cubes (rest_of lines stays q.out)

record Saved (lines : List Line) (stays : Line → Bool) (divisor : List (List Lit)) (outs : List ℕ) (quotients : List Quotient) : Type 0 where
  total : ℕ
  sum : IsSum (λ (out : ℕ) (s : ℕ). IsSaving (cover_of lines out) divisor s) outs total
  less : sum_by (λ (out : ℕ). literals (cover_of lines out)) outs ≡ sum_by (λ (out : ℕ). literals (rest_of lines stays out)) outs + sum_by own quotients + total

saved_by : (lines : List Line) (stays : Line → Bool) (divisor : List (List Lit)) (quotients : List Quotient) → ((out : ℕ) → AreCubes (cover_of lines out)) → AreCubes divisor → 0 < literals divisor → ((q : Quotient) → Contains quotients q → Divides lines stays divisor q) → Saved lines stays divisor (map (λ (q : Quotient). q.out) quotients) quotients
saved_by lines stays divisor [] cubes terms some h = record { total = 0; sum = refl; less = refl }
saved_by lines stays divisor (q ∷ qs) cubes terms some h =
    let more = saved_by lines stays divisor qs cubes terms some (λ x i. h x (Contains-behind x q qs i)) in
    let d = h q (Contains-first q qs) in
    let cover = cover_of lines q.out in
    let now = literals_are cover divisor q.cubes (rest_of lines stays q.out) (cubes q.out) terms d.is d.rest in
    let enough = joined_enough divisor q.cubes some in
    let saved : ℕ = joined divisor q.cubes - (literals q.cubes + length q.cubes) in
    let outs = map (λ (x : Quotient). x.out) qs in
    let first = sum_by-cons (λ (out : ℕ). literals (cover_of lines out)) q.out outs in
    let left = sum_by-cons (λ (out : ℕ). literals (rest_of lines stays out)) q.out outs in
    let ones = sum_by-cons own q qs in
    record {
      total = saved + more.total;
      sum =
          sum_more (λ (out : ℕ) (s : ℕ). IsSaving (cover_of lines out) divisor s) q.out outs saved more.total
          (record { quotient = q.cubes; is = d.is; rest = rest_of lines stays q.out; are = d.rest; less = omega (arith, now, enough) }) more.sum;
      less = omega (arith, now, enough, first, left, ones, more.less);
    }

-- a quotient of one of the covers is that of the cover of its output set
quotient_of : (lines : List Line) (divisor : List (List Lit)) (quotients : List Quotient) → AreQuotients (parts_of lines) divisor quotients → (q : Quotient) → Contains quotients q → IsQuotient (cover_of lines q.out) divisor q.cubes
quotient_of lines divisor quotients are q i =
    let h = All-contains (λ (x : Quotient). (p : Part) × Contains (parts_of lines) p × (p.out ≡ x.out) × IsQuotient p.cover divisor x.cubes) quotients q are.each i in
    let m = Contains-from_map (λ (out : ℕ). record { out = out; cover = cover_of lines out }) (outputs lines) h.0 h.1 in
    let out : m.0 ≡ q.out = sym (ap (λ (p : Part). p.out) m.2) ∙ h.2 in
    subst (λ (o : ℕ). IsQuotient (cover_of lines o) divisor q.cubes) out (subst (λ (p : Part). IsQuotient p.cover divisor q.cubes) m.2 h.3)

outs_are : (lines : List Line) → map (λ (p : Part). p.out) (parts_of lines) ≡ outputs lines
outs_are lines = same (outputs lines)
  where
    same : (outs : List ℕ) → map (λ (p : Part). p.out) (map (λ (out : ℕ). record { out = out; cover = cover_of lines out }) outs) ≡ outs
    same [] = refl
    same (o ∷ os) = ap (λ (xs : List ℕ). o ∷ xs) (same os)

module _ (lines new : List Line) (divisor : List (List Lit)) (n : NetId) (quotients : List Quotient) (are : AreQuotients (parts_of lines) divisor quotients) (table : AreDivided lines divisor n quotients new) where
  divides : (q : Quotient) → Contains quotients q → Divides lines table.stays divisor q
  divides q i =
      let is = quotient_of lines divisor quotients are q i in
      record {
        is = is;
        rest = record {
          stays = λ k. table.stays (record { cube = k; out = q.out });
          kept = λ k j t p.
              table.kept (record { cube = k; out = q.out }) (cube_line lines q.out k j) t
              (record { quotient = q; there = i; out = refl; product = p });
          gone = λ k j f.
              let g = table.gone (record { cube = k; out = q.out }) (cube_line lines q.out k j) f in
              let other : IsQuotient (cover_of lines q.out) divisor g.quotient.cubes =
              subst (λ (o : ℕ). IsQuotient (cover_of lines o) divisor g.quotient.cubes) g.out (quotient_of lines divisor quotients are g.quotient g.there) in
              subst (λ (cs : List (List Lit)). IsProduct cs divisor k) (one_quotient (cover_of lines q.out) divisor g.quotient.cubes q.cubes other is) g.product;
          is = refl;
        };
      }

cover_cubes : (lines : List Line) → lines_differ lines ≡ true → All (λ (l : Line). IsCube l.cube) lines → All (λ (p : Part). AreCubes p.cover) (parts_of lines)
cover_cubes lines differ formed =
    All-weaker (Contains (parts_of lines)) (λ (p : Part). AreCubes p.cover)
    (λ p i. record {
      formed = formed_parts lines formed p i;
      distinct = All-contains (λ (x : Part). IsDistinct cube_eq x.cover) (parts_of lines) p (covers_once lines differ) i;
    }) (parts_of lines) (All-contains_itself (parts_of lines))

-- a cover of any output set has each of its cubes once
cover_distinct : (lines : List Line) (out : ℕ) → lines_differ lines ≡ true → IsDistinct cube_eq (cover_of lines out)
unfolding IsDistinct
cover_distinct lines out differ = at (cover_of lines out) refl
  where
    at : (cover : List (List Lit)) → cover_of lines out ≡ cover → IsDistinct cube_eq (cover_of lines out)
    at [] e = subst (IsDistinct cube_eq) (sym e) tt
    at (k ∷ ks) e =
        let there : Contains (cover_of lines out) k = subst (λ (cs : List (List Lit)). Contains cs k) (sym e) (Contains-first k ks) in
        let listed = output_in lines (record { cube = k; out = out }) (cube_line lines out k there) in
        All-contains (λ (p : Part). IsDistinct cube_eq p.cover) (parts_of lines) (record { out = out; cover = cover_of lines out }) (covers_once lines differ)
        (Contains-map (λ (o : ℕ). record { out = o; cover = cover_of lines o }) (outputs lines) out listed)

each_cover : (lines : List Line) → lines_differ lines ≡ true → All (λ (l : Line). IsCube l.cube) lines → (out : ℕ) → AreCubes (cover_of lines out)
each_cover lines differ formed out = record {
  formed =
      All-weaker (Contains (cover_of lines out)) IsCube
      (λ k i. All-contains (λ (l : Line). IsCube l.cube) lines (record { cube = k; out = out }) formed (cube_line lines out k i)) (cover_of lines out) (All-contains_itself (cover_of lines out));
  distinct = cover_distinct lines out differ;
}

pub leaves_less : (lines new : List Line) (divisor : List (List Lit)) (n : NetId) → lines_differ lines ≡ true → All (λ (l : Line). IsCube l.cube) lines → AreCubes divisor → 0 < literals divisor → IsDivided lines divisor n new → LeavesLess lines divisor new
leaves_less lines new divisor n differ formed terms some d =
    let stays = d.table.stays in
    let s0 = saved_by lines stays divisor d.quotients (each_cover lines differ formed) terms some (divides lines new divisor n d.quotients d.are d.table) in
    let s : Saved lines stays divisor (outputs lines) d.quotients = subst (λ (outs : List ℕ). Saved lines stays divisor outs d.quotients) (d.are.outs ∙ outs_are lines) s0 in
    let part : ℕ → Part = λ out. record { out = out; cover = cover_of lines out } in
    let now : sum_by (λ (out : ℕ). literals (cover_of lines out)) (outputs lines) ≡ literal_count lines =
    sym (sum_map (λ (p : Part). literals p.cover) part (outputs lines)) ∙ parts_literals lines in
    let left = rests_sum lines stays in
    let ones = lines_sum n d.quotients in
    let after : literal_count new ≡ literal_count (filter stays lines) + literal_count (flat_map (lines_for n) d.quotients) =
    ap literal_count d.table.are ∙ count-append (filter stays lines) (flat_map (lines_for n) d.quotients) in
    record {
      saved = s.total;
      is = record { sum = sum_to_map part (λ (p : Part) (m : ℕ). IsSaving p.cover divisor m) (outputs lines) s.total s.sum };
      less = omega (arith, s.less, now, left, ones, after);
    }

-- ---- a table that isn't divided

empty_saves : (cover divisor : List (List Lit)) → IsQuotient cover divisor [] → IsSaving cover divisor 0
empty_saves cover divisor is = record {
  quotient = [];
  is = is;
  rest = cover;
  are = record {
    stays = λ _. true;
    kept = λ k h t q. Contains-none q.left q.left_in;
    gone = λ k h f. absurd (false≢true (sym f));
    is = all_stay cover;
  };
  less = omega arith;
}

pub undivided_saves : (lines : List Line) (divisor : List (List Lit)) → IsUndivided lines divisor → IsTableSaving lines divisor 0
undivided_saves lines divisor u = record {
  sum =
      sum_zero (λ (p : Part) (s : ℕ). IsSaving p.cover divisor s) (parts_of lines) (λ p i.
      let m = Contains-from_map (λ (out : ℕ). record { out = out; cover = cover_of lines out }) (outputs lines) p i in
      let listed : Contains (map (λ (q : Quotient). q.out) u.quotients) m.0 = subst (λ (outs : List ℕ). Contains outs m.0) (sym (u.are.outs ∙ outs_are lines)) m.1 in
      let q = Contains-from_map (λ (x : Quotient). x.out) u.quotients m.0 listed in
      let is = quotient_of lines divisor u.quotients u.are q.0 q.1 in
      let none : q.0.cubes ≡ [] = All-contains (λ (x : Quotient). x.cubes ≡ []) u.quotients q.0 u.none q.1 in
      let empty : IsQuotient (cover_of lines m.0) divisor [] =
      subst (λ (cs : List (List Lit)). IsQuotient (cover_of lines m.0) divisor cs) none (subst (λ (o : ℕ). IsQuotient (cover_of lines o) divisor q.0.cubes) (sym q.2) is) in
      subst (λ (x : Part). IsSaving x.cover divisor 0) (sym m.2) (empty_saves (cover_of lines m.0) divisor empty));
}

pub table_once : (lines : List Line) (divisor : List (List Lit)) (a b : ℕ) → lines_differ lines ≡ true → All (λ (l : Line). IsCube l.cube) lines → AreCubes divisor → IsTableSaving lines divisor a → IsTableSaving lines divisor b → a ≡ b
table_once lines divisor a b differ formed terms s t = parts_once divisor (parts_of lines) a b (cover_cubes lines differ formed) terms s.sum t.sum
