-- The divided lines, and those of a divisor, are a table over the nets.
use Rattle.std.proofs.Common.{◌≡◌, ◌∙◌, ℕ, ◌+◌, ◌<◌, true, false, nat_eq, List, [], ◌∷◌, map, filter, length, Option, Some, None, All, Contains, inl, inr, refl, sym, ap, subst, arith, get_or, Less}
use Rattle.std.specs.Cmp.{decided, unsigned_Decides}
use Rattle.std.specs.List.{flat_map, IsDistinct}
use Rattle.std.specs.List.Sorted.{IsStrictlySortedBy}
use Rattle.std.proofs.lemmas.Bool.{false≢true, eqb-true, eq-eqb, lt-ltb}
use Rattle.std.proofs.lemmas.List.{length-append}
use Rattle.std.proofs.lemmas.List.Elements.{All-contains, All-append, All-cons, All-nil, Contains-get_or, All-from_recursion}
use Rattle.std.proofs.lemmas.Map.Keys.{IsDistinct-head, IsDistinct-tail}
use Rattle.std.proofs.lemmas.Map.Views.{All-after_first}
use Rattle.std.proofs.lemmas.Option.{same_Some, none-some}
use Rattle.mv_base.specs.Set.{has, one, empty, full}
use Rattle.mv_base.proofs.Sets.{has-full, has-one}
use Rattle.mv_base.specs.declared.number.NetId.{NetId}
use Rattle.mv_cover.specs.Literal.{Lit}
use Rattle.mv_cover.specs.Absorb.{some_bare}
use Rattle.mv_cover.specs.Cubes.{IsCube}
use Rattle.mv_cover.specs.Lines.{IsOutput, lines_differ}
use Rattle.mv_cover.specs.declared.line.Line.{Line}
use Rattle.mv_cover.specs.declared.cover.Cover.{Cover}
use Rattle.mv_cover.specs.Cofactors.{cube_without}
use Rattle.mv_cover.specs.Meets.{literal_at}
use Rattle.mv_cover.proofs.Absorbing.{any_at, find_any}
use Rattle.mv_cover.proofs.Differing.{differ-filtered}
use Rattle.mv_cover.proofs.Points.{one_some}
use Rattle.mv_kernels.specs.Order.{Ascend, cube_cmp}
use Rattle.mv_kernels.proofs.Lists.{Contains-first, Contains-behind, Contains-map, Contains-from_map, Contains-from_filter}
use Rattle.mv_kernels.proofs.Orders.{cube_total, Less-differs}
use Rattle.mv_divide.specs.declared.part.Part.{Part}
use Rattle.mv_divide.specs.declared.quotient.Quotient.{Quotient}
use Rattle.mv_divide.specs.Tables.{outputs, cover_of, parts_of, AreQuotients, with_one, lines_for, IsDivided}
use Rattle.mv_divide.proofs.Standing.{standing}
use Rattle.mv_net.specs.declared.parts.FlatNet.{FlatNet}
use Rattle.mv_net.specs.Formed.{IsLiteral, IsCover}
use Rattle.mv_division.proofs.Lists.{Contains-from_flat_map, differ-cons, differ-append, insert_all-distinct}
use Rattle.mv_division.proofs.Joins.{IsBefore, one_at, without_one, nothing_at}
use Rattle.mv_division.specs.Divisors.{IsDivisorOver, divisor_cover}
use Rattle.mv_division.proofs.Parts.{new_line, of_part, joined, quotient_cube, of_old, line_from}
use Rattle.mv_division.proofs.Tables.{IsLine, line_at, cubes_from, lines_from}

-- ---- lines that differ

-- cubes that ascend differ
pub ascend_apart : (c : List Lit) (cs : List (List Lit)) (x : List Lit) → Ascend (c ∷ cs) → Contains cs x → c ≡ x → ⊥
ascend_apart c cs x up i e = Less-differs cube_cmp cube_total c x (All-contains (λ q. cube_cmp c q ≡ Less) cs x (All-after_first cube_cmp c cs up) i) e

-- lines of different cubes differ
mapped_differ : (f : List Lit → Line) (cubes : List (List Lit)) → Ascend cubes → ((s t : List Lit) → Contains cubes s → Contains cubes t → f s ≡ f t → s ≡ t) → lines_differ (map f cubes) ≡ true
unfolding IsStrictlySortedBy
mapped_differ f [] up one = refl
mapped_differ f (s ∷ ss) up one =
    differ-cons (f s) (map f ss)
    (λ i.
    let m = Contains-from_map f ss (f s) i in
    ascend_apart s ss m.0 up m.1 (one s m.0 (Contains-first s ss) (Contains-behind m.0 s ss m.1) m.2))
    (mapped_differ f ss up.1 (λ a b i j e. one a b (Contains-behind a s ss i) (Contains-behind b s ss j) e))

abbrev out_of : Quotient → ℕ
out_of q = q.out

module _ (d : NetId) where
  same_left : (s t : List Lit) → IsBefore d s → IsBefore d t → with_one d s ≡ with_one d t → s ≡ t
  same_left s t a b e = sym (without_one d s a) ∙ (ap (cube_without d.0) e ∙ without_one d t b)

  -- the lines for the quotients' cubes differ, where the output sets do
  new_differ : (qs : List Quotient) → IsDistinct nat_eq (map out_of qs) → ((q : Quotient) → Contains qs q → Ascend q.cubes)
      → ((q : Quotient) → Contains qs q → (s : List Lit) → Contains q.cubes s → IsBefore d s) → lines_differ (flat_map (lines_for d) qs) ≡ true
  new_differ [] apart up before = refl
  new_differ (q ∷ qs) apart up before =
      let here = before q (Contains-first q qs) in
      differ-append (lines_for d q) (flat_map (lines_for d) qs)
      (mapped_differ (new_line d q.out) q.cubes (up q (Contains-first q qs)) (λ s t i j e. same_left s t (here s i) (here t j) (ap (λ (l : Line). l.cube) e)))
      (new_differ qs (IsDistinct-tail nat_eq q.out (map out_of qs) apart) (λ r i. up r (Contains-behind r q qs i)) (λ r i. before r (Contains-behind r q qs i)))
      (λ l i j.
      let m = Contains-from_map (new_line d q.out) q.cubes l i in
      let f = Contains-from_flat_map (lines_for d) qs l j in
      let n = Contains-from_map (new_line d f.0.out) f.0.cubes l f.2 in
      let same : q.out ≡ f.0.out = sym (ap (λ (x : Line). x.out) m.2) ∙ ap (λ (x : Line). x.out) n.2 in
      let others = All-from_recursion (λ (o : ℕ). nat_eq q.out o ≡ false) (map out_of qs) (IsDistinct-head nat_eq q.out (map out_of qs) apart) in
      false≢true (sym (All-contains (λ (o : ℕ). nat_eq q.out o ≡ false) (map out_of qs) f.0.out others (Contains-map out_of qs f.0 f.1)) ∙ eq-eqb q.out f.0.out same))

-- the output sets of a table differ
outputs_apart : (lines : List Line) → IsDistinct nat_eq (outputs lines)
unfolding IsDistinct
outputs_apart lines = insert_all-distinct nat_eq (decided nat_eq unsigned_Decides) [] (map (λ (l : Line). l.out) lines) tt

outs_are : (lines : List Line) (outs : List ℕ) → map (λ (p : Part). p.out) (map (λ (out : ℕ). record { out = out; cover = cover_of lines out }) outs) ≡ outs
outs_are lines [] = refl
outs_are lines (out ∷ outs) = ap (λ (xs : List ℕ). out ∷ xs) (outs_are lines outs)

quotients_apart : (lines : List Line) (divisor : List (List Lit)) (qs : List Quotient) → AreQuotients (parts_of lines) divisor qs → IsDistinct nat_eq (map out_of qs)
quotients_apart lines divisor qs are = subst (IsDistinct nat_eq) (sym (are.outs ∙ outs_are lines (outputs lines))) (outputs_apart lines)

-- ---- sets of one value

pub one_output : (v : ℕ) → v < 2 → IsOutput 2 (one v)
one_output v low = record {
  some = λ e. false≢true (sym (one_some v) ∙ eq-eqb (one v) empty e);
  within = λ u h. has-full 2 u ∙ lt-ltb u 2 (subst (λ (k : ℕ). k < 2) (sym (eqb-true u v (sym (has-one v u) ∙ h))) low);
}

-- the value 1 isn't both values
pub one_not_full : one 1 ≡ full 2 → ⊥
one_not_full e = false≢true (sym (has-one 1 0) ∙ (ap (λ s. has s 0) e ∙ has-full 2 0))

-- ---- a divided table

module _ (nets : List (Option FlatNet)) (values : ℕ) (old : Cover) (d : NetId) (divisor : List (List Lit)) (new : List Line) (is : IsDivided old.lines divisor d new)
    (cover : IsCover nets values old) (before : (l : Line) → Contains old.lines l → IsBefore d l.cube) (some : 0 < length divisor)
    (literal : IsLiteral nets (record { net = d; set = one 1 })) where
  old_line : (l : Line) → Contains old.lines l → IsLine nets values l
  old_line l i = line_at nets values old.lines l cover.cubes cover.lines i

  pub left_before : (q : Quotient) → Contains is.quotients q → (s : List Lit) → Contains q.cubes s → IsBefore d s
  left_before q i s j = of_old old.lines divisor is.quotients is.are (λ (l : Lit). l.net.0 < d.0) before some q i s j

  new_is_line : (q : Quotient) → Contains is.quotients q → (s : List Lit) → Contains q.cubes s → IsLine nets values (new_line d q.out s)
  new_is_line q i s j =
      let o = joined old.lines divisor is.quotients is.are q i s j (get_or divisor 0 []) (Contains-get_or divisor 0 [] some) in
      record {
        cube = standing d s (record { net = d; set = one 1 }) (quotient_cube old.lines divisor is.quotients is.are q i s j) (left_before q i s j) refl refl;
        literals =
            All-append (IsLiteral nets) s (record { net = d; set = one 1 } ∷ [])
            (of_old old.lines divisor is.quotients is.are (IsLiteral nets) (λ l k. (old_line l k).literals) some q i s j)
            (All-cons (IsLiteral nets) (record { net = d; set = one 1 }) [] literal (All-nil (IsLiteral nets)));
        out = (old_line (record { cube = o.cube; out = q.out }) o.line).out;
      }

  each_line : (l : Line) → Contains new l → IsLine nets values l
  each_line l i =
      elim (line_from old.lines divisor d new is l i) [
        | inl t ↦ old_line l t.0
        | inr n ↦ subst (IsLine nets values) (sym n.is) (new_is_line n.quotient n.there n.cube n.cube_in)
      ]

  new_apart : (l : Line) → Contains old.lines l → Contains (flat_map (lines_for d) is.quotients) l → ⊥
  new_apart l i j =
      let f = Contains-from_flat_map (lines_for d) is.quotients l j in
      let m = Contains-from_map (new_line d f.0.out) f.0.cubes l f.2 in
      let none : None ≡ Some (one 1) = sym (nothing_at d l.cube (before l i)) ∙ (ap (λ (x : Line). literal_at x.cube d.0) m.2 ∙ one_at d m.0 (left_before f.0 f.1 m.0 m.1)) in
      none-some (one 1) none

  ascending : (q : Quotient) → Contains is.quotients q → Ascend q.cubes
  ascending q i = (of_part old.lines divisor is.quotients is.are q i).is.ascending

  differ : lines_differ new ≡ true
  differ =
      subst (λ (ls : List Line). lines_differ ls ≡ true) (sym is.table.are)
      (differ-append (filter is.table.stays old.lines) (flat_map (lines_for d) is.quotients) (differ-filtered is.table.stays old.lines cover.differ)
      (new_differ d is.quotients (quotients_apart old.lines divisor is.quotients is.are) ascending left_before)
      (λ l i j. new_apart l (Contains-from_filter is.table.stays old.lines l i).0 j))

  bare_before : some_bare new ≡ true → some_bare old.lines ≡ true
  bare_before h =
      let f = find_any (λ (l : Line). nat_eq (length l.cube) 0) new h in
      elim (line_from old.lines divisor d new is f.x f.there) [
        | inl t ↦ any_at (λ (l : Line). nat_eq (length l.cube) 0) old.lines f.x t.0 f.pass
        | inr n ↦
            let none : length f.x.cube ≡ 0 = eqb-true (length f.x.cube) 0 f.pass in
            let long : length f.x.cube ≡ length n.cube + 1 = ap (λ (l : Line). length l.cube) n.is ∙ length-append n.cube (record { net = d; set = one 1 } ∷ []) in
            absurd (omega (arith, none, long))
      ]

  pub divided_is_cover : IsCover nets values (record { lines = new; default = old.default })
  divided_is_cover = record {
    cubes = cubes_from nets values new each_line;
    lines = lines_from nets values new each_line;
    differ = differ;
    default = cover.default;
    met = λ h. cover.met (bare_before h);
  }

-- ---- a divisor

module _ (nets : List (Option FlatNet)) (divisor : List (List Lit)) (is : IsDivisorOver nets divisor) where
  abbrev line_of : List Lit → Line
  line_of c = record { cube = c; out = one 1 }

  divisor_line : (l : Line) → Contains (divisor_cover divisor).lines l → IsLine nets 2 l
  divisor_line l i =
      let m = Contains-from_map line_of divisor l i in
      subst (IsLine nets 2) (sym m.2) (record {
        cube = All-contains IsCube divisor m.0 is.formed m.1;
        literals = All-contains (λ (c : List Lit). All (IsLiteral nets) c) divisor m.0 is.over m.1;
        out = one_output 1 (omega arith);
      })

  not_bare : some_bare (divisor_cover divisor).lines ≡ true → ⊥
  not_bare h =
      let f = find_any (λ (l : Line). nat_eq (length l.cube) 0) (divisor_cover divisor).lines h in
      let m = Contains-from_map line_of divisor f.x f.there in
      let long : 0 < length m.0 = All-contains (λ (c : List Lit). 0 < length c) divisor m.0 is.literals m.1 in
      let none : length f.x.cube ≡ 0 = eqb-true (length f.x.cube) 0 f.pass in
      let same : length f.x.cube ≡ length m.0 = ap (λ (l : Line). length l.cube) m.2 in
      absurd (omega (arith, long, none, same))

  pub divisor_is_cover : IsCover nets 2 (divisor_cover divisor)
  divisor_is_cover = record {
    cubes = cubes_from nets 2 (divisor_cover divisor).lines divisor_line;
    lines = lines_from nets 2 (divisor_cover divisor).lines divisor_line;
    differ = mapped_differ line_of divisor is.ascending (λ s t i j e. ap (λ (l : Line). l.cube) e);
    default = λ out e. subst (IsOutput 2) (same_Some (one 0) out e) (one_output 0 (omega arith));
    met = λ h. absurd (not_bare h);
  }
