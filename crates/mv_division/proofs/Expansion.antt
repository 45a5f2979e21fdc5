-- The divided lines stand for the old ones.
use Rattle.std.proofs.Common.{◌≡◌, ℕ, true, false, List, [], ◌∷◌, Contains, inl, inr, refl, sym, ap, subst, eq-eqb}
use Rattle.std.proofs.lemmas.Bool.{cases_Bool}
use Rattle.std.specs.List.{flat_map}
use Rattle.mv_base.specs.Set.{one}
use Rattle.mv_base.specs.declared.number.NetId.{NetId}
use Rattle.mv_cover.specs.Literal.{Lit}
use Rattle.mv_cover.specs.Complement.{lines_for}
use Rattle.mv_cover.specs.Cubes.{IsCube}
use Rattle.mv_cover.specs.Meets.{met}
use Rattle.mv_cover.specs.declared.line.Line.{Line}
use Rattle.mv_kernels.proofs.Lists.{Contains-first, Contains-map, Contains-from_map}
use Rattle.mv_divide.specs.declared.quotient.Quotient.{Quotient}
use Rattle.mv_divide.specs.Tables.{IsDivided}
use Rattle.mv_plans.specs.Expanding.{line_expanded, expanded, AreSameLines}
use Rattle.mv_division.proofs.Lists.{only_one, Contains-flat_map, Contains-from_flat_map, same_answer}
use Rattle.mv_division.proofs.Joins.{IsBefore, met_join, nothing_at, one_at, without_one}
use Rattle.mv_division.proofs.Parts.{new_line, joined, quotient_cube, quotient_apart, line_from, line_stays, line_new}

-- the lines that a cube s in place of the divisor stands for
abbrev products : ℕ → List Lit → List Line → List Line
products out s inner = flat_map (λ (k : Line). lines_for out (met s k.cube)) inner

-- a line that doesn't ask for d stands for itself
expanded_itself : (d : NetId) (inner : List Line) (l : Line) → IsBefore d l.cube → line_expanded d.0 inner l ≡ l ∷ []
expanded_itself d inner l b = rw (nothing_at d l.cube b) refl

-- and one that does for products
expanded_new : (d : NetId) (inner : List Line) (out : ℕ) (s : List Lit) → IsBefore d s → line_expanded d.0 inner (new_line d out s) ≡ products out s inner
expanded_new d inner out s b = rw (one_at d s b) (rw (eq-eqb (one 1) (one 1) refl) (ap (λ (x : List Lit). products out x inner) (without_one d s b)))

module _ (d : NetId) (divisor : List (List Lit)) (old new : List Line) (is : IsDivided old divisor d new)
    (cubes : (l : Line) → Contains old l → IsCube l.cube) (before : (l : Line) → Contains old l → IsBefore d l.cube)
    (divisors : (c : List Lit) → Contains divisor c → IsCube c)
    (left : (q : Quotient) → Contains is.quotients q → (s : List Lit) → Contains q.cubes s → IsBefore d s) where
  abbrev inner : List Line
  inner = lines_for (one 1) divisor

  -- a product is an old line
  product_old : (q : Quotient) (i : Contains is.quotients q) (s : List Lit) (j : Contains q.cubes s) (l : Line) → Contains (products q.out s inner) l → Contains old l
  product_old q i s j l h =
      let f = Contains-from_flat_map (λ (k : Line). lines_for q.out (met s k.cube)) inner l h in
      let m = Contains-from_map (λ (c : List Lit). record { cube = c; out = one 1 }) divisor f.0 f.1 in
      let c = m.0 in
      let o = joined old divisor is.quotients is.are q i s j c m.1 in
      let meets : met s c ≡ o.cube ∷ [] =
      met_join s c o.cube (quotient_cube old divisor is.quotients is.are q i s j) (divisors c m.1) (cubes (record { cube = o.cube; out = q.out }) o.line) o.apart o.join in
      let there : Contains (lines_for q.out (o.cube ∷ [])) l =
      subst (λ (cs : List (List Lit)). Contains (lines_for q.out cs) l) meets (subst (λ (k : Line). Contains (lines_for q.out (met s k.cube)) l) m.2 f.2) in
      subst (λ (x : Line). Contains old x) (only_one (record { cube = o.cube; out = q.out }) l there) o.line

  old_from : (l : Line) → Contains (expanded d.0 inner new) l → Contains old l
  old_from l h =
      let f = Contains-from_flat_map (line_expanded d.0 inner) new l h in
      elim (line_from old divisor d new is f.0 f.1) [
        | inl t ↦
            let there : Contains (f.0 ∷ []) l = subst (λ (ls : List Line). Contains ls l) (expanded_itself d inner f.0 (before f.0 t.0)) f.2 in
            subst (λ (x : Line). Contains old x) (only_one f.0 l there) t.0
        | inr n ↦
            let b = left n.quotient n.there n.cube n.cube_in in
            let there : Contains (line_expanded d.0 inner (new_line d n.quotient.out n.cube)) l = subst (λ (x : Line). Contains (line_expanded d.0 inner x) l) n.is f.2 in
            product_old n.quotient n.there n.cube n.cube_in l (subst (λ (ls : List Line). Contains ls l) (expanded_new d inner n.quotient.out n.cube b) there)
      ]

  stays_there : (l : Line) → Contains old l → is.table.stays l ≡ true → Contains (expanded d.0 inner new) l
  stays_there l i t =
      Contains-flat_map (line_expanded d.0 inner) new l l (line_stays old divisor d new is l i t)
      (subst (λ (ls : List Line). Contains ls l) (sym (expanded_itself d inner l (before l i))) (Contains-first l []))

  -- an old line that is gone is a product
  gone_there : (l : Line) → Contains old l → is.table.stays l ≡ false → Contains (expanded d.0 inner new) l
  gone_there l i f =
      let g = is.table.gone l i f in
      let q = g.quotient in
      let p = g.product in
      let s = p.left in
      let c = p.right in
      let meets : met s c ≡ l.cube ∷ [] =
      met_join s c l.cube (quotient_cube old divisor is.quotients is.are q g.there s p.left_in) (divisors c p.right_in) (cubes l i)
      (quotient_apart old divisor is.quotients is.are q g.there s p.left_in c p.right_in) p.join in
      let itself : Contains (lines_for q.out (l.cube ∷ [])) l =
      subst (λ (out : ℕ). Contains (lines_for out (l.cube ∷ [])) l) (sym g.out) (Contains-first l []) in
      let made : Contains (lines_for q.out (met s c)) l = subst (λ (cs : List (List Lit)). Contains (lines_for q.out cs) l) (sym meets) itself in
      let of_divisor : Contains inner (record { cube = c; out = one 1 }) = Contains-map (λ (x : List Lit). record { cube = x; out = one 1 }) divisor c p.right_in in
      let product : Contains (products q.out s inner) l =
      Contains-flat_map (λ (k : Line). lines_for q.out (met s k.cube)) inner (record { cube = c; out = one 1 }) l of_divisor made in
      Contains-flat_map (line_expanded d.0 inner) new (new_line d q.out s) l (line_new old divisor d new is q g.there s p.left_in)
      (subst (λ (ls : List Line). Contains ls l) (sym (expanded_new d inner q.out s (left q g.there s p.left_in))) product)

  pub same_lines : AreSameLines (expanded d.0 inner new) old
  same_lines = record {
    same = λ l.
        same_answer (expanded d.0 inner new) old l (old_from l)
        (λ i.
        elim (cases_Bool (is.table.stays l)) [
          | inl t ↦ stays_there l i t
          | inr f ↦ gone_there l i f
        ]);
  }
