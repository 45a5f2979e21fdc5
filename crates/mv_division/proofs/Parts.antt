-- The lines of a divided table, and where each comes from.
use Rattle.std.proofs.Common.{◌≡◌, ◌∙◌, ◌⊎◌, ℕ, ◌<◌, true, nat_eq, List, [], ◌∷◌, filter, length, get_or, All, Contains, inl, inr, refl, sym, ap, subst, eqb-true}
use Rattle.std.proofs.lemmas.List.Elements.{All-contains, All-cons, All-nil, Contains-get_or, Contains-append_cases, Contains-append_left, Contains-append_right}
use Rattle.std.proofs.lemmas.Bool.{or_left}
use Rattle.std.specs.List.{flat_map}
use Rattle.mv_base.specs.declared.number.NetId.{NetId}
use Rattle.mv_cover.specs.Literal.{Lit}
use Rattle.mv_cover.specs.Cubes.{IsCube}
use Rattle.mv_cover.specs.declared.line.Line.{Line}
use Rattle.mv_kernels.specs.Symbols.{has_symbol}
use Rattle.mv_kernels.proofs.Lists.{Contains-first, Contains-behind, Contains-map, Contains-from_map, Contains-filter, Contains-from_filter}
use Rattle.mv_kernels.proofs.Quotients.{symbol_in, in_symbol}
use Rattle.mv_divide.specs.declared.part.Part.{Part}
use Rattle.mv_divide.specs.declared.quotient.Quotient.{Quotient}
use Rattle.mv_divide.specs.Division.{IsApart, IsJoin, HasJoin, IsQuotientCube, IsQuotient}
use Rattle.mv_divide.specs.Tables.{outputs, cover_of, parts_of, AreQuotients, with_one, lines_for, IsDivided}
use Rattle.mv_division.proofs.Lists.{Contains-flat_map, Contains-from_flat_map, each_of}

-- ---- the covers of a table

-- a cube of a cover is that of a line with its output
pub part_line : (lines : List Line) (p : Part) (cube : List Lit) → Contains (parts_of lines) p → Contains p.cover cube → Contains lines (record { cube = cube; out = p.out })
part_line lines p cube i j =
    let at = Contains-from_map (λ (out : ℕ). record { out = out; cover = cover_of lines out }) (outputs lines) p i in
    let held : Contains (cover_of lines at.0) cube = subst (λ (x : Part). Contains x.cover cube) at.2 j in
    let m = Contains-from_map (λ (x : Line). x.cube) (filter (λ (x : Line). nat_eq x.out at.0) lines) cube held in
    let f = Contains-from_filter (λ (x : Line). nat_eq x.out at.0) lines m.0 m.1 in
    let out : m.0.out ≡ p.out = eqb-true m.0.out at.0 f.1 ∙ sym (ap (λ (x : Part). x.out) at.2) in
    subst (λ (x : Line). Contains lines x) (λ k. record { cube = sym m.2 k; out = out k }) f.0

-- ---- products

-- a cube of a quotient and one of the divisor: a line of the table has their join, and the output of the quotient
pub record IsJoined (lines : List Line) (out : ℕ) (s c : List Lit) : Type 0 where
  pub cube : List Lit
  pub line : Contains lines (record { cube = cube; out = out })
  pub apart : IsApart s c
  pub join : IsJoin s c cube

module _ (lines : List Line) (divisor : List (List Lit)) (quotients : List Quotient) (are : AreQuotients (parts_of lines) divisor quotients) where
  -- a cover of the table of which it is the quotient
  pub record OfPart (q : Quotient) : Type 0 where
    pub part : Part
    pub there : Contains (parts_of lines) part
    pub out : part.out ≡ q.out
    pub is : IsQuotient part.cover divisor q.cubes

  pub of_part : (q : Quotient) → Contains quotients q → OfPart q
  of_part q i =
      let e = All-contains (λ (x : Quotient). (p : Part) × Contains (parts_of lines) p × (p.out ≡ x.out) × IsQuotient p.cover divisor x.cubes) quotients q are.each i in
      record { part = e.0; there = e.1; out = e.2; is = e.3 }

  cube_is : (q : Quotient) (i : Contains quotients q) (s : List Lit) → Contains q.cubes s → IsQuotientCube (of_part q i).part.cover divisor s
  cube_is q i s j = All-contains (IsQuotientCube (of_part q i).part.cover divisor) q.cubes s (of_part q i).is.each j

  pub quotient_cube : (q : Quotient) → Contains quotients q → (s : List Lit) → Contains q.cubes s → IsCube s
  quotient_cube q i s j = (cube_is q i s j).formed

  pub quotient_apart : (q : Quotient) → Contains quotients q → (s : List Lit) → Contains q.cubes s → (c : List Lit) → Contains divisor c → IsApart s c
  quotient_apart q i s j c k = All-contains (IsApart s) divisor c (cube_is q i s j).apart k

  pub joined : (q : Quotient) → Contains quotients q → (s : List Lit) → Contains q.cubes s → (c : List Lit) → Contains divisor c → IsJoined lines q.out s c
  joined q i s j c k =
      let p = of_part q i in
      let h = All-contains (HasJoin p.part.cover s) divisor c (cube_is q i s j).joins k in
      record {
        cube = h.cube;
        line = subst (λ (out : ℕ). Contains lines (record { cube = h.cube; out = out })) p.out (part_line lines p.part h.cube p.there h.held);
        apart = quotient_apart q i s j c k;
        join = h.join;
      }

  -- what holds of the literals of all lines holds of those of a quotient's cubes
  pub of_old : (P : Lit → Type 0) → ((l : Line) → Contains lines l → All P l.cube) → 0 < length divisor → (q : Quotient) → Contains quotients q → (s : List Lit) → Contains q.cubes s → All P s
  of_old P each some q i s j =
      let c = get_or divisor 0 [] in
      let o = joined q i s j c (Contains-get_or divisor 0 [] some) in
      each_of P s (λ l k.
      All-contains P o.cube l (each (record { cube = o.cube; out = q.out }) o.line)
      (symbol_in o.cube l (o.join.each l ∙ or_left (has_symbol s l) (has_symbol c l) (in_symbol s l k))))

-- ---- the lines of the divided table

-- the line for a cube of a quotient
abbrev pub new_line : NetId → ℕ → List Lit → Line
new_line d out s = record { cube = with_one d s; out = out }

-- a line that stands for a cube of a quotient
pub record IsNew (d : NetId) (quotients : List Quotient) (l : Line) : Type 0 where
  pub quotient : Quotient
  pub there : Contains quotients quotient
  pub cube : List Lit
  pub cube_in : Contains quotient.cubes cube
  pub is : l ≡ new_line d quotient.out cube

module _ (lines : List Line) (divisor : List (List Lit)) (d : NetId) (new : List Line) (is : IsDivided lines divisor d new) where
  -- an old line that stays, or one for a cube of a quotient
  pub line_from : (l : Line) → Contains new l → (Contains lines l × (is.table.stays l ≡ true)) ⊎ IsNew d is.quotients l
  line_from l i =
      elim (Contains-append_cases (filter is.table.stays lines) (flat_map (lines_for d) is.quotients) l (subst (λ (ls : List Line). Contains ls l) is.table.are i)) [
        | inl t ↦ inl (Contains-from_filter is.table.stays lines l t)
        | inr t ↦
            let f = Contains-from_flat_map (lines_for d) is.quotients l t in
            let m = Contains-from_map (new_line d f.0.out) f.0.cubes l f.2 in
            inr (record { quotient = f.0; there = f.1; cube = m.0; cube_in = m.1; is = m.2 })
      ]

  pub line_stays : (l : Line) → Contains lines l → is.table.stays l ≡ true → Contains new l
  line_stays l i t =
      subst (λ (ls : List Line). Contains ls l) (sym is.table.are)
      (Contains-append_left (filter is.table.stays lines) (flat_map (lines_for d) is.quotients) l (Contains-filter is.table.stays lines l t i))

  pub line_new : (q : Quotient) → Contains is.quotients q → (s : List Lit) → Contains q.cubes s → Contains new (new_line d q.out s)
  line_new q i s j =
      subst (λ (ls : List Line). Contains ls (new_line d q.out s)) (sym is.table.are)
      (Contains-append_right (filter is.table.stays lines) (flat_map (lines_for d) is.quotients) (new_line d q.out s)
      (Contains-flat_map (lines_for d) is.quotients q (new_line d q.out s) i (Contains-map (new_line d q.out) q.cubes s j)))

-- ---- some quotient has a cube

pub record HasCube (quotients : List Quotient) : Type 0 where
  pub quotient : Quotient
  pub there : Contains quotients quotient
  pub cube : List Lit
  pub cube_in : Contains quotient.cubes cube

pub some_cube : (quotients : List Quotient) → (All (λ (q : Quotient). q.cubes ≡ []) quotients → ⊥) → HasCube quotients
some_cube [] some = absurd (some (All-nil (λ (q : Quotient). q.cubes ≡ [])))
some_cube (q ∷ qs) some = by q.cubes refl (some_cube qs)
  where
    by : (cubes : List (List Lit)) → q.cubes ≡ cubes → ((All (λ (x : Quotient). x.cubes ≡ []) qs → ⊥) → HasCube qs) → HasCube (q ∷ qs)
    by [] e more =
        let rest = more (λ all. some (All-cons (λ (x : Quotient). x.cubes ≡ []) q qs e all)) in
        record { quotient = rest.quotient; there = Contains-behind rest.quotient q qs rest.there; cube = rest.cube; cube_in = rest.cube_in }
    by (s ∷ ss) e more = record { quotient = q; there = Contains-first q qs; cube = s; cube_in = subst (λ (cs : List (List Lit)). Contains cs s) (sym e) (Contains-first s ss) }
