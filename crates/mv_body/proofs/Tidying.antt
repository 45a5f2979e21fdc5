-- A body is tidy exactly where its literals, its lines and its default are.
use Rattle.std.proofs.Common.{◌≡◌, ◌∙◌, ℕ, ◌+◌, ◌≤◌, true, false, not, cond, nat_eq, Option, List, [], ◌∷◌, refl, sym, ap, subst, inl, inr, arith, All}
use Rattle.std.specs.Prelude.{count_by}
use Rattle.std.specs.List.{list_all}
use Rattle.std.proofs.lemmas.Bool.{and_from, eq-eqb, ne_eqb, not_from_false}
use Rattle.std.proofs.lemmas.List.Elements.{All-nil, All-cons, All-head, All-tail}
use Rattle.std.proofs.lemmas.List.Sums.{sum_by-cons}
use Rattle.mv_base.specs.Set.{empty}
use Rattle.mv_cover.specs.Literal.{Lit}
use Rattle.mv_cover.specs.declared.line.Line.{Line}
use Rattle.mv_cover.specs.Cubes.{IsCube, nets_ascend}
use Rattle.mv_cover.specs.Sharp.{with_literal}
use Rattle.mv_cover.proofs.Meets.{ascend-Rises, order}
use Rattle.mv_net.specs.declared.parts.FlatNet.{FlatNet}
use Rattle.mv_net.specs.Formed.{IsLiteral, AllLiterals, AllLines, AllCubes}
use Rattle.mv_entry.specs.declared.rule.BodyLit.{BodyLit}
use Rattle.mv_entry.specs.declared.rule.BodyLine.{BodyLine}
use Rattle.mv_entry.specs.declared.rule.Body.{Body}
use Rattle.mv_body.specs.Bodies.{by_net, literals_said, cube_said, lines_said, AreApart, IsOnce, IsByNet, AreLiterals, IsTidyCube, IsTidyLine, AreTidyLines, IsDefaultBeside, IsTidy}
use Rattle.mv_body.proofs.Orders.{apart-tail, apart-head, apart-sorted, by_net-sorted, sorted-twice, count-by_net, Rises-by_net}

module _ (nets : List (Option FlatNet)) where
  -- ---- literals put in

  literals-with : (l : Lit) (c : List Lit) → IsLiteral nets l → AllLiterals nets c → AllLiterals nets (with_literal l c)
  unfolding with_literal
  literals-with l [] is all = (is, tt)
  literals-with l (m ∷ ms) is all =
      elim (order l.net.0 m.net.0) [
        | inl y ↦ rw y.0 (is, all)
        | inr n ↦
            elim (order m.net.0 l.net.0) [
              | inl y ↦ rw n.0 (rw y.0 (all.0, literals-with l ms is all.1))
              | inr o ↦ rw n.0 (rw o.0 (is, all.1))
            ]
      ]

  literals-without : (l : Lit) (c : List Lit) → count_by (λ (m : Lit). nat_eq m.net.0 l.net.0) c ≡ 0 → AllLiterals nets (with_literal l c) → IsLiteral nets l × AllLiterals nets c
  unfolding with_literal
  literals-without l [] none all = (all.0, tt)
  literals-without l (m ∷ ms) none all =
      let here = sum_by-cons (λ (x : Lit). cond (nat_eq x.net.0 l.net.0) 1 0) m ms in
      elim (order l.net.0 m.net.0) [
        | inl y ↦ rw y.0 at all
        | inr n ↦
            elim (order m.net.0 l.net.0) [
              | inl y ↦
                  let whole = rw y.0 at (rw n.0 at all) in
                  let rest = literals-without l ms (omega (arith, here, none)) whole.1 in
                  (rest.0, (whole.0, rest.1))
              | inr o ↦
                  let above : m.net.0 ≤ l.net.0 = n.1 in
                  let below : l.net.0 ≤ m.net.0 = o.1 in
                  let counted = here ∙ ap (λ b. cond b 1 0 + count_by (λ (x : Lit). nat_eq x.net.0 l.net.0) ms) (eq-eqb m.net.0 l.net.0 (omega arith)) in
                  absurd (omega (arith, counted, none))
            ]
      ]

  literals-by_net : (ls : List Lit) → All (IsLiteral nets) ls → AllLiterals nets (by_net ls)
  literals-by_net [] all = tt
  literals-by_net (l ∷ ls) all =
      literals-with l (by_net ls) (All-head (IsLiteral nets) l ls all) (literals-by_net ls (All-tail (IsLiteral nets) l ls all))

  literals-from_by_net : (ls : List Lit) → AreApart ls → AllLiterals nets (by_net ls) → All (IsLiteral nets) ls
  literals-from_by_net [] apart all = All-nil (IsLiteral nets)
  literals-from_by_net (l ∷ ls) apart all =
      let none = count-by_net (λ (m : Lit). nat_eq m.net.0 l.net.0) ls (apart-tail l ls apart) ∙ apart-head l ls apart in
      let parts = literals-without l (by_net ls) none all in
      All-cons (IsLiteral nets) l ls parts.0 (literals-from_by_net ls (apart-tail l ls apart) parts.1)

  -- ---- cubes

  possible : (ls : List Lit) → AllLiterals nets ls → list_all (λ (l : Lit). not (nat_eq l.set empty)) ls ≡ true
  possible [] all = refl
  possible (l ∷ ls) all =
      and_from (not (nat_eq l.set empty)) (list_all (λ (m : Lit). not (nat_eq m.set empty)) ls) (not_from_false (nat_eq l.set empty) (ne_eqb l.set empty all.0.set.some)) (possible ls all.1)

  cube-by_net : (ls : List Lit) → All (IsLiteral nets) ls → IsCube (by_net ls)
  cube-by_net ls all = record { ascending = ascend-Rises 0 (by_net ls) (Rises-by_net ls); possible = possible (by_net ls) (literals-by_net ls all) }

  -- literals that are sorted and ascend are the cube of their line
  pub sorted-cube : (lits : List BodyLit) (said sorted : List Lit) → AreLiterals nets lits said → IsByNet said sorted → nets_ascend sorted ≡ true → IsCube sorted
  sorted-cube lits said sorted are s up = subst IsCube (sym (by_net-sorted said sorted s up)) (cube-by_net said are.each)

  pub sorted-tidy : (lits : List BodyLit) (said sorted : List Lit) → AreLiterals nets lits said → IsByNet said sorted → nets_ascend sorted ≡ true → IsTidyCube nets lits
  sorted-tidy lits said sorted are s up = record {
    apart = subst AreApart are.is (apart-sorted said sorted s up);
    each = subst (λ (ls : List Lit). All (IsLiteral nets) ls) are.is are.each;
  }

  pub sorted-said : (lits : List BodyLit) (said sorted : List Lit) → AreLiterals nets lits said → IsByNet said sorted → nets_ascend sorted ≡ true → sorted ≡ cube_said nets lits
  sorted-said lits said sorted are s up = by_net-sorted said sorted s up ∙ ap by_net are.is

  -- literals that are sorted and don't ascend are of no tidy line
  pub sorted-untidy : (lits : List BodyLit) (said sorted : List Lit) → AreLiterals nets lits said → IsByNet said sorted → nets_ascend sorted ≡ false → IsTidyCube nets lits → ⊥
  sorted-untidy lits said sorted are s down tidy = sorted-twice said sorted s down (subst AreApart (sym are.is) tidy.apart)

  module _ (values : ℕ) where
    -- ---- lines

    cubes-said : (ls : List BodyLine) → All (IsTidyLine nets values) ls → AllCubes (lines_said nets ls)
    cubes-said [] all = tt
    cubes-said (l ∷ ls) all =
        let first = All-head (IsTidyLine nets values) l ls all in
        (cube-by_net (literals_said nets l.lits) first.cube.each, cubes-said ls (All-tail (IsTidyLine nets values) l ls all))

    all-said : (ls : List BodyLine) → All (IsTidyLine nets values) ls → AllLines nets values (lines_said nets ls)
    all-said [] all = tt
    all-said (l ∷ ls) all =
        let first = All-head (IsTidyLine nets values) l ls all in
        (literals-by_net (literals_said nets l.lits) first.cube.each, first.out, all-said ls (All-tail (IsTidyLine nets values) l ls all))

    once-said : (ls : List BodyLine) → All (IsTidyLine nets values) ls → All (IsOnce nets) ls
    once-said [] all = All-nil (IsOnce nets)
    once-said (l ∷ ls) all =
        let first = All-head (IsTidyLine nets values) l ls all in
        All-cons (IsOnce nets) l ls (record { apart = first.cube.apart }) (once-said ls (All-tail (IsTidyLine nets values) l ls all))

    each-tidy : (ls : List BodyLine) → All (IsOnce nets) ls → AllLines nets values (lines_said nets ls) → All (IsTidyLine nets values) ls
    each-tidy [] once all = All-nil (IsTidyLine nets values)
    each-tidy (l ∷ ls) once all =
        let first = All-head (IsOnce nets) l ls once in
        All-cons (IsTidyLine nets values) l ls
        (record {
          cube = record { apart = first.apart; each = literals-from_by_net (literals_said nets l.lits) first.apart all.0 };
          out = all.1;
        })
        (each-tidy ls (All-tail (IsOnce nets) l ls once) all.2)

    -- ---- bodies

    pub tidy_lines : (b : Body) → IsTidy nets values b → AreTidyLines nets values b.lines
    tidy_lines b t = record { each = each-tidy b.lines t.once t.cover.lines; differ = t.cover.differ }

    pub tidy_default : (b : Body) (lines : List Line) → lines ≡ lines_said nets b.lines → IsTidy nets values b → IsDefaultBeside values b.default lines
    tidy_default b lines e t =
        subst (λ (ls : List Line). IsDefaultBeside values b.default ls) (sym e) (record { set = t.cover.default; met = t.cover.met })

    pub tidy_from : (b : Body) (lines : List Line) → AreTidyLines nets values b.lines → lines ≡ lines_said nets b.lines → IsDefaultBeside values b.default lines → IsTidy nets values b
    tidy_from b lines are e beside =
        let d : IsDefaultBeside values b.default (lines_said nets b.lines) = subst (λ (ls : List Line). IsDefaultBeside values b.default ls) e beside in
        record {
          once = once-said b.lines are.each;
          cover = record {
            cubes = cubes-said b.lines are.each;
            lines = all-said b.lines are.each;
            differ = are.differ;
            default = d.set;
            met = d.met;
          };
        }
