-- The lines of a table that are products of the quotients and the divisor.
use Rattle.std.proofs.Common.{◌≡◌, ◌∙◌, ℕ, ◌<◌, true, not, List, [], ◌++◌, filter, length, get_or, All, Contains, refl, sym, subst, nat_eq}
use Rattle.std.proofs.lemmas.Bool.{false≢true, and_parts, and_from, or_left, not-true, not-false}
use Rattle.std.proofs.lemmas.List.Elements.{All-contains, All-weaker, All-contains_itself, Contains-get_or}
use Rattle.std.proofs.lemmas.List.Folds.{Any-from_list_any, list_any_at}
use Rattle.std.proofs.lemmas.Map.Views.{Contains-from_any, list_any-from_Contains}
use Rattle.std.specs.List.{list_any, flat_map}
use Rattle.mv_base.specs.declared.number.NetId.{NetId}
use Rattle.mv_cover.specs.Literal.{Lit}
use Rattle.mv_cover.specs.Cubes.{IsCube}
use Rattle.mv_cover.specs.Equal.{line_eq, cube_eq}
use Rattle.mv_cover.specs.Keys.{cube_eq-Decides, line_eq-Decides, line_eq-equiv}
use Rattle.mv_cover.specs.declared.line.Line.{Line}
use Rattle.mv_kernels.specs.Symbols.{has_symbol, has_each, cube_quotient}
use Rattle.mv_kernels.proofs.Lists.{Contains-from_map, Contains-from_filter}
use Rattle.mv_kernels.proofs.Quotients.{symbol_in, in_symbol}
use Rattle.mv_divide.specs.declared.part.Part.{Part}
use Rattle.mv_divide.specs.declared.quotient.Quotient.{Quotient}
use Rattle.mv_divide.specs.Division.{IsApart, HasJoin, IsQuotientCube, IsQuotient}
use Rattle.mv_divide.specs.Tables.{outputs, cover_of, parts_of, AreQuotients, IsDividedLine, lines_for, AreDivided, IsDivided, IsUndivided}
use Rattle.mv_divide.specs.Grouped.{AreBelow, IsLeftLine, AreLeft, AreMade, line_left, is_product_by, is_product}
use Rattle.mv_divide.proofs.Joining.{parts_of as join_parts, join_from, join_is}

-- a cube of one of the quotients is a cube of the quotient of a cover
record OfCover (parts : List Part) (divisor : List (List Lit)) (s : List Lit) : Type 0 where
  part : Part
  there : Contains parts part
  is : IsQuotientCube part.cover divisor s

of_cover : (parts : List Part) (divisor : List (List Lit)) (quotients : List Quotient) (q : Quotient) (s : List Lit) → AreQuotients parts divisor quotients → Contains quotients q → Contains q.cubes s → OfCover parts divisor s
of_cover parts divisor quotients q s a i j =
    let e = All-contains (λ (x : Quotient). (p : Part) × Contains parts p × (p.out ≡ x.out) × IsQuotient p.cover divisor x.cubes) quotients q a.each i in
    record { part = e.0; there = e.1; is = All-contains (IsQuotientCube e.0.cover divisor) q.cubes s e.3.each j }

-- ---- products

-- what the test finds is a product
product_from : (quotients : List Quotient) (left : List Line) (divisor : List (List Lit)) (l : Line) → AreLeft quotients left → is_product left divisor l ≡ true → IsDividedLine divisor quotients l
product_from quotients left divisor l a h =
    let at = Any-from_list_any (is_product_by left l) divisor h in
    let both = and_parts (has_each at.1 l.cube) (list_any (line_eq (line_left at.1 l)) left) at.4 in
    let found = All-contains (IsLeftLine quotients) left (line_left at.1 l) a.only (Contains-from_any {eq = line_eq} (λ x y e. (line_eq-Decides x y).0 e) (line_left at.1 l) left both.1) in
    record {
      quotient = found.quotient;
      there = found.there;
      out = found.out;
      product = record {
        left = cube_quotient at.1 l.cube;
        left_in = found.cube;
        right = at.1;
        right_in = (at.0, at.2, at.3);
        join =
            join_from (cube_quotient at.1 l.cube) at.1 l.cube
            (and_from (has_each at.1 l.cube) (cube_eq (cube_quotient at.1 l.cube) (cube_quotient at.1 l.cube)) both.0 ((cube_eq-Decides (cube_quotient at.1 l.cube) (cube_quotient at.1 l.cube)).1 refl));
      };
    }

-- each product is found
product_is : (parts : List Part) (quotients : List Quotient) (left : List Line) (divisor : List (List Lit)) (l : Line) → AreQuotients parts divisor quotients → AreLeft quotients left → IsCube l.cube → IsDividedLine divisor quotients l → is_product left divisor l ≡ true
product_is parts quotients left divisor l are a fc p =
    let product = p.product in
    let o = of_cover parts divisor quotients p.quotient product.left are p.there product.left_in in
    let join = join_is product.left product.right l.cube o.is.formed fc (All-contains (IsApart product.left) divisor product.right o.is.apart product.right_in) product.join in
    let t = join_parts product.left product.right l.cube join in
    let cube : Contains p.quotient.cubes (cube_quotient product.right l.cube) = subst (λ (x : List Lit). Contains p.quotient.cubes x) (sym t.left) product.left_in in
    let found = list_any-from_Contains {eq = line_eq} line_eq-equiv (line_left product.right l) left (a.all (line_left product.right l) (record { quotient = p.quotient; there = p.there; out = p.out; cube = cube })) in
    let passes = and_from (has_each product.right l.cube) (list_any (line_eq (line_left product.right l)) left) t.has found in
    let i = product.right_in in
    list_any_at (is_product_by left l) divisor i.0 product.right i.1
    (subst (λ (x : List Lit). is_product_by left l x ≡ true) (sym i.2) passes)

-- the rest of the lines and those for the quotients are the divided table
divided_are : (lines : List Line) (parts : List Part) (divisor : List (List Lit)) (n : NetId) (quotients : List Quotient) (left new : List Line) → AreQuotients parts divisor quotients → AreLeft quotients left → All (λ (l : Line). IsCube l.cube) lines → new ≡ filter (λ (l : Line). not (is_product left divisor l)) lines ++ flat_map (lines_for n) quotients → AreDivided lines divisor n quotients new
divided_are lines parts divisor n quotients left new are a formed e = record {
  stays = λ l. not (is_product left divisor l);
  kept = λ l i t p.
      false≢true (sym (not-true (is_product left divisor l) t) ∙ product_is parts quotients left divisor l are a (All-contains (λ (x : Line). IsCube x.cube) lines l formed i) p);
  gone = λ l i f. product_from quotients left divisor l a (not-false (is_product left divisor l) f);
  are = e;
}

-- ---- the nets of quotients

-- the cubes of a quotient have nets below where those of the lines have
quotient_below : (lines : List Line) (parts : List Part) (divisor : List (List Lit)) (n : NetId) (quotients : List Quotient) (q : Quotient) → parts ≡ parts_of lines → 0 < length divisor → AreQuotients parts divisor quotients → All (λ (l : Line). AreBelow n l.cube) lines → Contains quotients q → All (AreBelow n) q.cubes
quotient_below lines parts divisor n quotients q is some are below i =
    All-weaker (Contains q.cubes) (AreBelow n) (λ s j.
    let o = of_cover parts divisor quotients q s are i j in
    let at = Contains-from_map (λ (out : ℕ). record { out = out; cover = cover_of lines out }) (outputs lines) o.part (subst (λ (ps : List Part). Contains ps o.part) is o.there) in
    let first = Contains-get_or divisor 0 [] some in
    let j = All-contains (HasJoin o.part.cover s) divisor (get_or divisor 0 []) o.is.joins first in
    let row = Contains-from_map (λ (l : Line). l.cube) (filter (λ (l : Line). nat_eq l.out at.0) lines) j.cube (subst (λ (p : Part). Contains p.cover j.cube) at.2 j.held) in
    let line = Contains-from_filter (λ (l : Line). nat_eq l.out at.0) lines row.0 row.1 in
    let low : AreBelow n j.cube = subst (AreBelow n) (sym row.2) (All-contains (λ (l : Line). AreBelow n l.cube) lines row.0 below line.0) in
    All-weaker (Contains s) (λ (l : Lit). l.net.0 < n.0) (λ l k.
    All-contains (λ (m : Lit). m.net.0 < n.0) j.cube l low (symbol_in j.cube l (j.join.each l ∙ or_left (has_symbol s l) (has_symbol (get_or divisor 0 []) l) (in_symbol s l k)))) s (All-contains_itself s))
    q.cubes (All-contains_itself q.cubes)

pub all_below : (lines : List Line) (parts : List Part) (divisor : List (List Lit)) (n : NetId) (quotients : List Quotient) → parts ≡ parts_of lines → 0 < length divisor → AreQuotients parts divisor quotients → All (λ (l : Line). AreBelow n l.cube) lines → All (λ (q : Quotient). All (AreBelow n) q.cubes) quotients
all_below lines parts divisor n quotients is some are below =
    All-weaker (Contains quotients) (λ (q : Quotient). All (AreBelow n) q.cubes)
    (λ q i. quotient_below lines parts divisor n quotients q is some are below i) quotients (All-contains_itself quotients)

-- ---- the whole table

pub undivided_from : (lines : List Line) (parts : List Part) (divisor : List (List Lit)) (quotients : List Quotient) → parts ≡ parts_of lines → AreQuotients parts divisor quotients → All (λ (q : Quotient). q.cubes ≡ []) quotients → IsUndivided lines divisor
undivided_from lines parts divisor quotients is are none = record {
  quotients = quotients;
  are = subst (λ (ps : List Part). AreQuotients ps divisor quotients) is are;
  none = none;
}

pub divided_from : (lines : List Line) (parts : List Part) (divisor : List (List Lit)) (n : NetId) (quotients : List Quotient) (new : List Line) → parts ≡ parts_of lines → AreQuotients parts divisor quotients → (All (λ (q : Quotient). q.cubes ≡ []) quotients → ⊥) → AreMade lines divisor n quotients new → IsDivided lines divisor n new
divided_from lines parts divisor n quotients new is are some made = record {
  quotients = quotients;
  are = subst (λ (ps : List Part). AreQuotients ps divisor quotients) is are;
  some = some;
  table = divided_are lines parts divisor n quotients made.left new are made.are_left made.formed made.are;
}
