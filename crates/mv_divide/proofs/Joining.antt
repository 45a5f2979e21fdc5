-- Joins of cubes: as the definition has them and as they are found, and their numbers.
use Rattle.std.proofs.Common.{◌≡◌, ◌∙◌, ◌+◌, Bool, true, false, not, ◌&&◌, ◌||◌, List, [], ◌∷◌, filter, inl, inr, refl, sym, ap, arith}
use Rattle.std.proofs.lemmas.Bool.{cases_Bool, and_parts, and_from, or_right}
use Rattle.std.proofs.Math.Bool.{or-false}
use Rattle.std.proofs.lemmas.List.Sums.{sum_by-cons}
use Rattle.std.proofs.lemmas.Map.Views.{any-filter_same}
use Rattle.mv_cover.specs.Literal.{Lit}
use Rattle.mv_cover.specs.Cubes.{IsCube}
use Rattle.mv_cover.specs.Equal.{lit_eq, cube_eq}
use Rattle.mv_cover.specs.Keys.{lit_eq-Decides, cube_eq-Decides}
use Rattle.mv_kernels.specs.Symbols.{has_symbol, has_each, cube_quotient}
use Rattle.mv_kernels.proofs.Quotients.{each_at, each_from, has_symbol-cube_quotient, same_cube, IsCube-filter, IsCube-cube_quotient}
use Rattle.mv_divide.specs.Division.{IsJoin, IsApart}
use Rattle.mv_divide.specs.Numbers.{lit_number, cube_number}
use Rattle.mv_divide.specs.Found.{is_join}

-- ---- joins

-- the two parts of the test
pub record Parts (s d cube : List Lit) : Type 0 where
  pub has : has_each d cube ≡ true
  pub left : cube_quotient d cube ≡ s

pub parts_of : (s d cube : List Lit) → is_join s d cube ≡ true → Parts s d cube
parts_of s d cube h =
    let both = and_parts (has_each d cube) (cube_eq (cube_quotient d cube) s) h in
    record { has = both.0; left = (cube_eq-Decides (cube_quotient d cube) s).0 both.1 }

-- a symbol that isn't taken out is in what is left where it was in the cube
symbol_kept : (d cube : List Lit) (l : Lit) → has_symbol d l ≡ false → has_symbol (cube_quotient d cube) l ≡ has_symbol cube l
symbol_kept d cube l f = has_symbol-cube_quotient d cube l ∙ (λ i. not (f i) && has_symbol cube l)

symbol_gone : (d cube : List Lit) (l : Lit) → has_symbol d l ≡ true → has_symbol (cube_quotient d cube) l ≡ false
symbol_gone d cube l t = has_symbol-cube_quotient d cube l ∙ (λ i. not (t i) && has_symbol cube l)

-- one of two is false
or_first : (a b : Bool) → b ≡ false → (a || b) ≡ a
or_first a b f = ap (λ (x : Bool). a || x) f ∙ or-false a

-- what passes the test is a join
pub join_from : (s d cube : List Lit) → is_join s d cube ≡ true → IsJoin s d cube
join_from s d cube h =
    let p = parts_of s d cube h in
    record {
      each = λ l.
          elim (cases_Bool (has_symbol d l)) [
            | inl t ↦ each_at d cube l p.has t ∙ sym (or_right (has_symbol s l) (has_symbol d l) t)
            | inr f ↦
                sym (symbol_kept d cube l f) ∙ (ap (λ (x : List Lit). has_symbol x l) p.left ∙ sym (or_first (has_symbol s l) (has_symbol d l) f))
          ];
    }

-- a join of cubes without a common symbol passes the test
pub join_is : (s d cube : List Lit) → IsCube s → IsCube cube → IsApart s d → IsJoin s d cube → is_join s d cube ≡ true
join_is s d cube fs fc a j =
    and_from (has_each d cube) (cube_eq (cube_quotient d cube) s)
    (each_from d cube (λ l t. j.each l ∙ or_right (has_symbol s l) (has_symbol d l) t))
    ((cube_eq-Decides (cube_quotient d cube) s).1 (same_cube (cube_quotient d cube) s (IsCube-cube_quotient d cube fc) fs (λ l.
    elim (cases_Bool (has_symbol d l)) [
      | inl t ↦ symbol_gone d cube l t ∙ sym (a.none l t)
      | inr f ↦ symbol_kept d cube l f ∙ (j.each l ∙ or_first (has_symbol s l) (has_symbol d l) f)
    ])))

-- ---- numbers

-- a sum over a list is the sum over two parts of it
number_split : (p : Lit → Bool) (q : List Lit) → cube_number q ≡ cube_number (filter p q) + cube_number (filter (λ l. not (p l)) q)
number_split p [] = refl
number_split p (l ∷ q) =
    let rest = number_split p q in
    let first = sum_by-cons lit_number l q in
    elim (cases_Bool (p l)) [
      | inl t ↦ rw (t, first, sum_by-cons lit_number l (filter p q)) (omega (arith, rest))
      | inr f ↦ rw (f, first, sum_by-cons lit_number l (filter (λ (m : Lit). not (p m)) q)) (omega (arith, rest))
    ]

-- the literals that aren't left are those taken out
taken : (d cube : List Lit) → IsCube d → IsCube cube → has_each d cube ≡ true → filter (λ (l : Lit). not (not (has_symbol d l))) cube ≡ d
taken d cube fd fc h =
    let p : Lit → Bool = λ l. not (not (has_symbol d l)) in
    same_cube (filter p cube) d (IsCube-filter p cube fc) fd (λ l.
    let is : has_symbol (filter p cube) l ≡ (p l && has_symbol cube l) = any-filter_same (λ (m : Lit). lit_eq m l) p (p l) (λ m e. ap p ((lit_eq-Decides m l).0 e)) cube in
    elim (cases_Bool (has_symbol d l)) [
      | inl t ↦ is ∙ ((λ i. not (not (t i)) && has_symbol cube l) ∙ (each_at d cube l h t ∙ sym t))
      | inr f ↦ is ∙ ((λ i. not (not (f i)) && has_symbol cube l) ∙ sym f)
    ])

-- the number of a join is the sum of the numbers
pub number_of_join : (s d cube : List Lit) → IsCube d → IsCube cube → is_join s d cube ≡ true → cube_number cube ≡ cube_number s + cube_number d
number_of_join s d cube fd fc h =
    let p = parts_of s d cube h in
    number_split (λ (l : Lit). not (has_symbol d l)) cube ∙ (λ i. cube_number (p.left i) + cube_number (taken d cube fd fc p.has i))
