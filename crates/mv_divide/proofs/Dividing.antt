-- What is left of the cubes of a cover is its quotient.
use Rattle.std.proofs.Common.{◌≡◌, ◌∙◌, Bool, true, not, ◌&&◌, List, [], ◌∷◌, filter, All, Contains, refl, sym, subst}
use Rattle.std.proofs.lemmas.Bool.{false≢true, and_parts, and_from, not-true, not_from_false, false_from_ne_true}
use Rattle.std.proofs.lemmas.List.Elements.{All-nil, All-cons, All-contains, All-weaker, All-contains_itself}
use Rattle.std.proofs.lemmas.List.Folds.{Any-from_list_any, list_any_at}
use Rattle.std.specs.List.{list_all}
use Rattle.mv_cover.specs.Literal.{Lit}
use Rattle.mv_cover.specs.Cubes.{IsCube}
use Rattle.mv_kernels.specs.Symbols.{has_symbol, has_each, cube_quotient, SameCubes}
use Rattle.mv_kernels.specs.Order.{Ascend}
use Rattle.mv_kernels.proofs.Lists.{Contains-first, Contains-behind, Contains-map, Contains-from_map, Contains-filter, Contains-from_filter}
use Rattle.mv_kernels.proofs.Quotients.{symbol_in, in_symbol, IsCube-cube_quotient, to_back, to_there}
use Rattle.mv_divide.specs.Division.{IsApart, HasJoin, IsQuotientCube, IsQuotient}
use Rattle.mv_divide.specs.Found.{is_join, has_join, is_apart, all_apart, all_join, leaves, all_left}
use Rattle.mv_divide.proofs.Joining.{parts_of, join_from, join_is}

-- ---- tests of all members

module _ {X : Type 0} (p : X → Bool) where
  list_all_of : (xs : List X) (x : X) → list_all p xs ≡ true → Contains xs x → p x ≡ true
  list_all_of xs x h i = All-contains (λ (y : X). p y ≡ true) xs x (each xs h) i
    where
      each : (ys : List X) → list_all p ys ≡ true → All (λ (y : X). p y ≡ true) ys
      each [] h = All-nil (λ (y : X). p y ≡ true)
      each (y ∷ ys) h =
          let b = and_parts (p y) (list_all p ys) h in
          All-cons (λ (z : X). p z ≡ true) y ys b.0 (each ys b.1)

  list_all_from : (xs : List X) → ((x : X) → Contains xs x → p x ≡ true) → list_all p xs ≡ true
  list_all_from [] f = refl
  list_all_from (y ∷ ys) f =
      and_from (p y) (list_all p ys) (f y (Contains-first y ys)) (list_all_from ys (λ x i. f x (Contains-behind x y ys i)))

-- ---- each part of the test

apart_from : (symbols s : List Lit) → is_apart symbols s ≡ true → IsApart s symbols
apart_from symbols s h = record {
  none = λ l t.
      false_from_ne_true (has_symbol s l) (λ u.
      false≢true (sym (not-true (has_symbol symbols l) (list_all_of (λ (m : Lit). not (has_symbol symbols m)) s l h (symbol_in s l u))) ∙ t));
}

apart_is : (symbols s : List Lit) → IsApart s symbols → is_apart symbols s ≡ true
apart_is symbols s a =
    list_all_from (λ (m : Lit). not (has_symbol symbols m)) s (λ l i.
    not_from_false (has_symbol symbols l) (false_from_ne_true (has_symbol symbols l) (λ t. false≢true (sym (a.none l t) ∙ in_symbol s l i))))

joins_from : (cover : List (List Lit)) (s d : List Lit) → has_join cover s d ≡ true → HasJoin cover s d
joins_from cover s d h =
    let a = Any-from_list_any (is_join s d) cover h in
    record { cube = a.1; held = (a.0, a.2, a.3); join = join_from s d a.1 a.4 }

-- a cube that is a join by the definition is one by the test
joins_at : (cover : List (List Lit)) (s d : List Lit) → All IsCube cover → IsCube s → IsApart s d → (j : HasJoin cover s d) → is_join s d j.cube ≡ true
joins_at cover s d formed fs a j = join_is s d j.cube fs (All-contains IsCube cover j.cube formed j.held) a j.join

joins_is : (cover : List (List Lit)) (s d : List Lit) → All IsCube cover → IsCube s → IsApart s d → HasJoin cover s d → has_join cover s d ≡ true
joins_is cover s d formed fs a j =
    let i = j.held in
    list_any_at (is_join s d) cover i.0 j.cube i.1 (subst (λ (x : List Lit). is_join s d x ≡ true) (sym i.2) (joins_at cover s d formed fs a j))

-- ---- the quotient

-- what is left of a cube is a cube of the quotient
left_each : (cover divisor : List (List Lit)) (first cube : List Lit) → All IsCube cover → Contains cover cube → leaves cover divisor first cube ≡ true → IsQuotientCube cover divisor (cube_quotient first cube)
left_each cover divisor first cube formed held h =
    let s = cube_quotient first cube in
    let b = and_parts (has_each first cube) (all_apart divisor s && all_join cover divisor s) h in
    let r = and_parts (all_apart divisor s) (all_join cover divisor s) b.1 in
    record {
      formed = IsCube-cube_quotient first cube (All-contains IsCube cover cube formed held);
      apart =
          All-weaker (Contains divisor) (IsApart s)
          (λ d i. apart_from d s (list_all_of (λ (e : List Lit). is_apart e s) divisor d r.0 i)) divisor (All-contains_itself divisor);
      joins =
          All-weaker (Contains divisor) (HasJoin cover s)
          (λ d i. joins_from cover s d (list_all_of (λ (e : List Lit). has_join cover s e) divisor d r.1 i)) divisor (All-contains_itself divisor);
    }

-- a cube of the quotient passes both tests
quotient_tests : (cover divisor : List (List Lit)) (s : List Lit) → All IsCube cover → IsQuotientCube cover divisor s → (all_apart divisor s && all_join cover divisor s) ≡ true
quotient_tests cover divisor s formed q =
    and_from (all_apart divisor s) (all_join cover divisor s)
    (list_all_from (λ (e : List Lit). is_apart e s) divisor (λ d i. apart_is d s (All-contains (IsApart s) divisor d q.apart i)))
    (list_all_from (λ (e : List Lit). has_join cover s e) divisor (λ d i.
    joins_is cover s d formed q.formed (All-contains (IsApart s) divisor d q.apart i) (All-contains (HasJoin cover s) divisor d q.joins i)))

-- a cube of the quotient is what is left of its join to the first cube
left_all : (cover divisor : List (List Lit)) (first s : List Lit) → All IsCube cover → Contains divisor first → IsQuotientCube cover divisor s → Contains (all_left cover divisor first cover) s
left_all cover divisor first s formed there q =
    let j = All-contains (HasJoin cover s) divisor first q.joins there in
    let p = parts_of s first j.cube (joins_at cover s first formed q.formed (All-contains (IsApart s) divisor first q.apart there) j) in
    let tests = subst (λ (x : List Lit). (all_apart divisor x && all_join cover divisor x) ≡ true) (sym p.left) (quotient_tests cover divisor s formed q) in
    let passes = and_from (has_each first j.cube) (all_apart divisor (cube_quotient first j.cube) && all_join cover divisor (cube_quotient first j.cube)) p.has tests in
    subst (λ (x : List Lit). Contains (all_left cover divisor first cover) x) p.left
    (Contains-map (cube_quotient first) (filter (leaves cover divisor first) cover) j.cube (Contains-filter (leaves cover divisor first) cover j.cube passes j.held))

-- what is left, in order, is the quotient
pub quotient_is : (cover divisor : List (List Lit)) (first : List Lit) (left sorted : List (List Lit)) → All IsCube cover → Contains divisor first → left ≡ all_left cover divisor first cover → Ascend sorted → SameCubes sorted left → IsQuotient cover divisor sorted
quotient_is cover divisor first left sorted formed there is up same =
    record {
      ascending = up;
      each =
          All-weaker (Contains sorted) (IsQuotientCube cover divisor)
          (λ s i.
          let m = Contains-from_map (cube_quotient first) (filter (leaves cover divisor first) cover) s (subst (λ (x : List (List Lit)). Contains x s) is (to_back sorted left s same i)) in
          let f = Contains-from_filter (leaves cover divisor first) cover m.0 m.1 in
          subst (IsQuotientCube cover divisor) (sym m.2) (left_each cover divisor first m.0 formed f.0 f.1)) sorted (All-contains_itself sorted);
      all = λ s q. to_there sorted left s same (subst (λ (x : List (List Lit)). Contains x s) (sym is) (left_all cover divisor first s formed there q));
    }
