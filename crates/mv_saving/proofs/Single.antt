-- What dividing a cover by a single cube saves: for each cube that has its symbols all of them but one.
use Rattle.std.proofs.Common.{◌≡◌, ◌∙◌, ℕ, ◌+◌, ◌*◌, ◌⊎◌, inl, inr, ◌&&◌, true, not, List, [], ◌∷◌, filter, map, length, All, Contains, refl, sym, ap, subst, arith}
use Rattle.std.proofs.lemmas.Bool.{and_from}
use Rattle.std.proofs.lemmas.List.{length-map}
use Rattle.std.proofs.lemmas.List.Elements.{All-nil, All-cons, All-head, All-contains, All-weaker, All-contains_itself, All-from_recursion, recursion_from_All}
use Rattle.std.proofs.lemmas.List.Sorted.{length_permutation}
use Rattle.std.proofs.lemmas.List.Sums.{length-filter}
use Rattle.std.specs.List.{count_by, IsDistinct}
use Rattle.std.specs.List.Sorted.{IsPermutation, IsStrictlySortedBy}
use Rattle.std.specs.Ordering.{ordering_reverse}
use Rattle.std.specs.declared.cmp.Ordering.{Ordering}
use Rattle.std.specs.declared.cmp.Ordering.TheVariants.{Less, Equal, Greater}
use Rattle.mv_cover.specs.Literal.{Lit}
use Rattle.mv_cover.specs.Cubes.{IsCube}
use Rattle.mv_cover.specs.Equal.{cube_eq}
use Rattle.mv_cover.specs.Keys.{cube_eq-Decides}
use Rattle.mv_kernels.specs.Symbols.{has_symbol, has_each, cube_quotient}
use Rattle.mv_kernels.specs.Order.{Ascend, cube_cmp}
use Rattle.mv_kernels.proofs.Orders.{cube_order, cube_total}
use Rattle.mv_kernels.proofs.Lists.{Contains-none, Contains-first, Contains-behind, Contains-cons_cases, Contains-map, Contains-from_map, Contains-filter, Contains-from_filter}
use Rattle.mv_kernels.proofs.Quotients.{same_row, has_symbol-cube_quotient, IsCube-cube_quotient}
use Rattle.mv_divide.specs.Division.{IsApart, HasJoin, IsQuotientCube, IsQuotient}
use Rattle.mv_divide.proofs.Joining.{parts_of, join_from, join_is}
use Rattle.mv_saving.specs.Saving.{AreCubes, IsSaving}
use Rattle.mv_saving.proofs.Counting.{ascend_once, distinct_map, literals_are, saving_is}
use Rattle.mv_saving.proofs.Sums.{same_members}

-- ---- cubes in order

-- the ascending cubes with one more
record Put (x : List Lit) (ys : List (List Lit)) : Type 0 where
  list : List (List Lit)
  up : Ascend list
  has : Contains list x
  keeps : (z : List Lit) → Contains ys z → Contains list z
  from : (z : List Lit) → Contains list z → (x ≡ z) ⊎ Contains ys z

below_all : (x y : List Lit) (ys : List (List Lit)) → cube_cmp x y ≡ Less → Ascend (y ∷ ys) → All (λ (z : List Lit). cube_cmp x z ≡ Less) (y ∷ ys)
unfolding IsStrictlySortedBy
below_all x y ys near up =
    All-cons (λ (z : List Lit). cube_cmp x z ≡ Less) y ys near
    (All-weaker (λ (z : List Lit). cube_cmp y z ≡ Less) (λ (z : List Lit). cube_cmp x z ≡ Less) (λ z e. cube_total.trans x y z near e) ys (All-from_recursion (λ (z : List Lit). cube_cmp y z ≡ Less) ys up.0))

put_in : (x : List Lit) (ys : List (List Lit)) → Ascend ys → Put x ys
unfolding IsStrictlySortedBy
put_in x [] up = record {
  list = x ∷ [];
  up = (tt, tt);
  has = Contains-first x [];
  keeps = λ z i. absurd (Contains-none z i);
  from = λ z i. Contains-cons_cases z x [] i;
}
put_in x (y ∷ ys) up = by (put_in x ys up.1) (cube_cmp x y) refl
  where
    by : Put x ys → (r : Ordering) → cube_cmp x y ≡ r → Put x (y ∷ ys)
    by rest Less e = record {
      list = x ∷ y ∷ ys;
      up = (recursion_from_All (λ (z : List Lit). cube_cmp x z ≡ Less) (y ∷ ys) (below_all x y ys e up), up);
      has = Contains-first x (y ∷ ys);
      keeps = λ z i. Contains-behind z x (y ∷ ys) i;
      from = λ z i. Contains-cons_cases z x (y ∷ ys) i;
    }
    by rest Equal e = record {
      list = y ∷ ys;
      up = up;
      has = subst (Contains (y ∷ ys)) (sym (cube_order.same x y e)) (Contains-first y ys);
      keeps = λ z i. i;
      from = λ z i. inr i;
    }
    by rest Greater e =
        let after : cube_cmp y x ≡ Less = cube_total.antisymm y x ∙ ap ordering_reverse e in
        record {
          list = y ∷ rest.list;
          up = (
            recursion_from_All (λ (z : List Lit). cube_cmp y z ≡ Less) rest.list
                (All-weaker (Contains rest.list) (λ (z : List Lit). cube_cmp y z ≡ Less)
                (λ z i.
                elim (rest.from z i) [
                  | inl is ↦ subst (λ (w : List Lit). cube_cmp y w ≡ Less) is after
                  | inr t ↦ All-contains (λ (w : List Lit). cube_cmp y w ≡ Less) ys z (All-from_recursion (λ (w : List Lit). cube_cmp y w ≡ Less) ys up.0) t
                ]) rest.list (All-contains_itself rest.list)),
            rest.up,
          );
          has = Contains-behind x y rest.list rest.has;
          keeps = λ z i.
              elim (Contains-cons_cases z y ys i) [
                | inl is ↦ subst (Contains (y ∷ rest.list)) is (Contains-first y rest.list)
                | inr t ↦ Contains-behind z y rest.list (rest.keeps z t)
              ];
          from = λ z i.
              elim (Contains-cons_cases z y rest.list i) [
                | inl is ↦ inr (subst (Contains (y ∷ ys)) is (Contains-first y ys))
                | inr t ↦ elim (rest.from z t) [ inl is ↦ inl is | inr u ↦ inr (Contains-behind z y ys u) ]
              ];
        }

-- some cubes in ascending order
record Sorted (xs : List (List Lit)) : Type 0 where
  list : List (List Lit)
  up : Ascend list
  has : (z : List Lit) → Contains xs z → Contains list z
  from : (z : List Lit) → Contains list z → Contains xs z

sorted_of : (xs : List (List Lit)) → Sorted xs
unfolding IsStrictlySortedBy
sorted_of [] = record { list = []; up = tt; has = λ z i. i; from = λ z i. i }
sorted_of (x ∷ xs) =
    let rest = sorted_of xs in
    let put = put_in x rest.list rest.up in
    record {
      list = put.list;
      up = put.up;
      has = λ z i.
          elim (Contains-cons_cases z x xs i) [
            | inl is ↦ subst (Contains put.list) is put.has
            | inr t ↦ put.keeps z (rest.has z t)
          ];
      from = λ z i.
          elim (put.from z i) [
            | inl is ↦ subst (Contains (x ∷ xs)) is (Contains-first x xs)
            | inr t ↦ Contains-behind z x xs (rest.from z t)
          ];
    }

module _ (cover : List (List Lit)) (d : List Lit) (a : AreCubes cover) (fd : IsCube d) where
  abbrev having : List (List Lit)
  having = filter (has_each d) cover

  cube : (k : List Lit) → Contains cover k → IsCube k
  cube k i = All-contains IsCube cover k a.formed i

  left_is : (k : List Lit) → Contains cover k → has_each d k ≡ true → IsQuotientCube cover (d ∷ []) (cube_quotient d k)
  left_is k i t =
      let s = cube_quotient d k in
      let apart : IsApart s d = record { none = λ l v. has_symbol-cube_quotient d k l ∙ ap (λ b. not b && has_symbol k l) v } in
      let join : HasJoin cover s d = record { cube = k; held = i; join = join_from s d k (and_from (has_each d k) (cube_eq s s) t ((cube_eq-Decides s s).1 refl)) } in
      record {
        formed = IsCube-cube_quotient d k (cube k i);
        apart = All-cons (IsApart s) d [] apart (All-nil (IsApart s));
        joins = All-cons (HasJoin cover s) d [] join (All-nil (HasJoin cover s));
      }

  -- the quotient has what is left of each cube that has the symbols
  quotient_left : (quotient : List (List Lit)) → IsQuotient cover (d ∷ []) quotient → IsPermutation (map (cube_quotient d) having) quotient
  quotient_left quotient q =
      let made = map (cube_quotient d) having in
      let apart : IsDistinct cube_eq made = distinct_map (has_each d) (cube_quotient d) cover a.distinct (λ x y i j t u e. same_row d x y (cube x i) (cube y j) t u e) in
      same_members cube_eq cube_eq-Decides made quotient apart (ascend_once quotient q.ascending)
      (λ x j.
      let m = Contains-from_map (cube_quotient d) having x j in
      let f = Contains-from_filter (has_each d) cover m.0 m.1 in
      subst (λ (y : List Lit). Contains quotient y) (sym m.2) (q.all (cube_quotient d m.0) (left_is m.0 f.0 f.1)))
      (λ s j.
      let c = All-contains (IsQuotientCube cover (d ∷ [])) quotient s q.each j in
      let w = All-head (HasJoin cover s) d [] c.joins in
      let t = parts_of s d w.cube (join_is s d w.cube c.formed (cube w.cube w.held) (All-head (IsApart s) d [] c.apart) w.join) in
      subst (λ (y : List Lit). Contains made y) t.left (Contains-map (cube_quotient d) having w.cube (Contains-filter (has_each d) cover w.cube t.has w.held)))

  pub single_saving : (saved : ℕ) → AreCubes (d ∷ []) → IsSaving cover (d ∷ []) saved → saved + count_by (has_each d) cover ≡ count_by (has_each d) cover * length d
  single_saving saved single s =
      let all = literals_are cover (d ∷ []) s.quotient s.rest a single s.is s.are in
      let moved = quotient_left s.quotient s.is in
      let long : length s.quotient ≡ count_by (has_each d) cover =
      length_permutation (map (cube_quotient d) having) s.quotient moved ∙ (length-map having (cube_quotient d) ∙ length-filter (has_each d) cover) in
      let less = s.less in
      let times : length s.quotient * length d ≡ count_by (has_each d) cover * length d = ap (λ n. n * length d) long in
      omega (arith, all, less, long, times)

  -- ---- there is a quotient

  pub single_quotient : (q : List (List Lit)) × IsQuotient cover (d ∷ []) q
  single_quotient =
      let made = map (cube_quotient d) having in
      let sorted = sorted_of made in
      let from : (s : List Lit) → Contains sorted.list s → IsQuotientCube cover (d ∷ []) s = λ s j.
      let m = Contains-from_map (cube_quotient d) having s (sorted.from s j) in
      let f = Contains-from_filter (has_each d) cover m.0 m.1 in
      subst (λ (y : List Lit). IsQuotientCube cover (d ∷ []) y) (sym m.2) (left_is m.0 f.0 f.1) in (
        sorted.list,
        record {
          ascending = sorted.up;
          each = All-weaker (Contains sorted.list) (IsQuotientCube cover (d ∷ [])) from sorted.list (All-contains_itself sorted.list);
          all = λ s c.
              let w = All-head (HasJoin cover s) d [] c.joins in
              let t = parts_of s d w.cube (join_is s d w.cube c.formed (cube w.cube w.held) (All-head (IsApart s) d [] c.apart) w.join) in
              sorted.has s (subst (λ (y : List Lit). Contains made y) t.left (Contains-map (cube_quotient d) having w.cube (Contains-filter (has_each d) cover w.cube t.has w.held)));
        },
      )

  -- and so it saves that
  pub single_saves : (saved : ℕ) → AreCubes (d ∷ []) → saved + count_by (has_each d) cover ≡ count_by (has_each d) cover * length d → IsSaving cover (d ∷ []) saved
  single_saves saved single e =
      let q = single_quotient in
      let moved = quotient_left q.0 q.1 in
      let long : length q.0 ≡ count_by (has_each d) cover =
      length_permutation (map (cube_quotient d) having) q.0 moved ∙ (length-map having (cube_quotient d) ∙ length-filter (has_each d) cover) in
      let times : length q.0 * length d ≡ count_by (has_each d) cover * length d = ap (λ n. n * length d) long in
      saving_is cover (d ∷ []) q.0 saved a single q.1 (omega (arith, e, long, times))
