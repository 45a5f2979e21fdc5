-- The products of a quotient and a divisor, counted by the cubes of the divisor.
use Rattle.std.proofs.Common.{◌≡◌, ◌∙◌, ℕ, ◌+◌, ◌*◌, ◌<◌, ◌≤◌, ◌&&◌, Bool, true, false, not, cond, List, [], ◌∷◌, filter, map, length, All, Contains, inl, inr, refl, sym, ap, subst, arith, Decides}
use Rattle.std.specs.Ordering.{eq_by_cmp, is_eq}
use Rattle.std.specs.declared.cmp.Ordering.{Ordering}
use Rattle.std.specs.declared.cmp.Ordering.TheVariants.{Less, Equal, Greater}
use Rattle.std.proofs.lemmas.Cmp.{tied_itself}
use Rattle.std.proofs.lemmas.Bool.{cases_Bool, false≢true, and_parts, and_from, cond-true, cond-false, cond_both, not_from_true, not_from_false, not-false, false_from_ne_true, true_from_ne_false}
use Rattle.std.proofs.lemmas.List.{length-map}
use Rattle.std.proofs.lemmas.List.Elements.{All-contains, All-weaker, All-contains_itself, recursion_from_All}
use Rattle.std.proofs.lemmas.List.Filters.{length-filter_both}
use Rattle.std.proofs.lemmas.List.Folds.{Any-from_list_any, list_any_at}
use Rattle.std.proofs.Math.Nat.{le-mul_of_pos_right}
use Rattle.std.proofs.lemmas.List.Sums.{sum_by-cons}
use Rattle.std.proofs.lemmas.List.Sorted.{sum_by-IsPermutation, length_permutation}
use Rattle.std.proofs.lemmas.Map.Keys.{IsDistinct-tail, IsDistinct-cons, IsDistinct-from_sorted}
use Rattle.std.proofs.lemmas.Map.Made.{AllPairs-from_IsDistinct, IsDistinct-from_AllPairs}
use Rattle.std.proofs.lemmas.Map.Views.{any-filter_same, Contains-from_any, list_any-from_Contains}
use Rattle.std.specs.List.{sum_by, list_any, IsDistinct}
use Rattle.mv_cover.specs.Literal.{Lit}
use Rattle.mv_cover.specs.Cubes.{IsCube}
use Rattle.mv_cover.specs.Equal.{lit_eq, cube_eq}
use Rattle.mv_cover.specs.Keys.{lit_eq-Decides, cube_eq-Decides, cube_eq-equiv}
use Rattle.mv_kernels.specs.Symbols.{has_symbol, has_each, cube_quotient}
use Rattle.mv_kernels.specs.Order.{cube_cmp, Ascend}
use Rattle.mv_kernels.proofs.Lists.{Contains-first, Contains-behind, Contains-map, Contains-from_map, Contains-filter, Contains-from_filter}
use Rattle.mv_kernels.proofs.Orders.{cube_total, cube_order}
use Rattle.mv_kernels.proofs.Quotients.{each_at, symbol_left, same_cube, same_row, IsCube-filter}
use Rattle.mv_divide.specs.Division.{IsApart, HasJoin, IsQuotientCube, IsQuotient, IsProduct}
use Rattle.mv_divide.proofs.Joining.{parts_of, join_from, join_is}
use Rattle.mv_saving.specs.Saving.{literals, AreCubes, IsRest, IsSaving, joined}
use Rattle.mv_saving.proofs.Sums.{first_once, same_members, none_passes, one_passes, sum_filter-cons, sum_split, sum_both, sum_agree, sum_zero}

-- ---- products by a cube of the divisor

-- the cube has each symbol of d, and without them is a cube of the quotient
abbrev is_by : List (List Lit) → List Lit → List Lit → Bool
is_by quotient cube d = has_each d cube && list_any (cube_eq (cube_quotient d cube)) quotient

record By (quotient : List (List Lit)) (cube d : List Lit) : Type 0 where
  has : has_each d cube ≡ true
  left : Contains quotient (cube_quotient d cube)

by_of : (quotient : List (List Lit)) (cube d : List Lit) → is_by quotient cube d ≡ true → By quotient cube d
by_of quotient cube d h =
    let both = and_parts (has_each d cube) (list_any (cube_eq (cube_quotient d cube)) quotient) h in
    record {
      has = both.0;
      left = Contains-from_any {eq = cube_eq} (λ x y e. (cube_eq-Decides x y).0 e) (cube_quotient d cube) quotient both.1;
    }

by_is : (quotient : List (List Lit)) (cube d : List Lit) → has_each d cube ≡ true → Contains quotient (cube_quotient d cube) → is_by quotient cube d ≡ true
by_is quotient cube d h i =
    and_from (has_each d cube) (list_any (cube_eq (cube_quotient d cube)) quotient) h (list_any-from_Contains {eq = cube_eq} cube_eq-equiv (cube_quotient d cube) quotient i)

module _ (cover divisor quotient : List (List Lit)) (q : IsQuotient cover divisor quotient) (cubes : All IsCube cover) (terms : All IsCube divisor) where
  left_is : (s : List Lit) → Contains quotient s → IsQuotientCube cover divisor s
  left_is s i = All-contains (IsQuotientCube cover divisor) quotient s q.each i

  -- a symbol of one such cube of the divisor is one of the other
  within : (cube c d : List Lit) → Contains divisor c → By quotient cube c → By quotient cube d → (l : Lit) → has_symbol c l ≡ true → has_symbol d l ≡ true
  within cube c d i bc bd l t =
      true_from_ne_false (has_symbol d l) (λ f.
      let s = cube_quotient d cube in
      let there : has_symbol s l ≡ true = symbol_left d cube l f (each_at c cube l bc.has t) in
      let apart = All-contains (IsApart s) divisor c (left_is s bd.left).apart i in
      false≢true (sym (apart.none l t) ∙ there))

  -- there is at most one
  by_once : (cube c d : List Lit) → Contains divisor c → Contains divisor d → is_by quotient cube c ≡ true → is_by quotient cube d ≡ true → c ≡ d
  by_once cube c d i j hc hd =
      let bc = by_of quotient cube c hc in
      let bd = by_of quotient cube d hd in
      same_cube c d (All-contains IsCube divisor c terms i) (All-contains IsCube divisor d terms j) (λ l.
      elim (cases_Bool (has_symbol c l)) [
        | inl t ↦ t ∙ sym (within cube c d i bc bd l t)
        | inr f ↦ f ∙ sym (false_from_ne_true (has_symbol d l) (λ t. false≢true (sym f ∙ within cube d c j bd bc l t)))
      ])

  product_by : (cube : List Lit) → Contains cover cube → IsProduct quotient divisor cube → (d : List Lit) × Contains divisor d × (is_by quotient cube d ≡ true)
  product_by cube i p =
      let s = left_is p.left p.left_in in
      let join = join_is p.left p.right cube s.formed (All-contains IsCube cover cube cubes i) (All-contains (IsApart p.left) divisor p.right s.apart p.right_in) p.join in
      let t = parts_of p.left p.right cube join in
      (p.right, p.right_in, by_is quotient cube p.right t.has (subst (λ (x : List Lit). Contains quotient x) (sym t.left) p.left_in))

  by_product : (cube d : List Lit) → Contains divisor d → is_by quotient cube d ≡ true → IsProduct quotient divisor cube
  by_product cube d i h =
      let b = by_of quotient cube d h in
      let s = cube_quotient d cube in
      record {
        left = s;
        left_in = b.left;
        right = d;
        right_in = i;
        join = join_from s d cube (and_from (has_each d cube) (cube_eq s s) b.has ((cube_eq-Decides s s).1 refl));
      }

  -- ---- counting by cubes of the divisor

  module _ (rest : List (List Lit)) (r : IsRest cover divisor quotient rest) (once : IsDistinct cube_eq divisor) where
    abbrev gone : List Lit → Bool
    gone cube = not (r.stays cube)

    count_one : (cube : List Lit) → Contains cover cube → cond (gone cube) (length cube) 0 ≡ sum_by (λ (d : List Lit). cond (is_by quotient cube d) (length cube) 0) divisor
    count_one cube i =
        elim (cases_Bool (r.stays cube)) [
          | inl t ↦
              cond-false (gone cube) (length cube) 0 (not_from_true (r.stays cube) t) ∙
              sym (none_passes cube_eq cube_eq-Decides (is_by quotient cube) (length cube) divisor (λ d j.
              false_from_ne_true (is_by quotient cube d) (λ h. absurd (r.kept cube i t (by_product cube d j h)))))
          | inr f ↦
              let p = product_by cube i (r.gone cube i f) in
              cond-true (gone cube) (length cube) 0 (not_from_false (r.stays cube) f) ∙
              sym (one_passes cube_eq cube_eq-Decides (is_by quotient cube) (length cube) divisor p.0 once p.1 p.2 (λ d j h. by_once cube p.0 d p.1 j p.2 h))
        ]

    counted : (ks : List (List Lit)) → ((k : List Lit) → Contains ks k → Contains cover k) → literals (filter gone ks) ≡ sum_by (λ (d : List Lit). literals (filter (λ (k : List Lit). is_by quotient k d) ks)) divisor
    counted [] f = sym (sum_zero divisor)
    counted (k ∷ ks) f =
        let size : List Lit → ℕ = λ c. length c in
        let here = count_one k (f k (Contains-first k ks)) in
        let more = counted ks (λ x i. f x (Contains-behind x k ks i)) in
        let one : List Lit → ℕ = λ d. cond (is_by quotient k d) (length k) 0 in
        let others : List Lit → ℕ = λ d. literals (filter (λ (x : List Lit). is_by quotient x d) ks) in
        sum_filter-cons size gone k ks ∙ ((λ i. here i + more i) ∙
        (sym (sum_both one others divisor) ∙ (λ i. sum_by (λ (d : List Lit). sym (sum_filter-cons size (λ (x : List Lit). is_by quotient x d) k ks) i) divisor)))

-- ---- the products by one cube of the divisor

equal_is : (r : Ordering) → is_eq r ≡ true → r ≡ Equal
equal_is Less h = absurd (false≢true h)
equal_is Equal h = refl
equal_is Greater h = absurd (false≢true h)

order_decides : (a b : List Lit) → Decides (eq_by_cmp cube_cmp a b) (a ≡ b)
order_decides a b = (
  λ h. cube_order.same a b (equal_is (cube_cmp a b) h),
  λ e. subst (λ (x : List Lit). is_eq (cube_cmp a x) ≡ true) e (ap is_eq (tied_itself cube_total a)),
)

-- cubes that ascend are each there once
pub ascend_once : (cubes : List (List Lit)) → Ascend cubes → IsDistinct cube_eq cubes
ascend_once cubes up = IsDistinct-from_AllPairs cube_eq-Decides cubes (AllPairs-from_IsDistinct order_decides cubes (IsDistinct-from_sorted cube_cmp cubes up))

-- what some of a list's members, each there once, are made by a function that keeps them apart is there once
pub distinct_map : (p : List Lit → Bool) (f : List Lit → List Lit) (xs : List (List Lit)) → IsDistinct cube_eq xs → ((a b : List Lit) → Contains xs a → Contains xs b → p a ≡ true → p b ≡ true → f a ≡ f b → a ≡ b) → IsDistinct cube_eq (map f (filter p xs))
unfolding IsDistinct
distinct_map p f [] d h = tt
distinct_map p f (x ∷ xs) d h =
    let rest = distinct_map p f xs (IsDistinct-tail cube_eq x xs d) (λ a b i j. h a b (Contains-behind a x xs i) (Contains-behind b x xs j)) in
    cond_both (p x) (x ∷ filter p xs) (filter p xs) (λ (ys : List (List Lit)). IsDistinct cube_eq (map f ys))
    (λ t.
    IsDistinct-cons cube_eq (f x) (map f (filter p xs))
    (recursion_from_All (λ (y : List Lit). cube_eq (f x) y ≡ false) (map f (filter p xs))
    (All-weaker (Contains (map f (filter p xs))) (λ (y : List Lit). cube_eq (f x) y ≡ false)
    (λ y i.
    let m = Contains-from_map f (filter p xs) y i in
    let g = Contains-from_filter p xs m.0 m.1 in
    false_from_ne_true (cube_eq (f x) y) (λ v.
    absurd (first_once cube_eq cube_eq-Decides x m.0 xs d g.0
    (h x m.0 (Contains-first x xs) (Contains-behind m.0 x xs g.0) t g.1 ((cube_eq-Decides (f x) y).0 v ∙ m.2))))) (map f (filter p xs)) (All-contains_itself (map f (filter p xs))))) rest)
    (λ _. rest)

-- a cube has as many literals as what is left without some of its symbols, and these
length_left : (d cube : List Lit) → IsCube d → IsCube cube → has_each d cube ≡ true → length cube ≡ length (cube_quotient d cube) + length d
length_left d cube fd fc h =
    let p : Lit → Bool = λ l. not (has_symbol d l) in
    let taken : filter (has_symbol d) cube ≡ d =
    same_cube (filter (has_symbol d) cube) d (IsCube-filter (has_symbol d) cube fc) fd (λ l.
    let is : has_symbol (filter (has_symbol d) cube) l ≡ (has_symbol d l && has_symbol cube l) = any-filter_same (λ (m : Lit). lit_eq m l) (has_symbol d) (has_symbol d l) (λ m e. ap (has_symbol d) ((lit_eq-Decides m l).0 e)) cube in
    elim (cases_Bool (has_symbol d l)) [
      | inl t ↦ is ∙ ((λ i. t i && has_symbol cube l) ∙ (each_at d cube l h t ∙ sym t))
      | inr f ↦ is ∙ ((λ i. f i && has_symbol cube l) ∙ sym f)
    ]) in
    let sizes = length-filter_both (has_symbol d) p (λ l. refl) cube in
    let same : length (filter (has_symbol d) cube) ≡ length d = ap (λ (x : List Lit). length x) taken in
    omega (arith, sizes, same)

lengths_left : (d : List Lit) (ks : List (List Lit)) → IsCube d → ((k : List Lit) → Contains ks k → IsCube k × (has_each d k ≡ true)) → literals ks ≡ literals (map (cube_quotient d) ks) + length ks * length d
lengths_left d [] fd h = omega arith
lengths_left d (k ∷ ks) fd h =
    let size : List Lit → ℕ = λ c. length c in
    let here = h k (Contains-first k ks) in
    let one = length_left d k fd here.0 here.1 in
    let more = lengths_left d ks fd (λ x i. h x (Contains-behind x k ks i)) in
    rw (sum_by-cons size k ks, sum_by-cons size (cube_quotient d k) (map (cube_quotient d) ks)) (omega (arith, one, more))

-- the literals of the joins to one cube of the divisor
joins_by : (cover divisor quotient : List (List Lit)) (d : List Lit) → AreCubes cover → All IsCube divisor → IsQuotient cover divisor quotient → Contains divisor d → literals (filter (λ (k : List Lit). is_by quotient k d) cover) ≡ literals quotient + length quotient * length d
joins_by cover divisor quotient d a terms q i =
    let p : List Lit → Bool = λ k. is_by quotient k d in
    let ks = filter p cover in
    let made = map (cube_quotient d) ks in
    let fd = All-contains IsCube divisor d terms i in
    let cube : (k : List Lit) → Contains cover k → IsCube k = λ k j. All-contains IsCube cover k a.formed j in
    let apart : IsDistinct cube_eq made = distinct_map p (cube_quotient d) cover a.distinct (λ x y j k t u e.
    same_row d x y (cube x j) (cube y k) (by_of quotient x d t).has (by_of quotient y d u).has e) in
    let moved = same_members cube_eq cube_eq-Decides made quotient apart (ascend_once quotient q.ascending)
    (λ x j.
    let m = Contains-from_map (cube_quotient d) ks x j in
    let f = Contains-from_filter p cover m.0 m.1 in
    subst (λ (y : List Lit). Contains quotient y) (sym m.2) (by_of quotient m.0 d f.1).left)
    (λ s j.
    let c = All-contains (IsQuotientCube cover divisor) quotient s q.each j in
    let w = All-contains (HasJoin cover s) divisor d c.joins i in
    let t = parts_of s d w.cube (join_is s d w.cube c.formed (cube w.cube w.held) (All-contains (IsApart s) divisor d c.apart i) w.join) in
    let passes = by_is quotient w.cube d t.has (subst (λ (y : List Lit). Contains quotient y) (sym t.left) j) in
    subst (λ (y : List Lit). Contains made y) t.left (Contains-map (cube_quotient d) ks w.cube (Contains-filter p cover w.cube passes w.held))) in
    let all = lengths_left d ks fd (λ k j.
    let f = Contains-from_filter p cover k j in
    (cube k f.0, (by_of quotient k d f.1).has)) in
    let sums : literals quotient ≡ literals made = sum_by-IsPermutation (λ (c : List Lit). length c) made quotient moved in
    let long : length quotient ≡ length ks = length_permutation made quotient moved ∙ length-map ks (cube_quotient d) in
    all ∙ (λ j. sym sums j + sym long j * length d)

-- ---- the whole cover

pub literals_are : (cover divisor quotient rest : List (List Lit)) → AreCubes cover → AreCubes divisor → IsQuotient cover divisor quotient → IsRest cover divisor quotient rest → literals cover ≡ literals rest + joined divisor quotient
literals_are cover divisor quotient rest a b q r =
    let by : List Lit → ℕ = λ d. literals (filter (λ (k : List Lit). is_by quotient k d) cover) in
    let each = sum_agree by (λ (d : List Lit). literals quotient + length quotient * length d) divisor (λ d i. joins_by cover divisor quotient d a b.formed q i) in
    let parts = sum_split (λ (c : List Lit). length c) r.stays cover in
    let products = counted cover divisor quotient q a.formed b.formed rest r b.distinct cover (λ k i. i) in
    parts ∙ (λ i. literals (sym r.is i) + (products ∙ each) i)

-- ---- what is saved

-- the rest by a test
rest_by : (cover divisor quotient : List (List Lit)) → AreCubes cover → AreCubes divisor → IsQuotient cover divisor quotient → (rest : List (List Lit)) × IsRest cover divisor quotient rest
rest_by cover divisor quotient a b q =
    let test : List Lit → Bool = λ k. list_any (is_by quotient k) divisor in (
      filter (λ (k : List Lit). not (test k)) cover,
      record {
        stays = λ k. not (test k);
        kept = λ k i t p.
            let d = product_by cover divisor quotient q a.formed b.formed k i p in
            let at = d.1 in
            let passes : test k ≡ true = list_any_at (is_by quotient k) divisor at.0 d.0 at.1 (subst (λ (x : List Lit). is_by quotient k x ≡ true) (sym at.2) d.2) in
            false≢true (sym (not_from_true (test k) passes) ∙ t);
        gone = λ k i f.
            let at = Any-from_list_any (is_by quotient k) divisor (not-false (test k) f) in
            by_product cover divisor quotient q a.formed b.formed k at.1 (at.0, at.2, at.3) at.4;
        is = refl;
      },
    )

-- all joins have no more literals than the cover
pub joined_within : (cover divisor quotient : List (List Lit)) → AreCubes cover → AreCubes divisor → IsQuotient cover divisor quotient → joined divisor quotient ≤ literals cover
joined_within cover divisor quotient a b q =
    let r = rest_by cover divisor quotient a b q in
    let all = literals_are cover divisor quotient r.0 a b q r.1 in
    omega (arith, all)

-- as many as the quotient's literals for each cube of the divisor, and the divisor's for each of the quotient
pub joined_is : (divisor quotient : List (List Lit)) → joined divisor quotient ≡ literals quotient * length divisor + length quotient * literals divisor
joined_is [] quotient = omega arith
joined_is (d ∷ divisor) quotient =
    let size : List Lit → ℕ = λ c. length c in
    let one : List Lit → ℕ = λ x. literals quotient + length quotient * length x in
    let rest = joined_is divisor quotient in
    rw (sum_by-cons one d divisor, sum_by-cons size d divisor) (omega (arith, rest))

-- some cube of the divisor has literals, so it has cubes
some_cubes : (divisor : List (List Lit)) → 0 < literals divisor → 0 < length divisor
some_cubes [] some = absurd (omega arith)
some_cubes (d ∷ divisor) some = omega arith

-- the joins have at least the literals of the quotient and of its cubes' new ones
pub joined_enough : (divisor quotient : List (List Lit)) → 0 < literals divisor → literals quotient + length quotient ≤ joined divisor quotient
joined_enough divisor quotient some =
    let is = joined_is divisor quotient in
    let first = le-mul_of_pos_right (literals quotient) (some_cubes divisor some) in
    let second = le-mul_of_pos_right (length quotient) some in
    omega (arith, is, first, second)

pub saving_is : (cover divisor quotient : List (List Lit)) (saved : ℕ) → AreCubes cover → AreCubes divisor → IsQuotient cover divisor quotient → saved + (literals quotient + length quotient) ≡ joined divisor quotient → IsSaving cover divisor saved
saving_is cover divisor quotient saved a b q e =
    let r = rest_by cover divisor quotient a b q in
    let all = literals_are cover divisor quotient r.0 a b q r.1 in
    record { quotient = quotient; is = q; rest = r.0; are = r.1; less = omega (arith, all, e) }

-- the numbers of a division: the literals of the cover, those of the joins in two parts, and those of what comes in their place
pub record Counts (now first second new all : ℕ) : Type 0 where
  pub is : all ≡ first + second
  pub within : first + second ≤ now
  pub enough : new ≤ first + second

pub counts : (cover divisor quotient : List (List Lit)) (now own left : ℕ) → now ≡ literals cover → own ≡ literals divisor → left ≡ literals quotient → AreCubes cover → AreCubes divisor → IsQuotient cover divisor quotient → 0 < literals divisor → Counts now (left * length divisor) (length quotient * own) (left + length quotient) (joined divisor quotient)
counts cover divisor quotient now own left n o l a b q some =
    let is : joined divisor quotient ≡ left * length divisor + length quotient * own = joined_is divisor quotient ∙ (λ i. sym l i * length divisor + length quotient * sym o i) in
    let most = joined_within cover divisor quotient a b q in
    let least = joined_enough divisor quotient some in
    record { is = is; within = omega (arith, is, most, n); enough = omega (arith, is, least, l) }
