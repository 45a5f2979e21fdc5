-- The order of cubes is total, lists that ascend are told by their members, and cubes ascend.
use Rattle.std.proofs.Common.{◌≡◌, ◌∙◌, ℕ, ◌-◌, ◌≤◌, true, drop, List, [], ◌∷◌, length, All, Contains, inl, inr, refl, sym, ap, subst, arith, nat_lt}
use Rattle.std.specs.Ordering.{nat_cmp, ordering_reverse, eq_by_cmp, is_eq}
use Rattle.std.specs.declared.cmp.Ordering.{Ordering}
use Rattle.std.specs.declared.cmp.Ordering.TheVariants.{Less, Equal, Greater}
use Rattle.std.specs.Cmp.{IsTotalOrder, both_tied, unsigned_ties}
use Rattle.std.specs.Cmp.Lexicographic.{lists_total, lists_ties, slice_cmp, pointwise, pointwise_decides}
use Rattle.std.specs.List.Sorted.{IsStrictlySortedBy, IsSorted, IsPermutation}
use Rattle.std.specs.List.Retain.{IsFiltered, DiffersFromLast}
use Rattle.std.proofs.lemmas.Bool.{and_parts, lt-ltb, le-ltb, eq-eqb}
use Rattle.std.proofs.lemmas.Cmp.{nat_cmp_total, on_total, then_total, tied_itself}
use Rattle.std.proofs.lemmas.List.Elements.{All-contains, All-cons, All-weaker, recursion_from_All}
use Rattle.std.proofs.lemmas.List.{length-drop}
use Rattle.std.proofs.lemmas.List.Filters.{dedup_is}
use Rattle.std.proofs.lemmas.List.Kept.{IsStrictlySortedBy-dedup, Contains-dedup, Contains-from_dedup}
use Rattle.std.proofs.lemmas.List.Sorted.{IsPermutation-sym, Contains-permutation}
use Rattle.std.proofs.lemmas.Map.Keys.{sorted_tail}
use Rattle.std.proofs.lemmas.Map.Views.{All-after_first}
use Rattle.mv_cover.specs.Literal.{Lit}
use Rattle.mv_cover.specs.Cubes.{nets_ascend}
use Rattle.mv_cover.specs.Equal.{lit_eq, cube_eq}
use Rattle.mv_cover.specs.Keys.{cube_eq-Decides, cube_eq-equiv}
use Rattle.mv_kernels.specs.Symbols.{SameCubes}
use Rattle.mv_kernels.specs.Order.{lit_cmp, cube_cmp, cubes_cmp, Ascend, IsOrder}
use Rattle.mv_kernels.proofs.Lists.{Contains-none, Contains-first, Contains-behind, Contains-cons_cases, All-Contains}

-- ---- the orders

pub lit_total : IsTotalOrder lit_cmp
lit_total = then_total (on_total (λ (l : Lit). l.net.0) nat_cmp_total) (on_total (λ (l : Lit). l.set) nat_cmp_total)

pub cube_total : IsTotalOrder cube_cmp
cube_total = lists_total lit_total

pub cubes_total : IsTotalOrder cubes_cmp
cubes_total = lists_total cube_total

-- ---- lists that ascend

-- what comes before another isn't equal to it
pub Less-differs : {K : Type 0} (R : K → K → Ordering) → IsTotalOrder R → (x y : K) → R x y ≡ Less → x ≡ y → ⊥
Less-differs R o x y less e =
    let tied : R x y ≡ Equal = subst (λ z. R x z ≡ Equal) e (tied_itself o x) in
    let no : Less ≡ Equal = sym less ∙ tied in
    absurd (cc)

module _ {K : Type 0} (R : K → K → Ordering) (o : IsTotalOrder R) where
  not_both : (x y : K) → R x y ≡ Less → R y x ≡ Less → ⊥
  not_both x y a b =
      let back : R x y ≡ Greater = o.antisymm x y ∙ ap ordering_reverse b in
      let no : Less ≡ Greater = sym a ∙ back in
      absurd (cc)

  -- lists that ascend and have the same members begin with the same one
  same_first : (x y : K) (xs ys : List K) → IsStrictlySortedBy R (x ∷ xs) → IsStrictlySortedBy R (y ∷ ys) → Contains (y ∷ ys) x → Contains (x ∷ xs) y → x ≡ y
  same_first x y xs ys p q a b =
      elim (Contains-cons_cases x y ys a) [
        | inl e ↦ sym e
        | inr s ↦
            elim (Contains-cons_cases y x xs b) [
              | inl e ↦ e
              | inr t ↦ absurd (not_both x y (All-contains (λ z. R x z ≡ Less) xs y (All-after_first R x xs p) t) (All-contains (λ z. R y z ≡ Less) ys x (All-after_first R y ys q) s))
            ]
      ]

  -- a member behind the first of one is a member behind the first of the other
  behind_first : (x y : K) (xs ys : List K) → x ≡ y → IsStrictlySortedBy R (x ∷ xs) → All (Contains (y ∷ ys)) (x ∷ xs) → All (Contains ys) xs
  behind_first x y xs ys e p a =
      All-Contains xs ys (λ z h.
      elim (Contains-cons_cases z y ys (All-contains (Contains (y ∷ ys)) (x ∷ xs) z a (Contains-behind z x xs h))) [
        | inl f ↦ absurd (Less-differs R o x z (All-contains (λ w. R x w ≡ Less) xs z (All-after_first R x xs p) h) (e ∙ f))
        | inr t ↦ t
      ])

  pub same_sorted : (xs ys : List K) → IsStrictlySortedBy R xs → IsStrictlySortedBy R ys → All (Contains ys) xs → All (Contains xs) ys → xs ≡ ys
  same_sorted [] [] p q a b = refl
  same_sorted [] (y ∷ ys) p q a b = absurd (Contains-none y (All-contains (Contains []) (y ∷ ys) y b (Contains-first y ys)))
  same_sorted (x ∷ xs) [] p q a b = absurd (Contains-none x (All-contains (Contains []) (x ∷ xs) x a (Contains-first x xs)))
  same_sorted (x ∷ xs) (y ∷ ys) p q a b =
      let e : x ≡ y = same_first x y xs ys p q (All-contains (Contains (y ∷ ys)) (x ∷ xs) x a (Contains-first x xs)) (All-contains (Contains (x ∷ xs)) (y ∷ ys) y b (Contains-first y ys)) in
      let rest : xs ≡ ys = same_sorted xs ys (sorted_tail R x xs p) (sorted_tail R y ys q) (behind_first x y xs ys e p a) (behind_first y x ys xs (sym e) q b) in
      λ i. e i ∷ rest i

-- ---- cubes

lower : (l m : Lit) → nat_lt l.net.0 m.net.0 ≡ true → lit_cmp l m ≡ Less
lower l m h = rw h refl

-- the literals of a cube ascend
pub sorted_cube : (c : List Lit) → nets_ascend c ≡ true → IsStrictlySortedBy lit_cmp c
unfolding IsStrictlySortedBy
sorted_cube [] h = tt
sorted_cube (l ∷ []) h = (tt, tt)
sorted_cube (l ∷ m ∷ c) h =
    let p = and_parts (nat_lt l.net.0 m.net.0) (nets_ascend (m ∷ c)) h in
    let rest = sorted_cube (m ∷ c) p.1 in
    let near = lower l m p.0 in
    let far = All-weaker (λ (n : Lit). lit_cmp m n ≡ Less) (λ (n : Lit). lit_cmp l n ≡ Less) (λ n e. lit_total.trans l m n near e) c (All-after_first lit_cmp m c rest) in
    (recursion_from_All (λ (n : Lit). lit_cmp l n ≡ Less) (m ∷ c) (All-cons (λ (n : Lit). lit_cmp l n ≡ Less) m c near far), rest)

-- ---- sorting

lit_ties : (a b : Lit) → lit_eq a b ≡ eq_by_cmp lit_cmp a b
lit_ties a b = both_tied _ _ (nat_cmp a.net.0 b.net.0) (nat_cmp a.set b.set) (unsigned_ties a.net.0 b.net.0) (unsigned_ties a.set b.set)

-- equal cubes tie
cube_ties : (a b : List Lit) → cube_eq a b ≡ eq_by_cmp cube_cmp a b
cube_ties = lists_ties lit_cmp lit_ties

-- equal lists of cubes tie
cubes_ties : (a b : List (List Lit)) → pointwise cube_eq a b ≡ eq_by_cmp cubes_cmp a b
cubes_ties = lists_ties cube_cmp cube_ties

pub cube_order : IsOrder cube_cmp
cube_order = record { total = cube_total; same = λ a b e. (cube_eq-Decides a b).0 (cube_ties a b ∙ ap is_eq e) }

pub cubes_order : IsOrder cubes_cmp
cubes_order = record {
  total = cubes_total;
  same = λ a b e. (pointwise_decides cube_eq-Decides a b).0 (cubes_ties a b ∙ ap is_eq e);
}

-- sorted cubes ascend when equal neighbours are gone
pub ascend-dedup : (sorted left : List (List Lit)) → IsSorted cube_cmp sorted → IsFiltered (DiffersFromLast cube_eq) [] sorted left → Ascend left
ascend-dedup sorted left up gone =
    subst (λ (x : List (List Lit)). Ascend x) (sym (dedup_is cube_eq sorted left gone)) (IsStrictlySortedBy-dedup cube_total cube_ties sorted up)

-- and they are those that were there
pub same-dedup : (cubes sorted left : List (List Lit)) → IsPermutation cubes sorted → IsFiltered (DiffersFromLast cube_eq) [] sorted left → SameCubes left cubes
same-dedup cubes sorted left moved gone =
    let is = dedup_is cube_eq sorted left gone in
    record {
      there =
          All-Contains left cubes (λ q h.
          Contains-permutation sorted cubes q (IsPermutation-sym cubes sorted moved)
          (Contains-from_dedup cube_eq sorted q (subst (λ (x : List (List Lit)). Contains x q) is h)));
      back =
          All-Contains cubes left (λ q h.
          subst (λ (x : List (List Lit)). Contains x q) (sym is)
          (Contains-dedup cube_eq-equiv (λ x y e. (cube_eq-Decides x y).0 e) sorted q (Contains-permutation cubes sorted q moved h)));
    }

-- ---- comparing two lists place by place

-- where the first has ended, the lengths decide
pub cmp-ended : {K : Type 0} (R : K → K → Ordering) (a b : List K) (i : ℕ) → length a ≤ i → i ≤ length b → i ≤ length a → slice_cmp R (drop i a) (drop i b) ≡ nat_cmp (length a) (length b)
cmp-ended {K = K} R a b i past within upto = by (drop i a) (drop i b) (length-drop i a) (length-drop i b)
  where
    by : (x y : List K) → length x ≡ length a - i → length y ≡ length b - i → slice_cmp R x y ≡ nat_cmp (length a) (length b)
    by [] [] ex ey = rw (le-ltb (length a) (length b) (omega arith), eq-eqb (length a) (length b) (omega arith)) refl
    by [] (m ∷ ms) ex ey = rw (lt-ltb (length a) (length b) (omega arith)) refl
    by (l ∷ ls) y ex ey = absurd (omega arith)
