-- From a cover by some symbols down to the kernel below, and from a kernel below a kernel to a kernel of the cover.
use Rattle.std.proofs.Common.{◌≡◌, ◌∙◌, ◌<◌, ◌≤◌, true, false, List, [], ◌∷◌, ◌++◌, length, get_or, All, Contains, inl, inr, refl, sym, subst, arith}
use Rattle.std.specs.declared.cmp.Ordering.TheVariants.{Less}
use Rattle.std.proofs.lemmas.Bool.{false≢true, and_parts, and_from, false_from_ne_true}
use Rattle.std.proofs.lemmas.List.Elements.{All-contains, All-weaker, All-contains_itself, Contains-get_or}
use Rattle.std.proofs.lemmas.Map.Keys.{Less-from_sorted}
use Rattle.mv_cover.specs.Literal.{Lit}
use Rattle.mv_cover.specs.Cubes.{IsCube}
use Rattle.mv_kernels.specs.Symbols.{has_symbol, has_each, cube_quotient, quotient, all_have, SameCubes}
use Rattle.mv_kernels.specs.Order.{cube_cmp, Ascend}
use Rattle.mv_kernels.specs.Kernels.{IsKernelBy}
use Rattle.mv_kernels.specs.Below.{common_of, HasOneCube, IsBelow}
use Rattle.mv_kernels.proofs.Lists.{Contains-none, Contains-first, Contains-behind, Contains-cons_cases, Contains-filter, Contains-from_filter}
use Rattle.mv_kernels.proofs.Orders.{cube_total, Less-differs}
use Rattle.mv_kernels.proofs.Quotients.{symbol_in, in_symbol, symbol_of_left, each_at, each_from, each_left, each_of_left, has_each-append, same_row, IsCube-cube_quotient, quotient_row, row_in, to_back, to_there, SameCubes-trans, same_quotients, quotient_twice}

-- ---- what all cubes have

pub all_have_at : (cubes : List (List Lit)) (l : Lit) (q : List Lit) → all_have cubes l ≡ true → Contains cubes q → has_symbol q l ≡ true
all_have_at [] l q h i = absurd (Contains-none q i)
all_have_at (p ∷ cubes) l q h i =
    let both = and_parts (has_symbol p l) (all_have cubes l) h in
    elim (Contains-cons_cases q p cubes i) [
      | inl e ↦ subst (λ (x : List Lit). has_symbol x l ≡ true) e both.0
      | inr t ↦ all_have_at cubes l q both.1 t
    ]

pub all_have_from : (cubes : List (List Lit)) (l : Lit) → ((q : List Lit) → Contains cubes q → has_symbol q l ≡ true) → all_have cubes l ≡ true
all_have_from [] l f = refl
all_have_from (p ∷ cubes) l f =
    and_from (has_symbol p l) (all_have cubes l) (f p (Contains-first p cubes)) (all_have_from cubes l (λ q i. f q (Contains-behind q p cubes i)))

common_each : (cubes : List (List Lit)) (q : List Lit) → Contains cubes q → has_each (common_of cubes) q ≡ true
common_each [] q i = absurd (Contains-none q i)
common_each (p ∷ cubes) q i =
    each_from (common_of (p ∷ cubes)) q (λ l s.
    let f = Contains-from_filter (all_have cubes) p l (symbol_in (common_of (p ∷ cubes)) l s) in
    elim (Contains-cons_cases q p cubes i) [
      | inl e ↦ subst (λ (x : List Lit). has_symbol x l ≡ true) e (in_symbol p l f.0)
      | inr t ↦ all_have_at cubes l q f.1 t
    ])

-- a symbol that all cubes have is among those, where there are cubes
common_all : (cubes : List (List Lit)) (l : Lit) (q : List Lit) → Contains cubes q → all_have cubes l ≡ true → has_symbol (common_of cubes) l ≡ true
common_all [] l q i h = absurd (Contains-none q i)
common_all (p ∷ cubes) l q i h =
    let both = and_parts (has_symbol p l) (all_have cubes l) h in
    in_symbol (common_of (p ∷ cubes)) l (Contains-filter (all_have cubes) p l both.1 (symbol_in p l both.0))

-- ---- lists of one cube, and of two

pub one_cube : (cubes : List (List Lit)) → length cubes < 2 → HasOneCube cubes
one_cube [] low = record { one = λ a b ha hb. absurd (Contains-none a ha) }
one_cube (p ∷ []) low = record {
  one = λ a b ha hb.
      elim (Contains-cons_cases a p [] ha) [
        | inl e ↦
            elim (Contains-cons_cases b p [] hb) [
              | inl f ↦ sym e ∙ f
              | inr t ↦ absurd (Contains-none b t)
            ]
        | inr t ↦ absurd (Contains-none a t)
      ];
}
one_cube (p ∷ q ∷ cubes) low = absurd (omega arith)

-- the first two of a list that ascends differ
pub record TwoOf (cubes : List (List Lit)) : Type 0 where
  pub first : List Lit
  pub second : List Lit
  pub first_in : Contains cubes first
  pub second_in : Contains cubes second
  pub differ : first ≡ second → ⊥

pub two_of : (cubes : List (List Lit)) → Ascend cubes → 2 ≤ length cubes → TwoOf cubes
two_of cubes up two =
    let less : cube_cmp (get_or cubes 0 []) (get_or cubes 1 []) ≡ Less = Less-from_sorted cube_cmp cubes 0 1 [] up (omega arith) (omega arith) in
    record {
      first = get_or cubes 0 [];
      second = get_or cubes 1 [];
      first_in = Contains-get_or cubes 0 [] (omega arith);
      second_in = Contains-get_or cubes 1 [] (omega arith);
      differ = Less-differs cube_cmp cube_total (get_or cubes 0 []) (get_or cubes 1 []) less;
    }

-- ---- the kernel that a quotient becomes

-- each cube of a quotient is a cube
formed_quotient : (cover : List (List Lit)) (c q : List Lit) → All IsCube cover → Contains (quotient cover c) q → IsCube q
formed_quotient cover c q formed h =
    let r = quotient_row cover c q h in
    subst (λ (x : List Lit). IsCube x) (sym r.is) (IsCube-cube_quotient c r.cube (All-contains IsCube cover r.cube formed r.held))

-- no two cubes of a quotient differ where what it becomes without the common symbols has one
pub one_behind : (cubes kernel : List (List Lit)) (cover : List (List Lit)) (c : List Lit) → All IsCube cover → cubes ≡ quotient cover c → SameCubes kernel (quotient cubes (common_of cubes)) → length kernel < 2 → HasOneCube cubes
one_behind cubes kernel cover c formed is same low =
    record {
      one = λ a b ha hb.
          let is_cube : (q : List Lit) → Contains cubes q → IsCube q = λ q h. formed_quotient cover c q formed (subst (λ (x : List (List Lit)). Contains x q) is h) in
          let ea = common_each cubes a ha in
          let eb = common_each cubes b hb in
          let ka = to_there kernel (quotient cubes (common_of cubes)) (cube_quotient (common_of cubes) a) same (row_in cubes (common_of cubes) a ha ea) in
          let kb = to_there kernel (quotient cubes (common_of cubes)) (cube_quotient (common_of cubes) b) same (row_in cubes (common_of cubes) b hb eb) in
          same_row (common_of cubes) a b (is_cube a ha) (is_cube b hb) ea eb ((one_cube kernel low).one (cube_quotient (common_of cubes) a) (cube_quotient (common_of cubes) b) ka kb);
    }

-- what is left without the common symbols has none in common
free_of : (cubes kernel : List (List Lit)) → SameCubes kernel (quotient cubes (common_of cubes)) → 2 ≤ length kernel → (l : Lit) → all_have kernel l ≡ false
free_of cubes kernel same two l =
    false_from_ne_true (all_have kernel l) (λ h.
    let c = common_of cubes in
    let x = quotient_row cubes c (get_or kernel 0 []) (to_back kernel (quotient cubes c) (get_or kernel 0 []) same (Contains-get_or kernel 0 [] (omega arith))) in
    let left : (q : List Lit) → Contains cubes q → has_symbol (cube_quotient c q) l ≡ true = λ q i.
    all_have_at kernel l (cube_quotient c q) h (to_there kernel (quotient cubes c) (cube_quotient c q) same (row_in cubes c q i (common_each cubes q i))) in
    let common : has_symbol c l ≡ true = common_all cubes l x.cube x.held (all_have_from cubes l (λ q i. (symbol_of_left c q l (left q i)).1)) in
    let out : has_symbol c l ≡ false = (symbol_of_left c x.cube l (left x.cube x.held)).0 in
    absurd (false≢true (sym out ∙ common)))

-- the quotient by some symbols, without what all of its cubes have, is the kernel below
pub below_from : (cover : List (List Lit)) (c : List Lit) (cubes kernel : List (List Lit)) → cubes ≡ quotient cover c → SameCubes kernel (quotient cubes (common_of cubes)) → Ascend kernel → 2 ≤ length kernel → IsBelow cover c kernel
below_from cover c cubes kernel is same up two =
    let d = common_of cubes in
    let stays : (p : List Lit) → Contains cover p → has_each c p ≡ true → has_each d (cube_quotient c p) ≡ true = λ p i h.
    common_each cubes (cube_quotient c p) (subst (λ (x : List (List Lit)). Contains x (cube_quotient c p)) (sym is) (row_in cover c p i h)) in
    let twice = quotient_twice cover c d (λ p i h _. stays p i h) in
    record {
      common = d;
      is = record {
        ascending = up;
        quotient = SameCubes-trans kernel (quotient (quotient cover c) d) (quotient cover (c ++ d)) (subst (λ (x : List (List Lit)). SameCubes kernel (quotient x d)) is same) twice;
        two = two;
        free = free_of cubes kernel same two;
      };
      rows =
          All-weaker (Contains cover) (λ (q : List Lit). has_each c q ≡ true → has_each (c ++ d) q ≡ true)
          (λ p i h. has_each-append c d p ∙ and_from (has_each c p) (has_each d p) h (each_of_left c d p (stays p i h))) cover (All-contains_itself cover);
    }

-- ---- a kernel below a kernel

-- the symbols that lead down from a kernel are none of those that led to it
pub apart_below : (cover : List (List Lit)) (c : List Lit) (kernel : List (List Lit)) (d : List Lit) (below : List (List Lit)) → IsKernelBy cover c kernel → IsKernelBy kernel d below → (l : Lit) → has_symbol d l ≡ true → has_symbol c l ≡ false
apart_below cover c kernel d below k b l s =
    let x = get_or below 0 [] in
    let r = quotient_row kernel d x (to_back below (quotient kernel d) x b.quotient (Contains-get_or below 0 [] (omega (arith, b.two)))) in
    let o = quotient_row cover c r.cube (to_back kernel (quotient cover c) r.cube k.quotient r.held) in
    (symbol_of_left c o.cube l (subst (λ (q : List Lit). has_symbol q l ≡ true) o.is (each_at d r.cube l r.has s))).0

-- a kernel of a kernel of the cover is a kernel of the cover
pub kernel_below : (cover : List (List Lit)) (c : List Lit) (kernel : List (List Lit)) (d : List Lit) (below : List (List Lit)) → IsKernelBy cover c kernel → IsKernelBy kernel d below → IsKernelBy cover (c ++ d) below
kernel_below cover c kernel d below k b =
    let stays : (p : List Lit) → has_each d p ≡ true → has_each d (cube_quotient c p) ≡ true = λ p h. each_left c d p (apart_below cover c kernel d below k b) h in
    record {
      ascending = b.ascending;
      quotient =
          SameCubes-trans below (quotient kernel d) (quotient cover (c ++ d)) b.quotient
          (SameCubes-trans (quotient kernel d) (quotient (quotient cover c) d) (quotient cover (c ++ d)) (same_quotients kernel (quotient cover c) d k.quotient) (quotient_twice cover c d (λ p i h g. stays p g)));
      two = b.two;
      free = b.free;
    }
