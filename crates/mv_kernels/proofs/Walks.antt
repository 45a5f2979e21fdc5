-- The walk down from the cover misses no kernel.
use Rattle.std.proofs.Common.{◌≡◌, ◌∙◌, ℕ, ◌+◌, ◌<◌, ◌≤◌, true, false, ◌&&◌, List, [], ◌∷◌, ◌++◌, length, get_or, slice_get, Some, None, take, All, Contains, inl, inr, refl, sym, ap, subst, arith}
use Rattle.std.proofs.lemmas.Bool.{cases_Bool, false≢true, and_parts, and_from, and_right, false_from_ne_true}
use Rattle.std.proofs.lemmas.List.{take-append-le, take_all}
use Rattle.std.proofs.lemmas.Option.{get_or_from_slice_get, slice_get_within, slice_get_cases}
use Rattle.std.proofs.lemmas.List.Elements.{All-push, Contains-push, All-contains, All-weaker, All-get_or, All-more, Contains-append_left}
use Rattle.std.specs.List.{list_any, IsDistinct}
use Rattle.std.proofs.lemmas.Map.Keys.{apart_from_distinct, IsDistinct-from_apart}
use Rattle.std.proofs.lemmas.Map.Made.{is_member-Decides, length-le_from_is_member}
use Rattle.indexmap.specs.IndexSet.{insert_all}
use Rattle.mv_base.specs.declared.limits.TheConstants.{MAX_KERNELS}
use Rattle.mv_cover.specs.Literal.{Lit}
use Rattle.mv_cover.specs.Cubes.{IsCube}
use Rattle.mv_cover.specs.Equal.{lit_eq}
use Rattle.mv_cover.specs.Keys.{lit_eq-Decides}
use Rattle.mv_kernels.specs.declared.kernel.Kernel.{Kernel}
use Rattle.mv_kernels.specs.Symbols.{has_symbol, has_each, cube_quotient, quotient, SameCubes}
use Rattle.mv_kernels.specs.Order.{cube_cmp}
use Rattle.mv_kernels.specs.Kernels.{IsKernelBy, IsKernelOf, AreKernels, HasFew}
use Rattle.mv_kernels.specs.Below.{HasOneCube, IsBelow, HasBelow, AreBelowBy, AreBelow, Walked}
use Rattle.mv_kernels.specs.Equal.{kernel_eq}
use Rattle.mv_kernels.specs.Keys.{same_kernel, kernel_eq-Decides, kernel_eq-equiv}
use Rattle.mv_kernels.proofs.Lists.{insert_all-grows, insert_all-keeps, insert_all-has, insert_all-each}
use Rattle.mv_kernels.proofs.Orders.{cube_total, same_sorted}
use Rattle.mv_kernels.proofs.Quotients.{symbol_in, symbol_left, each_at, each_of_left, has_each-append, cube_quotient-append, cube_quotient-same, same_row, quotient_row, row_in, to_back, to_there, same_cubes, SameCubes-trans, SameCubes-sym}
use Rattle.mv_kernels.proofs.Steps.{all_have_from, two_of, kernel_below}

-- ---- what is found when the walk has ended

-- the kernel of the cover itself is among these, and with each of these those below it
pub record IsClosed (cover : List (List Lit)) (found : List Kernel) : Type 0 where
  pub formed : All IsCube cover
  pub first : HasBelow cover [] found
  pub down : All (λ k. (l : Lit) → HasBelow k.cubes (l ∷ []) found) found

-- two cubes of the cover that have each of some symbols differ
record TwoRows (cover : List (List Lit)) (c : List Lit) : Type 0 where
  first : List Lit
  second : List Lit
  first_in : Contains cover first
  second_in : Contains cover second
  first_has : has_each c first ≡ true
  second_has : has_each c second ≡ true
  differ : first ≡ second → ⊥

-- a kernel that was found by symbols which the same cubes of the cover have
record FoundBy (cover : List (List Lit)) (c : List Lit) (found : List Kernel) : Type 0 where
  kernel : Kernel
  held : Contains found kernel
  by : List Lit
  is : IsKernelBy cover by kernel.cubes
  rows : (p : List Lit) → Contains cover p → has_each c p ≡ has_each by p

formed_at : (cover : List (List Lit)) (p : List Lit) → All IsCube cover → Contains cover p → IsCube p
formed_at cover p formed i = All-contains IsCube cover p formed i

-- with no symbols it is the kernel of the cover itself
found_first : (cover : List (List Lit)) (found : List Kernel) → IsClosed cover found → TwoRows cover [] → FoundBy cover [] found
found_first cover found closed two =
    let formed = closed.formed in
    let b = closed.first.each (cube_quotient [] two.first) (cube_quotient [] two.second) (row_in cover [] two.first two.first_in refl) (row_in cover [] two.second two.second_in refl)
    (λ e. two.differ (same_row [] two.first two.second (formed_at cover two.first formed two.first_in) (formed_at cover two.second formed two.second_in) refl refl e)) in
    record {
      kernel = b.0;
      held = b.1;
      by = b.2.common;
      is = b.2.is;
      rows = λ p i. sym (All-contains (λ (q : List Lit). has_each [] q ≡ true → has_each b.2.common q ≡ true) cover p b.2.rows i refl);
    }

-- with a symbol more that those symbols have already it is the same kernel
found_same : (cover : List (List Lit)) (l : Lit) (c : List Lit) (found : List Kernel) (f : FoundBy cover c found) → has_symbol f.by l ≡ true → FoundBy cover (l ∷ c) found
found_same cover l c found f there =
    record {
      kernel = f.kernel;
      held = f.held;
      by = f.by;
      is = f.is;
      rows = λ p i.
          elim (cases_Bool (has_each f.by p)) [
            | inl t ↦ and_from (has_symbol p l) (has_each c p) (each_at f.by p l t there) (f.rows p i ∙ t) ∙ sym t
            | inr n ↦ and_right (has_symbol p l) (has_each c p) (f.rows p i ∙ n) ∙ sym n
          ];
    }

-- of a row the cube in the kernel that was found
record InKernel (kernel : List (List Lit)) (by : List Lit) (l : Lit) (p : List Lit) : Type 0 where
  held : Contains kernel (cube_quotient by p)
  has : has_symbol (cube_quotient by p) l ≡ true

in_kernel : (cover : List (List Lit)) (l : Lit) (c : List Lit) (found : List Kernel) (f : FoundBy cover c found) → has_symbol f.by l ≡ false → (p : List Lit) → Contains cover p → has_each (l ∷ c) p ≡ true → InKernel f.kernel.cubes f.by l p
in_kernel cover l c found f out p i h =
    let both = and_parts (has_symbol p l) (has_each c p) h in
    record {
      held = to_there f.kernel.cubes (quotient cover f.by) (cube_quotient f.by p) f.is.quotient (row_in cover f.by p i (sym (f.rows p i) ∙ both.1));
      has = symbol_left f.by p l out both.0;
    }

-- the rows that have a symbol more are those that have the symbols of the kernel below
rows_below : (cover : List (List Lit)) (l : Lit) (c : List Lit) (found : List Kernel) (f : FoundBy cover c found) → has_symbol f.by l ≡ false → (below : List (List Lit)) (b : IsBelow f.kernel.cubes (l ∷ []) below) → (p : List Lit) → Contains cover p → has_each (l ∷ c) p ≡ has_each (f.by ++ (l ∷ b.common)) p
rows_below cover l c found f out below b p i =
    let apart = has_each-append f.by (l ∷ b.common) p in
    elim (cases_Bool (has_each (l ∷ c) p)) [
      | inl t ↦
          let both = and_parts (has_symbol p l) (has_each c p) t in
          let k = in_kernel cover l c found f out p i t in
          let inner : has_each (l ∷ b.common) (cube_quotient f.by p) ≡ true = All-contains (λ (q : List Lit). has_each (l ∷ []) q ≡ true → has_each (l ∷ b.common) q ≡ true) f.kernel.cubes (cube_quotient f.by p) b.rows k.held (and_from (has_symbol (cube_quotient f.by p) l) true k.has refl) in
          t ∙ sym (apart ∙ and_from (has_each f.by p) (has_each (l ∷ b.common) p) (sym (f.rows p i) ∙ both.1) (each_of_left f.by (l ∷ b.common) p inner))
      | inr n ↦
          n ∙ sym (false_from_ne_true (has_each (f.by ++ (l ∷ b.common)) p) (λ h.
          let both = and_parts (has_each f.by p) (has_each (l ∷ b.common) p) (sym apart ∙ h) in
          let more = and_parts (has_symbol p l) (has_each b.common p) both.1 in
          false≢true (sym n ∙ and_from (has_symbol p l) (has_each c p) more.0 (f.rows p i ∙ both.0))))
    ]

-- with another symbol it is the kernel below
found_below : (cover : List (List Lit)) (l : Lit) (c : List Lit) (found : List Kernel) → IsClosed cover found → TwoRows cover (l ∷ c) → (f : FoundBy cover c found) → has_symbol f.by l ≡ false → FoundBy cover (l ∷ c) found
found_below cover l c found closed two f out =
    let formed = closed.formed in
    let here = in_kernel cover l c found f out two.first two.first_in two.first_has in
    let there = in_kernel cover l c found f out two.second two.second_in two.second_has in
    let kernel = f.kernel.cubes in
    let has : (p : List Lit) → Contains cover p → has_each (l ∷ c) p ≡ true → has_each (f.by ++ (l ∷ [])) p ≡ true = λ p i h.
    let both = and_parts (has_symbol p l) (has_each c p) h in
    has_each-append f.by (l ∷ []) p ∙ and_from (has_each f.by p) (has_symbol p l && true) (sym (f.rows p i) ∙ both.1) (and_from (has_symbol p l) true both.0 refl) in
    let down : HasBelow kernel (l ∷ []) found = All-contains (λ (k : Kernel). (m : Lit) → HasBelow k.cubes (m ∷ []) found) found f.kernel closed.down f.held l in
    let b = down.each
    (cube_quotient (l ∷ []) (cube_quotient f.by two.first)) (cube_quotient (l ∷ []) (cube_quotient f.by two.second))
    (row_in kernel (l ∷ []) (cube_quotient f.by two.first) here.held (and_from (has_symbol (cube_quotient f.by two.first) l) true here.has refl))
    (row_in kernel (l ∷ []) (cube_quotient f.by two.second) there.held (and_from (has_symbol (cube_quotient f.by two.second) l) true there.has refl))
    (λ e.
    two.differ (same_row (f.by ++ (l ∷ [])) two.first two.second (formed_at cover two.first formed two.first_in) (formed_at cover two.second formed two.second_in)
    (has two.first two.first_in two.first_has) (has two.second two.second_in two.second_has)
    (cube_quotient-append f.by (l ∷ []) two.first ∙ (e ∙ sym (cube_quotient-append f.by (l ∷ []) two.second))))) in
    record {
      kernel = b.0;
      held = b.1;
      by = f.by ++ (l ∷ b.2.common);
      is = kernel_below cover f.by kernel (l ∷ b.2.common) b.0.cubes f.is b.2.is;
      rows = rows_below cover l c found f out b.0.cubes b.2;
    }

-- so whatever the symbols, where two cubes that have them differ, a kernel was found by symbols which the same cubes have
found_by : (cover : List (List Lit)) (found : List Kernel) → IsClosed cover found → (c : List Lit) → TwoRows cover c → FoundBy cover c found
found_by cover found closed [] two = found_first cover found closed two
found_by cover found closed (l ∷ c) two =
    let f = found_by cover found closed c (record {
      first = two.first;
      second = two.second;
      first_in = two.first_in;
      second_in = two.second_in;
      first_has = (and_parts (has_symbol two.first l) (has_each c two.first) two.first_has).1;
      second_has = (and_parts (has_symbol two.second l) (has_each c two.second) two.second_has).1;
      differ = two.differ;
    }) in
    elim (cases_Bool (has_symbol f.by l)) [
      | inl t ↦ found_same cover l c found f t
      | inr out ↦ found_below cover l c found closed two f out
    ]

-- ---- no kernel is missed

-- symbols that all rows have are among those of the kernel, which has none in common
no_others : (cover : List (List Lit)) (c : List Lit) (kernel : List (List Lit)) (d : List Lit) → IsKernelBy cover c kernel → ((p : List Lit) → Contains cover p → has_each d p ≡ has_each c p) → (l : Lit) → has_symbol d l ≡ true → has_symbol c l ≡ true
no_others cover c kernel d k rows l s =
    elim (cases_Bool (has_symbol c l)) [
      | inl t ↦ t
      | inr out ↦
          absurd (false≢true (sym (k.free l) ∙ all_have_from kernel l (λ q i.
          let r = quotient_row cover c q (to_back kernel (quotient cover c) q k.quotient i) in
          subst (λ (x : List Lit). has_symbol x l ≡ true) (sym r.is) (symbol_left c r.cube l out (each_at d r.cube l (rows r.cube r.held ∙ r.has) s)))))
    ]

same_symbols : (c d : List Lit) → ((l : Lit) → has_symbol c l ≡ true → has_symbol d l ≡ true) → ((l : Lit) → has_symbol d l ≡ true → has_symbol c l ≡ true) → (l : Lit) → has_symbol c l ≡ has_symbol d l
same_symbols c d f g l =
    elim (cases_Bool (has_symbol c l)) [
      | inl t ↦ t ∙ sym (f l t)
      | inr n ↦ n ∙ sym (false_from_ne_true (has_symbol d l) (λ h. false≢true (sym n ∙ g l h)))
    ]

-- quotients by the same symbols
same_by : (cover : List (List Lit)) (c d : List Lit) → ((l : Lit) → has_symbol c l ≡ has_symbol d l) → ((p : List Lit) → Contains cover p → has_each c p ≡ has_each d p) → (q : List Lit) → Contains (quotient cover c) q → Contains (quotient cover d) q
same_by cover c d e rows q h =
    let r = quotient_row cover c q h in
    subst (λ (x : List Lit). Contains (quotient cover d) x) (sym (r.is ∙ cube_quotient-same c d e r.cube)) (row_in cover d r.cube r.held (sym (rows r.cube r.held) ∙ r.has))

-- kernels by symbols that the same cubes have are equal
same_kernels : (cover : List (List Lit)) (c d : List Lit) (a b : List (List Lit)) → IsKernelBy cover c a → IsKernelBy cover d b → ((p : List Lit) → Contains cover p → has_each c p ≡ has_each d p) → a ≡ b
same_kernels cover c d a b ka kb rows =
    let e = same_symbols c d (no_others cover d b c kb rows) (no_others cover c a d ka (λ p i. sym (rows p i))) in
    let between : SameCubes (quotient cover c) (quotient cover d) = same_cubes (quotient cover c) (quotient cover d) (same_by cover c d e rows) (same_by cover d c (λ l. sym (e l)) (λ p i. sym (rows p i))) in
    let same = SameCubes-trans a (quotient cover c) b ka.quotient (SameCubes-trans (quotient cover c) (quotient cover d) b between (SameCubes-sym b (quotient cover d) kb.quotient)) in
    same_sorted cube_cmp cube_total a b ka.ascending kb.ascending same.there same.back

none_missed : (cover : List (List Lit)) (found : List Kernel) → IsClosed cover found → (k : Kernel) → IsKernelOf cover k.cubes → Contains found k
none_missed cover found closed k is =
    let two = two_of k.cubes is.is.ascending is.is.two in
    let c = is.by in
    let r = quotient_row cover c two.first (to_back k.cubes (quotient cover c) two.first is.is.quotient two.first_in) in
    let s = quotient_row cover c two.second (to_back k.cubes (quotient cover c) two.second is.is.quotient two.second_in) in
    let f = found_by cover found closed c (record {
      first = r.cube;
      second = s.cube;
      first_in = r.held;
      second_in = s.held;
      first_has = r.has;
      second_has = s.has;
      differ = λ e. two.differ (r.is ∙ (ap (cube_quotient c) e ∙ sym s.is));
    }) in
    subst (λ (x : Kernel). Contains found x) (same_kernel f.kernel k (same_kernels cover f.by c f.kernel.cubes k.cubes f.is is.is (λ p i. sym (f.rows p i)))) f.held

-- ---- the symbols of cubes

pub symbols_more : (cubes : List (List Lit)) (i : ℕ) (q lits : List Lit) (old new : List Lit) → i < length cubes → q ≡ get_or cubes i q → lits ≡ q → new ≡ insert_all lit_eq old lits → All (λ p. All (Contains old) p) (take i cubes) → All (λ p. All (Contains new) p) (take (i + 1) cubes)
symbols_more cubes i q lits old new low here same put so_far =
    let kept : (l : Lit) → Contains old l → Contains new l = λ l h. subst (λ (x : List Lit). Contains x l) (sym put) (insert_all-keeps lit_eq old lits l h) in
    let next : All (Contains new) q = subst (λ (x : List Lit). All (Contains x) q) (sym put) (subst (λ (x : List Lit). All (Contains (insert_all lit_eq old lits)) x) same (insert_all-has lit_eq (λ x y e. (lit_eq-Decides x y).0 e) old lits)) in
    All-more (λ (p : List Lit). All (Contains new) p) cubes i q low
    (All-weaker (λ (p : List Lit). All (Contains old) p) (λ (p : List Lit). All (Contains new) p) (λ p h. All-weaker (Contains old) (Contains new) kept p h) (take i cubes) so_far)
    (subst (λ (x : List Lit). All (Contains new) x) here next)

-- a symbol of a cube is among those found
symbol_found : (cubes : List (List Lit)) (found p : List Lit) (l : Lit) → All (λ q. All (Contains found) q) cubes → Contains cubes p → has_symbol p l ≡ true → Contains found l
symbol_found cubes found p l all i h =
    All-contains (Contains found) p l (All-contains (λ (q : List Lit). All (Contains found) q) cubes p all i) (symbol_in p l h)

-- ---- the kernels below a kernel, symbol by symbol

pub HasBelow-grows : (cover : List (List Lit)) (c : List Lit) (old new : List Kernel) → ((k : Kernel) → Contains old k → Contains new k) → HasBelow cover c old → HasBelow cover c new
HasBelow-grows cover c old new kept h = record {
  each = λ a b ha hb differ. let k = h.each a b ha hb differ in (k.0, kept k.0 k.1, k.2);
}

HasBelow-one : (cover : List (List Lit)) (c : List Lit) (kernels : List Kernel) → HasOneCube (quotient cover c) → HasBelow cover c kernels
HasBelow-one cover c kernels one = record { each = λ a b ha hb differ. absurd (differ (one.one a b ha hb)) }

HasBelow-this : (cover : List (List Lit)) (c : List Lit) (kernels : List Kernel) (k : Kernel) → Contains kernels k → IsBelow cover c k.cubes → HasBelow cover c kernels
HasBelow-this cover c kernels k held is = record { each = λ a b ha hb differ. (k, held, is) }

-- the next symbol leads to no kernel, or to one more
pub below_skips : (cover : List (List Lit)) (symbols : List Lit) (i : ℕ) (l : Lit) (below : List Kernel) → i < length symbols → l ≡ get_or symbols i l → HasOneCube (quotient cover (l ∷ [])) → AreBelowBy cover (take i symbols) below → AreBelowBy cover (take (i + 1) symbols) below
below_skips cover symbols i l below low here one so_far = record {
  each = so_far.each;
  all = All-more (λ (m : Lit). HasBelow cover (m ∷ []) below) symbols i l low so_far.all (subst (λ (m : Lit). HasBelow cover (m ∷ []) below) here (HasBelow-one cover (l ∷ []) below one));
}

pub below_more : (cover : List (List Lit)) (symbols : List Lit) (i : ℕ) (l : Lit) (below : List Kernel) (k : Kernel) → i < length symbols → l ≡ get_or symbols i l → IsBelow cover (l ∷ []) k.cubes → AreBelowBy cover (take i symbols) below → AreBelowBy cover (take (i + 1) symbols) (below ++ k ∷ [])
below_more cover symbols i l below k low here is so_far =
    let new = below ++ k ∷ [] in
    record {
      each = All-push (λ (k : Kernel). (l : Lit) × IsBelow cover (l ∷ []) k.cubes) below k so_far.each (l, is);
      all =
          All-more (λ (m : Lit). HasBelow cover (m ∷ []) new) symbols i l low
          (All-weaker (λ (m : Lit). HasBelow cover (m ∷ []) below) (λ (m : Lit). HasBelow cover (m ∷ []) new) (λ m h. HasBelow-grows cover (m ∷ []) below new (λ x i. Contains-append_left below (k ∷ []) x i) h) (take i symbols) so_far.all)
          (subst (λ (m : Lit). HasBelow cover (m ∷ []) new) here (HasBelow-this cover (l ∷ []) new k (Contains-push below k) is));
    }

-- symbols that no cube has lead to no kernel
pub below_all : (cover : List (List Lit)) (symbols : List Lit) (below : List Kernel) → All (λ q. All (Contains symbols) q) cover → AreBelowBy cover symbols below → AreBelow cover below
below_all cover symbols below all by = record {
  each = by.each;
  all = λ l.
      let decides = is_member-Decides lit_eq-Decides symbols l in
      elim (cases_Bool (list_any (lit_eq l) symbols)) [
        | inl t ↦ All-contains (λ (m : Lit). HasBelow cover (m ∷ []) below) symbols l by.all (decides.0 t)
        | inr f ↦
            record {
              each = λ a b ha hb differ.
                  let r = quotient_row cover (l ∷ []) a ha in
                  absurd (false≢true (sym f ∙ decides.1 (symbol_found cover symbols r.cube l all r.held (and_parts (has_symbol r.cube l) true r.has).0)));
            }
      ];
}

-- ---- the walk

-- the kernel at a place is one of the cover, and its cubes are cubes
kernel_at : (cover : List (List Lit)) (found : List Kernel) (passed n : ℕ) (k : Kernel) → slice_get found n ≡ Some k → Walked cover found passed → IsKernelOf cover k.cubes
kernel_at cover found passed n k at w =
    subst (λ (x : Kernel). IsKernelOf cover x.cubes) (get_or_from_slice_get found n k k at) (All-get_or (λ (x : Kernel). IsKernelOf cover x.cubes) found n k (slice_get_within found n k at) w.each)

-- behind the next kernel those below it are there too
pub walked_more : (cover : List (List Lit)) (found : List Kernel) (n : ℕ) (k : Kernel) (below new : List Kernel) → slice_get found n ≡ Some k → AreBelow k.cubes below → new ≡ insert_all kernel_eq found below → Walked cover found n → Walked cover new (n + 1)
walked_more cover found n k below new at down put w =
    let is = kernel_at cover found n n k at w in
    let low : n < length found = slice_get_within found n k at in
    let grown = insert_all-grows kernel_eq found below in
    let grows : new ≡ found ++ grown.0 = put ∙ grown.1 in
    let old_in : (x : Kernel) → Contains found x → Contains new x = λ x i. subst (λ (l : List Kernel). Contains l x) (sym put) (insert_all-keeps kernel_eq found below x i) in
    let new_in : (x : Kernel) → Contains below x → Contains new x = λ x i. subst (λ (l : List Kernel). Contains l x) (sym put) (All-contains (Contains (insert_all kernel_eq found below)) below x (insert_all-has kernel_eq (λ a b e. (kernel_eq-Decides a b).0 e) found below) i) in
    let front : take (n + 1) new ≡ take (n + 1) found = ap (take (n + 1)) grows ∙ take-append-le (n + 1) found grown.0 (omega arith) in
    let here : (l : Lit) → HasBelow (get_or found n k).cubes (l ∷ []) new = λ l.
    subst (λ (x : Kernel). HasBelow x.cubes (l ∷ []) new) (sym (get_or_from_slice_get found n k k at)) (HasBelow-grows k.cubes (l ∷ []) below new new_in (down.all l)) in
    let each_below : All (λ (x : Kernel). IsKernelOf cover x.cubes) below = All-weaker (λ (x : Kernel). (l : Lit) × IsBelow k.cubes (l ∷ []) x.cubes) (λ (x : Kernel). IsKernelOf cover x.cubes)
    (λ x b. record { by = is.by ++ (b.0 ∷ b.1.common); is = kernel_below cover is.by k.cubes (b.0 ∷ b.1.common) x.cubes is.is b.1.is }) below down.each in
    record {
      each = subst (λ (l : List Kernel). All (λ (x : Kernel). IsKernelOf cover x.cubes) l) (sym put) (insert_all-each kernel_eq (λ (x : Kernel). IsKernelOf cover x.cubes) found below w.each each_below);
      first = HasBelow-grows cover [] found new old_in w.first;
      down =
          subst (λ (l : List Kernel). All (λ (x : Kernel). (l : Lit) → HasBelow x.cubes (l ∷ []) new) l) (sym front)
          (All-more (λ (x : Kernel). (l : Lit) → HasBelow x.cubes (l ∷ []) new) found n k low
          (All-weaker (λ (x : Kernel). (l : Lit) → HasBelow x.cubes (l ∷ []) found) (λ (x : Kernel). (l : Lit) → HasBelow x.cubes (l ∷ []) new) (λ x h l. HasBelow-grows x.cubes (l ∷ []) found new old_in (h l)) (take n found) w.down) here);
    }

past_end : {X : Type 0} (xs : List X) (n : ℕ) → slice_get xs n ≡ None → length xs ≤ n
past_end xs n none =
    elim ((slice_get_cases xs n).1) [
      | inl some ↦ let no : Some some.0 ≡ None = sym some.2 ∙ none in absurd (cc)
      | inr past ↦ past.0
    ]

-- behind the last kernel the walk is closed
walked_all : (cover : List (List Lit)) (found : List Kernel) (n : ℕ) → All IsCube cover → length found ≤ n → Walked cover found n → IsClosed cover found
walked_all cover found n formed past w = record {
  formed = formed;
  first = w.first;
  down = subst (λ (l : List Kernel). All (λ (x : Kernel). (l : Lit) → HasBelow x.cubes (l ∷ []) found) l) (take_all n found past) w.down;
}

-- keys that are told apart differ
pub walked_kernels : (cover : List (List Lit)) (found : List Kernel) (n : ℕ) → IsDistinct kernel_eq found → Walked cover found n → AreKernels cover found
walked_kernels cover found n distinct w = record {
  each = w.each;
  once = λ i j d low high e. false≢true (sym (apart_from_distinct kernel_eq found i j d distinct low high) ∙ (kernel_eq-Decides (get_or found i d) (get_or found j d)).1 e);
}

-- and no kernel is missed
pub walked_to_end : (cover : List (List Lit)) (found : List Kernel) (n : ℕ) → All IsCube cover → slice_get found n ≡ None → Walked cover found n → (k : Kernel) → IsKernelOf cover k.cubes → Contains found k
walked_to_end cover found n formed none w = none_missed cover found (walked_all cover found n formed (past_end found n none) w)

-- as many kernels as were found are all that there are
pub few_found : (cover : List (List Lit)) (found : List Kernel) → length found ≤ MAX_KERNELS → ((k : Kernel) → IsKernelOf cover k.cubes → Contains found k) → HasFew cover
few_found cover found few all = record {
  each = λ kernels are.
      let apart = IsDistinct-from_apart kernel_eq kernels (λ i j d low high.
      false_from_ne_true (kernel_eq (get_or kernels i d) (get_or kernels j d)) (λ e. are.once i j d low high ((kernel_eq-Decides (get_or kernels i d) (get_or kernels j d)).0 e))) in
      let within : length kernels ≤ length found = length-le_from_is_member kernel_eq-equiv kernels found apart (λ k h.
      (is_member-Decides kernel_eq-Decides found k).1 (all k (All-contains (λ (x : Kernel). IsKernelOf cover x.cubes) kernels k are.each ((is_member-Decides kernel_eq-Decides kernels k).0 h)))) in
      omega arith;
}
