-- Symbols of cubes, cubes without symbols, and quotients.
use Rattle.std.proofs.Common.{◌≡◌, ◌∙◌, Bool, true, false, not, ◌&&◌, ◌||◌, List, [], ◌∷◌, ◌++◌, filter, Contains, inl, inr, refl, sym, ap, subst, arith, nat_lt, nat_eq}
use Rattle.std.specs.Cmp.{IsEquivalence, decided}
use Rattle.std.specs.List.{list_all}
use Rattle.std.proofs.lemmas.Bool.{cases_Bool, false≢true, and_parts, and_from, or_cases, or_left, or_right, not-true, cond_both}
use Rattle.std.proofs.lemmas.List.Elements.{All-contains, filter_agree}
use Rattle.std.proofs.lemmas.List.Folds.{list_any-append, list_all-append}
use Rattle.std.proofs.lemmas.Map.Views.{Contains-from_any, list_any-from_Contains, any-filter_same}
use Rattle.mv_base.specs.Set.{empty}
use Rattle.mv_cover.specs.Literal.{Lit}
use Rattle.mv_cover.specs.Cubes.{nets_ascend, IsCube}
use Rattle.mv_cover.specs.Equal.{lit_eq}
use Rattle.mv_cover.specs.Keys.{lit_eq-Decides}
use Rattle.mv_cover.proofs.Meeting.{above, above_tail}
use Rattle.mv_cover.proofs.Walking.{nets_ascend-tail}
use Rattle.mv_kernels.specs.Symbols.{has_symbol, has_each, cube_quotient, quotient, SameCubes}
use Rattle.mv_kernels.specs.Order.{lit_cmp}
use Rattle.mv_kernels.proofs.Lists.{Contains-map, Contains-from_map, Contains-filter, Contains-from_filter, All-Contains, filter_twice}
use Rattle.mv_kernels.proofs.Orders.{lit_total, same_sorted, sorted_cube}

-- ---- symbols

-- the test of equality with its sides turned, as `has_symbol` has it
abbrev turned_eq : Lit → Lit → Bool
turned_eq a b = lit_eq b a

turned_equiv : IsEquivalence turned_eq
turned_equiv = decided turned_eq (λ a b. (λ h. sym ((lit_eq-Decides b a).0 h), λ e. (lit_eq-Decides b a).1 (sym e)))

pub symbol_in : (q : List Lit) (l : Lit) → has_symbol q l ≡ true → Contains q l
symbol_in q l h = Contains-from_any {eq = turned_eq} (λ x y e. sym ((lit_eq-Decides y x).0 e)) l q h

pub in_symbol : (q : List Lit) (l : Lit) → Contains q l → has_symbol q l ≡ true
in_symbol q l h = list_any-from_Contains {eq = turned_eq} turned_equiv l q h

pub has_symbol-append : (a b : List Lit) (l : Lit) → has_symbol (a ++ b) l ≡ (has_symbol a l || has_symbol b l)
has_symbol-append a b l = list_any-append (λ m. lit_eq m l) a b

-- a cube without symbols has the others
pub has_symbol-cube_quotient : (c q : List Lit) (l : Lit) → has_symbol (cube_quotient c q) l ≡ (not (has_symbol c l) && has_symbol q l)
has_symbol-cube_quotient c q l =
    any-filter_same (λ (m : Lit). lit_eq m l) (λ (m : Lit). not (has_symbol c m)) (not (has_symbol c l)) (λ m h. ap (λ (x : Lit). not (has_symbol c x)) ((lit_eq-Decides m l).0 h)) q

pub symbol_left : (c q : List Lit) (l : Lit) → has_symbol c l ≡ false → has_symbol q l ≡ true → has_symbol (cube_quotient c q) l ≡ true
symbol_left c q l out h = has_symbol-cube_quotient c q l ∙ (λ i. not (out i) && h i)

pub symbol_of_left : (c q : List Lit) (l : Lit) → has_symbol (cube_quotient c q) l ≡ true → (has_symbol c l ≡ false) × (has_symbol q l ≡ true)
symbol_of_left c q l h =
    let p = and_parts (not (has_symbol c l)) (has_symbol q l) (sym (has_symbol-cube_quotient c q l) ∙ h) in
    (not-true (has_symbol c l) p.0, p.1)

-- ---- cubes that have each of some symbols

pub each_at : (c q : List Lit) (l : Lit) → has_each c q ≡ true → has_symbol c l ≡ true → has_symbol q l ≡ true
each_at [] q l h s = absurd (false≢true s)
each_at (m ∷ c) q l h s =
    let p = and_parts (has_symbol q m) (has_each c q) h in
    elim (or_cases (lit_eq m l) (has_symbol c l) s) [
      | inl t ↦ subst (λ (x : Lit). has_symbol q x ≡ true) ((lit_eq-Decides m l).0 t) p.0
      | inr r ↦ each_at c q l p.1 r
    ]

pub each_from : (c q : List Lit) → ((l : Lit) → has_symbol c l ≡ true → has_symbol q l ≡ true) → has_each c q ≡ true
each_from [] q f = refl
each_from (m ∷ c) q f =
    and_from (has_symbol q m) (has_each c q) (f m (or_left (lit_eq m m) (has_symbol c m) ((lit_eq-Decides m m).1 refl)))
    (each_from c q (λ l s. f l (or_right (lit_eq m l) (has_symbol c l) s)))

pub has_each-append : (a b q : List Lit) → has_each (a ++ b) q ≡ (has_each a q && has_each b q)
has_each-append a b q = list_all-append (has_symbol q) a b

-- a cube that has symbols has them too where others were in it
pub each_of_left : (c d q : List Lit) → has_each d (cube_quotient c q) ≡ true → has_each d q ≡ true
each_of_left c d q h = each_from d q (λ l s. (symbol_of_left c q l (each_at d (cube_quotient c q) l h s)).1)

pub each_left : (c d q : List Lit) → ((l : Lit) → has_symbol d l ≡ true → has_symbol c l ≡ false) → has_each d q ≡ true → has_each d (cube_quotient c q) ≡ true
each_left c d q apart h = each_from d (cube_quotient c q) (λ l s. symbol_left c q l (apart l s) (each_at d q l h s))

-- ---- cubes without symbols

not_or : (a b : Bool) → not (a || b) ≡ (not a && not b)
not_or true b = refl
not_or false b = refl

pub cube_quotient-append : (a b q : List Lit) → cube_quotient (a ++ b) q ≡ cube_quotient b (cube_quotient a q)
cube_quotient-append a b q =
    filter_twice (λ (l : Lit). not (has_symbol a l)) (λ (l : Lit). not (has_symbol b l)) (λ (l : Lit). not (has_symbol (a ++ b) l))
    (λ l. ap not (has_symbol-append a b l) ∙ not_or (has_symbol a l) (has_symbol b l)) q

-- symbols that are the same leave the same of a cube
pub cube_quotient-same : (c d : List Lit) → ((l : Lit) → has_symbol c l ≡ has_symbol d l) → (q : List Lit) → cube_quotient c q ≡ cube_quotient d q
cube_quotient-same c d e q = filter_agree (λ (l : Lit). not (has_symbol c l)) (λ (l : Lit). not (has_symbol d l)) (λ l. ap not (e l)) q

-- cubes of the same symbols are equal
pub same_cube : (p q : List Lit) → IsCube p → IsCube q → ((l : Lit) → has_symbol p l ≡ has_symbol q l) → p ≡ q
same_cube p q a b e =
    same_sorted lit_cmp lit_total p q (sorted_cube p a.ascending) (sorted_cube q b.ascending)
    (All-Contains p q (λ l h. symbol_in q l (sym (e l) ∙ in_symbol p l h)))
    (All-Contains q p (λ l h. symbol_in p l (e l ∙ in_symbol q l h)))

-- cubes that have each of some symbols, and are the same without them, are equal
pub same_row : (c p q : List Lit) → IsCube p → IsCube q → has_each c p ≡ true → has_each c q ≡ true → cube_quotient c p ≡ cube_quotient c q → p ≡ q
same_row c p q a b hp hq e =
    same_cube p q a b (λ l.
    elim (cases_Bool (has_symbol c l)) [
      | inl t ↦ each_at c p l hp t ∙ sym (each_at c q l hq t)
      | inr f ↦
          let left : (r : List Lit) → has_symbol (cube_quotient c r) l ≡ has_symbol r l = λ r. has_symbol-cube_quotient c r l ∙ (λ i. not (f i) && has_symbol r l) in
          sym (left p) ∙ (ap (λ (r : List Lit). has_symbol r l) e ∙ left q)
    ])

-- ---- a cube without symbols is a cube

list_all-filter : {X : Type 0} (p q : X → Bool) (xs : List X) → list_all q xs ≡ true → list_all q (filter p xs) ≡ true
list_all-filter p q [] h = refl
list_all-filter p q (x ∷ xs) h =
    let r = and_parts (q x) (list_all q xs) h in
    let rest = list_all-filter p q xs r.1 in
    cond_both (p x) (x ∷ filter p xs) (filter p xs) (λ ys. list_all q ys ≡ true) (λ _. and_from (q x) (list_all q (filter p xs)) r.0 rest) (λ _. rest)

ascend-cons : (l : Lit) (ls : List Lit) → above l.net.0 ls ≡ true → nets_ascend ls ≡ true → nets_ascend (l ∷ ls) ≡ true
unfolding above
ascend-cons l [] a h = refl
ascend-cons l (m ∷ ls) a h =
    and_from (nat_lt l.net.0 m.net.0) (nets_ascend (m ∷ ls)) (and_parts (nat_lt l.net.0 m.net.0) (list_all (λ (o : Lit). nat_lt l.net.0 o.net.0) ls) a).0 h

ascend-filter : (p : Lit → Bool) (ls : List Lit) → nets_ascend ls ≡ true → nets_ascend (filter p ls) ≡ true
unfolding above
ascend-filter p [] h = refl
ascend-filter p (l ∷ ls) h =
    let rest = ascend-filter p ls (nets_ascend-tail l ls h) in
    cond_both (p l) (l ∷ filter p ls) (filter p ls) (λ (ms : List Lit). nets_ascend ms ≡ true)
    (λ _. ascend-cons l (filter p ls) (list_all-filter p (λ (m : Lit). nat_lt l.net.0 m.net.0) ls (above_tail l.net.0 l ls h (omega arith))) rest) (λ _. rest)

-- some of a cube's literals are a cube
pub IsCube-filter : (p : Lit → Bool) (q : List Lit) → IsCube q → IsCube (filter p q)
IsCube-filter p q h = record {
  ascending = ascend-filter p q h.ascending;
  possible = list_all-filter p (λ (l : Lit). not (nat_eq l.set empty)) q h.possible;
}

pub IsCube-cube_quotient : (c q : List Lit) → IsCube q → IsCube (cube_quotient c q)
IsCube-cube_quotient c q h = IsCube-filter (λ (l : Lit). not (has_symbol c l)) q h

-- ---- quotients

-- the cube of the cover that a cube of its quotient comes from
pub record Row (cover : List (List Lit)) (c q : List Lit) : Type 0 where
  pub cube : List Lit
  pub held : Contains cover cube
  pub has : has_each c cube ≡ true
  pub is : q ≡ cube_quotient c cube

pub quotient_row : (cover : List (List Lit)) (c q : List Lit) → Contains (quotient cover c) q → Row cover c q
quotient_row cover c q h =
    let r = Contains-from_map (cube_quotient c) (filter (has_each c) cover) q h in
    let f = Contains-from_filter (has_each c) cover r.0 r.1 in
    record { cube = r.0; held = f.0; has = f.1; is = r.2 }

pub row_in : (cover : List (List Lit)) (c p : List Lit) → Contains cover p → has_each c p ≡ true → Contains (quotient cover c) (cube_quotient c p)
row_in cover c p held has = Contains-map (cube_quotient c) (filter (has_each c) cover) p (Contains-filter (has_each c) cover p has held)

-- ---- lists of the same cubes

pub to_back : (a b : List (List Lit)) (q : List Lit) → SameCubes a b → Contains a q → Contains b q
to_back a b q s h = All-contains (Contains b) a q s.there h

pub to_there : (a b : List (List Lit)) (q : List Lit) → SameCubes a b → Contains b q → Contains a q
to_there a b q s h = All-contains (Contains a) b q s.back h

pub same_cubes : (a b : List (List Lit)) → ((q : List Lit) → Contains a q → Contains b q) → ((q : List Lit) → Contains b q → Contains a q) → SameCubes a b
same_cubes a b f g = record { there = All-Contains a b f; back = All-Contains b a g }

pub SameCubes-trans : (a b c : List (List Lit)) → SameCubes a b → SameCubes b c → SameCubes a c
SameCubes-trans a b c s t =
    same_cubes a c (λ q h. to_back b c q t (to_back a b q s h)) (λ q h. to_there a b q s (to_there b c q t h))

pub SameCubes-sym : (a b : List (List Lit)) → SameCubes a b → SameCubes b a
SameCubes-sym a b s = record { there = s.back; back = s.there }

quotient-into : (a b : List (List Lit)) (c q : List Lit) → ((p : List Lit) → Contains a p → Contains b p) → Contains (quotient a c) q → Contains (quotient b c) q
quotient-into a b c q f h =
    let r = quotient_row a c q h in
    subst (λ (x : List Lit). Contains (quotient b c) x) (sym r.is) (row_in b c r.cube (f r.cube r.held) r.has)

-- covers of the same cubes have the same quotients
pub same_quotients : (a b : List (List Lit)) (c : List Lit) → SameCubes a b → SameCubes (quotient a c) (quotient b c)
same_quotients a b c s =
    same_cubes (quotient a c) (quotient b c) (λ q h. quotient-into a b c q (λ p i. to_back a b p s i) h) (λ q h. quotient-into b a c q (λ p i. to_there a b p s i) h)

-- a quotient of a quotient is that by all symbols, where cubes that have the second symbols have them without the first too
pub quotient_twice : (cover : List (List Lit)) (c d : List Lit)
    → ((p : List Lit) → Contains cover p → has_each c p ≡ true → has_each d p ≡ true → has_each d (cube_quotient c p) ≡ true)
    → SameCubes (quotient (quotient cover c) d) (quotient cover (c ++ d))
quotient_twice cover c d stays =
    same_cubes (quotient (quotient cover c) d) (quotient cover (c ++ d))
    (λ x h.
    let r = quotient_row (quotient cover c) d x h in
    let s = quotient_row cover c r.cube r.held in
    let inner : has_each d (cube_quotient c s.cube) ≡ true = subst (λ (q : List Lit). has_each d q ≡ true) s.is r.has in
    let both : has_each (c ++ d) s.cube ≡ true = has_each-append c d s.cube ∙ and_from (has_each c s.cube) (has_each d s.cube) s.has (each_of_left c d s.cube inner) in
    let is : x ≡ cube_quotient (c ++ d) s.cube = r.is ∙ (ap (cube_quotient d) s.is ∙ sym (cube_quotient-append c d s.cube)) in
    subst (λ (q : List Lit). Contains (quotient cover (c ++ d)) q) (sym is) (row_in cover (c ++ d) s.cube s.held both))
    (λ x h.
    let r = quotient_row cover (c ++ d) x h in
    let both = and_parts (has_each c r.cube) (has_each d r.cube) (sym (has_each-append c d r.cube) ∙ r.has) in
    let is : x ≡ cube_quotient d (cube_quotient c r.cube) = r.is ∙ cube_quotient-append c d r.cube in
    subst (λ (q : List Lit). Contains (quotient (quotient cover c) d) q) (sym is)
    (row_in (quotient cover c) d (cube_quotient c r.cube) (row_in cover c r.cube r.held both.0) (stays r.cube r.held both.0 both.1)))
