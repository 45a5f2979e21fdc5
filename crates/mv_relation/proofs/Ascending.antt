-- The literals of a line ascend by variable.
use Rattle.std.proofs.Common.{◌≡◌, ◌∙◌, ℕ, zero, suc, ◌<◌, ◌≤◌, ◌||◌, Bool, true, false, nat_lt, nat_eq, cond, List, [], ◌∷◌, length, get_or, All, refl, sym, ap, subst, ⊎_elim, arith}
use Rattle.std.proofs.lemmas.Bool.{cases_Bool, and_parts, or_left, or_right, ltb-true, ltb-false, eqb-true, eq-eqb, false≢true}
use Rattle.mv_cover.specs.Literal.{Lit}
use Rattle.mv_cover.specs.declared.line.Line.{Line}
use Rattle.mv_cover.specs.Cubes.{nets_ascend, IsCube}
use Rattle.mv_cover.specs.Covers.{cube_reads}
use Rattle.mv_diagram.specs.declared.cube.Literal.{Literal}
use Rattle.mv_diagram.specs.Cubes.{AscendingVars}
use Rattle.mv_relation.specs.Relations.{AreApart}
use Rattle.mv_relation.specs.Placing.{all_placed, line_literals, literal_of, own_literals, placed}

-- each element of a list, by recursion
abbrev Each : {X : Type 0} → (X → Type 0) → List X → Type 0
Each P [] = Unit {0}
Each P (x ∷ xs) = P x × Each P xs

Each_at : {X : Type 0} (P : X → Type 0) (xs : List X) (k : ℕ) (d : X) → k < length xs → Each P xs → P (get_or xs k d)
Each_at P [] k d low h = absurd (omega arith)
Each_at P (x ∷ xs) zero d low h = h.0
Each_at P (x ∷ xs) (suc k) d low h = Each_at P xs k d (omega arith) h.1

-- each variable is below those behind it
abbrev Ascends : List Literal → Type 0
Ascends [] = Unit {0}
Ascends (l ∷ ls) = Each (λ (m : Literal). l.var < m.var) ls × Ascends ls

Each_map : {X : Type 0} (P Q : X → Type 0) → ((x : X) → P x → Q x) → (xs : List X) → Each P xs → Each Q xs
Each_map P Q f [] h = tt
Each_map P Q f (x ∷ xs) h = (f x h.0, Each_map P Q f xs h.1)

Each_placed : (P : Literal → Type 0) (x : Literal) (ls : List Literal) → P x → Each P ls → Each P (placed x ls)
Each_placed P x [] here h = (here, tt)
Each_placed P x (l ∷ ls) here h =
    ⊎_elim
    (λ (y : nat_lt l.var x.var ≡ true).
    subst (λ (b : Bool). Each P (cond b (l ∷ placed x ls) (x ∷ l ∷ ls))) (sym y) (h.0, Each_placed P x ls here h.1))
    (λ (o : nat_lt l.var x.var ≡ false).
    subst (λ (b : Bool). Each P (cond b (l ∷ placed x ls) (x ∷ l ∷ ls))) (sym o) (here, h))
    (cases_Bool (nat_lt l.var x.var))

above_more : (x l : Literal) (ls : List Literal) → x.var < l.var → Ascends (l ∷ ls) → Each (λ (m : Literal). x.var < m.var) (l ∷ ls)
above_more x l ls low h =
    (low, Each_map (λ (m : Literal). l.var < m.var) (λ (m : Literal). x.var < m.var) (λ m less. omega arith) ls h.0)

ascends_placed : (x : Literal) (ls : List Literal) → Each (λ (m : Literal). m.var ≡ x.var → ⊥) ls → Ascends ls → Ascends (placed x ls)
ascends_placed x [] apart h = (tt, tt)
ascends_placed x (l ∷ ls) apart h =
    ⊎_elim
    (λ (y : nat_lt l.var x.var ≡ true).
    subst (λ (b : Bool). Ascends (cond b (l ∷ placed x ls) (x ∷ l ∷ ls))) (sym y)
    (Each_placed (λ (m : Literal). l.var < m.var) x ls (ltb-true l.var x.var y) h.0, ascends_placed x ls apart.1 h.1))
    (λ (o : nat_lt l.var x.var ≡ false).
    let above : x.var ≤ l.var = ltb-false l.var x.var o in
    let other : l.var ≡ x.var → ⊥ = apart.0 in
    let low : x.var < l.var = omega arith in
    subst (λ (b : Bool). Ascends (cond b (l ∷ placed x ls) (x ∷ l ∷ ls))) (sym o)
    (above_more x l ls low h, h))
    (cases_Bool (nat_lt l.var x.var))

-- a net that a later literal is on is behind that of the first
reads_behind : (c : Lit) (cs : List Lit) (k : ℕ) → nets_ascend (c ∷ cs) ≡ true → cube_reads cs k ≡ true → c.net.0 < k
reads_behind c [] k h r = absurd (false≢true r)
reads_behind c (d ∷ ds) k h r =
    let p = and_parts (nat_lt c.net.0 d.net.0) (nets_ascend (d ∷ ds)) h in
    let low : c.net.0 < d.net.0 = ltb-true c.net.0 d.net.0 p.0 in
    ⊎_elim
    (λ (y : nat_eq d.net.0 k ≡ true). let e : d.net.0 ≡ k = eqb-true d.net.0 k y in omega arith)
    (λ (o : nat_eq d.net.0 k ≡ false).
    let later : d.net.0 < k = reads_behind d ds k p.1 (ap (λ b. b || cube_reads ds k) (sym o) ∙ r) in omega arith)
    (cases_Bool (nat_eq d.net.0 k))

ascend_tail : (c : Lit) (cs : List Lit) → nets_ascend (c ∷ cs) ≡ true → nets_ascend cs ≡ true
ascend_tail c [] h = refl
ascend_tail c (d ∷ ds) h = (and_parts (nat_lt c.net.0 d.net.0) (nets_ascend (d ∷ ds)) h).1

reads_first : (c : Lit) (cs : List Lit) → cube_reads (c ∷ cs) c.net.0 ≡ true
reads_first c cs = or_left (nat_eq c.net.0 c.net.0) (cube_reads cs c.net.0) (eq-eqb c.net.0 c.net.0 refl)

reads_later : (c : Lit) (cs : List Lit) (k : ℕ) → cube_reads cs k ≡ true → cube_reads (c ∷ cs) k ≡ true
reads_later c cs k r = or_right (nat_eq c.net.0 k) (cube_reads cs k) r

module _ (counts vars : List ℕ) (own : ℕ) where
  apart_tail : (c : Lit) (cs : List Lit) → AreApart counts vars own (cube_reads (c ∷ cs)) → AreApart counts vars own (cube_reads cs)
  apart_tail c cs a = record {
    listed = λ m r. a.listed m (reads_later c cs m r);
    within = λ m r. a.within m (reads_later c cs m r);
    beside = λ m r. a.beside m (reads_later c cs m r);
    differ = λ m k r s. a.differ m k (reads_later c cs m r) (reads_later c cs k s);
  }

  -- no variable of a net of the cube is this one
  abbrev Misses : List Lit → Literal → Type 0
  Misses cs l = (k : ℕ) → cube_reads cs k ≡ true → l.var ≡ get_or vars k 0 → ⊥

  ascends_all : (cs : List Lit) (ls : List Literal) → nets_ascend cs ≡ true → AreApart counts vars own (cube_reads cs) → Each (Misses cs) ls
      → Ascends ls → Ascends (all_placed vars cs ls)
  ascends_all [] ls up a misses h = h
  ascends_all (c ∷ cs) ls up a misses h =
      let x = literal_of vars c in
      let here = Each_map (Misses (c ∷ cs)) (λ (m : Literal). m.var ≡ x.var → ⊥) (λ m no. no c.net.0 (reads_first c cs)) ls misses in
      let later = Each_map (Misses (c ∷ cs)) (Misses cs) (λ m no k r. no k (reads_later c cs k r)) ls misses in
      let this : Misses cs x = λ k r same.
      let low : c.net.0 < k = reads_behind c cs k up r in
      let e : c.net.0 ≡ k = a.differ c.net.0 k (reads_first c cs) (reads_later c cs k r) same in
      omega arith in
      ascends_all cs (placed x ls) (ascend_tail c cs up) (apart_tail c cs a) (Each_placed (Misses cs) x ls this later) (ascends_placed x ls here h)

  within_all : (cs : List Lit) (ls : List Literal) → AreApart counts vars own (cube_reads cs) → Each (λ (l : Literal). l.var < length counts) ls
      → Each (λ (l : Literal). l.var < length counts) (all_placed vars cs ls)
  within_all [] ls a h = h
  within_all (c ∷ cs) ls a h =
      within_all cs (placed (literal_of vars c) ls) (apart_tail c cs a)
      (Each_placed (λ (l : Literal). l.var < length counts) (literal_of vars c) ls (a.within c.net.0 (reads_first c cs)) h)

  -- each net of the cube has a place in the list of variables
  each_listed : (cs : List Lit) → AreApart counts vars own (cube_reads cs) → Each (λ (l : Lit). l.net.0 < length vars) cs
  each_listed [] a = tt
  each_listed (c ∷ cs) a = (a.listed c.net.0 (reads_first c cs), each_listed cs (apart_tail c cs a))

  pub listed_all : (cs : List Lit) → AreApart counts vars own (cube_reads cs) → All (λ (l : Lit). l.net.0 < length vars) cs
  listed_all cs a = λ k d low. Each_at (λ (l : Lit). l.net.0 < length vars) cs k d low (each_listed cs a)

  own_within : (gives : Bool) (out : ℕ) → own < length counts → Each (λ (l : Literal). l.var < length counts) (own_literals gives own out)
  own_within true out low = (low, tt)
  own_within false out low = tt

  own_misses : (gives : Bool) (out : ℕ) (cs : List Lit) → AreApart counts vars own (cube_reads cs) → Each (Misses cs) (own_literals gives own out)
  own_misses true out cs a = (λ k r same. a.beside k r (sym same), tt)
  own_misses false out cs a = tt

  own_ascends : (gives : Bool) (out : ℕ) → Ascends (own_literals gives own out)
  own_ascends true out = (tt, tt)
  own_ascends false out = tt

  -- the variables of a line's literals are there
  line_within : (gives : Bool) (l : Line) → own < length counts → AreApart counts vars own (cube_reads l.cube)
      → Each (λ (l : Literal). l.var < length counts) (line_literals vars own gives l)
  line_within gives l low a = within_all l.cube (own_literals gives own l.out) a (own_within gives l.out low)

  ascends_at : (ls : List Literal) (i j : ℕ) (d : Literal) → Ascends ls → i < j → j < length ls → (get_or ls i d).var < (get_or ls j d).var
  ascends_at [] i j d h low inside = absurd (omega arith)
  ascends_at (l ∷ ls) i zero d h low inside = absurd (omega arith)
  ascends_at (l ∷ ls) zero (suc j) d h low inside = Each_at (λ (m : Literal). l.var < m.var) ls j d (omega arith) h.0
  ascends_at (l ∷ ls) (suc i) (suc j) d h low inside = ascends_at ls i j d h.1 (omega arith) (omega arith)

  -- and ascend
  pub line_ascends : (gives : Bool) (l : Line) → IsCube l.cube → AreApart counts vars own (cube_reads l.cube)
      → AscendingVars (line_literals vars own gives l)
  line_ascends gives l cube a = record {
    each = λ i j d low inside.
        ascends_at (line_literals vars own gives l) i j d
        (ascends_all l.cube (own_literals gives own l.out) cube.ascending a (own_misses gives l.out l.cube a) (own_ascends gives l.out))
        low inside;
  }

  -- so it is where a list is these literals
  pub these_within : (gives : Bool) (l : Line) (ls : List Literal) → ls ≡ line_literals vars own gives l → own < length counts
      → AreApart counts vars own (cube_reads l.cube) → All (λ (l : Literal). l.var < length counts) ls
  these_within gives l ls is low a = λ k d inside.
      Each_at (λ (l : Literal). l.var < length counts) ls k d inside
      (subst (λ (xs : List Literal). Each (λ (l : Literal). l.var < length counts) xs) (sym is) (line_within gives l low a))

  pub these_ascend : (gives : Bool) (l : Line) (ls : List Literal) → ls ≡ line_literals vars own gives l → IsCube l.cube
      → AreApart counts vars own (cube_reads l.cube) → AscendingVars ls
  these_ascend gives l ls is cube a = subst (λ (xs : List Literal). AscendingVars xs) (sym is) (line_ascends gives l cube a)
