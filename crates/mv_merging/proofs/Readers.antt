-- A reader's table behind a merge: what it allows, that it is a cover, and what it reads.
use Rattle.std.proofs.Common.{◌≡◌, ◌∙◌, ℕ, ◌+◌, ◌<◌, ◌≤◌, Bool, true, false, ◌&&◌, ◌||◌, not, nat_eq, All, List, [], ◌∷◌, ◌++◌, refl, sym, ap, subst, ⊎_elim, eqb-true, arith}
use Rattle.std.specs.List.{flat_map, list_all, list_any}
use Rattle.std.proofs.Math.Bool.{and-true, or-false}
use Rattle.std.proofs.lemmas.Bool.{cases_Bool, cond-true, cond-false, eqb-false, false≢true, or_parts, or_cases, and_from, lt-ltb}
use Rattle.std.proofs.lemmas.List.Folds.{list_any-append}
use Rattle.std.proofs.lemmas.List.Elements.{All-nil, All-cons}
use Rattle.mv_base.specs.Set.{has, empty, full}
use Rattle.mv_base.specs.declared.number.NetId.{NetId}
use Rattle.mv_base.proofs.Sets.{has-empty, has-full}
use Rattle.mv_cover.specs.Covers.{some_matches, some_gives, default_gives, allowed}
use Rattle.mv_cover.specs.Cubes.{holds, matches, IsCube}
use Rattle.mv_cover.specs.Literal.{Lit}
use Rattle.mv_cover.specs.declared.cover.Cover.{Cover}
use Rattle.mv_cover.specs.declared.line.Line.{Line}
use Rattle.mv_cover.proofs.Absorbing.{gives-any, allowed-absorbed}
use Rattle.mv_cover.proofs.Meets.{Rises, Rises-cube, ascend-Rises}
use Rattle.mv_cover.proofs.Points.{matches-append}
use Rattle.mv_composite.proofs.Cubes.{All-flat_map}
use Rattle.mv_merging.specs.declared.merging.Merging.{Merging}
use Rattle.mv_merging.specs.Tables.{asked_of, literal_merged, cube_merged, some_empty, line_unless, line_merged, reader_merged}
use Rattle.mv_merging.specs.Values.{merged_set}
use Rattle.mv_merging.proofs.Sets.{StandsFor, IsAlike, has-behind}

-- ---- assignments of the two networks

-- y has a value at n that stands for the one of x, and is as x elsewhere
pub record IsRenamed (m : Merging) (n : ℕ) (x y : ℕ → ℕ) : Type 0 where
  pub here : StandsFor m (x n) (y n)
  pub others : (k : ℕ) → (k ≡ n → ⊥) → y k ≡ x k

-- each literal on n has both of the two values or neither
abbrev pub LiteralsAlike : Merging → ℕ → List Lit → Type 0
LiteralsAlike m n [] = Unit {0}
LiteralsAlike m n (l ∷ ls) = (nat_eq l.net.0 n ≡ true → IsAlike m l.set) × LiteralsAlike m n ls

abbrev pub LinesAlike : Merging → ℕ → List Line → Type 0
LinesAlike m n [] = Unit {0}
LinesAlike m n (l ∷ ls) = LiteralsAlike m n l.cube × LinesAlike m n ls

-- ---- a cube

-- a literal's set has the value where what is asked of it has
asked-holds : (net : NetId) (values set w : ℕ) (y : ℕ → ℕ) → y net.0 ≡ w → w < values → matches y (asked_of net values set) ≡ has set w
asked-holds net values set w y e low =
    ⊎_elim
    (λ (t : nat_eq set (full values) ≡ true).
    let same : set ≡ full values = eqb-true set (full values) t in
    ap (matches y) (cond-true (nat_eq set (full values)) [] (record { net = net; set = set } ∷ []) t)
    ∙ sym (ap (λ s. has s w) same ∙ (has-full values w ∙ lt-ltb w values low)))
    (λ (f : nat_eq set (full values) ≡ false).
    ap (matches y) (cond-false (nat_eq set (full values)) [] (record { net = net; set = set } ∷ []) f)
    ∙ (and-true (has set (y net.0)) ∙ ap (has set) e))
    (cases_Bool (nat_eq set (full values)))

literal-holds : (m : Merging) (n : ℕ) (x y : ℕ → ℕ) (l : Lit) → IsRenamed m n x y → (nat_eq l.net.0 n ≡ true → IsAlike m l.set) → matches y (literal_merged m n l) ≡ holds x l
literal-holds m n x y l r alike =
    ⊎_elim
    (λ (t : nat_eq l.net.0 n ≡ true).
    let same : l.net.0 ≡ n = eqb-true l.net.0 n t in
    ap (matches y) (cond-true (nat_eq l.net.0 n) (asked_of l.net m.left (merged_set m l.set)) (l ∷ []) t)
    ∙ (asked-holds l.net m.left (merged_set m l.set) (y n) y (ap y same) r.here.low
    ∙ (has-behind m l.set (x n) (y n) r.here (alike t) ∙ ap (λ k. has l.set (x k)) (sym same))))
    (λ (f : nat_eq l.net.0 n ≡ false).
    ap (matches y) (cond-false (nat_eq l.net.0 n) (asked_of l.net m.left (merged_set m l.set)) (l ∷ []) f)
    ∙ (and-true (has l.set (y l.net.0)) ∙ ap (has l.set) (r.others l.net.0 (eqb-false l.net.0 n f))))
    (cases_Bool (nat_eq l.net.0 n))

cube-matches : (m : Merging) (n : ℕ) (x y : ℕ → ℕ) (cube : List Lit) → IsRenamed m n x y → LiteralsAlike m n cube → matches y (cube_merged m n cube) ≡ matches x cube
cube-matches m n x y [] r alike = refl
cube-matches m n x y (l ∷ ls) r alike =
    let here = literal-holds m n x y l r alike.0 in
    let rest = cube-matches m n x y ls r alike.1 in
    matches-append y (literal_merged m n l) (cube_merged m n ls) ∙ (λ i. here i && rest i)

-- where a literal has no value the cube holds nowhere
nowhere : (y : ℕ → ℕ) (cube : List Lit) → some_empty cube ≡ true → matches y cube ≡ false
nowhere y [] h = absurd (false≢true h)
nowhere y (l ∷ ls) h =
    ⊎_elim
    (λ (t : nat_eq l.set empty ≡ true).
    let e : l.set ≡ empty = eqb-true l.set empty t in
    ap (λ b. b && matches y ls) (ap (λ s. has s (y l.net.0)) e ∙ has-empty (y l.net.0)))
    (λ (rest : some_empty ls ≡ true). let no = nowhere y ls rest in ap (λ b. has l.set (y l.net.0) && b) no ∙ second (has l.set (y l.net.0)))
    (or_cases (nat_eq l.set empty) (some_empty ls) h)
  where
    second : (b : Bool) → (b && false) ≡ false
    second true = refl
    second false = refl

-- ---- lines

-- some line matches, and its output passes
abbrev with_test : (ℕ → Bool) → (ℕ → ℕ) → List Line → Bool
with_test p at ls = list_any (λ (l : Line). matches at l.cube && p l.out) ls

unless-test : (p : ℕ → Bool) (y : ℕ → ℕ) (cube : List Lit) (out : ℕ) → with_test p y (line_unless cube out) ≡ (matches y cube && p out)
unless-test p y cube out =
    ⊎_elim
    (λ (t : some_empty cube ≡ true).
    ap (with_test p y) (cond-true (some_empty cube) [] (record { cube = cube; out = out } ∷ []) t) ∙ sym (ap (λ b. b && p out) (nowhere y cube t)))
    (λ (f : some_empty cube ≡ false).
    ap (with_test p y) (cond-false (some_empty cube) [] (record { cube = cube; out = out } ∷ []) f) ∙ or-false (matches y cube && p out))
    (cases_Bool (some_empty cube))

lines-test : (p : ℕ → Bool) (m : Merging) (n : ℕ) (x y : ℕ → ℕ) (ls : List Line) → IsRenamed m n x y → LinesAlike m n ls → with_test p y (flat_map (line_merged m n) ls) ≡ with_test p x ls
unfolding line_merged
lines-test p m n x y [] r alike = refl
lines-test p m n x y (l ∷ ls) r alike =
    let here = unless-test p y (cube_merged m n l.cube) l.out ∙ ap (λ b. b && p l.out) (cube-matches m n x y l.cube r alike.0) in
    let rest = lines-test p m n x y ls r alike.1 in
    list_any-append (λ (k : Line). matches y k.cube && p k.out) (line_merged m n l) (flat_map (line_merged m n) ls) ∙ (λ i. here i || rest i)

matches-test : (at : ℕ → ℕ) (ls : List Line) → some_matches at ls ≡ with_test (λ _. true) at ls
matches-test at [] = refl
matches-test at (l ∷ ls) = λ i. (sym (and-true (matches at l.cube)) i) || matches-test at ls i

-- ---- cubes

Rises-lower : (j k : ℕ) (c : List Lit) → j ≤ k → Rises k c → Rises j c
Rises-lower j k [] low r = tt
Rises-lower j k (l ∷ ls) low r = let above : k ≤ l.net.0 = r.0 in (omega arith, r.1)

Rises-merged : (k : ℕ) (m : Merging) (n : ℕ) (cube : List Lit) → Rises k cube → Rises k (cube_merged m n cube)
Rises-merged k m n [] r = tt
Rises-merged k m n (l ∷ ls) r =
    let low : k ≤ l.net.0 = r.0 in
    let rest = Rises-merged (l.net.0 + 1) m n ls r.1 in
    let P : List Lit → Type 0 = λ c. Rises k (c ++ cube_merged m n ls) in
    let out : P [] = Rises-lower k (l.net.0 + 1) (cube_merged m n ls) (omega arith) rest in
    let set = merged_set m l.set in
    ⊎_elim
    (λ (t : nat_eq l.net.0 n ≡ true).
    subst P (sym (cond-true (nat_eq l.net.0 n) (asked_of l.net m.left set) (l ∷ []) t))
    (⊎_elim
    (λ (y : nat_eq set (full m.left) ≡ true). subst P (sym (cond-true (nat_eq set (full m.left)) [] (record { net = l.net; set = set } ∷ []) y)) out)
    (λ (f : nat_eq set (full m.left) ≡ false). subst P (sym (cond-false (nat_eq set (full m.left)) [] (record { net = l.net; set = set } ∷ []) f)) (low, rest))
    (cases_Bool (nat_eq set (full m.left)))))
    (λ (f : nat_eq l.net.0 n ≡ false). subst P (sym (cond-false (nat_eq l.net.0 n) (asked_of l.net m.left set) (l ∷ []) f)) (low, rest))
    (cases_Bool (nat_eq l.net.0 n))

each_some : (cube : List Lit) → some_empty cube ≡ false → list_all (λ (l : Lit). not (nat_eq l.set empty)) cube ≡ true
each_some [] h = refl
each_some (l ∷ ls) h =
    let p = or_parts (nat_eq l.set empty) (some_empty ls) h in
    and_from (not (nat_eq l.set empty)) (list_all (λ (k : Lit). not (nat_eq k.set empty)) ls) (ap not p.0) (each_some ls p.1)

pub merged_cube : (m : Merging) (n : ℕ) (cube : List Lit) → IsCube cube → some_empty (cube_merged m n cube) ≡ false → IsCube (cube_merged m n cube)
merged_cube m n cube is some = record {
  ascending = ascend-Rises 0 (cube_merged m n cube) (Rises-merged 0 m n cube (Rises-cube cube is.ascending));
  possible = each_some (cube_merged m n cube) some;
}

-- what holds of a line that comes holds of all that do
pub unless_all : (P : Line → Type 0) (cube : List Lit) (out : ℕ) → (some_empty cube ≡ false → P (record { cube = cube; out = out })) → All P (line_unless cube out)
unless_all P cube out it =
    let A : List Line → Type 0 = All P in
    ⊎_elim
    (λ (t : some_empty cube ≡ true). subst A (sym (cond-true (some_empty cube) [] (record { cube = cube; out = out } ∷ []) t)) (All-nil P))
    (λ (f : some_empty cube ≡ false).
    subst A (sym (cond-false (some_empty cube) [] (record { cube = cube; out = out } ∷ []) f)) (All-cons P (record { cube = cube; out = out }) [] (it f) (All-nil P)))
    (cases_Bool (some_empty cube))

cubes-lines : (m : Merging) (n : ℕ) (ls : List Line) → All (λ (l : Line). IsCube l.cube) ls → All (λ (l : Line). IsCube l.cube) (flat_map (line_merged m n) ls)
unfolding line_merged
cubes-lines m n ls all =
    All-flat_map (λ (l : Line). IsCube l.cube) (λ (l : Line). IsCube l.cube) (line_merged m n)
    (λ l is. unless_all (λ (k : Line). IsCube k.cube) (cube_merged m n l.cube) l.out (merged_cube m n l.cube is)) ls all

-- ---- what it allows

-- where the values stand for each other the new table allows what the old one does
pub reader-allows : (m : Merging) (n : ℕ) (c : Cover) (x y : ℕ → ℕ) → All (λ (l : Line). IsCube l.cube) c.lines → LinesAlike m n c.lines → IsRenamed m n x y → (v : ℕ) → allowed (reader_merged m n c) y v ≡ allowed c x v
unfolding reader_merged allowed
reader-allows m n c x y cubes alike r v =
    let ls = flat_map (line_merged m n) c.lines in
    let raw : Cover = record { lines = ls; default = c.default } in
    let gives : some_gives y v ls ≡ some_gives x v c.lines = gives-any y v ls ∙ (lines-test (λ out. has out v) m n x y c.lines r alike ∙ sym (gives-any x v c.lines)) in
    let met : some_matches y ls ≡ some_matches x c.lines = matches-test y ls ∙ (lines-test (λ _. true) m n x y c.lines r alike ∙ sym (matches-test x c.lines)) in
    allowed-absorbed raw (cubes-lines m n c.lines cubes) y v ∙ (λ i. gives i || (not (met i) && default_gives c.default v))
