-- The cubes of marked codes as the code makes them: each from the cube so far, bit by bit.
use Rattle.std.proofs.Common.{◌≡◌, ◌∙◌, ℕ, zero, suc, ◌+◌, ◌-◌, ◌*◌, ◌/◌, ◌^◌, ◌<◌, ◌≤◌, Bool, true, false, List, [], ◌∷◌, ◌++◌, map, length, take, drop, nat_lt, refl, sym, ap, arith, append-nil, append_assoc}
use Rattle.std.specs.Bool.{beq}
use Rattle.std.specs.List.{list_any, list_all}
use Rattle.std.specs.Cmp.Lexicographic.{pointwise}
use Rattle.std.proofs.Math.Nat.{pow-suc}
use Rattle.std.proofs.lemmas.Bool.{lt-ltb, ltb-true}
use Rattle.std.proofs.lemmas.List.{length-take-le, length-drop, map-append, take_all}
use Rattle.mv_base.proofs.Lists.{all-weaker}
use Rattle.mv_base.specs.Set.{one}
use Rattle.mv_base.specs.declared.number.NetId.{NetId}
use Rattle.mv_cover.specs.Literal.{Lit}
use Rattle.mv_cover.specs.Cubes.{IsCube}
use Rattle.mv_cover.specs.Keys.{same_lit}
use Rattle.mv_cover.proofs.Building.{Built, built_more}
use Rattle.mv_cover.proofs.Points.{one_some}
use Rattle.mv_codes.specs.CodeCubes.{bit_literal, code_cubes, AreBelow}

-- ---- a literal more

pub asked_is : (l : Lit) (net : NetId) (set bit : ℕ) → l.net ≡ net → l.set ≡ set → set ≡ one bit → l ≡ bit_literal net.0 bit
asked_is l net set bit n s e = same_lit l (bit_literal net.0 bit) (ap (λ (m : NetId). m.0) n) (s ∙ e)

pub built_bit : (c : List Lit) (n bit : ℕ) → IsCube c → AreBelow n c → Built (c ++ bit_literal n bit ∷ []) (n + 1)
built_bit c n bit is below = built_more c n (bit_literal n bit) refl (one_some bit) (record { cube = is; below = below })

pub below_next : (n : ℕ) (c : List Lit) → AreBelow n c → AreBelow (n + 1) c
below_next n c below =
    all-weaker (λ (l : Lit). nat_lt l.net.0 n) (λ (l : Lit). nat_lt l.net.0 (n + 1)) (λ l low. lt-ltb l.net.0 (n + 1) (omega (arith, ltb-true l.net.0 n low))) c below

-- ---- the halves

-- where they are cut
pub half : (k j m : ℕ) → 0 < k → j ≡ k - 1 → m ≡ 2 ^ k → m / 2 ≡ 2 ^ j
half zero j m some e long = absurd (omega arith)
half (suc k) j m some e long =
    let before : j ≡ k = omega arith in
    let double : 2 ^ suc k ≡ 2 ^ k * 2 = pow-suc 2 k in
    let twice : m ≡ 2 ^ k * 2 = long ∙ double in
    rw before (omega (arith, twice))

pub low_long : (k j : ℕ) (marks low : List Bool) → 0 < k → j ≡ k - 1 → length marks ≡ 2 ^ k → low ≡ take (length marks / 2) marks → length low ≡ 2 ^ j
low_long k j marks low some e long is = ap length is ∙ (length-take-le (length marks / 2) marks (omega arith) ∙ half k j (length marks) some e long)

pub high_long : (k j : ℕ) (marks high : List Bool) → 0 < k → j ≡ k - 1 → length marks ≡ 2 ^ k → high ≡ drop (length marks / 2) marks → length high ≡ 2 ^ j
high_long k j marks high some e long is =
    let cut = half k j (length marks) some e long in
    let whole : length marks / 2 * 2 ≡ length marks = twice k some long in
    ap length is ∙ (length-drop (length marks / 2) marks ∙ omega (arith, cut, whole))
  where
    twice : (k : ℕ) → 0 < k → length marks ≡ 2 ^ k → length marks / 2 * 2 ≡ length marks
    twice zero some long = absurd (omega arith)
    twice (suc k) some long = let double : 2 ^ suc k ≡ 2 ^ k * 2 = pow-suc 2 k in let same : length marks ≡ 2 ^ k * 2 = long ∙ double in omega (arith, same)

-- ---- the cubes, case by case

pub cubes_all : (k n : ℕ) (marks : List Bool) → list_all (λ m. m) marks ≡ true → code_cubes k n marks ≡ [] ∷ []
cubes_all zero n marks all = rw all refl
cubes_all (suc k) n marks all = rw all refl

pub cubes_none : (k n : ℕ) (marks : List Bool) → list_all (λ m. m) marks ≡ false → list_any (λ m. m) marks ≡ false → code_cubes k n marks ≡ []
cubes_none zero n marks some_not none = rw some_not refl
cubes_none (suc k) n marks some_not none = rw some_not (rw none refl)

pub cubes_last : (k n : ℕ) (marks : List Bool) → list_all (λ m. m) marks ≡ false → k ≡ 0 → code_cubes k n marks ≡ []
cubes_last zero n marks some_not last = rw some_not refl
cubes_last (suc k) n marks some_not last = absurd (omega arith)

-- the halves of so many marks, which aren't all alike
pub record AreHalves (k j : ℕ) (marks low high : List Bool) : Type 0 where
  pub before : j + 1 ≡ k
  pub some_not : list_all (λ m. m) marks ≡ false
  pub some : list_any (λ m. m) marks ≡ true
  pub low_is : low ≡ take (2 ^ j) marks
  pub high_is : high ≡ drop (2 ^ j) marks

pub are_halves : (k j : ℕ) (marks low high : List Bool) → 0 < k → j ≡ k - 1 → length marks ≡ 2 ^ k → list_all (λ m. m) marks ≡ false → list_any (λ m. m) marks ≡ true → low ≡ take (length marks / 2) marks → high ≡ drop (length marks / 2) marks → AreHalves k j marks low high
are_halves k j marks low high there e long some_not some l h =
    let cut = half k j (length marks) there e long in
    record { before = omega arith; some_not = some_not; some = some; low_is = l ∙ ap (λ m. take m marks) cut; high_is = h ∙ ap (λ m. drop m marks) cut }

cubes_alike : (k j n : ℕ) (marks low high : List Bool) → AreHalves k j marks low high → pointwise beq low high ≡ true → code_cubes k n marks ≡ code_cubes j (n + 1) low
cubes_alike zero j n marks low high are same = let e = are.before in absurd (omega arith)
cubes_alike (suc k) j n marks low high are same =
    let e : j ≡ k = omega (arith, are.before) in
    let l : low ≡ take (2 ^ k) marks = are.low_is ∙ ap (λ m. take (2 ^ m) marks) e in
    let h : high ≡ drop (2 ^ k) marks = are.high_is ∙ ap (λ m. drop (2 ^ m) marks) e in
    let test : pointwise beq (take (2 ^ k) marks) (drop (2 ^ k) marks) ≡ true = (λ i. pointwise beq (sym l i) (sym h i)) ∙ same in
    let here : code_cubes (suc k) n marks ≡ code_cubes k (n + 1) (take (2 ^ k) marks) = rw are.some_not (rw are.some (rw test refl)) in
    here ∙ (λ i. code_cubes (sym e i) (n + 1) (sym l i))

-- the cubes of both halves, behind their literals
abbrev pub both_halves : ℕ → ℕ → List Bool → List Bool → List (List Lit)
both_halves j n low high = map (λ c. bit_literal n 0 ∷ c) (code_cubes j (n + 1) low) ++ map (λ c. bit_literal n 1 ∷ c) (code_cubes j (n + 1) high)

cubes_apart : (k j n : ℕ) (marks low high : List Bool) → AreHalves k j marks low high → pointwise beq low high ≡ false → code_cubes k n marks ≡ both_halves j n low high
cubes_apart zero j n marks low high are other = let e = are.before in absurd (omega arith)
cubes_apart (suc k) j n marks low high are other =
    let e : j ≡ k = omega (arith, are.before) in
    let l : low ≡ take (2 ^ k) marks = are.low_is ∙ ap (λ m. take (2 ^ m) marks) e in
    let h : high ≡ drop (2 ^ k) marks = are.high_is ∙ ap (λ m. drop (2 ^ m) marks) e in
    let test : pointwise beq (take (2 ^ k) marks) (drop (2 ^ k) marks) ≡ false = (λ i. pointwise beq (sym l i) (sym h i)) ∙ other in
    let here : code_cubes (suc k) n marks ≡ both_halves k n (take (2 ^ k) marks) (drop (2 ^ k) marks) = rw are.some_not (rw are.some (rw test refl)) in
    here ∙ (λ i. both_halves (sym e i) n (sym l i) (sym h i))

-- ---- what is put behind other cubes

-- the cubes, each behind the literals so far
abbrev pub cubes_behind : List Lit → List (List Lit) → List (List Lit)
cubes_behind so_far cubes = map (λ c. so_far ++ c) cubes

behind_literal : (so_far : List Lit) (l : Lit) (cubes : List (List Lit)) → cubes_behind (so_far ++ l ∷ []) cubes ≡ cubes_behind so_far (map (λ c. l ∷ c) cubes)
behind_literal so_far l [] = refl
behind_literal so_far l (c ∷ cs) = λ i. append_assoc so_far (l ∷ []) c i ∷ behind_literal so_far l cs i

pub put_whole : (k n : ℕ) (marks : List Bool) (so_far copy : List Lit) (old now : List (List Lit)) → list_all (λ m. m) marks ≡ true → copy ≡ so_far → now ≡ old ++ copy ∷ [] → now ≡ old ++ cubes_behind so_far (code_cubes k n marks)
put_whole k n marks so_far copy old now all same put =
    put ∙ ((λ i. old ++ (same ∙ sym (append-nil so_far)) i ∷ []) ∙ ap (λ cs. old ++ cubes_behind so_far cs) (sym (cubes_all k n marks all)))

pub put_nothing : (so_far : List Lit) (old cubes : List (List Lit)) → cubes ≡ [] → old ≡ old ++ cubes_behind so_far cubes
put_nothing so_far old cubes none = sym (append-nil old) ∙ ap (λ cs. old ++ cubes_behind so_far cs) (sym none)

pub put_alike : (k j n m : ℕ) (marks low high : List Bool) (so_far : List Lit) (old now : List (List Lit)) → AreHalves k j marks low high → pointwise beq low high ≡ true → m ≡ n + 1 → now ≡ old ++ cubes_behind so_far (code_cubes j m low) → now ≡ old ++ cubes_behind so_far (code_cubes k n marks)
put_alike k j n m marks low high so_far old now are same next put =
    put ∙ ap (λ cs. old ++ cubes_behind so_far cs) (ap (λ x. code_cubes j x low) next ∙ sym (cubes_alike k j n marks low high are same))

pub put_both : (k j n m : ℕ) (marks low high : List Bool) (so_far zeros ones : List Lit) (old between now : List (List Lit)) → AreHalves k j marks low high → pointwise beq low high ≡ false → m ≡ n + 1
    → zeros ≡ so_far ++ bit_literal n 0 ∷ [] → ones ≡ so_far ++ bit_literal n 1 ∷ [] → between ≡ old ++ cubes_behind zeros (code_cubes j m low) → now ≡ between ++ cubes_behind ones (code_cubes j m high)
    → now ≡ old ++ cubes_behind so_far (code_cubes k n marks)
put_both k j n m marks low high so_far zeros ones old between now are other next z o first second =
    let A = code_cubes j (n + 1) low in
    let B = code_cubes j (n + 1) high in
    let of_low : cubes_behind zeros (code_cubes j m low) ≡ cubes_behind so_far (map (λ c. bit_literal n 0 ∷ c) A) = (λ i. cubes_behind (z i) (code_cubes j (next i) low)) ∙ behind_literal so_far (bit_literal n 0) A in
    let of_high : cubes_behind ones (code_cubes j m high) ≡ cubes_behind so_far (map (λ c. bit_literal n 1 ∷ c) B) = (λ i. cubes_behind (o i) (code_cubes j (next i) high)) ∙ behind_literal so_far (bit_literal n 1) B in
    second
    ∙ ((λ i. (first ∙ ap (λ cs. old ++ cs) of_low) i ++ of_high i)
    ∙ (append_assoc old (cubes_behind so_far (map (λ c. bit_literal n 0 ∷ c) A)) (cubes_behind so_far (map (λ c. bit_literal n 1 ∷ c) B))
    ∙ (ap (λ cs. old ++ cs) (sym (map-append (λ c. so_far ++ c) (map (λ c. bit_literal n 0 ∷ c) A) (map (λ c. bit_literal n 1 ∷ c) B)))
    ∙ ap (λ cs. old ++ cubes_behind so_far cs) (sym (cubes_apart k j n marks low high are other)))))

pub bit_pushed : (cube items lits now : List Lit) (i : ℕ) (asked : Lit) (net : NetId) (set bit : ℕ) → items ≡ cube → length items ≤ i → lits ≡ take i items → asked.net ≡ net → asked.set ≡ set → set ≡ one bit → now ≡ lits ++ asked ∷ [] → now ≡ cube ++ bit_literal net.0 bit ∷ []
bit_pushed cube items lits now i asked net set bit own end copied n s e put =
    put ∙ (λ k. (copied ∙ (take_all i items end ∙ own)) k ++ asked_is asked net set bit n s e k ∷ [])

-- behind no literals stand the cubes themselves
behind_none : (cubes : List (List Lit)) → cubes_behind [] cubes ≡ cubes
behind_none [] = refl
behind_none (c ∷ cs) = ap (λ ds. c ∷ ds) (behind_none cs)

pub put_first : (k n : ℕ) (marks seen : List Bool) (none : List Lit) (start now : List (List Lit)) → none ≡ [] → start ≡ [] → seen ≡ marks → now ≡ start ++ cubes_behind none (code_cubes k n seen) → now ≡ code_cubes k n marks
put_first k n marks seen none start now bare empty same put = put ∙ ((λ i. empty i ++ cubes_behind (bare i) (code_cubes k n (same i))) ∙ behind_none (code_cubes k n marks))
