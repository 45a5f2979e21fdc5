-- Lists of some elements of another list: chains, and what they read and count.
use Rattle.std.proofs.Common.{◌≡◌, ◌∙◌, ℕ, ◌≤◌, true, nat_eq, List, [], ◌∷◌, length, refl, sym, ap, inl, inr, ⊎_elim, arith}
use Rattle.std.proofs.lemmas.Bool.{false≢true, or_cases, or_left, or_right, and_parts, and_from}
use Rattle.mv_base.specs.Set.{has}
use Rattle.mv_cover.specs.Cubes.{holds, matches}
use Rattle.mv_cover.specs.Covers.{literal_count, cube_reads, lines_read}
use Rattle.mv_cover.specs.Literal.{Lit}
use Rattle.mv_cover.specs.declared.cover.Cover.{Cover}
use Rattle.mv_cover.specs.declared.line.Line.{Line}
use Rattle.mv_meaning.specs.Narrowing.{ReadsWithin}
use Rattle.mv_tight.specs.Tight.{AreSome, IsGrown, IsGrownLine, IsGrownLiteral}

-- what becomes twice becomes
pub some_chain : {A : Type 0} (R : A → A → Type 0) → ((x y z : A) → R x y → R y z → R x z) → (xs ys zs : List A) → AreSome R xs ys → AreSome R ys zs → AreSome R xs zs
some_chain R chain [] [] [] a b = tt
some_chain R chain [] [] (z ∷ zs) a b = absurd b
some_chain R chain [] (y ∷ ys) zs a b = absurd a
some_chain R chain (x ∷ xs) [] [] a b = tt
some_chain R chain (x ∷ xs) [] (z ∷ zs) a b = absurd b
some_chain R chain (x ∷ xs) (y ∷ ys) [] a b = tt
some_chain R chain (x ∷ xs) (y ∷ ys) (z ∷ zs) a b =
    ⊎_elim
    (λ (p : R x y × AreSome R xs ys).
    ⊎_elim
    (λ (q : R y z × AreSome R ys zs). inl (chain x y z p.0 q.0, some_chain R chain xs ys zs p.1 q.1))
    (λ (q : AreSome R ys (z ∷ zs)). inr (some_chain R chain xs ys (z ∷ zs) p.1 q))
    b)
    (λ (p : AreSome R xs (y ∷ ys)). inr (some_chain R chain xs (y ∷ ys) (z ∷ zs) p b))
    a

-- all of them
pub some_same : {A : Type 0} (R : A → A → Type 0) → ((x : A) → R x x) → (xs : List A) → AreSome R xs xs
some_same R same [] = tt
some_same R same (x ∷ xs) = inl (same x, some_same R same xs)

pub literal_chain : (x y z : Lit) → IsGrownLiteral x y → IsGrownLiteral y z → IsGrownLiteral x z
literal_chain x y z a b = record { net = b.net ∙ a.net; more = λ v h. b.more v (a.more v h) }

pub literal_same : (x : Lit) → IsGrownLiteral x x
literal_same x = record { net = refl; more = λ v h. h }

-- ---- what they read

pub cube_within : (old new : List Lit) → AreSome IsGrownLiteral old new → (m : ℕ) → cube_reads new m ≡ true → cube_reads old m ≡ true
cube_within [] [] a m h = h
cube_within [] (y ∷ ys) a m h = absurd a
cube_within (x ∷ xs) [] a m h = absurd (false≢true h)
cube_within (x ∷ xs) (y ∷ ys) a m h =
    ⊎_elim
    (λ (p : IsGrownLiteral x y × AreSome IsGrownLiteral xs ys).
    ⊎_elim
    (λ (here : nat_eq y.net.0 m ≡ true). or_left (nat_eq x.net.0 m) (cube_reads xs m) (ap (λ k. nat_eq k.0 m) (sym p.0.net) ∙ here))
    (λ (later : cube_reads ys m ≡ true). or_right (nat_eq x.net.0 m) (cube_reads xs m) (cube_within xs ys p.1 m later))
    (or_cases (nat_eq y.net.0 m) (cube_reads ys m) h))
    (λ (p : AreSome IsGrownLiteral xs (y ∷ ys)). or_right (nat_eq x.net.0 m) (cube_reads xs m) (cube_within xs (y ∷ ys) p m h))
    a

pub lines_within : (old new : List Line) → AreSome IsGrownLine old new → (m : ℕ) → lines_read new m ≡ true → lines_read old m ≡ true
lines_within [] [] a m h = h
lines_within [] (y ∷ ys) a m h = absurd a
lines_within (x ∷ xs) [] a m h = absurd (false≢true h)
lines_within (x ∷ xs) (y ∷ ys) a m h =
    ⊎_elim
    (λ (p : IsGrownLine x y × AreSome IsGrownLine xs ys).
    ⊎_elim
    (λ (here : cube_reads y.cube m ≡ true). or_left (cube_reads x.cube m) (lines_read xs m) (cube_within x.cube y.cube p.0.cube m here))
    (λ (later : lines_read ys m ≡ true). or_right (cube_reads x.cube m) (lines_read xs m) (lines_within xs ys p.1 m later))
    (or_cases (cube_reads y.cube m) (lines_read ys m) h))
    (λ (p : AreSome IsGrownLine xs (y ∷ ys)). or_right (cube_reads x.cube m) (lines_read xs m) (lines_within xs (y ∷ ys) p m h))
    a

pub reads_within : (old new : Cover) → IsGrown old new → ReadsWithin old new
reads_within old new g = record { each = λ m h. lines_within old.lines new.lines g.lines m h }

-- ---- how many literals they have

cube_fewer : (old new : List Lit) → AreSome IsGrownLiteral old new → length new ≤ length old
cube_fewer [] [] a = omega arith
cube_fewer [] (y ∷ ys) a = absurd a
cube_fewer (x ∷ xs) [] a = omega arith
cube_fewer (x ∷ xs) (y ∷ ys) a =
    ⊎_elim
    (λ (p : IsGrownLiteral x y × AreSome IsGrownLiteral xs ys). let k : length ys ≤ length xs = cube_fewer xs ys p.1 in omega (arith, k))
    (λ (p : AreSome IsGrownLiteral xs (y ∷ ys)). let k : length (y ∷ ys) ≤ length xs = cube_fewer xs (y ∷ ys) p in omega (arith, k))
    a

pub lines_fewer : (old new : List Line) → AreSome IsGrownLine old new → literal_count new ≤ literal_count old
lines_fewer [] [] a = omega arith
lines_fewer [] (y ∷ ys) a = absurd a
lines_fewer (x ∷ xs) [] a = omega arith
lines_fewer (x ∷ xs) (y ∷ ys) a =
    ⊎_elim
    (λ (p : IsGrownLine x y × AreSome IsGrownLine xs ys).
    let k : literal_count ys ≤ literal_count xs = lines_fewer xs ys p.1 in
    let j : length y.cube ≤ length x.cube = cube_fewer x.cube y.cube p.0.cube in
    omega (arith, k, j))
    (λ (p : AreSome IsGrownLine xs (y ∷ ys)).
    let k : literal_count (y ∷ ys) ≤ literal_count xs = lines_fewer xs (y ∷ ys) p in
    omega (arith, k))
    a

-- ---- growing keeps what matches

pub grown_matches : (at : ℕ → ℕ) (old new : List Lit) → AreSome IsGrownLiteral old new → matches at old ≡ true → matches at new ≡ true
grown_matches at [] [] a h = refl
grown_matches at [] (y ∷ ys) a h = absurd a
grown_matches at (x ∷ xs) [] a h = refl
grown_matches at (x ∷ xs) (y ∷ ys) a h =
    let both = and_parts (holds at x) (matches at xs) h in
    ⊎_elim
    (λ (p : IsGrownLiteral x y × AreSome IsGrownLiteral xs ys).
    and_from (holds at y) (matches at ys) (ap (λ k. has y.set (at k.0)) p.0.net ∙ p.0.more (at x.net.0) both.0) (grown_matches at xs ys p.1 both.1))
    (λ (p : AreSome IsGrownLiteral xs (y ∷ ys)). grown_matches at xs (y ∷ ys) p both.1)
    a
