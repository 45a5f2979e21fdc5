-- Cubes without their literal on a net, and meets of cubes: where they hold, what they read, and over which counts they are.
use Rattle.std.proofs.Common.{◌≡◌, ◌∙◌, ℕ, ◌+◌, ◌≤◌, Bool, true, false, not, ◌&&◌, ◌||◌, ◌⊎◌, Option, Some, None, is_some, All, List, [], ◌∷◌, ◌++◌, nat_eq, get_or, inl, inr, refl, sym, ap, subst, arith}
use Rattle.std.specs.List.{list_all, flat_map}
use Rattle.std.proofs.Math.Bool.{and-false, and-true, or-false}
use Rattle.std.proofs.lemmas.Bool.{cases_Bool, false≢true, and_parts, and_from, or_cases}
use Rattle.std.proofs.lemmas.List.Elements.{All-nil, All-cons, All-append, All-head, All-tail}
use Rattle.mv_base.specs.Set.{has, meet, full, empty}
use Rattle.mv_base.proofs.Sets.{has-meet}
use Rattle.mv_cover.specs.Literal.{Lit}
use Rattle.mv_cover.specs.Cubes.{matches, IsCube}
use Rattle.mv_cover.specs.Covers.{cube_reads}
use Rattle.mv_cover.specs.Covering.{changed}
use Rattle.mv_cover.specs.Cofactors.{cubes_match, cubes_read, cube_allows, cube_without}
use Rattle.mv_cover.specs.Meets.{literal_at, both, merged, met}
use Rattle.mv_cover.specs.Containing.{FitsNet, FitsCube}
use Rattle.mv_cover.specs.Sharp.{IsCubeOver}
use Rattle.mv_cover.proofs.Covering.{same_number, changed-agrees, matches-without, without-reads}
use Rattle.mv_cover.proofs.Containing.{same_from_Within, fits_at}
use Rattle.mv_cover.proofs.Meets.{Rises, Rises-cube, ascend-Rises, nothing_below, first_set, matches-merged, Rises-merged, sets-merged, IsCube-merged, apart, met_some, met_none}

-- ---- lists of cubes

or_more : (m a b c : Bool) → c ≡ (a || b) → (m || c) ≡ ((m || a) || b)
or_more true a b c e = refl
or_more false a b c e = e

pub match-append : (at : ℕ → ℕ) (xs ys : List (List Lit)) → cubes_match at (xs ++ ys) ≡ (cubes_match at xs || cubes_match at ys)
match-append at [] ys = refl
match-append at (x ∷ xs) ys = or_more (matches at x) (cubes_match at xs) (cubes_match at ys) (cubes_match at (xs ++ ys)) (match-append at xs ys)

pub read-append : (m : ℕ) (xs ys : List (List Lit)) → cubes_read (xs ++ ys) m ≡ (cubes_read xs m || cubes_read ys m)
read-append m [] ys = refl
read-append m (x ∷ xs) ys = or_more (cube_reads x m) (cubes_read xs m) (cubes_read ys m) (cubes_read (xs ++ ys) m) (read-append m xs ys)

-- what holds of each that each element gives holds of all
pub All-flat_map : {X Y : Type 0} (P : X → Type 0) (Q : Y → Type 0) (g : X → List Y) → ((x : X) → P x → All Q (g x)) → (xs : List X) → All P xs → All Q (flat_map g xs)
All-flat_map P Q g each [] all = All-nil Q
All-flat_map P Q g each (x ∷ xs) all = All-append Q (g x) (flat_map g xs) (each x (All-head P x xs all)) (All-flat_map P Q g each xs (All-tail P x xs all))

-- ---- the literal on a net

-- the value is one of those asked for
abbrev pub has_asked : Option ℕ → ℕ → Bool
has_asked None w = true
has_asked (Some set) w = has set w

-- a cube reads the nets that it has a literal on
pub reads_at : (c : List Lit) (n : ℕ) → cube_reads c n ≡ is_some (literal_at c n)
reads_at [] n = refl
reads_at (l ∷ ls) n =
    elim (cases_Bool (nat_eq l.net.0 n)) [
      | inl t ↦ rw t refl
      | inr f ↦ rw f (reads_at ls n)
    ]

-- a cube without a literal on the net stays as it is without it
pub without_none : (n : ℕ) (c : List Lit) → literal_at c n ≡ None → cube_without n c ≡ c
without_none n [] e = refl
without_none n (l ∷ ls) e =
    elim (cases_Bool (nat_eq l.net.0 n)) [
      | inl t ↦ let bad : Some l.set ≡ None = rw t at e in absurd (cc)
      | inr f ↦ rw f (ap (λ x. l ∷ x) (without_none n ls (rw f at e)))
    ]

-- a cube without the net doesn't read it
pub without_unread : (n m : ℕ) (c : List Lit) → cube_reads (cube_without n c) m ≡ true → nat_eq m n ≡ false
without_unread n m [] h = absurd (false≢true h)
without_unread n m (l ∷ ls) h =
    elim (cases_Bool (nat_eq l.net.0 n)) [
      | inl t ↦ without_unread n m ls (rw t at h)
      | inr f ↦
          elim (cases_Bool (nat_eq l.net.0 m)) [
            | inl t ↦ ap (λ k. nat_eq k n) (sym (same_number l.net.0 m t)) ∙ f
            | inr g ↦ without_unread n m ls (rw g at (rw f at h))
          ]
    ]

-- the cube allows the net the values that it asks for
allows_asked : (k n w : ℕ) (c : List Lit) → Rises k c → cube_allows n w c ≡ has_asked (literal_at c n) w
allows_asked k n w [] r = refl
allows_asked k n w (l ∷ ls) r =
    let ih = allows_asked (l.net.0 + 1) n w ls r.1 in
    elim (cases_Bool (nat_eq l.net.0 n)) [
      | inl t ↦
          let same : l.net.0 ≡ n = same_number l.net.0 n t in
          let rest : cube_allows n w ls ≡ true = ih ∙ ap (λ o. has_asked o w) (nothing_below (l.net.0 + 1) n ls r.1 (omega arith)) in
          rw t (rw rest (and-true (has l.set w)))
      | inr f ↦ rw f ih
    ]

-- with another value on the net the cube holds where that is asked for and the rest holds
pub matches_changed : (at : ℕ → ℕ) (n w : ℕ) (c : List Lit) → IsCube c → matches (changed n w at) c ≡ (has_asked (literal_at c n) w && matches at (cube_without n c))
matches_changed at n w c is =
    matches-without n w (changed n w at) at (changed-agrees n w at) c ∙ ap (λ b. b && matches at (cube_without n c)) (allows_asked 0 n w c (Rises-cube c is.ascending))

-- and so with its own
pub matches_own : (at : ℕ → ℕ) (n : ℕ) (c : List Lit) → IsCube c → matches at c ≡ (has_asked (literal_at c n) (at n) && matches at (cube_without n c))
matches_own at n c is =
    matches-without n (at n) at at (record { here = refl; others = λ m f. refl }) c
    ∙ ap (λ b. b && matches at (cube_without n c)) (allows_asked 0 n (at n) c (Rises-cube c is.ascending))

-- ---- a cube without a net is a cube over the same counts

Rises-lower : (j k : ℕ) (c : List Lit) → j ≤ k → Rises k c → Rises j c
Rises-lower j k [] low r = tt
Rises-lower j k (l ∷ ls) low r = let above : k ≤ l.net.0 = r.0 in (omega arith, r.1)

Rises-without : (k n : ℕ) (c : List Lit) → Rises k c → Rises k (cube_without n c)
Rises-without k n [] r = tt
Rises-without k n (l ∷ ls) r =
    let low : k ≤ l.net.0 = r.0 in
    let ih = Rises-without (l.net.0 + 1) n ls r.1 in
    elim (cases_Bool (nat_eq l.net.0 n)) [
      | inl t ↦ rw t (Rises-lower k (l.net.0 + 1) (cube_without n ls) (omega arith) ih)
      | inr f ↦ rw f (low, ih)
    ]

possible-without : (n : ℕ) (c : List Lit) → list_all (λ (l : Lit). not (nat_eq l.set empty)) c ≡ true → list_all (λ (l : Lit). not (nat_eq l.set empty)) (cube_without n c) ≡ true
possible-without n [] h = h
possible-without n (l ∷ ls) h =
    let p = and_parts (not (nat_eq l.set empty)) (list_all (λ (m : Lit). not (nat_eq m.set empty)) ls) h in
    let ih = possible-without n ls p.1 in
    elim (cases_Bool (nat_eq l.net.0 n)) [
      | inl t ↦ rw t ih
      | inr f ↦ rw f (and_from (not (nat_eq l.set empty)) (list_all (λ (m : Lit). not (nat_eq m.set empty)) (cube_without n ls)) p.0 ih)
    ]

pub IsCube-without : (n : ℕ) (c : List Lit) → IsCube c → IsCube (cube_without n c)
IsCube-without n c is = record {
  ascending = ascend-Rises 0 (cube_without n c) (Rises-without 0 n c (Rises-cube c is.ascending));
  possible = possible-without n c is.possible;
}

fits-without : (counts : List ℕ) (n : ℕ) (c : List Lit) → FitsCube counts c → FitsCube counts (cube_without n c)
fits-without counts n [] h = h
fits-without counts n (l ∷ ls) h =
    elim (cases_Bool (nat_eq l.net.0 n)) [
      | inl t ↦ rw t (fits-without counts n ls h.1)
      | inr f ↦ rw f (h.0, fits-without counts n ls h.1)
    ]

pub over-without : (counts : List ℕ) (n : ℕ) (c : List Lit) → IsCubeOver counts c → IsCubeOver counts (cube_without n c)
over-without counts n c is = record {
  cube = IsCube-without n c is.cube;
  suits = record { fits = fits-without counts n c is.suits.fits; few = λ m h. is.suits.few m (without-reads n m c h) };
}

-- ---- meets of cubes

-- a meet holds where both cubes do
pub matches-met : (at : ℕ → ℕ) (a b : List Lit) → cubes_match at (met a b) ≡ (matches at a && matches at b)
matches-met at a b =
    elim (cases_Bool (list_all (λ (l : Lit). not (nat_eq l.set empty)) (merged a b))) [
      | inl t ↦ ap (cubes_match at) (met_some a b (merged a b) refl t) ∙ (or-false (matches at (merged a b)) ∙ matches-merged at a b)
      | inr f ↦ ap (cubes_match at) (met_none a b (merged a b) refl f) ∙ sym (apart a b (merged a b) refl f at)
    ]

one_of_both : (m a b x y : Bool) → x ≡ (m && a) → y ≡ (m && b) → (x || y) ≡ (m && (a || b))
one_of_both true a b x y e f = λ i. e i || f i
one_of_both false a b x y e f = λ i. e i || f i

pub matches-mets : (at : ℕ → ℕ) (c : List Lit) (ks : List (List Lit)) → cubes_match at (flat_map (met c) ks) ≡ (matches at c && cubes_match at ks)
matches-mets at c [] = sym (and-false (matches at c))
matches-mets at c (k ∷ ks) =
    match-append at (met c k) (flat_map (met c) ks)
    ∙ one_of_both (matches at c) (matches at k) (cubes_match at ks) (cubes_match at (met c k)) (cubes_match at (flat_map (met c) ks)) (matches-met at c k) (matches-mets at c ks)

some_both : (x y : Option ℕ) → is_some (both x y) ≡ (is_some x || is_some y)
some_both None y = refl
some_both (Some s) None = refl
some_both (Some s) (Some t) = refl

-- merged cubes read what both read
reads-merged : (a b : List Lit) (n : ℕ) → IsCube a → IsCube b → cube_reads (merged a b) n ≡ (cube_reads a n || cube_reads b n)
reads-merged a b n p q =
    reads_at (merged a b) n
    ∙ (ap is_some (sets-merged n 0 a b (Rises-cube a p.ascending) (Rises-cube b q.ascending))
    ∙ (some_both (literal_at a n) (literal_at b n) ∙ sym ((λ i. reads_at a n i || reads_at b n i))))

-- a meet reads what one of the two reads
pub reads-met : (a b : List Lit) (m : ℕ) → IsCube a → IsCube b → cubes_read (met a b) m ≡ true → (cube_reads a m ≡ true) ⊎ (cube_reads b m ≡ true)
reads-met a b m p q h =
    elim (cases_Bool (list_all (λ (l : Lit). not (nat_eq l.set empty)) (merged a b))) [
      | inl t ↦
          or_cases (cube_reads a m) (cube_reads b m)
          (sym (reads-merged a b m p q) ∙ (sym (or-false (cube_reads (merged a b) m)) ∙ (ap (λ cs. cubes_read cs m) (sym (met_some a b (merged a b) refl t)) ∙ h)))
      | inr f ↦ absurd (false≢true (ap (λ cs. cubes_read cs m) (sym (met_none a b (merged a b) refl f)) ∙ h))
    ]

-- a meet of cubes is a cube
pub cubes-met : (a b : List Lit) → IsCube a → IsCube b → All IsCube (met a b)
cubes-met a b p q =
    elim (cases_Bool (list_all (λ (l : Lit). not (nat_eq l.set empty)) (merged a b))) [
      | inl t ↦
          subst (λ (cs : List (List Lit)). All IsCube cs) (sym (met_some a b (merged a b) refl t))
          (All-cons IsCube (merged a b) [] (IsCube-merged a b p q t) (All-nil IsCube))
      | inr f ↦ subst (λ (cs : List (List Lit)). All IsCube cs) (sym (met_none a b (merged a b) refl f)) (All-nil IsCube)
    ]

-- a list fits where each literal on a net does
fits_from : (counts : List ℕ) (k : ℕ) (c : List Lit) → Rises k c → ((n s : ℕ) → literal_at c n ≡ Some s → FitsNet counts n s) → FitsCube counts c
fits_from counts k [] r each = tt
fits_from counts k (l ∷ ls) r each = (
  each l.net.0 l.set (first_set l ls),
  fits_from counts (l.net.0 + 1) ls r.1
      (λ n s e.
      elim (cases_Bool (nat_eq l.net.0 n)) [
        | inl t ↦
            let same : l.net.0 ≡ n = same_number l.net.0 n t in
            let bad : Some s ≡ None = sym e ∙ nothing_below (l.net.0 + 1) n ls r.1 (omega arith) in
            absurd (cc)
        | inr f ↦ each n s (rw f e)
      ]),
)

fits-meet : (counts : List ℕ) (n s t : ℕ) → FitsNet counts n s → FitsNet counts n t → FitsNet counts n (meet s t)
fits-meet counts n s t p q = record {
  valued = p.valued;
  within = λ v h. p.within v (and_parts (has s v) (has t v) (sym (has-meet s t v) ∙ h)).0;
  not_full = λ e.
      p.not_full
      (same_from_Within s (full (get_or counts n 0)) p.within
      (λ v h. (and_parts (has s v) (has t v) (sym (has-meet s t v) ∙ (ap (λ u. has u v) e ∙ h))).0));
}

fits_both : (counts : List ℕ) (n : ℕ) (x y : Option ℕ) → ((s : ℕ) → x ≡ Some s → FitsNet counts n s) → ((s : ℕ) → y ≡ Some s → FitsNet counts n s) → (s : ℕ) → both x y ≡ Some s → FitsNet counts n s
fits_both counts n None y p q s e = q s e
fits_both counts n (Some u) None p q s e = p s e
fits_both counts n (Some u) (Some t) p q s e =
    let same : meet u t ≡ s = cc in
    subst (λ z. FitsNet counts n z) same (fits-meet counts n u t (p u refl) (q t refl))

over-merged : (counts : List ℕ) (a b : List Lit) → IsCubeOver counts a → IsCubeOver counts b → list_all (λ (l : Lit). not (nat_eq l.set empty)) (merged a b) ≡ true → IsCubeOver counts (merged a b)
over-merged counts a b p q some =
    let first = Rises-cube a p.cube.ascending in
    let second = Rises-cube b q.cube.ascending in
    record {
      cube = IsCube-merged a b p.cube q.cube some;
      suits = record {
        fits =
            fits_from counts 0 (merged a b) (Rises-merged 0 a b first second)
            (λ n s e. fits_both counts n (literal_at a n) (literal_at b n) (λ t f. fits_at counts a n t p.suits.fits f) (λ t f. fits_at counts b n t q.suits.fits f) s (sym (sets-merged n 0 a b first second) ∙ e));
        few = λ n h.
            elim (or_cases (cube_reads a n) (cube_reads b n) (sym (reads-merged a b n p.cube q.cube) ∙ h)) [
              | inl r ↦ p.suits.few n r
              | inr r ↦ q.suits.few n r
            ];
      };
    }

-- a meet is a cube over the counts that both are over
pub over-met : (counts : List ℕ) (a b : List Lit) → IsCubeOver counts a → IsCubeOver counts b → All (IsCubeOver counts) (met a b)
over-met counts a b p q =
    elim (cases_Bool (list_all (λ (l : Lit). not (nat_eq l.set empty)) (merged a b))) [
      | inl t ↦
          subst (λ (cs : List (List Lit)). All (IsCubeOver counts) cs) (sym (met_some a b (merged a b) refl t))
          (All-cons (IsCubeOver counts) (merged a b) [] (over-merged counts a b p q t) (All-nil (IsCubeOver counts)))
      | inr f ↦ subst (λ (cs : List (List Lit)). All (IsCubeOver counts) cs) (sym (met_none a b (merged a b) refl f)) (All-nil (IsCubeOver counts))
    ]
