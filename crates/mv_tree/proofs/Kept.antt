-- Which elements of a list pass a test; and names that differ in two lists in one, and as the names of others.
use Rattle.std.proofs.Common.{◌≡◌, ℕ, Bool, true, false, not, ◌&&◌, ◌||◌, List, [], ◌∷◌, ◌++◌, map, filter, refl, sym, ◌∙◌, ap, ⊎_elim}
use Rattle.std.specs.Prelude.{if◌then◌else◌}
use Rattle.std.specs.List.{AllByRecursion, list_any, list_all}
use Rattle.std.proofs.lemmas.Bool.{false≢true, and_from, and_parts, cond-false, not-true, or_cases, or_parts}
use Rattle.std.proofs.lemmas.Bool.Decides.{same_from_decides, Decides-like}
use Rattle.std.proofs.lemmas.Simd.{map-map}
use Rattle.std.proofs.lemmas.Slice.Eq.{bytes_eq-Decides}
use Rattle.mv_base.specs.Names.{same_word, among, names_differ}
use Rattle.mv_base.proofs.NameLemmas.{same_word_is, among-append}
use Rattle.mv_tree.proofs.Each.{each-mapped, each-named}
use Rattle.mv_tree.proofs.Told.{value_told, all_told}

-- ---- elements that pass a test

-- whether there is an element
abbrev pub some : {X : Type 0} → List X → Bool
some [] = false
some (_ ∷ _) = true

pub some-map : {X Y : Type 0} (f : X → Y) (xs : List X) → some (map f xs) ≡ some xs
some-map f [] = refl
some-map f (x ∷ xs) = refl

-- some element passes where some is kept
pub any-kept : {X : Type 0} (p : X → Bool) (xs : List X) → list_any p xs ≡ some (filter p xs)
any-kept p [] = refl
any-kept {X} p (x ∷ xs) = split (p x) (any-kept p xs)
  where
    split : (b : Bool) → list_any p xs ≡ some (filter p xs) → (b || list_any p xs) ≡ some (if b then x ∷ filter p xs else filter p xs)
    split true e = refl
    split false e = e

-- all that pass one test pass another where all that are kept do
pub all-kept : {X : Type 0} (p q : X → Bool) (xs : List X) → list_all (λ x. not (p x) || q x) xs ≡ list_all q (filter p xs)
all-kept p q [] = refl
all-kept {X} p q (x ∷ xs) = split (p x) (all-kept p q xs)
  where
    split : (b : Bool) → list_all (λ y. not (p y) || q y) xs ≡ list_all q (filter p xs)
        → ((not b || q x) && list_all (λ y. not (p y) || q y) xs) ≡ list_all q (if b then x ∷ filter p xs else filter p xs)
    split true e = ap (λ c. q x && c) e
    split false e = e

-- tests that are alike on each element are so on those that are kept
pub kept-alike : {X : Type 0} (p q r : X → Bool) (xs : List X) → AllByRecursion (λ x. q x ≡ r x) xs → list_all q (filter p xs) ≡ list_all r (filter p xs)
kept-alike p q r [] h = refl
kept-alike {X} p q r (x ∷ xs) h = split (p x) (kept-alike p q r xs h.1)
  where
    split : (b : Bool) → list_all q (filter p xs) ≡ list_all r (filter p xs)
        → list_all q (if b then x ∷ filter p xs else filter p xs) ≡ list_all r (if b then x ∷ filter p xs else filter p xs)
    split true e = ap (λ c. c && list_all q (filter p xs)) h.0 ∙ ap (λ c. r x && c) e
    split false e = e

-- of what is made of elements those are kept that are made of such
pub kept-map : {X Y : Type 0} (p : X → Bool) (q : Y → Bool) (f : X → Y) (xs : List X) → AllByRecursion (λ x. q (f x) ≡ p x) xs
    → filter q (map f xs) ≡ map f (filter p xs)
kept-map p q f [] h = refl
kept-map {X} {Y} p q f (x ∷ xs) h =
    ap (λ b. if b then f x ∷ filter q (map f xs) else filter q (map f xs)) h.0 ∙ split (p x) (kept-map p q f xs h.1)
  where
    split : (b : Bool) → filter q (map f xs) ≡ map f (filter p xs)
        → (if b then f x ∷ filter q (map f xs) else filter q (map f xs)) ≡ map f (if b then x ∷ filter p xs else filter p xs)
    split true e = ap (λ ys. f x ∷ ys) e
    split false e = e

-- nothing is kept where nothing passes
pub kept-none : {X : Type 0} (p : X → Bool) (xs : List X) → AllByRecursion (λ x. p x ≡ false) xs → filter p xs ≡ []
kept-none p [] h = refl
kept-none p (x ∷ xs) h = cond-false _ _ _ h.0 ∙ kept-none p xs h.1

-- ---- names that differ

-- what two lists of names that differ say of each and of both
pub record Apart (us ws : List (List ℕ)) : Type 0 where
  pub first : names_differ us ≡ true
  pub second : names_differ ws ≡ true
  pub none : (w : List ℕ) → among w us ≡ true → among w ws ≡ false

pub apart : (us ws : List (List ℕ)) → names_differ (us ++ ws) ≡ true → Apart us ws
apart [] ws h = record { first = refl; second = h; none = λ w e. absurd (false≢true e) }
apart (u ∷ us) ws h =
    let q = and_parts (not (among u (us ++ ws))) (names_differ (us ++ ws)) h in
    let r = or_parts (among u us) (among u ws) (sym (among-append u us ws) ∙ not-true _ q.0) in
    let rest = apart us ws q.1 in
    record {
      first = and_from (not (among u us)) (names_differ us) (ap not r.0) rest.first;
      second = rest.second;
      none = λ w e.
          ⊎_elim (λ (y : same_word w u ≡ true). ap (λ x. among x ws) (same_word_is w u y) ∙ r.1) (λ (y : among w us ≡ true). rest.none w y) (or_cases _ _ e);
    }

-- names that differ are those of different names
pub one_name : (home : List ℕ → List ℕ) (ws : List (List ℕ)) (a b : List ℕ) → names_differ (map home ws) ≡ true → among a ws ≡ true → among b ws ≡ true
    → home a ≡ home b → a ≡ b
one_name home ws a b differ in_a in_b e =
    let entry : List ℕ → List ℕ × List ℕ = λ w. (home w, w) in
    let f = value_told [] (map entry ws) in
    let all = all_told [] (map entry ws) (ap names_differ (map-map (λ x. x.0) entry ws) ∙ differ) in
    let each : (w : List ℕ) → among w ws ≡ true → f (home w) ≡ w = λ w h. each-named (λ x. f (home x) ≡ x) ws w (each-mapped (λ x. f x.0 ≡ x.1) entry ws all) h in
    sym (each a in_a) ∙ (ap f e ∙ each b in_b)

pub same_name : (home : List ℕ → List ℕ) (ws : List (List ℕ)) (a b : List ℕ) → names_differ (map home ws) ≡ true → among a ws ≡ true → among b ws ≡ true
    → same_word (home a) (home b) ≡ same_word a b
same_name home ws a b differ in_a in_b =
    same_from_decides _ _ (bytes_eq-Decides (home a) (home b))
    (Decides-like _ (λ e. ap home e) (λ e. one_name home ws a b differ in_a in_b e) (bytes_eq-Decides a b))
