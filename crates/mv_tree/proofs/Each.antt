-- What holds of each element of a list, by recursion on it: of the parts of a list, and of those that are named.
use Rattle.std.proofs.Common.{◌≡◌, Bool, true, ℕ, List, [], ◌∷◌, ◌++◌, map, refl, sym, subst, ⊎_elim}
use Rattle.std.specs.List.{AllByRecursion, flat_map, list_all}
use Rattle.std.proofs.lemmas.Bool.{false≢true, and_from, and_parts, or_cases, or_left, or_right}
use Rattle.mv_base.specs.Names.{same_word, among}
use Rattle.mv_base.proofs.NameLemmas.{same_word_is, same_word_refl}

-- what holds of each element and gives something else gives it of each
pub each-weaker : {X : Type 0} (P Q : X → Type 0) → ((x : X) → P x → Q x) → (xs : List X) → AllByRecursion P xs → AllByRecursion Q xs
each-weaker P Q f [] h = tt
each-weaker P Q f (x ∷ xs) h = (f x h.0, each-weaker P Q f xs h.1)

-- two things that hold of each element give a third
pub each-both : {X : Type 0} (P Q R : X → Type 0) → ((x : X) → P x → Q x → R x) → (xs : List X) → AllByRecursion P xs → AllByRecursion Q xs
    → AllByRecursion R xs
each-both P Q R f [] h k = tt
each-both P Q R f (x ∷ xs) h k = (f x h.0 k.0, each-both P Q R f xs h.1 k.1)

-- what holds of everything holds of each element
pub each-always : {X : Type 0} (P : X → Type 0) → ((x : X) → P x) → (xs : List X) → AllByRecursion P xs
each-always P f [] = tt
each-always P f (x ∷ xs) = (f x, each-always P f xs)

-- ---- the parts of a list

pub each-front : {X : Type 0} (P : X → Type 0) (xs ys : List X) → AllByRecursion P (xs ++ ys) → AllByRecursion P xs
each-front P [] ys h = tt
each-front P (x ∷ xs) ys h = (h.0, each-front P xs ys h.1)

pub each-behind : {X : Type 0} (P : X → Type 0) (xs ys : List X) → AllByRecursion P (xs ++ ys) → AllByRecursion P ys
each-behind P [] ys h = h
each-behind P (x ∷ xs) ys h = each-behind P xs ys h.1

pub each-append : {X : Type 0} (P : X → Type 0) (xs ys : List X) → AllByRecursion P xs → AllByRecursion P ys → AllByRecursion P (xs ++ ys)
each-append P [] ys h k = k
each-append P (x ∷ xs) ys h k = (h.0, each-append P xs ys h.1 k)

-- ---- what is made of each element

pub each-map : {X Y : Type 0} (P : Y → Type 0) (f : X → Y) (xs : List X) → AllByRecursion (λ x. P (f x)) xs → AllByRecursion P (map f xs)
each-map P f [] h = tt
each-map P f (x ∷ xs) h = (h.0, each-map P f xs h.1)

pub each-mapped : {X Y : Type 0} (P : Y → Type 0) (f : X → Y) (xs : List X) → AllByRecursion P (map f xs) → AllByRecursion (λ x. P (f x)) xs
each-mapped P f [] h = tt
each-mapped P f (x ∷ xs) h = (h.0, each-mapped P f xs h.1)

pub each-flat : {X Y : Type 0} (P : Y → Type 0) (f : X → List Y) (xs : List X) → AllByRecursion P (flat_map f xs) → AllByRecursion (λ x. AllByRecursion P (f x)) xs
each-flat P f [] h = tt
each-flat P f (x ∷ xs) h = (each-front P (f x) (flat_map f xs) h, each-flat P f xs (each-behind P (f x) (flat_map f xs) h))

pub each-from_flat : {X Y : Type 0} (P : Y → Type 0) (f : X → List Y) (xs : List X) → AllByRecursion (λ x. AllByRecursion P (f x)) xs → AllByRecursion P (flat_map f xs)
each-from_flat P f [] h = tt
each-from_flat P f (x ∷ xs) h = each-append P (f x) (flat_map f xs) h.0 (each-from_flat P f xs h.1)

-- ---- names

-- what holds of each name holds of one among them
pub each-named : (P : List ℕ → Type 0) (ws : List (List ℕ)) (w : List ℕ) → AllByRecursion P ws → among w ws ≡ true → P w
each-named P [] w h e = absurd (false≢true e)
each-named P (u ∷ us) w h e =
    ⊎_elim (λ (s : same_word w u ≡ true). subst P (sym (same_word_is w u s)) h.0) (λ (r : among w us ≡ true). each-named P us w h.1 r) (or_cases _ _ e)

-- each name is among them
among_more : (u : List ℕ) (us ws : List (List ℕ)) → AllByRecursion (λ w. among w us ≡ true) ws → AllByRecursion (λ w. among w (u ∷ us) ≡ true) ws
among_more u us ws h = each-weaker (λ w. among w us ≡ true) (λ w. among w (u ∷ us) ≡ true) (λ w e. or_right (same_word w u) _ e) ws h

pub each_among : (ws : List (List ℕ)) → AllByRecursion (λ w. among w ws ≡ true) ws
each_among [] = tt
each_among (w ∷ ws) = (or_left _ _ (same_word_refl w), among_more w ws ws (each_among ws))

-- what holds of whatever is among names holds of each
pub each-from_names : (P : List ℕ → Type 0) (ws : List (List ℕ)) → ((w : List ℕ) → among w ws ≡ true → P w) → AllByRecursion P ws
each-from_names P ws f = each-weaker (λ w. among w ws ≡ true) P f ws (each_among ws)

-- ---- tests

pub each-from_test : {X : Type 0} (p : X → Bool) (xs : List X) → list_all p xs ≡ true → AllByRecursion (λ x. p x ≡ true) xs
each-from_test p [] e = tt
each-from_test p (x ∷ xs) e = let q = and_parts (p x) (list_all p xs) e in (q.0, each-from_test p xs q.1)

pub test-from_each : {X : Type 0} (p : X → Bool) (xs : List X) → AllByRecursion (λ x. p x ≡ true) xs → list_all p xs ≡ true
test-from_each p [] h = refl
test-from_each p (x ∷ xs) h = and_from (p x) (list_all p xs) h.0 (test-from_each p xs h.1)

-- a name among some that all pass passes
pub named_passes : (p : List ℕ → Bool) (ws : List (List ℕ)) (w : List ℕ) → list_all p ws ≡ true → among w ws ≡ true → p w ≡ true
named_passes p ws w h e = each-named (λ u. p u ≡ true) ws w (each-from_test p ws h) e

-- and the other way round
pub all_pass : (p : List ℕ → Bool) (ws : List (List ℕ)) → ((w : List ℕ) → among w ws ≡ true → p w ≡ true) → list_all p ws ≡ true
all_pass p ws f = test-from_each p ws (each-from_names (λ u. p u ≡ true) ws f)
