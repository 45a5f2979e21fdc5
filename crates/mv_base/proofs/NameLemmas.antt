-- Words, lists of words, and the place of a word in a list.
use Rattle.std.proofs.Common.{◌≡◌, ℕ, suc, zero, ◌+◌, ◌<◌, Bool, true, false, not, ◌||◌, ◌&&◌, cond, List, [], ◌∷◌, ◌++◌, length, get_or, Option, Some, None, is_some, refl, sym, ◌∙◌, ap, arith, ⊎_elim}
use Rattle.std.specs.Prelude.{nat_eq, nat_lt, if◌then◌else◌}
use Rattle.std.specs.List.{slice_get, AllByRecursion, position_or_len, IsDistinct as IsUnique}
use Rattle.std.specs.Option.{option_map}
use Rattle.std.specs.Cmp.Lexicographic.{pointwise}
use Rattle.std.proofs.lemmas.Slice.Eq.{bytes_eq-Decides}
use Rattle.std.proofs.lemmas.Bool.{false≢true, and_from, and_parts, and_right, not-true, or_cases, or_from, or_parts, or_right}
use Rattle.std.proofs.lemmas.Bool.Decides.{nat_tests, same_from_decides, Decides-like}
use Rattle.std.proofs.lemmas.List.Folds.{list_any-append}
use Rattle.std.proofs.lemmas.List.Quantifiers.{position-Some}
use Rattle.std.proofs.lemmas.Option.{slice_get-get_or}
use Rattle.mv_base.proofs.Lists.{none_from}
use Rattle.mv_base.specs.Names.{same_word, among, place_of, AreApart, IsDistinct, names_differ}

-- words that the test finds alike are one word
pub same_word_is : (a b : List ℕ) → same_word a b ≡ true → a ≡ b
same_word_is a b = (bytes_eq-Decides a b).0

pub same_word_refl : (a : List ℕ) → same_word a a ≡ true
same_word_refl a = (bytes_eq-Decides a a).1 refl

pub same_word_sym : (a b : List ℕ) → same_word a b ≡ same_word b a
same_word_sym a b =
    same_from_decides _ _ (bytes_eq-Decides a b) (Decides-like _ sym sym (bytes_eq-Decides b a))

-- ---- the place of a word

shifted : (n m : ℕ) → cond (nat_lt (1 + n) (suc m)) (Some (1 + n)) None ≡ option_map suc (cond (nat_lt n m) (Some n) None)
shifted n m = grind (arith, nat_tests)

pub place_of-cons : (w u : List ℕ) (us : List (List ℕ)) → place_of w (u ∷ us) ≡ (if same_word w u then Some 0 else option_map suc (place_of w us))
place_of-cons w u us = first (same_word w u)
  where
    first : (b : Bool) → cond (nat_lt (cond (not b) (1 + position_or_len (same_word w) us) 0) (suc (length us))) (Some (cond (not b) (1 + position_or_len (same_word w) us) 0)) None ≡ (if b then Some 0 else option_map suc (place_of w us))
    first true = grind (arith, nat_tests)
    first false = shifted (position_or_len (same_word w) us) (length us)

-- the head's answer, then the tail's
is_some-head : (b : Bool) (o : Option ℕ) → (b || is_some o) ≡ is_some (if b then Some 0 else option_map suc o)
is_some-head true o = refl
is_some-head false None = refl
is_some-head false (Some k) = refl

-- a word has a place exactly where it is among them
pub is_some-place_of : (w : List ℕ) (ws : List (List ℕ)) → is_some (place_of w ws) ≡ among w ws
is_some-place_of w [] = refl
is_some-place_of w (u ∷ us) =
    ap is_some (place_of-cons w u us) ∙ (sym (is_some-head (same_word w u) (place_of w us)) ∙ ap (λ b. same_word w u || b) (is_some-place_of w us))

-- k is the first place of w
pub record IsPlace (w : List ℕ) (ws : List (List ℕ)) (k : ℕ) : Type 0 where
  pub place : place_of w ws ≡ Some k
  pub within : k < length ws
  pub found : slice_get ws k ≡ Some w

pub IsPlace-from_place : (w : List ℕ) (ws : List (List ℕ)) (k : ℕ) → place_of w ws ≡ Some k → IsPlace w ws k
IsPlace-from_place w ws k e =
    let p = position-Some (same_word w) ws k [] e in
    record {
      place = e;
      within = p.0;
      found = slice_get-get_or ws k [] p.0 ∙ ap Some (sym (same_word_is w (get_or ws k []) p.1));
    }

some_of : (o : Option ℕ) → is_some o ≡ true → (k : ℕ) × (o ≡ Some k)
some_of None e = absurd (false≢true e)
some_of (Some k) e = (k, refl)

-- a word among them has a place
pub IsPlace-from_among : (w : List ℕ) (ws : List (List ℕ)) → among w ws ≡ true → (k : ℕ) × IsPlace w ws k
IsPlace-from_among w ws e =
    let p = some_of (place_of w ws) (is_some-place_of w ws ∙ e) in
    (p.0, IsPlace-from_place w ws p.0 p.1)

-- a word that isn't among them has none
pub place_of-none : (w : List ℕ) (ws : List (List ℕ)) → among w ws ≡ false → place_of w ws ≡ None
place_of-none w ws e = none_from (place_of w ws) (is_some-place_of w ws ∙ e)

some_is : (a b : List ℕ) → Some a ≡ Some b → a ≡ b
some_is a b e = cc

-- what stands at a place is among them
pub among-at : (ws : List (List ℕ)) (k : ℕ) (w : List ℕ) → slice_get ws k ≡ Some w → among w ws ≡ true
among-at [] k w e = cc
among-at (u ∷ us) zero w e = rw (some_is u w e, same_word_refl w) refl
among-at (u ∷ us) (suc k) w e = rw (among-at us k w e) (or_right (same_word w u) true refl)

pub among-append : (w : List ℕ) (us ws : List (List ℕ)) → among w (us ++ ws) ≡ (among w us || among w ws)
among-append w us ws = list_any-append (same_word w) us ws

-- a place behind us counts from the end of us
behind_cons : (b c : Bool) (n : ℕ) (p o : Option ℕ) → (if b then Some 0 else option_map suc (if c then p else option_map (λ k. n + k) o)) ≡ (if b || c then (if b then Some 0 else option_map suc p) else option_map (λ k. suc n + k) o)
behind_cons true c n p o = refl
behind_cons false true n p o = refl
behind_cons false false n p None = refl
behind_cons false false n p (Some k) = ap Some (omega arith)

behind_nothing : (o : Option ℕ) → o ≡ option_map (λ k. 0 + k) o
behind_nothing None = refl
behind_nothing (Some k) = ap Some (omega arith)

-- a word's place in two lists: in the first, or else behind it
pub place_of-append : (w : List ℕ) (us ws : List (List ℕ)) → place_of w (us ++ ws) ≡ (if among w us then place_of w us else option_map (λ k. length us + k) (place_of w ws))
place_of-append w [] ws = behind_nothing (place_of w ws)
place_of-append w (u ∷ us) ws =
    rw (place_of-cons w u (us ++ ws), place_of-append w us ws, place_of-cons w u us)
    (behind_cons (same_word w u) (among w us) (length us) (place_of w us) (place_of w ws))

-- ---- distinct words

AreApart-push : (ws : List (List ℕ)) (w : List ℕ) → AreApart ws → among w ws ≡ false → AreApart (ws ++ w ∷ [])
AreApart-push [] w a new = (refl, tt)
AreApart-push (u ∷ us) w a new = (
  among-append u us (w ∷ []) ∙ or_from _ _ a.0 (or_from _ _ (same_word_sym u w ∙ (or_parts _ _ new).0) refl),
  AreApart-push us w a.1 ((or_parts _ _ new).1),
)

pub IsDistinct-push : (ws : List (List ℕ)) (w : List ℕ) → IsDistinct ws → among w ws ≡ false → IsDistinct (ws ++ w ∷ [])
IsDistinct-push ws w d new = record { apart = AreApart-push ws w d.apart new }

apart_place : (ws : List (List ℕ)) (k : ℕ) (w : List ℕ) → AreApart ws → slice_get ws k ≡ Some w → place_of w ws ≡ Some k
apart_place [] k w a e = cc
apart_place (u ∷ us) zero w a e = rw (place_of-cons w u us, some_is u w e, same_word_refl w) refl
apart_place (u ∷ us) (suc k) w a e =
    rw (place_of-cons w u us, other (same_word w u) refl, apart_place us k w a.1 e) refl
  where
    other : (b : Bool) → same_word w u ≡ b → same_word w u ≡ false
    other false n = n
    other true y = absurd (false≢true (sym a.0 ∙ (rw (← same_word_is w u y) (among-at us k w e))))

-- in a distinct list the place of what stands at k is k
pub place_of-at : (ws : List (List ℕ)) (k : ℕ) (w : List ℕ) → IsDistinct ws → slice_get ws k ≡ Some w → place_of w ws ≡ Some k
place_of-at ws k w d e = apart_place ws k w d.apart e

none_among : (w : List ℕ) (ws : List (List ℕ)) → AllByRecursion (λ y. pointwise nat_eq w y ≡ false) ws → among w ws ≡ false
none_among w [] h = refl
none_among w (u ∷ us) h = or_from _ _ h.0 (none_among w us h.1)

AreApart-from_unique : (ws : List (List ℕ)) → IsUnique (pointwise nat_eq) ws → AreApart ws
unfolding IsUnique
AreApart-from_unique [] h = tt
AreApart-from_unique (w ∷ ws) h = (none_among w ws h.0, AreApart-from_unique ws h.1)

-- the keys of the kit's sets are distinct
pub IsDistinct-from_unique : (ws : List (List ℕ)) → IsUnique (pointwise nat_eq) ws → IsDistinct ws
IsDistinct-from_unique ws h = record { apart = AreApart-from_unique ws h }

-- ---- the test

AreApart-from_differ : (ws : List (List ℕ)) → names_differ ws ≡ true → AreApart ws
AreApart-from_differ [] e = tt
AreApart-from_differ (w ∷ ws) e = (not-true _ (and_parts _ _ e).0, AreApart-from_differ ws ((and_parts _ _ e).1))

differ-from_apart : (ws : List (List ℕ)) → AreApart ws → names_differ ws ≡ true
differ-from_apart [] a = refl
differ-from_apart (w ∷ ws) a = and_from _ _ (ap not a.0) (differ-from_apart ws a.1)

-- words that differ by the test are distinct, and the other way round
pub IsDistinct-from_differ : (ws : List (List ℕ)) → names_differ ws ≡ true → IsDistinct ws
IsDistinct-from_differ ws e = record { apart = AreApart-from_differ ws e }

pub differ-from_distinct : (ws : List (List ℕ)) → IsDistinct ws → names_differ ws ≡ true
differ-from_distinct ws d = differ-from_apart ws d.apart

repeated_here : (u w : List ℕ) (us ws : List (List ℕ)) (rest : Bool) → same_word w u ≡ true → (not (among u (us ++ w ∷ ws)) && rest) ≡ false
repeated_here u w us ws rest y = rw (among-append u us (w ∷ ws), same_word_sym u w, y, or_right (among u us) true refl) refl

-- a word that stands before it spoils the test
pub differ-repeated : (us ws : List (List ℕ)) (w : List ℕ) → among w us ≡ true → names_differ (us ++ w ∷ ws) ≡ false
differ-repeated [] ws w e = cc
differ-repeated (u ∷ us) ws w e =
    ⊎_elim (λ (y : same_word w u ≡ true). repeated_here u w us ws _ y) (λ (y : among w us ≡ true). and_right _ _ (differ-repeated us ws w y)) (or_cases _ _ e)

-- words that differ before a word's place leave it new
pub differ-push : (us : List (List ℕ)) (w : List ℕ) → names_differ us ≡ true → among w us ≡ false → names_differ (us ++ w ∷ []) ≡ true
differ-push us w e new = differ-from_distinct _ (IsDistinct-push us w (IsDistinct-from_differ us e) new)
