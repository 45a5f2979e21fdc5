-- What cubes and lines say of a point, over lists that are joined or reordered.
use Rattle.std.proofs.Common.{◌≡◌, ◌∙◌, ℕ, Bool, true, false, not, ◌&&◌, ◌||◌, List, [], ◌∷◌, ◌++◌, nat_eq, refl, sym, ap}
use Rattle.std.specs.List.{list_all, list_any}
use Rattle.std.proofs.lemmas.Bool.{false≢true, ne_eqb, eq-eqb}
use Rattle.std.proofs.lemmas.List.Folds.{list_all-append}
use Rattle.mv_base.specs.Set.{has, empty, one}
use Rattle.mv_base.proofs.Sets.{has-one, has-empty}
use Rattle.mv_cover.specs.Literal.{Lit}
use Rattle.mv_cover.specs.declared.line.Line.{Line}
use Rattle.mv_cover.specs.Cubes.{holds, matches}
use Rattle.mv_cover.specs.Covers.{some_matches, some_gives}

-- a test of each element, as a test that fails of none
none_fails : (b a c : Bool) → a ≡ not c → (b && a) ≡ not (not b || c)
none_fails true a c e = e
none_fails false a c e = refl

pub list_all-none : {X : Type 0} (p : X → Bool) (xs : List X) → list_all p xs ≡ not (list_any (λ x. not (p x)) xs)
list_all-none p [] = refl
list_all-none p (x ∷ xs) = none_fails (p x) (list_all p xs) (list_any (λ y. not (p y)) xs) (list_all-none p xs)

pub matches-append : (at : ℕ → ℕ) (xs ys : List Lit) → matches at (xs ++ ys) ≡ (matches at xs && matches at ys)
matches-append at xs ys = list_all-append (holds at) xs ys

-- either of two, further down a list
or_more : (m a b c : Bool) → c ≡ (a || b) → (m || c) ≡ ((m || a) || b)
or_more true a b c e = refl
or_more false a b c e = e

pub some_matches-append : (at : ℕ → ℕ) (xs ys : List Line) → some_matches at (xs ++ ys) ≡ (some_matches at xs || some_matches at ys)
some_matches-append at [] ys = refl
some_matches-append at (x ∷ xs) ys = or_more (matches at x.cube) (some_matches at xs) (some_matches at ys) (some_matches at (xs ++ ys)) (some_matches-append at xs ys)

pub some_gives-append : (at : ℕ → ℕ) (v : ℕ) (xs ys : List Line) → some_gives at v (xs ++ ys) ≡ (some_gives at v xs || some_gives at v ys)
some_gives-append at v [] ys = refl
some_gives-append at v (x ∷ xs) ys = or_more (matches at x.cube && has x.out v) (some_gives at v xs) (some_gives at v ys) (some_gives at v (xs ++ ys)) (some_gives-append at v xs ys)

-- the set of one value isn't empty
pub one_some : (v : ℕ) → nat_eq (one v) empty ≡ false
one_some v =
    ne_eqb (one v) empty (λ e. false≢true (sym (has-empty v) ∙ (ap (λ s. has s v) (sym e) ∙ (has-one v v ∙ eq-eqb v v refl))))
