-- Lines parted by whether they give one value: what both parts do together, and how many literals they have.
use Rattle.std.proofs.Common.{◌≡◌, ◌∙◌, ℕ, ◌+◌, ◌<◌, ◌≤◌, Bool, true, false, not, ◌&&◌, ◌||◌, List, [], ◌∷◌, ◌++◌, length, nat_eq, cond, inl, inr, refl, sym, ap, arith}
use Rattle.std.specs.List.{list_any, filter}
use Rattle.std.specs.Cmp.{unsigned_Decides}
use Rattle.std.proofs.lemmas.Bool.{cases_Bool}
use Rattle.mv_base.specs.Set.{has, one}
use Rattle.mv_cover.specs.declared.line.Line.{Line}
use Rattle.mv_cover.specs.Cubes.{matches}
use Rattle.mv_cover.specs.Covers.{some_matches, some_gives, literal_count}
use Rattle.mv_default.specs.Taken.{lines_of_value, lines_of_others, literals_of_value}

-- ---- tests

or_first : (a b c : Bool) → (a || (b || c)) ≡ ((a || b) || c)
or_first true b c = refl
or_first false b c = refl

or_second : (a b c : Bool) → (a || (b || c)) ≡ (b || (a || c))
or_second true true c = refl
or_second true false c = refl
or_second false b c = refl

or_and : (a b h : Bool) → ((a && h) || (b && h)) ≡ ((a || b) && h)
or_and true b true = refl
or_and true true false = refl
or_and true false false = refl
or_and false b h = refl

-- ---- both parts

-- some line holds: one of the others, or one that gives the value
pub matches-parted : (at : ℕ → ℕ) (d : ℕ) (ls : List Line) → some_matches at ls ≡ (some_matches at (lines_of_others d ls) || some_matches at (lines_of_value d ls))
matches-parted at d [] = refl
matches-parted at d (l ∷ ls) =
    elim (cases_Bool (nat_eq l.out (one d))) [
      | inl t ↦
          rw t (ap (λ b. matches at l.cube || b) (matches-parted at d ls)
          ∙ or_second (matches at l.cube) (some_matches at (lines_of_others d ls)) (some_matches at (lines_of_value d ls)))
      | inr f ↦
          rw f (ap (λ b. matches at l.cube || b) (matches-parted at d ls)
          ∙ or_first (matches at l.cube) (some_matches at (lines_of_others d ls)) (some_matches at (lines_of_value d ls)))
    ]

-- some line that holds gives a value
pub gives-parted : (at : ℕ → ℕ) (v d : ℕ) (ls : List Line) → some_gives at v ls ≡ (some_gives at v (lines_of_others d ls) || some_gives at v (lines_of_value d ls))
gives-parted at v d [] = refl
gives-parted at v d (l ∷ ls) =
    elim (cases_Bool (nat_eq l.out (one d))) [
      | inl t ↦
          rw t (ap (λ b. (matches at l.cube && has l.out v) || b) (gives-parted at v d ls)
          ∙ or_second (matches at l.cube && has l.out v) (some_gives at v (lines_of_others d ls)) (some_gives at v (lines_of_value d ls)))
      | inr f ↦
          rw f (ap (λ b. (matches at l.cube && has l.out v) || b) (gives-parted at v d ls)
          ∙ or_first (matches at l.cube && has l.out v) (some_gives at v (lines_of_others d ls)) (some_gives at v (lines_of_value d ls)))
    ]

-- the lines that give the value alone give it where one of them holds
pub gives-of_value : (at : ℕ → ℕ) (v d : ℕ) (ls : List Line) → some_gives at v (lines_of_value d ls) ≡ (some_matches at (lines_of_value d ls) && has (one d) v)
gives-of_value at v d [] = refl
gives-of_value at v d (l ∷ ls) =
    elim (cases_Bool (nat_eq l.out (one d))) [
      | inl t ↦
          let e : l.out ≡ one d = (unsigned_Decides l.out (one d)).0 t in
          rw t (ap (λ s. (matches at l.cube && has s v) || some_gives at v (lines_of_value d ls)) e
          ∙ (ap (λ b. (matches at l.cube && has (one d) v) || b) (gives-of_value at v d ls)
          ∙ or_and (matches at l.cube) (some_matches at (lines_of_value d ls)) (has (one d) v)))
      | inr f ↦ rw f (gives-of_value at v d ls)
    ]

-- ---- literals

pub literals_both : (xs ys : List Line) → literal_count (xs ++ ys) ≡ literal_count xs + literal_count ys
literals_both [] ys = omega arith
literals_both (x ∷ xs) ys = let e = literals_both xs ys in omega (arith, e)

-- both parts have the literals of all
pub literals-parted : (d : ℕ) (ls : List Line) → literal_count ls ≡ literal_count (lines_of_others d ls) + literals_of_value d ls
literals-parted d [] = omega arith
literals-parted d (l ∷ ls) =
    let e = literals-parted d ls in
    elim (cases_Bool (nat_eq l.out (one d))) [
      | inl t ↦ rw t (omega (arith, e))
      | inr f ↦ rw f (omega (arith, e))
    ]
