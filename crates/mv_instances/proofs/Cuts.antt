-- The two sides of the first `=` of a word, byte by byte.
use Rattle.std.proofs.Common.{◌≡◌, ℕ, suc, ◌+◌, true, false, List, [], ◌∷◌, ◌++◌, refl, ◌∙◌, ap, arith, inl, inr}
use Rattle.std.specs.List.{list_any}
use Rattle.std.proofs.lemmas.Bool.{cases_Bool, eqb-true}
use Rattle.mv_instances.specs.Binding.{is_equal, equal_at, before_equal, behind_equal}

-- an `=` at the front
before_here : (b : ℕ) (bs : List ℕ) → is_equal b ≡ true → before_equal (b ∷ bs) ≡ []
unfolding before_equal
before_here b bs y = rw y refl

behind_here : (b : ℕ) (bs : List ℕ) → is_equal b ≡ true → behind_equal (b ∷ bs) ≡ bs
unfolding behind_equal
behind_here b bs y = rw y refl

-- any other byte
before_there : (b : ℕ) (bs : List ℕ) → is_equal b ≡ false → before_equal (b ∷ bs) ≡ b ∷ before_equal bs
unfolding before_equal
before_there b bs n = let next : 1 + equal_at bs ≡ suc (equal_at bs) = omega arith in rw (n, next) refl

behind_there : (b : ℕ) (bs : List ℕ) → is_equal b ≡ false → behind_equal (b ∷ bs) ≡ behind_equal bs
unfolding behind_equal
behind_there b bs n = let next : 1 + equal_at bs + 1 ≡ suc (equal_at bs + 1) = omega arith in rw (n, next) refl

pub cut_at_first : (w : List ℕ) → list_any is_equal w ≡ true → w ≡ before_equal w ++ 61 ∷ behind_equal w
cut_at_first [] e = cc
cut_at_first (b ∷ bs) e =
    elim (cases_Bool (is_equal b)) [
      | inl y ↦ rw (before_here b bs y, behind_here b bs y) (ap (λ c. c ∷ bs) (eqb-true b 61 y))
      | inr n ↦ rw (before_there b bs n, behind_there b bs n) (ap (λ w. b ∷ w) (cut_at_first bs (rw n at e)))
    ]

pub none_before : (w : List ℕ) → list_any is_equal (before_equal w) ≡ false
none_before [] = unfold before_equal in refl
none_before (b ∷ bs) =
    elim (cases_Bool (is_equal b)) [
      | inl y ↦ rw (before_here b bs y) refl
      | inr n ↦ rw (before_there b bs n, n) (none_before bs)
    ]

pub nothing_behind : (w : List ℕ) → list_any is_equal w ≡ false → behind_equal w ≡ []
nothing_behind [] e = unfold behind_equal in refl
nothing_behind (b ∷ bs) e =
    elim (cases_Bool (is_equal b)) [
      | inl y ↦ let none : true ≡ false = rw y at e in cc
      | inr n ↦ behind_there b bs n ∙ nothing_behind bs (rw n at e)
    ]
