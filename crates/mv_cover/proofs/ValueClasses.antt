-- Values of a net that the cubes don't tell apart: their cofactors are one.
use Rattle.std.proofs.Common.{◌≡◌, ◌∙◌, ℕ, ◌+◌, ◌<◌, Bool, true, false, ◌||◌, not, List, [], ◌∷◌, ◌++◌, length, take, get_or, nat_eq, inl, inr, refl, sym, ap, subst, if◌then◌else◌}
use Rattle.std.proofs.lemmas.Bool.{cases_Bool, false≢true, and_parts, not-true}
use Rattle.std.proofs.lemmas.List.{take_more}
use Rattle.mv_base.specs.Set.{has, empty, meet, minus, join}
use Rattle.mv_base.proofs.Sets.{has-empty, has-meet, has-minus, has-join}
use Rattle.mv_cover.specs.Literal.{Lit}
use Rattle.mv_cover.specs.Cofactors.{CubesCover, lit_allows, cube_allows, cube_without, cofactor_of}
use Rattle.mv_cover.proofs.Covering.{CoverBelow, cover_start, cover_more}

-- the one cube's cofactor comes last
cofactor-push : (n v : ℕ) (cs : List (List Lit)) (c : List Lit) → cofactor_of n v (cs ++ c ∷ []) ≡ cofactor_of n v cs ++ (if cube_allows n v c then cube_without n c ∷ [] else [])
cofactor-push n v [] c = refl
cofactor-push n v (d ∷ cs) c =
    elim (cases_Bool (cube_allows n v d)) [
      | inl t ↦ rw t (ap (λ (xs : List (List Lit)). cube_without n d ∷ xs) (cofactor-push n v cs c))
      | inr f ↦ rw f (cofactor-push n v cs c)
    ]

-- the values of a set have the cofactor of one value
pub record Alike (cs : List (List Lit)) (n v set : ℕ) : Type 0 where
  pub same : (u : ℕ) → has set u ≡ true → cofactor_of n u cs ≡ cofactor_of n v cs

pub alike_more : (cs : List (List Lit)) (n v set left i : ℕ) (c d : List Lit) → i < length cs → c ≡ get_or cs i c → d ≡ c → ((u : ℕ) → has left u ≡ true → has set u ≡ true) → ((u : ℕ) → has left u ≡ true → cube_allows n u d ≡ cube_allows n v d) → Alike (take i cs) n v set → Alike (take (i + 1) cs) n v left
alike_more cs n v set left i c d low here seen fewer same before =
    let longer : take (i + 1) cs ≡ take i cs ++ c ∷ [] = take_more cs i c low ∙ ap (λ (x : List Lit). take i cs ++ x ∷ []) (sym here) in
    subst (λ (xs : List (List Lit)). Alike xs n v left) (sym longer)
    (record {
      same = λ u h.
          let one : cube_allows n u c ≡ cube_allows n v c = subst (λ (x : List Lit). cube_allows n u x ≡ cube_allows n v x) seen (same u h) in
          let all = before.same u (fewer u h) in
          cofactor-push n u (take i cs) c
          ∙ ((λ k. all k ++ (if one k then cube_without n c ∷ [] else [])) ∙ sym (cofactor-push n v (take i cs) c));
    })

-- the values left of a set are alike to one value in the literals
pub record AlikeIn (ls : List Lit) (n v set left : ℕ) : Type 0 where
  pub fewer : (u : ℕ) → has left u ≡ true → has set u ≡ true
  pub same : (u : ℕ) → has left u ≡ true → cube_allows n u ls ≡ cube_allows n v ls

pub within_meet : (n v u set result : ℕ) (l : Lit) → result ≡ meet set l.set → has l.set v ≡ true → has result u ≡ true → (has set u ≡ true) × (lit_allows n u l ≡ lit_allows n v l)
within_meet n v u set result l e here h =
    let p = and_parts (has set u) (has l.set u) (sym (has-meet set l.set u) ∙ (ap (λ s. has s u) (sym e) ∙ h)) in
    (p.0, ap (λ b. not (nat_eq l.net.0 n) || b) (p.1 ∙ sym here))

pub within_minus : (n v u set result : ℕ) (l : Lit) → result ≡ minus set l.set → has l.set v ≡ false → has result u ≡ true → (has set u ≡ true) × (lit_allows n u l ≡ lit_allows n v l)
within_minus n v u set result l e here h =
    let p = and_parts (has set u) (not (has l.set u)) (sym (has-minus set l.set u) ∙ (ap (λ s. has s u) (sym e) ∙ h)) in
    (p.0, ap (λ b. not (nat_eq l.net.0 n) || b) (not-true (has l.set u) p.1 ∙ sym here))

-- the values below this one are covered, and so are the parts of those that are settled
pub record Settled (counts : List ℕ) (cs : List (List Lit)) (n value done : ℕ) : Type 0 where
  pub below : CoverBelow counts cs n value
  pub parts : (u : ℕ) → has done u ≡ true → CubesCover counts (cofactor_of n u cs)

pub settled_none : (counts : List ℕ) (cs : List (List Lit)) (n done : ℕ) → done ≡ empty → Settled counts cs n 0 done
settled_none counts cs n done e = record { below = cover_start counts cs n; parts = λ u h. absurd (false≢true (sym (has-empty u) ∙ (ap (λ s. has s u) (sym e) ∙ h))) }

pub settled_known : (counts : List ℕ) (cs : List (List Lit)) (n value done : ℕ) → has done value ≡ true → Settled counts cs n value done → Settled counts cs n (value + 1) done
settled_known counts cs n value done h s = record { below = cover_more counts cs n value s.below (s.parts value h); parts = s.parts }

or_second : (x y : Bool) → x ≡ false → (x || y) ≡ y
or_second true y f = absurd (false≢true (sym f))
or_second false y f = refl

-- a part that is covered settles the values that are alike
pub settled_more : (counts : List ℕ) (cs part : List (List Lit)) (n value done set more : ℕ) → part ≡ cofactor_of n value cs → CubesCover counts part → more ≡ join done set → ((u : ℕ) → has set u ≡ true → cofactor_of n u cs ≡ cofactor_of n value cs) → Settled counts cs n value done → Settled counts cs n (value + 1) more
settled_more counts cs part n value done set more e covered j alike s =
    let here : CubesCover counts (cofactor_of n value cs) = subst (λ (xs : List (List Lit)). CubesCover counts xs) e covered in
    record {
      below = cover_more counts cs n value s.below here;
      parts = λ u h.
          elim (cases_Bool (has done u)) [
            | inl t ↦ s.parts u t
            | inr f ↦
                let other : has set u ≡ true = sym (or_second (has done u) (has set u) f) ∙ (sym (has-join done set u) ∙ (ap (λ m. has m u) (sym j) ∙ h)) in
                subst (λ (xs : List (List Lit)). CubesCover counts xs) (sym (alike u other)) here
          ];
    }
