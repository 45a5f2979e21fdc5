-- Cubes made literal by literal, over the nets below a number.
use Rattle.std.proofs.Common.{◌≡◌, ◌∙◌, ℕ, ◌+◌, ◌<◌, true, false, not, ◌&&◌, List, [], ◌∷◌, ◌++◌, nat_eq, nat_lt, refl, sym, subst, arith}
use Rattle.std.specs.List.{list_all}
use Rattle.std.proofs.lemmas.Bool.{and_parts, and_from, ltb-true, lt-ltb, not_from_false}
use Rattle.std.proofs.lemmas.List.Folds.{list_all-append}
use Rattle.mv_base.specs.Set.{empty}
use Rattle.mv_cover.specs.Literal.{Lit}
use Rattle.mv_cover.specs.Cubes.{nets_ascend, IsCube}

-- a literal on a net behind those of a cube
ascend-push : (c : List Lit) (l : Lit) → nets_ascend c ≡ true → list_all (λ (m : Lit). nat_lt m.net.0 l.net.0) c ≡ true → nets_ascend (c ++ l ∷ []) ≡ true
ascend-push [] l h low = refl
ascend-push (m ∷ []) l h low = low
ascend-push (m ∷ n ∷ c) l h low =
    let p = and_parts (nat_lt m.net.0 n.net.0) (nets_ascend (n ∷ c)) h in
    let q = and_parts (nat_lt m.net.0 l.net.0) (list_all (λ (o : Lit). nat_lt o.net.0 l.net.0) (n ∷ c)) low in
    and_from (nat_lt m.net.0 n.net.0) (nets_ascend ((n ∷ c) ++ l ∷ [])) p.0 (ascend-push (n ∷ c) l p.1 q.1)

-- nets below k are below what is more
below-wider : (k m : ℕ) (c : List Lit) → k < m + 1 → list_all (λ (l : Lit). nat_lt l.net.0 k) c ≡ true → list_all (λ (l : Lit). nat_lt l.net.0 m) c ≡ true
below-wider k m [] up h = refl
below-wider k m (l ∷ c) up h =
    let p = and_parts (nat_lt l.net.0 k) (list_all (λ (o : Lit). nat_lt o.net.0 k) c) h in
    let low : l.net.0 < k = ltb-true l.net.0 k p.0 in
    and_from (nat_lt l.net.0 m) (list_all (λ (o : Lit). nat_lt o.net.0 m) c) (lt-ltb l.net.0 m (omega arith)) (below-wider k m c up p.1)

-- a cube over the nets below k
pub record Built (c : List Lit) (k : ℕ) : Type 0 where
  pub cube : IsCube c
  pub below : list_all (λ l. nat_lt l.net.0 k) c ≡ true

pub built_none : Built [] 0
built_none = record { cube = record { ascending = refl; possible = refl }; below = refl }

-- the next net without a literal, or with one
pub built_skip : (c : List Lit) (k : ℕ) → Built c k → Built c (k + 1)
built_skip c k b = record { cube = b.cube; below = below-wider k (k + 1) c (omega arith) b.below }

pub built_more : (c : List Lit) (k : ℕ) (l : Lit) → l.net.0 ≡ k → nat_eq l.set empty ≡ false → Built c k → Built (c ++ l ∷ []) (k + 1)
built_more c k l here some b =
    let low : list_all (λ (m : Lit). nat_lt m.net.0 l.net.0) c ≡ true = subst (λ (n : ℕ). list_all (λ (m : Lit). nat_lt m.net.0 n) c ≡ true) (sym here) b.below in
    let last : not (nat_eq l.set empty) ≡ true = not_from_false (nat_eq l.set empty) some in
    record {
      cube = record {
        ascending = ascend-push c l b.cube.ascending low;
        possible =
            list_all-append (λ (m : Lit). not (nat_eq m.set empty)) c (l ∷ [])
            ∙ and_from (list_all (λ (m : Lit). not (nat_eq m.set empty)) c) (not (nat_eq l.set empty) && true) b.cube.possible
            (and_from (not (nat_eq l.set empty)) true last refl);
      };
      below =
          list_all-append (λ (m : Lit). nat_lt m.net.0 (k + 1)) c (l ∷ [])
          ∙ and_from (list_all (λ (m : Lit). nat_lt m.net.0 (k + 1)) c) (nat_lt l.net.0 (k + 1) && true) (below-wider k (k + 1) c (omega arith) b.below)
          (and_from (nat_lt l.net.0 (k + 1)) true (lt-ltb l.net.0 (k + 1) (omega arith)) refl);
    }

pub ruleset built = (built_none, built_skip, built_more)
