-- Sets are put behind a list one after another, and met one after another.
use Rattle.std.proofs.Common.{◌≡◌, ◌∙◌, ℕ, ◌+◌, ◌<◌, ◌&&◌, ◌==◌, true, cond, Option, List, length, [], ◌∷◌, zero, suc, get_or, refl, sym, ap, subst, ⊎_elim, arith}
use Rattle.std.proofs.lemmas.Bool.{cases_eq, and_parts, and_from, lt-ltb}
use Rattle.mv_base.specs.declared.number.NetId.{NetId}
use Rattle.mv_diagram.specs.Sets.{Point, InRange}
use Rattle.mv_factors.specs.Families.{Family, Keeps, before, but, set_at}
use Rattle.mv_factors.proofs.Keeping.{but_true}
use Rattle.mv_net.specs.declared.parts.FlatNet.{FlatNet}
use Rattle.mv_relation.specs.Relations.{HasVars, in_relation}
use Rattle.mv_wide.specs.Families.{AreCopies, AreRelations, IsInEach}

in_list : {X : Type 0} (xs : List X) (i : ℕ) (a b : X) → i < length xs → get_or xs i a ≡ get_or xs i b
in_list [] i a b low = absurd (omega arith)
in_list (x ∷ xs) zero a b low = refl
in_list (x ∷ xs) (suc i) a b low = in_list xs i a b (omega arith)

-- one relation more
pub relations_more : (nets : List (Option FlatNet)) (vars : List ℕ) (tables : List NetId) (k : ℕ) (f g : Family) (from : ℕ) (m : NetId)
    → AreRelations nets vars tables k f from → length f.list ≡ from + k → Keeps f g (before (length f.list)) → k < length tables
    → ((p : Point) → InRange f.contents.counts p → set_at g (length f.list) p ≡ in_relation nets vars (get_or tables k m).0 p)
    → AreRelations nets vars tables (k + 1) g from
relations_more nets vars tables k f g from m rel long keeps inside new = record {
  each = λ j d p low range.
      let old = subst (λ (cs : List ℕ). InRange cs p) keeps.counts range in
      ⊎_elim
      (λ (same : j ≡ k).
      let place : from + j ≡ length f.list = omega arith in
      ap (λ n. set_at g n p) place ∙ new p old
      ∙ ap (λ (x : NetId). in_relation nets vars x.0 p) (in_list tables k m d inside ∙ ap (λ n. get_or tables n d) (sym same)))
      (λ (other : j ≡ k → ⊥).
      let less : j < k = omega arith in
      let under : from + j < length f.list = omega arith in
      keeps.sets (from + j) p (lt-ltb (from + j) (length f.list) under) ∙ rel.each j d p less old)
      (cases_eq j k);
}

-- one copy more
pub copies_more : (f g h : Family) (from k left_out : ℕ) → AreCopies f g from k left_out (length f.list) → length g.list ≡ length f.list + k
    → Keeps f g (before (length f.list)) → Keeps g h (before (length g.list)) → from + k < length f.list
    → ((p : Point) → set_at h (length g.list) p ≡ cond ((from + k) == left_out) true (set_at g (from + k) p))
    → AreCopies f h from (k + 1) left_out (length f.list)
copies_more f g h from k left_out copies long first second inside new = record {
  each = λ j p low.
      ⊎_elim
      (λ (same : j ≡ k).
      let spot : length f.list + j ≡ length g.list = omega arith in
      ap (λ n. set_at h n p) spot ∙ new p
      ∙ ap (λ b. cond ((from + k) == left_out) true b) (first.sets (from + k) p (lt-ltb (from + k) (length f.list) inside))
      ∙ ap (λ n. cond ((from + n) == left_out) true (set_at f (from + n) p)) (sym same))
      (λ (other : j ≡ k → ⊥).
      let less : j < k = omega arith in
      let under : length f.list + j < length g.list = omega arith in
      second.sets (length f.list + j) p (lt-ltb (length f.list + j) (length g.list) under) ∙ copies.each j p less)
      (cases_eq j k);
}

-- one place alone
pub each_first : (f : Family) (place : ℕ) (p : Point) → set_at f place p ≡ true → IsInEach f place (place + 1) p
each_first f place p is = record {
  each = λ k low high. let e : place ≡ k = omega arith in subst (λ n. set_at f n p ≡ true) e is;
}

pub first_each : (f : Family) (place to : ℕ) (p : Point) → place < to → IsInEach f place to p → set_at f place p ≡ true
first_each f place to p low each = each.each place (omega arith) low

-- one place more
pub each_more : (f g h : Family) (place other : ℕ) → place < other → Keeps f g (but place)
    → ((p : Point) → set_at h place p ≡ (set_at g place p && set_at g other p))
    → ((p : Point) → set_at g place p ≡ true → IsInEach f place other p)
    → (p : Point) → set_at h place p ≡ true → IsInEach f place (other + 1) p
each_more f g h place other low keeps meet only p is =
    let parts = and_parts (set_at g place p) (set_at g other p) (sym (meet p) ∙ is) in
    let here : set_at f other p ≡ true = sym (keeps.sets other p (but_true place other (λ e. absurd (omega arith)))) ∙ parts.1 in
    let earlier = only p parts.0 in
    record {
      each = λ k first last.
          ⊎_elim
          (λ (same : k ≡ other). subst (λ n. set_at f n p ≡ true) (sym same) here)
          (λ (apart : k ≡ other → ⊥). let less : k < other = omega arith in earlier.each k first less)
          (cases_eq k other);
    }

pub more_each : (f g h : Family) (place other : ℕ) → place < other → Keeps f g (but place)
    → ((p : Point) → set_at h place p ≡ (set_at g place p && set_at g other p))
    → ((p : Point) → IsInEach f place other p → set_at g place p ≡ true)
    → (p : Point) → IsInEach f place (other + 1) p → set_at h place p ≡ true
more_each f g h place other low keeps meet all p each =
    let fewer : IsInEach f place other p = record { each = λ k first last. each.each k first (omega arith) } in
    let here : set_at f other p ≡ true = each.each other (omega arith) (omega arith) in
    meet p
    ∙ and_from (set_at g place p) (set_at g other p) (all p fewer)
    (keeps.sets other p (but_true place other (λ e. absurd (omega arith))) ∙ here)

-- variables are there where the numbers of values are the same
pub vars_along : (nets : List (Option FlatNet)) (counts counts' vars : List ℕ) (n : ℕ) → counts' ≡ counts → HasVars nets counts vars n
    → HasVars nets counts' vars n
vars_along nets counts counts' vars n same has = subst (λ (cs : List ℕ). HasVars nets cs vars n) (sym same) has
