-- A line is heavier than those that it lies in and isn't equal to.
use Rattle.std.proofs.Common.{◌≡◌, ◌∙◌, ℕ, zero, suc, ◌+◌, ◌<◌, ◌≤◌, Bool, true, false, not, ◌&&◌, ◌||◌, ◌⊎◌, inl, inr, List, [], ◌∷◌, nat_eq, refl, sym, ap, arith, IsTrue, length, take, get_or}
use Rattle.std.specs.Prelude.{count_ones}
use Rattle.std.proofs.lemmas.Bool.{cases_Bool, cases_lt, false≢true, and_parts, not-true, eq-eqb}
use Rattle.std.proofs.lemmas.Bool.Decides.{Decides-eqb}
use Rattle.std.proofs.lemmas.Nat.{and_le_r, le_or_l}
use Rattle.std.proofs.lemmas.List.Elements.{All-head, All-tail}
use Rattle.std.proofs.lemmas.List.Sums.{sum_by-cons, sum_by_more}
use Rattle.mv_base.specs.declared.limits.TheConstants.{MAX_VALUES}
use Rattle.mv_base.specs.Set.{has, empty, one, meet, join, minus, Within}
use Rattle.mv_base.proofs.Sets.{has-empty, has-one, has-join, has-minus, same_set, meet_of_Within, Within-from_meet, count-more}
use Rattle.mv_cover.specs.Literal.{Lit}
use Rattle.mv_cover.specs.declared.line.Line.{Line}
use Rattle.mv_cover.specs.Cubes.{IsCube}
use Rattle.mv_cover.specs.Meets.{literal_at}
use Rattle.mv_cover.specs.Containing.{set_within, set_lies, lies_in}
use Rattle.mv_cover.specs.Equal.{line_eq}
use Rattle.mv_cover.specs.Keys.{same_lit, same_line, line_eq-Decides}
use Rattle.mv_cover.specs.Absorb.{line_lies, swallowed_by}
use Rattle.mv_cover.proofs.Covering.{same_number}
use Rattle.mv_cover.proofs.Members.{member_of}
use Rattle.mv_cover.proofs.Meets.{Rises, Rises-cube, nothing_below, order}
use Rattle.mv_cover.proofs.Inclusion.{lies_in-above, missing}
use Rattle.mv_composite.specs.Weights.{set_weight, cube_weight, weight_of, AreCounted, IsCounted}

-- ---- sets

-- a set within another whose numbers are the same is that one, and else has fewer values: k is no less than what lies between
fewer_values : (k t s : ℕ) → Within t s → s < t + k → (t ≡ s) ⊎ (count_ones t < count_ones s)
unfolding meet join
fewer_values zero t s inside low = absurd (let le = and_le_r t s in let e = meet_of_Within t s inside in omega arith)
fewer_values (suc k) t s inside low =
    elim (cases_Bool (nat_eq (minus s t) empty)) [
      | inl e ↦
          let none : minus s t ≡ empty = same_number (minus s t) empty e in
          inl (same_set t s (λ v. both (has t v) (has s v) (inside v) (sym (has-minus s t v) ∙ (ap (λ r. has r v) none ∙ has-empty v))))
      | inr f ↦
          let m = member_of (minus s t) f in
          let p = and_parts (has s m.0) (not (has t m.0)) (sym (has-minus s t m.0) ∙ m.1) in
          let more = count-more t m.0 (not-true (has t m.0) p.1) in
          let wider : Within (join t (one m.0)) s = λ u h.
          elim (cases_Bool (has t u)) [
            | inl y ↦ inside u y
            | inr n ↦
                let same : u ≡ m.0 = (Decides-eqb u m.0).0 (sym (has-one m.0 u) ∙ (sym (ap (λ b. b || has (one m.0) u) n) ∙ (sym (has-join t (one m.0) u) ∙ h))) in
                ap (has s) same ∙ p.0
          ] in
          let grown : t < join t (one m.0) =
          elim (cases_lt t (join t (one m.0))) [
            | inl y ↦ y
            | inr n ↦ absurd (let le = le_or_l t (one m.0) in let e : join t (one m.0) ≡ t = omega arith in let c = ap count_ones e in omega arith)
          ] in
          elim (fewer_values k (join t (one m.0)) s wider (omega arith)) [
            | inl e ↦ inr (let c = ap count_ones e in omega arith)
            | inr lt ↦ inr (omega arith)
          ]
    ]
  where
    both : (a b : Bool) → (IsTrue a → IsTrue b) → (b && not a) ≡ false → a ≡ b
    both true b up none = sym (up refl)
    both false true up none = sym none
    both false false up none = refl

-- what is heavier, or the same
record Outweighs {X : Type 0} (weight : X → ℕ) (a b : X) : Type 0 where
  le : weight b ≤ weight a
  same : weight a ≤ weight b → a ≡ b

set_outweighs : (t s : ℕ) → count_ones t ≤ MAX_VALUES → set_within t s ≡ true → Outweighs set_weight t s
set_outweighs t s counted h =
    elim (fewer_values (s + 1) t s (Within-from_meet t s (same_number (meet t s) t h)) (omega arith)) [
      | inl e ↦ record { le = (let c = ap count_ones e in omega arith); same = λ _. e }
      | inr lt ↦ record { le = omega arith; same = λ le. absurd (omega arith) }
    ]

-- ---- cubes

-- a literal more
weight_more : (l : Lit) (a : List Lit) → cube_weight (l ∷ a) ≡ set_weight l.set + cube_weight a
weight_more l a = sum_by-cons (λ (x : Lit). set_weight x.set) l a

cube_outweighs : (h k : ℕ) (a b : List Lit) → Rises h a → Rises k b → AreCounted a → lies_in a b ≡ true → Outweighs cube_weight a b
cube_outweighs h k [] [] r q counted lies = record { le = omega arith; same = λ _. refl }
cube_outweighs h k [] (m ∷ b) r q counted lies = absurd (false≢true lies)
cube_outweighs h k (l ∷ a) [] r q counted lies =
    let here = All-head (λ (x : Lit). count_ones x.set ≤ MAX_VALUES) l a counted in
    let whole = weight_more l a in
    record { le = omega arith; same = λ le. absurd (omega arith) }
cube_outweighs h k (l ∷ a) (m ∷ b) r q counted lies =
    let P = λ (x : Lit). count_ones x.set ≤ MAX_VALUES in
    let here = All-head P l a counted in
    let others = All-tail P l a counted in
    let whole = weight_more l a in
    let other = weight_more m b in
    elim (order l.net.0 m.net.0) [
      | inl low ↦
          let before : l.net.0 < m.net.0 = low.1 in
          let rest = cube_outweighs (l.net.0 + 1) m.net.0 a (m ∷ b) r.1 (omega arith, q.1) others (sym (lies_in-above l a m.net.0 (m ∷ b) before (omega arith, q.1)) ∙ lies) in
          let fewer = rest.le in
          record { le = omega arith; same = λ le. absurd (omega arith) }
      | inr high ↦
          elim (order m.net.0 l.net.0) [
            | inl low ↦
                let before : m.net.0 < l.net.0 = low.1 in
                absurd (false≢true (sym (missing (l ∷ a) m b (nothing_below l.net.0 m.net.0 (l ∷ a) (omega arith, r.1) before)) ∙ lies))
            | inr up ↦
                let above : m.net.0 ≤ l.net.0 = high.1 in
                let below : l.net.0 ≤ m.net.0 = up.1 in
                let net : l.net.0 ≡ m.net.0 = omega arith in
                let p = and_parts (set_lies (literal_at (l ∷ a) m.net.0) m.set) (lies_in (l ∷ a) b) lies in
                let first : set_within l.set m.set ≡ true = rw (eq-eqb l.net.0 m.net.0 net) at p.0 in
                let set = set_outweighs l.set m.set here first in
                let rest = cube_outweighs (l.net.0 + 1) (m.net.0 + 1) a b r.1 q.1 others (sym (lies_in-above l a (m.net.0 + 1) b (omega arith) q.1) ∙ p.1) in
                let fewer = set.le in
                let less = rest.le in
                record {
                  le = omega arith;
                  same = λ le.
                      let s = set.same (omega arith) in
                      let t = rest.same (omega arith) in
                      λ i. same_lit l m net s i ∷ t i;
                }
          ]
    ]

-- ---- lines

pub lighter : (a b : Line) → IsCube a.cube → IsCube b.cube → IsCounted a → swallowed_by a b ≡ true → weight_of b < weight_of a
lighter a b is it counted h =
    let p = and_parts (line_lies a b) (not (line_eq a b)) h in
    let q = and_parts (set_within a.out b.out) (lies_in a.cube b.cube) p.0 in
    let out = set_outweighs a.out b.out counted.out q.0 in
    let cube = cube_outweighs 0 0 a.cube b.cube (Rises-cube a.cube is.ascending) (Rises-cube b.cube it.ascending) counted.lits q.1 in
    let fewer = out.le in
    let less = cube.le in
    elim (cases_lt (weight_of b) (weight_of a)) [
      | inl lt ↦ lt
      | inr le ↦
          let same : a ≡ b = same_line a b (cube.same (omega arith)) (out.same (omega arith)) in
          absurd (false≢true (sym (not-true (line_eq a b) p.1) ∙ (line_eq-Decides a b).1 same))
    ]

-- ---- along a cube

pub weight_next : (lits : List Lit) (i : ℕ) (l : Lit) (w v : ℕ) → i < length lits → l ≡ get_or lits i l → w ≡ cube_weight (take i lits) → v ≡ set_weight l.set → w + v ≡ cube_weight (take (i + 1) lits)
weight_next lits i l w v low here so_far own =
    (λ k. so_far k + (own ∙ ap (λ (x : Lit). set_weight x.set) here) k) ∙ sym (sum_by_more (λ (x : Lit). set_weight x.set) lits i l low)
