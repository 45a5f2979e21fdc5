-- The parts of a cube outside another: they hold where they should, no two together, and they suit the counts.
use Rattle.std.proofs.Common.{◌≡◌, ◌∙◌, ℕ, ◌+◌, ◌≤◌, ◌<◌, ◌≢◌, Bool, true, false, not, ◌&&◌, ◌⊎◌, List, [], ◌∷◌, ◌++◌, get_or, nat_eq, inl, inr, refl, sym, ap, subst, arith, Option, Some, None, unwrap_or, All, AllPairs, length, slice_set, insert, add-one, drop, append_assoc, append-nil}
use Rattle.std.specs.List.{list_all}
use Rattle.std.proofs.Math.Bool.{and-false, and-true}
use Rattle.std.proofs.lemmas.Bool.{cases_Bool, false≢true, and_parts, and_from, or_left, or_right, ltb-true, lt-ltb, le-ltb, eq-eqb, ne_eqb, not_from_false}
use Rattle.std.proofs.lemmas.List.{drop_all}
use Rattle.std.proofs.lemmas.List.Elements.{All-nil, All-cons, All-append}
use Rattle.std.proofs.lemmas.List.Kept.{AllPairs-cons}
use Rattle.mv_base.specs.Set.{has, meet, minus, full, empty, Within}
use Rattle.mv_base.specs.declared.limits.TheConstants.{MAX_VALUES}
use Rattle.mv_base.proofs.Sets.{has-meet, has-minus, has-full, has-empty, same_set}
use Rattle.mv_cover.specs.Literal.{Lit}
use Rattle.mv_cover.specs.Cubes.{holds, matches, IsCube}
use Rattle.mv_cover.specs.Covers.{cube_reads}
use Rattle.mv_cover.specs.Covering.{IsPoint}
use Rattle.mv_cover.specs.Cofactors.{cubes_match, cube_allows, cube_without}
use Rattle.mv_cover.specs.Overlap.{cubes_meet}
use Rattle.mv_cover.specs.Meets.{literal_at}
use Rattle.mv_cover.specs.Containing.{FitsNet, FitsCube}
use Rattle.mv_cover.specs.Sharp.{Suits, IsCubeOver, AreDisjoint, values_left, literals_below, with_literal, inside_of, outside_of, parts_outside, sharp_of}
use Rattle.mv_cover.proofs.Covering.{same_number, swap, matches-without}
use Rattle.mv_cover.proofs.Meets.{Rises, Rises-cube, ascend-Rises, order, nothing_below}
use Rattle.mv_cover.proofs.Containing.{fits_at}
use Rattle.mv_cover.proofs.Meeting.{HoldTogether, together, meet_from_point}
use Rattle.mv_cover.proofs.Walking.{rest_at}

-- ---- a literal put on its net

-- the list ascends as before
Rises-with_literal : (k : ℕ) (l : Lit) (c : List Lit) → k ≤ l.net.0 → Rises k c → Rises k (with_literal l c)
unfolding with_literal
Rises-with_literal k l [] low r = (low, tt)
Rises-with_literal k l (m ∷ ms) low r =
    elim (order l.net.0 m.net.0) [
      | inl y ↦ let less : l.net.0 < m.net.0 = y.1 in rw y.0 (low, (omega arith, r.1))
      | inr n ↦
          elim (order m.net.0 l.net.0) [
            | inl y ↦ let less : m.net.0 < l.net.0 = y.1 in rw n.0 (rw y.0 (r.0, Rises-with_literal (m.net.0 + 1) l ms (omega arith) r.1))
            | inr o ↦
                let above : m.net.0 ≤ l.net.0 = n.1 in
                let below : l.net.0 ≤ m.net.0 = o.1 in
                let same : m.net.0 ≡ l.net.0 = omega arith in
                rw n.0 (rw o.0 (low, rw same at r.1))
          ]
    ]

-- no set is empty, as before
possible-with_literal : (l : Lit) (c : List Lit) → not (nat_eq l.set empty) ≡ true → list_all (λ (m : Lit). not (nat_eq m.set empty)) c ≡ true → list_all (λ (m : Lit). not (nat_eq m.set empty)) (with_literal l c) ≡ true
unfolding with_literal
possible-with_literal l [] some h = and_from (not (nat_eq l.set empty)) true some refl
possible-with_literal l (m ∷ ms) some h =
    let p = and_parts (not (nat_eq m.set empty)) (list_all (λ (x : Lit). not (nat_eq x.set empty)) ms) h in
    elim (order l.net.0 m.net.0) [
      | inl y ↦ rw y.0 (and_from (not (nat_eq l.set empty)) (list_all (λ (x : Lit). not (nat_eq x.set empty)) (m ∷ ms)) some h)
      | inr n ↦
          elim (order m.net.0 l.net.0) [
            | inl y ↦ rw n.0 (rw y.0 (and_from (not (nat_eq m.set empty)) (list_all (λ (x : Lit). not (nat_eq x.set empty)) (with_literal l ms)) p.0 (possible-with_literal l ms some p.1)))
            | inr o ↦ rw n.0 (rw o.0 (and_from (not (nat_eq l.set empty)) (list_all (λ (x : Lit). not (nat_eq x.set empty)) ms) some p.1))
          ]
    ]

-- each set is some of its net's values, as before
fits-with_literal : (counts : List ℕ) (l : Lit) (c : List Lit) → FitsNet counts l.net.0 l.set → FitsCube counts c → FitsCube counts (with_literal l c)
unfolding with_literal
fits-with_literal counts l [] here h = (here, tt)
fits-with_literal counts l (m ∷ ms) here h =
    elim (order l.net.0 m.net.0) [
      | inl y ↦ rw y.0 (here, h)
      | inr n ↦
          elim (order m.net.0 l.net.0) [
            | inl y ↦ rw n.0 (rw y.0 (h.0, fits-with_literal counts l ms here h.1))
            | inr o ↦ rw n.0 (rw o.0 (here, h.1))
          ]
    ]

-- the list reads the net of the literal, and what it read
pub reads-with_literal : (l : Lit) (c : List Lit) (n : ℕ) → cube_reads (with_literal l c) n ≡ true → (nat_eq l.net.0 n ≡ true) ⊎ (cube_reads c n ≡ true)
unfolding with_literal
reads-with_literal l [] n h =
    elim (cases_Bool (nat_eq l.net.0 n)) [
      | inl t ↦ inl t
      | inr f ↦ absurd (false≢true (rw f at h))
    ]
reads-with_literal l (m ∷ ms) n h =
    elim (cases_Bool (nat_eq l.net.0 n)) [
      | inl t ↦ inl t
      | inr f ↦
          elim (order l.net.0 m.net.0) [
            | inl y ↦ inr (rw f at (rw y.0 at h))
            | inr g ↦
                elim (order m.net.0 l.net.0) [
                  | inl y ↦
                      elim (cases_Bool (nat_eq m.net.0 n)) [
                        | inl t ↦ inr (or_left (nat_eq m.net.0 n) (cube_reads ms n) t)
                        | inr k ↦
                            elim (reads-with_literal l ms n (rw k at (rw y.0 at (rw g.0 at h)))) [
                              | inl t ↦ inl t
                              | inr r ↦ inr (or_right (nat_eq m.net.0 n) (cube_reads ms n) r)
                            ]
                      ]
                  | inr o ↦ inr (or_right (nat_eq m.net.0 n) (cube_reads ms n) (rw f at (rw o.0 at (rw g.0 at h))))
                ]
          ]
    ]

-- a cube that suits the counts still does with a literal that does
IsCubeOver-with_literal : (counts : List ℕ) (l : Lit) (c : List Lit) → IsCubeOver counts c → FitsNet counts l.net.0 l.set → get_or counts l.net.0 0 ≤ MAX_VALUES → nat_eq l.set empty ≡ false → IsCubeOver counts (with_literal l c)
IsCubeOver-with_literal counts l c is fits few some = record {
  cube = record {
    ascending = ascend-Rises 0 (with_literal l c) (Rises-with_literal 0 l c (omega arith) (Rises-cube c is.cube.ascending));
    possible = possible-with_literal l c (not_from_false (nat_eq l.set empty) some) is.cube.possible;
  };
  suits = record {
    fits = fits-with_literal counts l c fits is.suits.fits;
    few = λ n h.
        elim (reads-with_literal l c n h) [
          | inl t ↦ subst (λ k. get_or counts k 0 ≤ MAX_VALUES) (same_number l.net.0 n t) few
          | inr r ↦ is.suits.few n r
        ];
  };
}

-- a list that ascends from behind a net has nothing to leave out there
without_above : (k n : ℕ) (c : List Lit) → Rises k c → n < k → cube_without n c ≡ c
without_above k n [] r low = refl
without_above k n (l ∷ ls) r low =
    let above : k ≤ l.net.0 = r.0 in
    let ne : l.net.0 ≢ n = omega arith in
    rw (ne_eqb l.net.0 n ne) (ap (λ x. l ∷ x) (without_above (l.net.0 + 1) n ls r.1 (omega arith)))

-- with a literal on its net the cube asks that literal, and on other nets what it asked
matches-with_literal : (at : ℕ → ℕ) (k : ℕ) (l : Lit) (c : List Lit) → Rises k c → matches at (with_literal l c) ≡ (holds at l && matches at (cube_without l.net.0 c))
unfolding with_literal
matches-with_literal at k l [] r = refl
matches-with_literal at k l (m ∷ ms) r =
    elim (order l.net.0 m.net.0) [
      | inl y ↦
          let less : l.net.0 < m.net.0 = y.1 in
          rw y.0 (ap (λ x. holds at l && matches at x) (sym (without_above (l.net.0 + 1) l.net.0 (m ∷ ms) (omega arith, r.1) (omega arith))))
      | inr n ↦
          elim (order m.net.0 l.net.0) [
            | inl y ↦
                let less : m.net.0 < l.net.0 = y.1 in
                let ne : m.net.0 ≢ l.net.0 = omega arith in
                rw n.0
                (rw y.0
                (rw (ne_eqb m.net.0 l.net.0 ne)
                (swap (holds at m) (holds at l) (matches at (cube_without l.net.0 ms)) (matches at (with_literal l ms)) (matches-with_literal at (m.net.0 + 1) l ms r.1))))
            | inr o ↦
                let above : m.net.0 ≤ l.net.0 = n.1 in
                let below : l.net.0 ≤ m.net.0 = o.1 in
                let same : m.net.0 ≡ l.net.0 = omega arith in
                rw n.0
                (rw o.0
                (rw (eq-eqb m.net.0 l.net.0 same) (ap (λ x. holds at l && matches at x) (sym (without_above (m.net.0 + 1) l.net.0 ms r.1 (omega arith))))))
          ]
    ]

-- what stands on a net is replaced again
with_literal-twice : (l m : Lit) (c : List Lit) → l.net.0 ≡ m.net.0 → with_literal l (with_literal m c) ≡ with_literal l c
unfolding with_literal
with_literal-twice l m [] e = rw (le-ltb l.net.0 m.net.0 (omega arith)) (rw (le-ltb m.net.0 l.net.0 (omega arith)) refl)
with_literal-twice l m (x ∷ xs) e =
    elim (order m.net.0 x.net.0) [
      | inl y ↦
          let less : m.net.0 < x.net.0 = y.1 in
          rw y.0
          (rw (le-ltb l.net.0 m.net.0 (omega arith))
          (rw (le-ltb m.net.0 l.net.0 (omega arith))
          (rw (lt-ltb l.net.0 x.net.0 (omega arith)) refl)))
      | inr n ↦
          elim (order x.net.0 m.net.0) [
            | inl y ↦
                let less : x.net.0 < m.net.0 = y.1 in
                rw n.0
                (rw y.0
                (rw (le-ltb l.net.0 x.net.0 (omega arith))
                (rw (lt-ltb x.net.0 l.net.0 (omega arith)) (ap (λ z. x ∷ z) (with_literal-twice l m xs e)))))
            | inr o ↦
                let above : x.net.0 ≤ m.net.0 = n.1 in
                let below : m.net.0 ≤ x.net.0 = o.1 in
                rw n.0
                (rw o.0
                (rw (le-ltb l.net.0 m.net.0 (omega arith))
                (rw (le-ltb m.net.0 l.net.0 (omega arith))
                (rw (le-ltb l.net.0 x.net.0 (omega arith))
                (rw (le-ltb x.net.0 l.net.0 (omega arith)) refl)))))
          ]
    ]

-- ---- what a cube leaves a net

-- a value of the net is allowed where it is left
allows-values_left : (counts : List ℕ) (k n v : ℕ) (c : List Lit) → Rises k c → v < get_or counts n 0 → cube_allows n v c ≡ has (values_left counts c n) v
allows-values_left counts k n v [] r low = sym (has-full (get_or counts n 0) v ∙ lt-ltb v (get_or counts n 0) low)
allows-values_left counts k n v (l ∷ ls) r low =
    let rest = allows-values_left counts (l.net.0 + 1) n v ls r.1 low in
    elim (cases_Bool (nat_eq l.net.0 n)) [
      | inl t ↦
          let here : l.net.0 ≡ n = same_number l.net.0 n t in
          let none : literal_at ls n ≡ None = nothing_below (l.net.0 + 1) n ls r.1 (omega arith) in
          let free : cube_allows n v ls ≡ true = rest ∙ (ap (λ o. has (unwrap_or o (full (get_or counts n 0))) v) none ∙ (has-full (get_or counts n 0) v ∙ lt-ltb v (get_or counts n 0) low)) in
          rw t (ap (λ b. has l.set v && b) free ∙ and-true (has l.set v))
      | inr f ↦ rw f rest
    ]

-- a cube holds where its value on a net is left, and the rest holds
matches-values_left : (counts : List ℕ) (at : ℕ → ℕ) (n : ℕ) (c : List Lit) → Rises 0 c → at n < get_or counts n 0 → matches at c ≡ (has (values_left counts c n) (at n) && matches at (cube_without n c))
matches-values_left counts at n c r low =
    matches-without n (at n) at at (record { here = refl; others = λ m f. refl }) c ∙ ap (λ b. b && matches at (cube_without n c)) (allows-values_left counts 0 n (at n) c r low)

-- a test more of three
also : (m v s w : Bool) → m ≡ (v && w) → ((v && s) && w) ≡ (m && s)
also m v s w e = rw e (both_ways v s w)
  where
    both_ways : (v s w : Bool) → ((v && s) && w) ≡ ((v && w) && s)
    both_ways false s w = refl
    both_ways true true true = refl
    both_ways true true false = refl
    both_ways true false true = refl
    both_ways true false false = refl

-- inside a literal the cube holds where both do
matches-inside_of : (counts : List ℕ) (at : ℕ → ℕ) (c : List Lit) (l : Lit) → Rises 0 c → at l.net.0 < get_or counts l.net.0 0 → matches at (inside_of counts c l) ≡ (matches at c && holds at l)
unfolding inside_of
matches-inside_of counts at c l r low =
    let n = l.net.0 in
    let v = values_left counts c n in
    matches-with_literal at 0 (record { net = l.net; set = meet v l.set }) c r ∙ (ap (λ b. b && matches at (cube_without n c)) (has-meet v l.set (at n)) ∙ also (matches at c) (has v (at n)) (has l.set (at n)) (matches at (cube_without n c)) (matches-values_left counts at n c r low))

-- the cube outside a literal
abbrev rest_of : List ℕ → List Lit → Lit → Lit
rest_of counts c l = record { net = l.net; set = minus (values_left counts c l.net.0) l.set }

matches-outside : (counts : List ℕ) (at : ℕ → ℕ) (c : List Lit) (l : Lit) → Rises 0 c → at l.net.0 < get_or counts l.net.0 0 → matches at (with_literal (rest_of counts c l) c) ≡ (matches at c && not (holds at l))
matches-outside counts at c l r low =
    let n = l.net.0 in
    let v = values_left counts c n in
    matches-with_literal at 0 (rest_of counts c l) c r ∙ (ap (λ b. b && matches at (cube_without n c)) (has-minus v l.set (at n)) ∙ also (matches at c) (has v (at n)) (not (has l.set (at n))) (matches at (cube_without n c)) (matches-values_left counts at n c r low))

-- ---- how many cubes hold

-- 1 for a test that holds
abbrev pub one_if : Bool → ℕ
one_if true = 1
one_if false = 0

-- how many of the cubes hold
abbrev pub held : (ℕ → ℕ) → List (List Lit) → ℕ
held at [] = 0
held at (c ∷ cs) = one_if (matches at c) + held at cs

-- two lists hold as often as both
pub held-append : (at : ℕ → ℕ) (xs ys : List (List Lit)) → held at (xs ++ ys) ≡ held at xs + held at ys
held-append at [] ys = omega arith
held-append at (x ∷ xs) ys = let ih = held-append at xs ys in omega arith

-- a cube alone holds once where it does
held-alone : (at : ℕ → ℕ) (c : List Lit) → held at (c ∷ []) ≡ one_if (matches at c)
held-alone at c = omega arith

-- some cube holds where one does
pub match-from_held : (at : ℕ → ℕ) (cs : List (List Lit)) (b : Bool) → held at cs ≡ one_if b → cubes_match at cs ≡ b
match-from_held at [] true h = absurd (omega arith)
match-from_held at [] false h = refl
match-from_held at (c ∷ cs) true h =
    elim (cases_Bool (matches at c)) [
      | inl t ↦ rw t refl
      | inr f ↦ let rest : held at cs ≡ one_if true = omega (arith, ap one_if f) in rw f (match-from_held at cs true rest)
    ]
match-from_held at (c ∷ cs) false h =
    elim (cases_Bool (matches at c)) [
      | inl t ↦ absurd (omega (arith, ap one_if t))
      | inr f ↦ let rest : held at cs ≡ one_if false = omega (arith, ap one_if f) in rw f (match-from_held at cs false rest)
    ]

-- one cube at most holds at each point
pub record HoldOnce (counts : List ℕ) (cs : List (List Lit)) : Type 0 where
  pub most : (at : ℕ → ℕ) → IsPoint counts at → held at cs ≤ 1

-- two that hold together are too many
apart_two : (a b : Bool) (n : ℕ) → one_if a + (one_if b + n) ≤ 1 → (a && b) ≡ false
apart_two true true n h = absurd (omega arith)
apart_two true false n h = refl
apart_two false b n h = refl

-- the first cube shares no point with a later one
apart_all : (counts : List ℕ) (c : List Lit) (cs : List (List Lit)) → HoldOnce counts (c ∷ cs) → All (AreDisjoint counts c) cs
apart_all counts c [] h = All-nil (AreDisjoint counts c)
apart_all counts c (x ∷ xs) h =
    All-cons (AreDisjoint counts c) x xs (record { each = λ at p. apart_two (matches at c) (matches at x) (held at xs) (h.most at p) })
    (apart_all counts c xs (record { most = λ at p. let k = h.most at p in omega arith }))

-- then no point is in two of them
pub apart-from_HoldOnce : (counts : List ℕ) (cs : List (List Lit)) → HoldOnce counts cs → AllPairs (AreDisjoint counts) cs
apart-from_HoldOnce counts [] h = λ i j d low in_list. absurd (omega arith)
apart-from_HoldOnce counts (c ∷ cs) h =
    AllPairs-cons (AreDisjoint counts) c cs (apart_all counts c cs h)
    (apart-from_HoldOnce counts cs (record { most = λ at p. let k = h.most at p in omega arith }))

-- ---- the parts outside a cube

-- a literal's part holds where the cube does and the literal doesn't
held-outside_of : (counts : List ℕ) (at : ℕ → ℕ) (c : List Lit) (l : Lit) → Rises 0 c → at l.net.0 < get_or counts l.net.0 0 → held at (outside_of counts c l) ≡ one_if (matches at c && not (holds at l))
unfolding outside_of
held-outside_of counts at c l r low =
    let n = l.net.0 in
    let set = minus (values_left counts c n) l.set in
    let holds_where = matches-outside counts at c l r low in
    elim (cases_Bool (nat_eq set empty)) [
      | inl t ↦
          let none : has set (at n) ≡ false = ap (λ s. has s (at n)) (same_number set empty t) ∙ has-empty (at n) in
          let nowhere : matches at (with_literal (rest_of counts c l) c) ≡ false = matches-with_literal at 0 (rest_of counts c l) c r ∙ ap (λ b. b && matches at (cube_without n c)) none in
          rw t (ap one_if (sym nowhere ∙ holds_where))
      | inr f ↦ rw f (held-alone at (with_literal (rest_of counts c l) c) ∙ ap one_if holds_where)
    ]

-- a cube outside a literal, and inside it outside others, is outside all
outside_more : (c h m i : Bool) → i ≡ (c && h) → one_if (c && not h) + one_if (i && not m) ≡ one_if (c && not (h && m))
outside_more true true m i e = rw e (omega arith)
outside_more true false m i e = rw e (omega arith)
outside_more false h m i e = rw e (omega arith)

-- the parts hold once where the first cube does and the second doesn't
held-parts_outside : (counts : List ℕ) (at : ℕ → ℕ) → IsPoint counts at → (c d : List Lit) → Rises 0 c → FitsCube counts d → held at (parts_outside counts c d) ≡ one_if (matches at c && not (matches at d))
unfolding parts_outside inside_of
held-parts_outside counts at p c [] r fits = ap one_if (sym (and-false (matches at c)))
held-parts_outside counts at p c (l ∷ ls) r fits =
    let low = p.below l.net.0 fits.0.valued in
    let first = held-outside_of counts at c l r low in
    let inside = matches-inside_of counts at c l r low in
    let rest = held-parts_outside counts at p (inside_of counts c l) ls (Rises-with_literal 0 (record { net = l.net; set = meet (values_left counts c l.net.0) l.set }) c (omega arith) r) fits.1 in
    held-append at (outside_of counts c l) (parts_outside counts (inside_of counts c l) ls) ∙ ((λ i. first i + rest i) ∙ outside_more (matches at c) (holds at l) (matches at ls) (matches at (inside_of counts c l)) inside)

-- the sharp holds once where the first cube does and the second doesn't
pub held-sharp_of : (counts : List ℕ) (at : ℕ → ℕ) → IsPoint counts at → (c d : List Lit) → Rises 0 c → FitsCube counts d → held at (sharp_of counts c d) ≡ one_if (matches at c && not (matches at d))
unfolding sharp_of
held-sharp_of counts at p c d r fits =
    elim (cases_Bool (cubes_meet c d)) [
      | inl t ↦ rw t (held-parts_outside counts at p c d r fits)
      | inr f ↦ rw f (held-alone at c ∙ ap one_if (alone (matches at c) (matches at d) (λ x y. false≢true (sym f ∙ meet_from_point at c d x y))))
    ]
  where
    alone : (a b : Bool) → (a ≡ true → b ≡ true → ⊥) → a ≡ (a && not b)
    alone true true h = absurd (h refl refl)
    alone true false h = refl
    alone false b h = refl

-- ---- the parts suit the counts

-- what a cube that fits leaves a net is some of the net's values
values_within : (counts : List ℕ) (c : List Lit) (n : ℕ) → FitsCube counts c → Within (values_left counts c n) (full (get_or counts n 0))
values_within counts c n fits = by_literal (literal_at c n) refl
  where
    by_literal : (o : Option ℕ) → literal_at c n ≡ o → Within (unwrap_or o (full (get_or counts n 0))) (full (get_or counts n 0))
    by_literal None e = λ v h. h
    by_literal (Some s) e = (fits_at counts c n s fits e).within

-- a set within another that has all of it with fewer is all of it
all_from_meet : (v s f : ℕ) → Within s f → meet v s ≡ f → s ≡ f
all_from_meet v s f within e =
    same_set s f
    (λ u.
    elim (cases_Bool (has s u)) [
      | inl t ↦ t ∙ sym (within u t)
      | inr n ↦ n ∙ sym (ap (λ x. has x u) (sym e) ∙ (has-meet v s u ∙ (ap (λ b. has v u && b) n ∙ and-false (has v u))))
    ])

-- a value that a literal has is one of the net's
value_below : (counts : List ℕ) (at : ℕ → ℕ) (l : Lit) → FitsNet counts l.net.0 l.set → holds at l ≡ true → at l.net.0 < get_or counts l.net.0 0
value_below counts at l fits h =
    let n = l.net.0 in
    ltb-true (at n) (get_or counts n 0) (sym (has-full (get_or counts n 0) (at n)) ∙ fits.within (at n) h)

-- a set with a member isn't empty
pub not_empty : (s v : ℕ) → has s v ≡ true → nat_eq s empty ≡ false
not_empty s v h = ne_eqb s empty (λ e. false≢true (sym (has-empty v) ∙ (ap (λ t. has t v) (sym e) ∙ h)))

-- the value that a cube has on a net is left there
value_left : (counts : List ℕ) (at : ℕ → ℕ) (c : List Lit) (n : ℕ) → Rises 0 c → at n < get_or counts n 0 → matches at c ≡ true → has (values_left counts c n) (at n) ≡ true
value_left counts at c n r low h =
    (and_parts (has (values_left counts c n) (at n)) (matches at (cube_without n c)) (sym (matches-values_left counts at n c r low) ∙ h)).0

-- the values inside a literal are some of its own
fits_inside : (counts : List ℕ) (c : List Lit) (l : Lit) → FitsNet counts l.net.0 l.set → FitsNet counts l.net.0 (meet (values_left counts c l.net.0) l.set)
fits_inside counts c l fits =
    let n = l.net.0 in
    let v = values_left counts c n in
    record {
      valued = fits.valued;
      within = λ u h. fits.within u (and_parts (has v u) (has l.set u) (sym (has-meet v l.set u) ∙ h)).1;
      not_full = λ e. fits.not_full (all_from_meet v l.set (full (get_or counts n 0)) fits.within e);
    }

-- inside a literal that holds with it a cube stays one that suits the counts
inside_suits : (counts : List ℕ) (at : ℕ → ℕ) (c : List Lit) (l : Lit) → IsCubeOver counts c → FitsNet counts l.net.0 l.set → get_or counts l.net.0 0 ≤ MAX_VALUES → matches at c ≡ true → holds at l ≡ true → IsCubeOver counts (inside_of counts c l)
unfolding inside_of
inside_suits counts at c l is fits few p q =
    let n = l.net.0 in
    let v = values_left counts c n in
    let left = value_left counts at c n (Rises-cube c is.cube.ascending) (value_below counts at l fits q) p in
    IsCubeOver-with_literal counts (record { net = l.net; set = meet v l.set }) c is (fits_inside counts c l fits) few
    (not_empty (meet v l.set) (at n) (has-meet v l.set (at n) ∙ and_from (has v (at n)) (has l.set (at n)) left q))

-- the values outside a literal lack one that the literal has
fits_outside : (counts : List ℕ) (at : ℕ → ℕ) (c : List Lit) (l : Lit) → FitsCube counts c → FitsNet counts l.net.0 l.set → holds at l ≡ true → FitsNet counts l.net.0 (minus (values_left counts c l.net.0) l.set)
fits_outside counts at c l is fits q =
    let n = l.net.0 in
    let v = values_left counts c n in
    let k = get_or counts n 0 in
    record {
      valued = fits.valued;
      within = λ u h. values_within counts c n is u (and_parts (has v u) (not (has l.set u)) (sym (has-minus v l.set u) ∙ h)).0;
      not_full = λ e.
          let there : has (full k) (at n) ≡ true = fits.within (at n) q in
          let here : has (minus v l.set) (at n) ≡ false = has-minus v l.set (at n) ∙ (ap (λ b. has v (at n) && not b) q ∙ and-false (has v (at n))) in
          absurd (false≢true (sym here ∙ (ap (λ s. has s (at n)) e ∙ there)));
    }

-- and so does the part outside that literal
outside_suits : (counts : List ℕ) (at : ℕ → ℕ) (c : List Lit) (l : Lit) → IsCubeOver counts c → FitsNet counts l.net.0 l.set → get_or counts l.net.0 0 ≤ MAX_VALUES → holds at l ≡ true → All (IsCubeOver counts) (outside_of counts c l)
unfolding outside_of
outside_suits counts at c l is fits few q =
    let set = minus (values_left counts c l.net.0) l.set in
    elim (cases_Bool (nat_eq set empty)) [
      | inl t ↦ rw t (All-nil (IsCubeOver counts))
      | inr f ↦
          rw f
          (All-cons (IsCubeOver counts) (with_literal (rest_of counts c l) c) []
          (IsCubeOver-with_literal counts (rest_of counts c l) c is (fits_outside counts at c l is.suits.fits fits q) few f)
          (All-nil (IsCubeOver counts)))
    ]

-- two cubes that hold together still do inside a literal of the second
together_inside : (counts : List ℕ) (c : List Lit) (l : Lit) (ls : List Lit) → Rises 0 c → FitsNet counts l.net.0 l.set → HoldTogether c (l ∷ ls) → HoldTogether (inside_of counts c l) ls
together_inside counts c l ls r fits h =
    let p = and_parts (holds h.at l) (matches h.at ls) h.second in
    record {
      at = h.at;
      first = matches-inside_of counts h.at c l r (value_below counts h.at l fits p.0) ∙ and_from (matches h.at c) (holds h.at l) h.first p.0;
      second = p.1;
    }

-- what suits the counts does so literal by literal
pub few_first : (counts : List ℕ) (l : Lit) (ls : List Lit) → Suits counts (l ∷ ls) → get_or counts l.net.0 0 ≤ MAX_VALUES
few_first counts l ls s = s.few l.net.0 (or_left (nat_eq l.net.0 l.net.0) (cube_reads ls l.net.0) (eq-eqb l.net.0 l.net.0 refl))

pub Suits-rest : (counts : List ℕ) (l : Lit) (ls : List Lit) → Suits counts (l ∷ ls) → Suits counts ls
Suits-rest counts l ls s = record { fits = s.fits.1; few = λ n h. s.few n (or_right (nat_eq l.net.0 n) (cube_reads ls n) h) }

-- each part is a cube that suits the counts
suits-parts_outside : (counts : List ℕ) (c d : List Lit) → IsCubeOver counts c → Suits counts d → HoldTogether c d → All (IsCubeOver counts) (parts_outside counts c d)
unfolding parts_outside
suits-parts_outside counts c [] is s h = All-nil (IsCubeOver counts)
suits-parts_outside counts c (l ∷ ls) is s h =
    let p = and_parts (holds h.at l) (matches h.at ls) h.second in
    let few = few_first counts l ls s in
    All-append (IsCubeOver counts) (outside_of counts c l) (parts_outside counts (inside_of counts c l) ls)
    (outside_suits counts h.at c l is s.fits.0 few p.0)
    (suits-parts_outside counts (inside_of counts c l) ls (inside_suits counts h.at c l is s.fits.0 few h.first p.0) (Suits-rest counts l ls s) (together_inside counts c l ls (Rises-cube c is.cube.ascending) s.fits.0 h))

-- each cube of the sharp is one that suits the counts
pub suits-sharp_of : (counts : List ℕ) (c d : List Lit) → IsCubeOver counts c → IsCube d → Suits counts d → All (IsCubeOver counts) (sharp_of counts c d)
unfolding sharp_of
suits-sharp_of counts c d is it s =
    elim (cases_Bool (cubes_meet c d)) [
      | inl t ↦ rw t (suits-parts_outside counts c d is s (together c d is.cube it t))
      | inr f ↦ rw f (All-cons (IsCubeOver counts) c [] is (All-nil (IsCubeOver counts)))
    ]

-- ---- what the sharp promises

-- the sharp holds where the first cube does and the second doesn't
sharp-points : (counts : List ℕ) (c d : List Lit) → IsCube c → Suits counts d → (at : ℕ → ℕ) → IsPoint counts at → cubes_match at (sharp_of counts c d) ≡ (matches at c && not (matches at d))
sharp-points counts c d is s at p =
    match-from_held at (sharp_of counts c d) (matches at c && not (matches at d)) (held-sharp_of counts at p c d (Rises-cube c is.ascending) s.fits)

-- one cube holds at most where it holds if a test does
pub one_if-most : (b : Bool) → one_if b ≤ 1
one_if-most true = omega arith
one_if-most false = omega arith

-- no point is in two cubes of the sharp
sharp-apart : (counts : List ℕ) (c d : List Lit) → IsCube c → Suits counts d → AllPairs (AreDisjoint counts) (sharp_of counts c d)
sharp-apart counts c d is s =
    apart-from_HoldOnce counts (sharp_of counts c d)
    (record {
      most = λ at p.
          let e = held-sharp_of counts at p c d (Rises-cube c is.ascending) s.fits in
          let m = one_if-most (matches at c && not (matches at d)) in
          omega arith;
    })

-- ---- a literal put at its place

-- where the place has the literal's net the literal replaces what is there
pub with_literal-at : (l : Lit) (c : List Lit) (i : ℕ) (d : Lit) → i ≡ literals_below l.net.0 c → i < length c → (get_or c i d).net.0 ≡ l.net.0 → with_literal l c ≡ slice_set c i l
unfolding with_literal
with_literal-at l [] i d e low same = absurd (omega arith)
with_literal-at l (m ∷ ms) i d e low same =
    elim (order m.net.0 l.net.0) [
      | inl y ↦
          let less : m.net.0 < l.net.0 = y.1 in
          let e' : i ≡ literals_below l.net.0 ms + 1 = rw y.0 at e in
          let rest = with_literal-at l ms (literals_below l.net.0 ms) d refl (omega arith) (rw (e', add-one) at same) in
          rw (le-ltb l.net.0 m.net.0 (omega arith)) (rw y.0 (rw (e', add-one) (ap (λ x. m ∷ x) rest)))
      | inr n ↦
          let e' : i ≡ 0 = rw n.0 at e in
          let here : m.net.0 ≡ l.net.0 = rw e' at same in
          rw (le-ltb l.net.0 m.net.0 (omega arith)) (rw n.0 (rw e' refl))
    ]

-- else it goes in before that place
pub with_literal-before : (l : Lit) (c : List Lit) (i : ℕ) (d : Lit) → i ≡ literals_below l.net.0 c → (i < length c → (get_or c i d).net.0 ≡ l.net.0 → ⊥) → with_literal l c ≡ insert c i l
unfolding with_literal
with_literal-before l [] i d e other = rw e refl
with_literal-before l (m ∷ ms) i d e other =
    elim (order m.net.0 l.net.0) [
      | inl y ↦
          let less : m.net.0 < l.net.0 = y.1 in
          let e' : i ≡ literals_below l.net.0 ms + 1 = rw y.0 at e in
          let rest = with_literal-before l ms (literals_below l.net.0 ms) d refl (λ low same. other (omega arith) (rw (e', add-one) same)) in
          rw (le-ltb l.net.0 m.net.0 (omega arith)) (rw y.0 (rw (e', add-one) (ap (λ x. m ∷ x) rest)))
      | inr n ↦
          let above : l.net.0 ≤ m.net.0 = n.1 in
          let e' : i ≡ 0 = rw n.0 at e in
          elim (order l.net.0 m.net.0) [
            | inl y ↦ rw y.0 (rw e' refl)
            | inr o ↦ let below : m.net.0 ≤ l.net.0 = o.1 in absurd (other (omega arith) (rw e' (omega arith)))
          ]
    ]

-- ---- the walk along the literals of the second cube

-- with i literals behind, what is in the list and what is still to come are the parts
pub record Cut (counts : List ℕ) (c d : List Lit) (before list : List (List Lit)) (lits : List Lit) (i : ℕ) : Type 0 where
  pub list_so_far : list ++ parts_outside counts lits (drop i d) ≡ before ++ parts_outside counts c d
  pub rises : Rises 0 lits
  pub possible : list_all (λ (l : Lit). not (nat_eq l.set empty)) lits ≡ true
  pub suits : Suits counts (drop i d)
  pub together : HoldTogether lits (drop i d)

-- nothing is cut before the first literal
pub cut_none : (counts : List ℕ) (c d lits : List Lit) (before : List (List Lit)) → lits ≡ c → IsCube c → IsCube d → Suits counts d → cubes_meet c d ≡ true → Cut counts c d before before lits 0
cut_none counts c d lits before e is it s meets =
    subst (λ (x : List Lit). Cut counts c d before before x 0) (sym e)
    (record {
      list_so_far = refl;
      rises = Rises-cube c is.ascending;
      possible = is.possible;
      suits = s;
      together = together c d is it meets;
    })

-- the literals left are a cube
pub cut_cube : (counts : List ℕ) (c d : List Lit) (before list : List (List Lit)) (lits : List Lit) (i : ℕ) → Cut counts c d before list lits i → IsCube lits
cut_cube counts c d before list lits i w = record { ascending = ascend-Rises 0 lits w.rises; possible = w.possible }

-- inside a literal that holds with it a list of literals stays possible
possible_inside : (counts : List ℕ) (at : ℕ → ℕ) (c : List Lit) (l : Lit) → Rises 0 c → list_all (λ (m : Lit). not (nat_eq m.set empty)) c ≡ true → FitsNet counts l.net.0 l.set → matches at c ≡ true → holds at l ≡ true → list_all (λ (m : Lit). not (nat_eq m.set empty)) (inside_of counts c l) ≡ true
unfolding inside_of
possible_inside counts at c l r some fits p q =
    let n = l.net.0 in
    let v = values_left counts c n in
    let left = value_left counts at c n r (value_below counts at l fits q) p in
    possible-with_literal (record { net = l.net; set = meet v l.set }) c (not_from_false (nat_eq (meet v l.set) empty) (not_empty (meet v l.set) (at n) (has-meet v l.set (at n) ∙ and_from (has v (at n)) (has l.set (at n)) left q))) some

-- inside a literal the list ascends as before
Rises-inside_of : (counts : List ℕ) (c : List Lit) (l : Lit) → Rises 0 c → Rises 0 (inside_of counts c l)
unfolding inside_of
Rises-inside_of counts c l r = Rises-with_literal 0 (record { net = l.net; set = meet (values_left counts c l.net.0) l.set }) c (omega arith) r

-- one literal more
pub cut_more : (counts : List ℕ) (c d : List Lit) (before list now : List (List Lit)) (lits left : List Lit) (i : ℕ) (l : Lit) → i < length d → l ≡ get_or d i l → now ≡ list ++ outside_of counts lits l → left ≡ inside_of counts lits l → Cut counts c d before list lits i → Cut counts c d before now left (i + 1)
unfolding parts_outside
cut_more counts c d before list now lits left i l low e f g w =
    let ls = drop (i + 1) d in
    let here = rest_at d i l low e in
    let s : Suits counts (l ∷ ls) = subst (λ (x : List Lit). Suits counts x) here w.suits in
    let h : HoldTogether lits (l ∷ ls) = subst (λ (x : List Lit). HoldTogether lits x) here w.together in
    let p = and_parts (holds h.at l) (matches h.at ls) h.second in
    let so_far : list ++ (outside_of counts lits l ++ parts_outside counts (inside_of counts lits l) ls) ≡ before ++ parts_outside counts c d =
    ap (λ x. list ++ parts_outside counts lits x) (sym here) ∙ w.list_so_far in
    subst (λ (x : List Lit). Cut counts c d before now x (i + 1)) (sym g)
    (record {
      list_so_far = ap (λ x. x ++ parts_outside counts (inside_of counts lits l) ls) f ∙ (append_assoc list (outside_of counts lits l) (parts_outside counts (inside_of counts lits l) ls) ∙ so_far);
      rises = Rises-inside_of counts lits l w.rises;
      possible = possible_inside counts h.at lits l w.rises w.possible s.fits.0 h.first p.0;
      suits = Suits-rest counts l ls s;
      together = together_inside counts lits l ls w.rises s.fits.0 h;
    })

-- behind the last literal the list has all parts
pub cut_all : (counts : List ℕ) (c d : List Lit) (before list : List (List Lit)) (lits : List Lit) (i : ℕ) → length d ≤ i → Cut counts c d before list lits i → list ≡ before ++ parts_outside counts c d
unfolding parts_outside
cut_all counts c d before list lits i end w =
    sym (append-nil list) ∙ (ap (λ x. list ++ parts_outside counts lits x) (sym (drop_all i d end)) ∙ w.list_so_far)

-- ---- one step of the walk

-- a literal that has all of the values leaves nothing outside
pub outside_none : (counts : List ℕ) (c : List Lit) (l : Lit) (list : List (List Lit)) (v s none : ℕ) → v ≡ values_left counts c l.net.0 → s ≡ minus v l.set → none ≡ empty → nat_eq s none ≡ true → list ≡ list ++ outside_of counts c l
unfolding outside_of
outside_none counts c l list v s none e f g t =
    let all : nat_eq (minus (values_left counts c l.net.0) l.set) empty ≡ true = ap (λ x. nat_eq (minus x l.set) empty) (sym e) ∙ ((λ i. nat_eq (sym f i) (sym g i)) ∙ t) in
    rw all (sym (append-nil list))

-- else the cube with the others is outside
pub outside_one : (counts : List ℕ) (c outside : List Lit) (l : Lit) (list now : List (List Lit)) (v s none : ℕ) → v ≡ values_left counts c l.net.0 → s ≡ minus v l.set → none ≡ empty → nat_eq s none ≡ false → outside ≡ with_literal (record { net = l.net; set = s }) c → now ≡ list ++ outside ∷ [] → now ≡ list ++ outside_of counts c l
unfolding outside_of
outside_one counts c outside l list now v s none e f g t at_net put =
    let set : s ≡ minus (values_left counts c l.net.0) l.set = f ∙ ap (λ x. minus x l.set) e in
    let some : nat_eq (minus (values_left counts c l.net.0) l.set) empty ≡ false = (λ i. nat_eq (sym set i) (sym g i)) ∙ t in
    rw some (put ∙ ap (λ x. list ++ x ∷ []) (at_net ∙ ap (λ x. with_literal (record { net = l.net; set = x }) c) set))

-- what is put first is put again
pub inside_first : (counts : List ℕ) (c lits : List Lit) (l : Lit) (v s : ℕ) → v ≡ values_left counts c l.net.0 → s ≡ meet v l.set → lits ≡ with_literal (record { net = l.net; set = s }) c → lits ≡ inside_of counts c l
unfolding inside_of
inside_first counts c lits l v s e f g = g ∙ ap (λ x. with_literal (record { net = l.net; set = x }) c) (f ∙ ap (λ x. meet x l.set) e)

-- what was put for the part outside is replaced by the part inside
pub inside_again : (counts : List ℕ) (c between lits : List Lit) (l : Lit) (u v s : ℕ) → v ≡ values_left counts c l.net.0 → s ≡ meet v l.set → between ≡ with_literal (record { net = l.net; set = u }) c → lits ≡ with_literal (record { net = l.net; set = s }) between → lits ≡ inside_of counts c l
inside_again counts c between lits l u v s e f g h =
    inside_first counts c lits l v s e f (h ∙ (ap (with_literal (record { net = l.net; set = s })) g ∙ with_literal-twice (record { net = l.net; set = s }) (record { net = l.net; set = u }) c refl))

-- the part outside is a cube
pub IsCube-outside : (c outside : List Lit) (l : Lit) (s none : ℕ) → IsCube c → none ≡ empty → nat_eq s none ≡ false → outside ≡ with_literal (record { net = l.net; set = s }) c → IsCube outside
IsCube-outside c outside l s none is e f g =
    subst (λ (x : List Lit). IsCube x) (sym g)
    (record {
      ascending = ascend-Rises 0 (with_literal (record { net = l.net; set = s }) c) (Rises-with_literal 0 (record { net = l.net; set = s }) c (omega arith) (Rises-cube c is.ascending));
      possible = possible-with_literal (record { net = l.net; set = s }) c (not_from_false (nat_eq s empty) (ap (nat_eq s) (sym e) ∙ f)) is.possible;
    })

-- ---- the sharp in the list

-- what is pushed first is the list
pub pushed_first : (now list : List (List Lit)) (x c : List Lit) → now ≡ list ++ x ∷ [] → list ≡ [] → x ≡ c → now ≡ c ∷ []
pushed_first now list x c put none same = put ∙ (λ i. none i ++ same i ∷ [])

-- a cube that doesn't meet the other is put alone, and else its parts are put
pub sharp_alone : (counts : List ℕ) (c d : List Lit) (list now : List (List Lit)) → cubes_meet c d ≡ false → now ≡ list ++ c ∷ [] → now ≡ list ++ sharp_of counts c d
unfolding sharp_of
sharp_alone counts c d list now apart put = rw apart put

-- else the parts are put
pub sharp_parts : (counts : List ℕ) (c d : List Lit) (list now : List (List Lit)) → cubes_meet c d ≡ true → now ≡ list ++ parts_outside counts c d → now ≡ list ++ sharp_of counts c d
unfolding sharp_of
sharp_parts counts c d list now meets put = rw meets put

-- what a list that is the sharp promises
pub record IsSharp (counts : List ℕ) (c d : List Lit) (cubes : List (List Lit)) : Type 0 where
  pub list : cubes ≡ sharp_of counts c d
  pub points : (at : ℕ → ℕ) → IsPoint counts at → cubes_match at cubes ≡ (matches at c && not (matches at d))
  pub apart : AllPairs (AreDisjoint counts) cubes
  pub suited : All (IsCubeOver counts) cubes

-- the sharp promises all that
pub IsSharp-sharp_of : (counts : List ℕ) (c d : List Lit) (list : List (List Lit)) → list ≡ sharp_of counts c d → IsCube c → IsCube d → Suits counts c → Suits counts d → IsSharp counts c d list
IsSharp-sharp_of counts c d list e is it s t =
    subst (λ (x : List (List Lit)). IsSharp counts c d x) (sym e)
    (record {
      list = refl;
      points = sharp-points counts c d is t;
      apart = sharp-apart counts c d is t;
      suited = suits-sharp_of counts c d (record { cube = is; suits = s }) it t;
    })
