-- A cube lies in another where each of that one's literals has one of its own within; else a point tells them apart.
use Rattle.std.proofs.Common.{◌≡◌, ◌∙◌, ℕ, ◌+◌, ◌<◌, Bool, true, false, not, ◌&&◌, List, [], ◌∷◌, nat_eq, inl, inr, refl, sym, ap, subst, arith, Option, Some, None, get_or, IsTrue}
use Rattle.std.specs.Prelude.{◌↔◌}
use Rattle.std.specs.List.{list_all}
use Rattle.std.proofs.lemmas.Bool.{cases_Bool, false≢true, and_parts, and_from, ltb-true, eq-eqb, ne_eqb}
use Rattle.mv_base.specs.Set.{has, meet, minus, full, empty, Within}
use Rattle.mv_base.proofs.Sets.{has-minus, has-full, has-empty, same_set, meet_of_Within, Within-from_meet}
use Rattle.mv_cover.specs.Literal.{Lit}
use Rattle.mv_cover.specs.Cubes.{holds, matches, IsCube}
use Rattle.mv_cover.specs.Covering.{IsPoint}
use Rattle.mv_cover.specs.Cofactors.{cube_allows, cube_without}
use Rattle.mv_cover.specs.Meets.{literal_at}
use Rattle.mv_cover.specs.Containing.{set_lies, lies_in, FitsNet, FitsCube, MissesPoint}
use Rattle.mv_cover.proofs.Covering.{same_number, changed, changed-agrees, changed-point, matches-without}
use Rattle.mv_cover.proofs.Meets.{Rises, Rises-cube, nothing_below, first_set}
use Rattle.mv_cover.proofs.Members.{member_of, point_of}

-- the answer of `within` is the test
pub within_is : (r : Bool) (t s : ℕ) → (IsTrue r ↔ Within t s) → r ≡ nat_eq (meet t s) t
within_is true t s h = sym (eq-eqb (meet t s) t (meet_of_Within t s (h.0 refl)))
within_is false t s h = sym (ne_eqb (meet t s) t (λ e. false≢true (h.1 (Within-from_meet t s e))))

-- the literal of a cube that holds holds
pub value_at : (at : ℕ → ℕ) (c : List Lit) (n s : ℕ) → literal_at c n ≡ Some s → matches at c ≡ true → has s (at n) ≡ true
value_at at [] n s e h = let no : None ≡ Some s = e in absurd (cc)
value_at at (l ∷ ls) n s e h =
    let p = and_parts (holds at l) (matches at ls) h in
    elim (cases_Bool (nat_eq l.net.0 n)) [
      | inl t ↦
          let here : Some l.set ≡ Some s = rw t at e in
          let same : l.set ≡ s = cc in
          let net : l.net.0 ≡ n = same_number l.net.0 n t in
          (λ i. has (sym same i) (at (sym net i))) ∙ p.0
      | inr f ↦ value_at at ls n s (rw f at e) p.1
    ]

-- the same where the set on the net lies in another
lies_value : (at : ℕ → ℕ) (c : List Lit) (n s : ℕ) (o : Option ℕ) → literal_at c n ≡ o → set_lies o s ≡ true → matches at c ≡ true → has s (at n) ≡ true
lies_value at c n s None e t h = absurd (false≢true t)
lies_value at c n s (Some u) e t h = Within-from_meet u s (same_number (meet u s) u t) (at n) (value_at at c n u e h)

-- a cube that lies in another holds nowhere else
pub lies_inside : (at : ℕ → ℕ) (a b : List Lit) → lies_in a b ≡ true → matches at a ≡ true → matches at b ≡ true
lies_inside at a [] t h = refl
lies_inside at a (l ∷ ls) t h =
    let p = and_parts (set_lies (literal_at a l.net.0) l.set) (lies_in a ls) t in
    and_from (holds at l) (matches at ls) (lies_value at a l.net.0 l.set (literal_at a l.net.0) refl p.0 h) (lies_inside at a ls p.1 h)

-- a literal of an ascending list that fails a test that not all pass
record Fails (test : Lit → Bool) (c : List Lit) : Type 0 where
  l : Lit
  here : literal_at c l.net.0 ≡ Some l.set
  fails : test l ≡ false

-- a failing literal further down
fails_more : (k : ℕ) (test : Lit → Bool) (l : Lit) (ls : List Lit) → Rises k (l ∷ ls) → Fails test ls → Fails test (l ∷ ls)
fails_more k test l ls r m = record {
  l = m.l;
  here =
      elim (cases_Bool (nat_eq l.net.0 m.l.net.0)) [
        | inl t ↦
            let same : l.net.0 ≡ m.l.net.0 = same_number l.net.0 m.l.net.0 t in
            let e : Some m.l.set ≡ None = sym m.here ∙ nothing_below (l.net.0 + 1) m.l.net.0 ls r.1 (omega arith) in
            cc
        | inr f ↦ rw f m.here
      ];
  fails = m.fails;
}

find_failing : (k : ℕ) (test : Lit → Bool) (c : List Lit) → Rises k c → list_all test c ≡ false → Fails test c
find_failing k test [] r h = absurd (false≢true (sym h))
find_failing k test (l ∷ ls) r h =
    elim (cases_Bool (test l)) [
      | inl t ↦ fails_more k test l ls r (find_failing (l.net.0 + 1) test ls r.1 (rw t at h))
      | inr f ↦ record { l = l; here = first_set l ls; fails = f }
    ]

-- tests of a member that isn't taken out
only_left : (p q : Bool) → (p && not q) ≡ true → (p ≡ true) × (q ≡ false)
only_left true true h = absurd (false≢true h)
only_left true false h = (refl, refl)
only_left false q h = absurd (false≢true h)

none_left : (p q : Bool) → (p && not q) ≡ false → p ≡ true → q ≡ true
none_left true true h e = refl
none_left true false h e = sym h
none_left false q h e = absurd (false≢true e)

-- a set that isn't within another has a member that the other hasn't
pub left_out : (t s : ℕ) → (Within t s → ⊥) → (v : ℕ) × (has t v ≡ true) × (has s v ≡ false)
left_out t s apart =
    elim (cases_Bool (nat_eq (minus t s) empty)) [
      | inl e ↦
          absurd
          (apart
          (λ v h. none_left (has t v) (has s v) (sym (has-minus t s v) ∙ (ap (λ u. has u v) (same_number (minus t s) empty e) ∙ has-empty v)) h))
      | inr f ↦
          let m = member_of (minus t s) f in
          let both = only_left (has t m.0) (has s m.0) (sym (has-minus t s m.0) ∙ m.1) in
          (m.0, both.0, both.1)
    ]

-- sets that are within one another are one
pub same_from_Within : (s t : ℕ) → Within s t → Within t s → s ≡ t
same_from_Within s t p q =
    same_set s t
    (λ v.
    elim (cases_Bool (has s v)) [
      | inl h ↦ h ∙ sym (p v h)
      | inr f ↦
          elim (cases_Bool (has t v)) [
            | inl h ↦ absurd (false≢true (sym f ∙ q v h))
            | inr g ↦ f ∙ sym g
          ]
    ])

-- what fits holds of the set on a net
pub fits_at : (counts : List ℕ) (c : List Lit) (n s : ℕ) → FitsCube counts c → literal_at c n ≡ Some s → FitsNet counts n s
fits_at counts [] n s fits e = let no : None ≡ Some s = e in absurd (cc)
fits_at counts (l ∷ ls) n s fits e =
    elim (cases_Bool (nat_eq l.net.0 n)) [
      | inl t ↦
          let here : Some l.set ≡ Some s = rw t at e in
          let same : l.set ≡ s = cc in
          let net : l.net.0 ≡ n = same_number l.net.0 n t in
          subst (λ u. FitsNet counts n u) same (subst (λ m. FitsNet counts m l.set) net fits.0)
      | inr f ↦ fits_at counts ls n s fits.1 (rw f at e)
    ]

-- a member of a set that fits is one of the net's values
value_low : (counts : List ℕ) (n s v : ℕ) → FitsNet counts n s → has s v ≡ true → v < get_or counts n 0
value_low counts n s v fits h = ltb-true v (get_or counts n 0) (sym (has-full (get_or counts n 0) v) ∙ fits.within v h)

-- a value that the net may have beside what a holds there, but not what b holds there
record Outside (counts : List ℕ) (n s : ℕ) (o : Option ℕ) : Type 0 where
  v : ℕ
  low : v < get_or counts n 0
  free : (t : ℕ) → o ≡ Some t → has t v ≡ true
  out : has s v ≡ false

-- there is such a value where the set on the net doesn't lie in the other
outside_value : (counts : List ℕ) (n s : ℕ) (o : Option ℕ) → ((t : ℕ) → o ≡ Some t → FitsNet counts n t) → FitsNet counts n s → set_lies o s ≡ false → Outside counts n s o
outside_value counts n s None each fits lies =
    let m = left_out (full (get_or counts n 0)) s (λ w. fits.not_full (same_from_Within s (full (get_or counts n 0)) fits.within w)) in
    record {
      v = m.0;
      low = ltb-true m.0 (get_or counts n 0) (sym (has-full (get_or counts n 0) m.0) ∙ m.1);
      free = λ t e. absurd (cc);
      out = m.2;
    }
outside_value counts n s (Some u) each fits lies =
    let m = left_out u s (λ w. false≢true (sym lies ∙ eq-eqb (meet u s) u (meet_of_Within u s w))) in
    record {
      v = m.0;
      low = value_low counts n u m.0 (each u refl) m.1;
      free = λ t e. let same : u ≡ t = cc in ap (λ x. has x m.0) (sym same) ∙ m.1;
      out = m.2;
    }

-- a value that the set on the net has is allowed there
allows_at : (k n v : ℕ) (c : List Lit) → Rises k c → ((s : ℕ) → literal_at c n ≡ Some s → has s v ≡ true) → cube_allows n v c ≡ true
allows_at k n v [] r each = refl
allows_at k n v (l ∷ ls) r each =
    elim (cases_Bool (nat_eq l.net.0 n)) [
      | inl t ↦
          let net : l.net.0 ≡ n = same_number l.net.0 n t in
          let behind : literal_at ls n ≡ None = nothing_below (l.net.0 + 1) n ls r.1 (omega arith) in
          let rest : cube_allows n v ls ≡ true = allows_at (l.net.0 + 1) n v ls r.1 (λ s e. let no : None ≡ Some s = sym behind ∙ e in absurd (cc)) in
          let here : has l.set v ≡ true = each l.set (rw t refl) in
          rw t (rw here rest)
      | inr f ↦
          let rest : cube_allows n v ls ≡ true = allows_at (l.net.0 + 1) n v ls r.1 (λ s e. each s (rw f e)) in
          rw f rest
    ]

-- a cube that holds still does once a net has another value that the cube allows it
changed_holds : (n v : ℕ) (at : ℕ → ℕ) (c : List Lit) → cube_allows n v c ≡ true → matches at c ≡ true → matches (changed n v at) c ≡ true
changed_holds n v at c allows h =
    let others = and_parts (cube_allows n (at n) c) (matches at (cube_without n c)) (sym (matches-without n (at n) at at (record { here = refl; others = λ m f. refl }) c) ∙ h) in
    matches-without n v (changed n v at) at (changed-agrees n v at) c ∙ and_from (cube_allows n v c) (matches at (cube_without n c)) allows others.1

-- the value on a net is one of those that the net has
point_low : (counts : List ℕ) (c : List Lit) (at : ℕ → ℕ) (n : ℕ) (o : Option ℕ) → FitsCube counts c → matches at c ≡ true → (literal_at c n ≡ None → at n ≡ 0) → 0 < get_or counts n 0 → literal_at c n ≡ o → at n < get_or counts n 0
point_low counts c at n None fits h zeros some e = let none : at n ≡ 0 = zeros e in omega arith
point_low counts c at n (Some s) fits h zeros some e = value_low counts n s (at n) (fits_at counts c n s fits e) (value_at at c n s e h)

-- an assignment at which the cube holds, and which is 0 off its nets, is a point
is_point : (counts : List ℕ) (c : List Lit) (at : ℕ → ℕ) → FitsCube counts c → matches at c ≡ true → ((n : ℕ) → literal_at c n ≡ None → at n ≡ 0) → IsPoint counts at
is_point counts c at fits h zeros = record { below = λ n some. point_low counts c at n (literal_at c n) fits h (zeros n) some refl }

-- a cube that doesn't lie in another has a point outside
pub lies_outside : (counts : List ℕ) (a b : List Lit) → IsCube a → IsCube b → lies_in a b ≡ false → FitsCube counts b → FitsCube counts a → MissesPoint counts b a
lies_outside counts a b p q lies fits_b fits_a =
    let failing = find_failing 0 (λ l. set_lies (literal_at a l.net.0) l.set) b (Rises-cube b q.ascending) lies in
    let n = failing.l.net.0 in
    let out = outside_value counts n failing.l.set (literal_at a n) (λ t e. fits_at counts a n t fits_a e) (fits_at counts b n failing.l.set fits_b failing.here) failing.fails in
    let rises = Rises-cube a p.ascending in
    let base = point_of 0 a rises p.possible in
    let there : matches (changed n out.v base.at) a ≡ true = changed_holds n out.v base.at a (allows_at 0 n out.v a rises out.free) base.there in
    record {
      at = changed n out.v base.at;
      point = changed-point counts n out.v base.at out.low (is_point counts a base.at fits_a base.there base.zeros);
      there = there;
      missed =
          elim (cases_Bool (matches (changed n out.v base.at) b)) [
            | inl t ↦
                let inside : has failing.l.set (changed n out.v base.at n) ≡ true = value_at (changed n out.v base.at) b n failing.l.set failing.here t in
                let here : has failing.l.set out.v ≡ true = ap (has failing.l.set) (sym (changed-agrees n out.v base.at).here) ∙ inside in
                absurd (false≢true (sym out.out ∙ here))
            | inr f ↦ f
          ];
    }
