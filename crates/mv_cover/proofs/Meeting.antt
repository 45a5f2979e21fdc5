-- Cubes whose literals meet hold together at a point.
use Rattle.std.proofs.Common.{◌≡◌, ◌∙◌, ℕ, ◌+◌, ◌<◌, ◌≤◌, Bool, true, false, not, ◌&&◌, ◌||◌, List, [], ◌∷◌, length, drop, get_or, nat_eq, nat_lt, inl, inr, ◌⊎◌, refl, sym, ap, arith, IsTrue, add-one}
use Rattle.std.proofs.lemmas.List.Folds.{list_all_at}
use Rattle.std.proofs.lemmas.List.{drop_all}
use Rattle.std.specs.Prelude.{◌↔◌}
use Rattle.std.specs.List.{list_all, Contains}
use Rattle.std.specs.Cmp.{unsigned_Decides}
use Rattle.std.proofs.lemmas.Bool.{cases_Bool, false≢true, and_parts, and_from, or_left, or_right, ltb-true, lt-ltb, ne_eqb, eq-eqb, not-true, not_from_false, false_from_ne_true, eqb-false}
use Rattle.mv_base.specs.Set.{has, empty, meet}
use Rattle.mv_base.proofs.Sets.{has-meet, has-empty}
use Rattle.mv_cover.specs.Literal.{Lit}
use Rattle.mv_cover.specs.declared.line.Line.{Line}
use Rattle.mv_cover.specs.Cubes.{holds, matches, nets_ascend, IsCube}
use Rattle.mv_cover.specs.Cofactors.{cube_allows}
use Rattle.mv_cover.specs.Overlap.{lits_meet, cubes_meet}
use Rattle.mv_cover.specs.Plain.{Agree}
use Rattle.mv_cover.proofs.Members.{member_of}
use Rattle.mv_cover.proofs.Walking.{nets_ascend-tail, drop_true, Walked, ascends_first, ascends_second, past_first, past_second, past_both}

-- a test of each element passes at each
pub list_all-Contains : {X : Type 0} (p : X → Bool) (xs : List X) (x : X) → Contains xs x → list_all p xs ≡ true → p x ≡ true
list_all-Contains p xs x c all =
    elim (cases_Bool (p x)) [
      | inl t ↦ t
      | inr f ↦ absurd (false≢true (sym (list_all_at p xs c.0 x c.1 (ap p c.2 ∙ f)) ∙ all))
    ]

-- behind a net the literals are on later ones
unfoldable pub above : ℕ → List Lit → Bool
above n ls = list_all (λ (l : Lit). nat_lt n l.net.0) ls

pub above_tail : (n : ℕ) (l : Lit) (ls : List Lit) → nets_ascend (l ∷ ls) ≡ true → n ≤ l.net.0 → above n ls ≡ true
unfolding above
above_tail n l [] h low = refl
above_tail n l (m ∷ ls) h low =
    let p = and_parts (nat_lt l.net.0 m.net.0) (nets_ascend (m ∷ ls)) h in
    let next : l.net.0 < m.net.0 = ltb-true l.net.0 m.net.0 p.0 in
    let here : n < m.net.0 = omega arith in
    and_from (nat_lt n m.net.0) (above n ls) (lt-ltb n m.net.0 here) (above_tail n m ls p.1 (omega arith))

above_all : (n : ℕ) (l : Lit) (ls : List Lit) → nets_ascend (l ∷ ls) ≡ true → n < l.net.0 → above n (l ∷ ls) ≡ true
unfolding above
above_all n l ls h low = and_from (nat_lt n l.net.0) (above n ls) (lt-ltb n l.net.0 low) (above_tail n l ls h (omega arith))

other_net : (n m : ℕ) → nat_lt n m ≡ true → nat_eq m n ≡ false
other_net n m h = let low : n < m = ltb-true n m h in ne_eqb m n (λ e. absurd (omega arith))

other_net_back : (n m : ℕ) → nat_lt n m ≡ true → nat_eq n m ≡ false
other_net_back n m h = let low : n < m = ltb-true n m h in ne_eqb n m (λ e. absurd (omega arith))

-- literals on later nets ask nothing of a net
above-allows : (n v : ℕ) (ls : List Lit) → above n ls ≡ true → cube_allows n v ls ≡ true
unfolding above
above-allows n v [] h = refl
above-allows n v (l ∷ ls) h =
    let p = and_parts (nat_lt n l.net.0) (above n ls) h in
    and_from (not (nat_eq l.net.0 n) || has l.set v) (cube_allows n v ls)
    (or_left (not (nat_eq l.net.0 n)) (has l.set v) (not_from_false (nat_eq l.net.0 n) (other_net n l.net.0 p.0)))
    (above-allows n v ls p.1)

-- one literal of the cube is on the net, and its values are all that the cube asks there
record AsksOne (n : ℕ) (c : List Lit) : Type 0 where
  lit : Lit
  member : Contains c lit
  there : lit.net.0 ≡ n
  enough : (v : ℕ) → has lit.set v ≡ true → cube_allows n v c ≡ true

Asks : ℕ → List Lit → Type 0
Asks n c = ((v : ℕ) → cube_allows n v c ≡ true) ⊎ AsksOne n c

on_net : (n : ℕ) (c : List Lit) → nets_ascend c ≡ true → Asks n c
unfolding Asks
on_net n [] h = inl (λ v. refl)
on_net n (l ∷ ls) h =
    elim (cases_Bool (nat_eq l.net.0 n)) [
      | inl t ↦
          let e : l.net.0 ≡ n = (unsigned_Decides l.net.0 n).0 t in
          inr (record {
            lit = l;
            member = (0, omega arith, refl);
            there = e;
            enough = λ v m.
                and_from (not (nat_eq l.net.0 n) || has l.set v) (cube_allows n v ls)
                (or_right (not (nat_eq l.net.0 n)) (has l.set v) m)
                (above-allows n v ls (above_tail n l ls h (omega arith)));
          })
      | inr f ↦
          let skip : (v : ℕ) → cube_allows n v ls ≡ true → cube_allows n v (l ∷ ls) ≡ true =
          λ v k.
          and_from (not (nat_eq l.net.0 n) || has l.set v) (cube_allows n v ls)
          (or_left (not (nat_eq l.net.0 n)) (has l.set v) (not_from_false (nat_eq l.net.0 n) f)) k
          in
          elim (on_net n ls (nets_ascend-tail l ls h)) [
            | inl free ↦ inl (λ v. skip v (free v))
            | inr o ↦
                inr (record {
                  lit = o.lit;
                  member = (o.member.0 + 1, omega (arith, o.member.1), rw add-one o.member.2);
                  there = o.there;
                  enough = λ v m. skip v (o.enough v m);
                })
          ]
    ]

-- a value of the net that both cubes allow
Common : ℕ → List Lit → List Lit → Type 0
Common n a b = (v : ℕ) × (cube_allows n v a ≡ true) × (cube_allows n v b ≡ true)

some_value : (n : ℕ) (c : List Lit) → IsCube c → (o : AsksOne n c) → (v : ℕ) × (has o.lit.set v ≡ true)
some_value n c is o =
    member_of o.lit.set (not-true (nat_eq o.lit.set empty) (list_all-Contains (λ (l : Lit). not (nat_eq l.set empty)) c o.lit o.member is.possible))

shared_value : (n : ℕ) (a b : List Lit) → cubes_meet a b ≡ true → (o : AsksOne n a) (p : AsksOne n b) → (v : ℕ) × (has (meet o.lit.set p.lit.set) v ≡ true)
shared_value n a b h o p =
    let row = list_all-Contains (λ (l : Lit). list_all (lits_meet l) b) a o.lit o.member h in
    let cell : lits_meet o.lit p.lit ≡ true = list_all-Contains (lits_meet o.lit) b p.lit p.member row in
    let same : nat_eq o.lit.net.0 p.lit.net.0 ≡ true = eq-eqb o.lit.net.0 p.lit.net.0 (o.there ∙ sym p.there) in
    member_of (meet o.lit.set p.lit.set) (not-true (nat_eq (meet o.lit.set p.lit.set) empty) (rw same at cell))

common : (a b : List Lit) → IsCube a → IsCube b → cubes_meet a b ≡ true → (n : ℕ) → Common n a b
unfolding Asks Common
common a b is it h n =
    elim (on_net n a is.ascending) [
      | inl free ↦
          elim (on_net n b it.ascending) [
            | inl other ↦ (0, free 0, other 0)
            | inr p ↦ let m = some_value n b it p in (m.0, free m.0, p.enough m.0 m.1)
          ]
      | inr o ↦
          elim (on_net n b it.ascending) [
            | inl free ↦ let m = some_value n a is o in (m.0, o.enough m.0 m.1, free m.0)
            | inr p ↦
                let m = shared_value n a b h o p in
                let both = and_parts (has o.lit.set m.0) (has p.lit.set m.0) (sym (has-meet o.lit.set p.lit.set m.0) ∙ m.1) in
                (m.0, o.enough m.0 both.0, p.enough m.0 both.1)
          ]
    ]

-- a cube that allows the value of each net holds
allowed-matches : (at : ℕ → ℕ) (c : List Lit) → ((n : ℕ) → cube_allows n (at n) c ≡ true) → matches at c ≡ true
allowed-matches at [] each = refl
allowed-matches at (l ∷ ls) each =
    let part = λ (n : ℕ). and_parts (not (nat_eq l.net.0 n) || has l.set (at n)) (cube_allows n (at n) ls) (each n) in
    let same : nat_eq l.net.0 l.net.0 ≡ true = eq-eqb l.net.0 l.net.0 refl in
    and_from (holds at l) (matches at ls) (rw same at (part l.net.0).0) (allowed-matches at ls (λ n. (part n).1))

-- a point at which both cubes hold
pub record HoldTogether (a b : List Lit) : Type 0 where
  pub at : ℕ → ℕ
  pub first : matches at a ≡ true
  pub second : matches at b ≡ true

pub together : (a b : List Lit) → IsCube a → IsCube b → cubes_meet a b ≡ true → HoldTogether a b
unfolding Common
together a b is it h =
    let point = common a b is it h in
    record {
      at = λ n. (point n).0;
      first = allowed-matches (λ n. (point n).0) a (λ n. (point n).1);
      second = allowed-matches (λ n. (point n).0) b (λ n. (point n).2);
    }

lits_together : (at : ℕ → ℕ) (l m : Lit) → holds at l ≡ true → holds at m ≡ true → lits_meet l m ≡ true
lits_together at l m p q =
    elim (cases_Bool (nat_eq l.net.0 m.net.0)) [
      | inr f ↦ or_left (not (nat_eq l.net.0 m.net.0)) (not (nat_eq (meet l.set m.set) empty)) (not_from_false (nat_eq l.net.0 m.net.0) f)
      | inl t ↦
          let e : l.net.0 ≡ m.net.0 = (unsigned_Decides l.net.0 m.net.0).0 t in
          let other : has m.set (at l.net.0) ≡ true = ap (λ n. has m.set (at n)) e ∙ q in
          let there : has (meet l.set m.set) (at l.net.0) ≡ true = has-meet l.set m.set (at l.net.0) ∙ and_from (has l.set (at l.net.0)) (has m.set (at l.net.0)) p other in
          or_right (not (nat_eq l.net.0 m.net.0)) (not (nat_eq (meet l.set m.set) empty))
          (not_from_false (nat_eq (meet l.set m.set) empty) (ne_eqb (meet l.set m.set) empty (λ z.
          false≢true (sym (has-empty (at l.net.0)) ∙ (ap (λ s. has s (at l.net.0)) (sym z) ∙ there)))))
    ]

lit_together : (at : ℕ → ℕ) (l : Lit) (b : List Lit) → holds at l ≡ true → matches at b ≡ true → list_all (lits_meet l) b ≡ true
lit_together at l [] p q = refl
lit_together at l (m ∷ b) p q =
    let k = and_parts (holds at m) (matches at b) q in
    and_from (lits_meet l m) (list_all (lits_meet l) b) (lits_together at l m p k.0) (lit_together at l b p k.1)

-- cubes that hold at one point meet
pub meet_from_point : (at : ℕ → ℕ) (a b : List Lit) → matches at a ≡ true → matches at b ≡ true → cubes_meet a b ≡ true
meet_from_point at [] b p q = refl
meet_from_point at (l ∷ a) b p q =
    let k = and_parts (holds at l) (matches at a) p in
    and_from (list_all (lits_meet l) b) (cubes_meet a b) (lit_together at l b k.0 q) (meet_from_point at a b k.1 q)

-- lines whose cubes don't meet agree
agree_from_apart : (a b : Line) → cubes_meet a.cube b.cube ≡ false → Agree a b
agree_from_apart a b apart = record { same = λ at p q. absurd (false≢true (sym apart ∙ meet_from_point at a.cube b.cube p q)) }

-- lines with other sets that agree have cubes that don't meet
apart_from_agree : (a b : Line) → IsCube a.cube → IsCube b.cube → nat_eq a.out b.out ≡ false → Agree a b → cubes_meet a.cube b.cube ≡ false
apart_from_agree a b is it differ agrees =
    false_from_ne_true (cubes_meet a.cube b.cube) (λ t.
    let point = together a.cube b.cube is it t in
    eqb-false a.out b.out differ (agrees.same point.at point.first point.second))

-- lines that agree, where their sets differ, as the test of their cubes tells
pub agree_tells : (a b : Line) (r : Bool) (x y : List Lit) → nat_eq a.out b.out ≡ false → r ≡ cubes_meet x y → x ≡ a.cube → y ≡ b.cube → IsCube a.cube → IsCube b.cube → IsTrue (not r) ↔ Agree a b
agree_tells a b r x y differ e p q is it =
    let met : r ≡ cubes_meet a.cube b.cube = e ∙ (λ k. cubes_meet (p k) (q k)) in (
      λ h. agree_from_apart a b (sym met ∙ not-true r h),
      λ g. not_from_false r (met ∙ apart_from_agree a b is it differ g),
    )

-- ---- one walk along both

clear_first : (l : Lit) (ys : List Lit) → above l.net.0 ys ≡ true → list_all (lits_meet l) ys ≡ true
unfolding above
clear_first l [] h = refl
clear_first l (m ∷ ys) h =
    let p = and_parts (nat_lt l.net.0 m.net.0) (above l.net.0 ys) h in
    and_from (lits_meet l m) (list_all (lits_meet l) ys)
    (or_left (not (nat_eq l.net.0 m.net.0)) (not (nat_eq (meet l.set m.set) empty)) (not_from_false (nat_eq l.net.0 m.net.0) (other_net_back l.net.0 m.net.0 p.0)))
    (clear_first l ys p.1)

same_rest : (p q r s : Bool) → p ≡ true → r ≡ s → ((p && q) && r) ≡ (q && s)
same_rest true q r s e h = rw h refl
same_rest false q r s e h = absurd (false≢true e)

clear_second : (m : Lit) (ys xs : List Lit) → above m.net.0 xs ≡ true → cubes_meet xs (m ∷ ys) ≡ cubes_meet xs ys
unfolding above
clear_second m ys [] h = refl
clear_second m ys (l ∷ xs) h =
    let p = and_parts (nat_lt m.net.0 l.net.0) (above m.net.0 xs) h in
    same_rest (lits_meet l m) (list_all (lits_meet l) ys) (cubes_meet xs (m ∷ ys)) (cubes_meet xs ys)
    (or_left (not (nat_eq l.net.0 m.net.0)) (not (nat_eq (meet l.set m.set) empty)) (not_from_false (nat_eq l.net.0 m.net.0) (other_net m.net.0 l.net.0 p.0)))
    (clear_second m ys xs p.1)

-- without a literal there is nothing to meet
pub meet_none : (xs : List Lit) → cubes_meet xs [] ≡ true
meet_none [] = refl
meet_none (l ∷ xs) = meet_none xs

step_first : (l m : Lit) (xs ys : List Lit) → nets_ascend (m ∷ ys) ≡ true → l.net.0 < m.net.0 → cubes_meet (l ∷ xs) (m ∷ ys) ≡ cubes_meet xs (m ∷ ys)
step_first l m xs ys q low =
    drop_true (list_all (lits_meet l) (m ∷ ys)) (cubes_meet xs (m ∷ ys)) (cubes_meet xs (m ∷ ys)) (clear_first l (m ∷ ys) (above_all l.net.0 m ys q low)) refl

step_second : (l m : Lit) (xs ys : List Lit) → nets_ascend (l ∷ xs) ≡ true → m.net.0 < l.net.0 → cubes_meet (l ∷ xs) (m ∷ ys) ≡ cubes_meet (l ∷ xs) ys
step_second l m xs ys p low = clear_second m ys (l ∷ xs) (above_all m.net.0 l xs p low)

step_both : (l m : Lit) (xs ys : List Lit) → nets_ascend (l ∷ xs) ≡ true → nets_ascend (m ∷ ys) ≡ true → l.net.0 ≡ m.net.0 → lits_meet l m ≡ true → cubes_meet (l ∷ xs) (m ∷ ys) ≡ cubes_meet xs ys
step_both l m xs ys p q e t =
    let row : list_all (lits_meet l) ys ≡ true = clear_first l ys (above_tail l.net.0 m ys q (omega arith)) in
    drop_true (list_all (lits_meet l) (m ∷ ys)) (cubes_meet xs (m ∷ ys)) (cubes_meet xs ys)
    (and_from (lits_meet l m) (list_all (lits_meet l) ys) t row)
    (clear_second m ys xs (above_tail m.net.0 l xs p (omega arith)))

pub walked_first : (a b : List Lit) (i j : ℕ) (l m : Lit) → i < length a → j < length b → l ≡ get_or a i l → m ≡ get_or b j m → l.net.0 < m.net.0 → Walked cubes_meet a b i j → Walked cubes_meet a b (i + 1) j
walked_first a b i j l m in_a in_b at_i at_j low w =
    past_first cubes_meet a b i j l m in_a in_b at_i at_j w
    (step_first l m (drop (i + 1) a) (drop (j + 1) b) (ascends_second cubes_meet a b i j l m in_a in_b at_i at_j w) low)

pub walked_second : (a b : List Lit) (i j : ℕ) (l m : Lit) → i < length a → j < length b → l ≡ get_or a i l → m ≡ get_or b j m → m.net.0 < l.net.0 → Walked cubes_meet a b i j → Walked cubes_meet a b i (j + 1)
walked_second a b i j l m in_a in_b at_i at_j low w =
    past_second cubes_meet a b i j l m in_a in_b at_i at_j w
    (step_second l m (drop (i + 1) a) (drop (j + 1) b) (ascends_first cubes_meet a b i j l m in_a in_b at_i at_j w) low)

pub walked_both : (a b : List Lit) (i j : ℕ) (l m : Lit) → i < length a → j < length b → l ≡ get_or a i l → m ≡ get_or b j m → l.net.0 ≡ m.net.0 → lits_meet l m ≡ true → Walked cubes_meet a b i j → Walked cubes_meet a b (i + 1) (j + 1)
walked_both a b i j l m in_a in_b at_i at_j n t w =
    let p = ascends_first cubes_meet a b i j l m in_a in_b at_i at_j w in
    let q = ascends_second cubes_meet a b i j l m in_a in_b at_i at_j w in
    past_both cubes_meet a b i j l m in_a in_b at_i at_j w (step_both l m (drop (i + 1) a) (drop (j + 1) b) p q n t)

-- at the end of either the cubes meet
pub walked_all_first : (a b : List Lit) (i j : ℕ) → length a ≤ i → Walked cubes_meet a b i j → cubes_meet a b ≡ true
walked_all_first a b i j end w = sym w.same ∙ ap (λ (z : List Lit). cubes_meet z (drop j b)) (drop_all i a end)

pub walked_all_second : (a b : List Lit) (i j : ℕ) → length b ≤ j → Walked cubes_meet a b i j → cubes_meet a b ≡ true
walked_all_second a b i j end w = sym w.same ∙ (ap (λ (z : List Lit). cubes_meet (drop i a) z) (drop_all j b end) ∙ meet_none (drop i a))

-- what the code tests of two literals on one net
pub lits_meet_test : (l m : Lit) (s none : ℕ) → s ≡ meet l.set m.set → none ≡ empty → nat_eq s none ≡ false → lits_meet l m ≡ true
lits_meet_test l m s none e z f =
    let some : nat_eq (meet l.set m.set) empty ≡ false = (λ k. nat_eq (sym e k) (sym z k)) ∙ f in
    or_right (not (nat_eq l.net.0 m.net.0)) (not (nat_eq (meet l.set m.set) empty)) (not_from_false (nat_eq (meet l.set m.set) empty) some)
