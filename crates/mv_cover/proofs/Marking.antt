-- Marks of lines: a line that lies in another has each mark of that one.
use Rattle.std.proofs.Common.{◌≡◌, ◌∙◌, ℕ, zero, suc, ◌+◌, ◌-◌, ◌%◌, ◌^◌, ◌<◌, ◌≤◌, IsTrue, lit<, mod-lt, length, drop, get_or, set, map, subst, arith, Bool, true, false, ◌&&◌, ◌||◌, List, [], ◌∷◌, nat_eq, inl, inr, refl, sym, ap, Option, Some, None, if◌then◌else◌}
use Rattle.std.specs.Prelude.{◌==◌, bit_and, bit_or, count_ones}
use Rattle.std.specs.Int.{trailing_zeros, w64}
use Rattle.std.specs.Int.Count.{ones-ones}
use Rattle.std.proofs.lemmas.Nat.Bits.{bit_at-trailing_zeros}
use Rattle.std.proofs.lemmas.Bool.{cases_Bool, false≢true, and_parts, and_from, or_left, or_right, eq-eqb, lt-ltb, false_from_ne_true}
use Rattle.std.specs.List.{swap, list_any}
use Rattle.std.proofs.lemmas.List.{drop_more, drop_all, get_or-map, map-set, length-map}
use Rattle.std.proofs.Math.Bool.{and-false, or-false}
use Rattle.mv_base.specs.Set.{has, empty, one, full, meet, join, Within}
use Rattle.mv_base.proofs.Sets.{has-empty, has-one, has-full, same_set, count-empty, count-more, one_from_count, join_empty, meet_of_Within, Within-from_meet}
use Rattle.mv_cover.specs.Literal.{Lit}
use Rattle.mv_cover.specs.declared.line.Line.{Line}
use Rattle.mv_cover.specs.Meets.{literal_at}
use Rattle.mv_cover.specs.Containing.{set_within, set_lies, lies_in}
use Rattle.mv_cover.specs.Absorb.{line_lies}
use Rattle.mv_cover.specs.declared.marks.Marks.{Marks}
use Rattle.mv_cover.specs.Marks.{mark, set_marks, alone, alone_mark, narrow_marks, wide_marks, net_place, cube_marks, line_marks, bits_among, are_among, are_close, no_marks, AreFar}
use Rattle.mv_cover.proofs.Covering.{same_number}
use Rattle.mv_cover.proofs.Meets.{order}
use Rattle.mv_cover.proofs.JoinedSets.{or_again, within_first, within_second, joined_within, both_within, join-append, join-nothing}
use Rattle.mv_cover.proofs.WideMarks.{wide_marks-within}

-- ---- marks of sets

empty_within : (s : ℕ) → Within empty s
empty_within s v h = absurd (false≢true (sym (has-empty v) ∙ h))

-- what a set leaves out, a set within it leaves out
mark-within : (s t v p : ℕ) → Within s t → Within (mark (has t v) p) (mark (has s v) p)
unfolding mark
mark-within s t v p w =
    elim (cases_Bool (has s v)) [
      | inl y ↦ rw (w v y) (empty_within (if has s v then empty else one p))
      | inr n ↦
          elim (cases_Bool (has t v)) [
            | inl y ↦ rw y (empty_within (if has s v then empty else one p))
            | inr m ↦ rw n (rw m (λ u h. h))
          ]
    ]

set_marks-within : (s t p : ℕ) → Within s t → Within (set_marks t p) (set_marks s p)
unfolding set_marks
set_marks-within s t p w =
    both_within (mark (has t 1) p) (mark (has t 0) (p + 1)) (mark (has s 1) p) (mark (has s 0) (p + 1)) (mark-within s t 1 p w)
    (mark-within s t 0 (p + 1) w)

-- ---- marks of single values

-- the marks of one value are below 64
alone_mark-low : (t p : ℕ) → Within (alone_mark t p) (full 64)
unfolding alone_mark
alone_mark-low t p v =
    elim (cases_Bool (nat_eq t empty)) [
      | inl y ↦ rw y (λ h. h)
      | inr n ↦
          elim (cases_Bool (nat_eq t (one (alone t)))) [
            | inl y ↦ rw n (rw y (λ h.
                let at : v ≡ (p + alone t) % 62 = same_number v ((p + alone t) % 62) (sym (has-one ((p + alone t) % 62) v) ∙ h) in
                let low : (p + alone t) % 62 < 62 = mod-lt (p + alone t) (lit< tt) in
                has-full 64 v ∙ lt-ltb v 64 (omega (arith, at, low))))
            | inr m ↦ rw n (rw m (empty_within (full 64) v))
          ]
    ]

-- a set with a member that lies in a set of one value is that set
only_value : (s v : ℕ) → Within s (one v) → nat_eq s empty ≡ false → s ≡ one v
only_value s v w some =
    same_set s (one v)
    (λ u. elim (cases_Bool (has s u)) [
      | inl y ↦ y ∙ sym (w u y)
      | inr n ↦
          n ∙ sym (false_from_ne_true (has (one v) u) (λ t.
          let here : u ≡ v = same_number u v (sym (has-one v u) ∙ t) in
          let none : s ≡ empty =
          same_set s empty (λ x. elim (cases_Bool (has s x)) [
            | inl y ↦
                let there : x ≡ v = same_number x v (sym (has-one v x) ∙ w x y) in
                absurd (false≢true (sym n ∙ (ap (has s) (here ∙ sym there) ∙ y)))
            | inr f ↦ f ∙ sym (has-empty x)
          ]) in
          false≢true (sym some ∙ eq-eqb s empty none)))
    ])

-- the mark of one value is one of each set within its set
alone_mark-within : (s t p : ℕ) → Within s t → Within (alone_mark t p) (alone_mark s p)
unfolding alone_mark
alone_mark-within s t p w =
    elim (cases_Bool (nat_eq s empty)) [
      | inl y ↦ rw y (alone_mark-low t p)
      | inr n ↦
          elim (cases_Bool (nat_eq t empty)) [
            | inl z ↦
                let none : s ≡ empty = same_set s empty (λ v. elim (cases_Bool (has s v)) [
                  | inl y ↦ y ∙ (sym (w v y) ∙ ap (λ x. has x v) (same_number t empty z))
                  | inr f ↦ f ∙ sym (has-empty v)
                ]) in
                absurd (false≢true (sym n ∙ eq-eqb s empty none))
            | inr m ↦
                elim (cases_Bool (nat_eq t (one (alone t)))) [
                  | inl y ↦
                      let is : t ≡ one (alone t) = same_number t (one (alone t)) y in
                      let same : s ≡ t = only_value s (alone t) (λ v h. ap (λ x. has x v) (sym is) ∙ w v h) n ∙ sym is in
                      λ v h. ap (λ x. has (alone_mark x p) v) same ∙ h
                  | inr f ↦ rw m (rw f (empty_within (alone_mark s p)))
                ]
          ]
    ]

narrow_marks-within : (s t n : ℕ) → Within s t → Within (narrow_marks t n) (narrow_marks s n)
unfolding narrow_marks
narrow_marks-within s t n w =
    let p = net_place n in
    both_within (set_marks t p) (alone_mark t p) (set_marks s p) (alone_mark s p) (set_marks-within s t p w) (alone_mark-within s t p w)

-- ---- the value of a set that has no other

alone_of-one : (v : ℕ) → alone (one v) ≡ v
unfolding one
alone_of-one v = ones-ones v

count_one : (v : ℕ) → count_ones (one v) ≡ 1
count_one v = ap count_ones (sym (join_empty (one v))) ∙ (count-more empty v (has-empty v) ∙ ap (λ n. n + 1) count-empty)

pub alone_mark-one : (s v p m : ℕ) → IsTrue (has s v) → count_ones s ≡ 1 → m ≡ one ((p + v) % 62) → m ≡ alone_mark s p
unfolding alone_mark
alone_mark-one s v p m there single is =
    let same : s ≡ one v = one_from_count s v there single in
    let value : alone s ≡ v = ap alone same ∙ alone_of-one v in
    let some : nat_eq s empty ≡ false = false_from_ne_true (nat_eq s empty) (λ t. absurd (false≢true (sym (has-empty v) ∙ (ap (λ x. has x v) (sym (same_number s empty t)) ∙ there)))) in
    let lone : nat_eq s (one (alone s)) ≡ true = eq-eqb s (one (alone s)) (same ∙ ap one (sym value)) in
    rw some (rw lone (is ∙ ap (λ x. one ((p + x) % 62)) (sym value)))

empty_is : empty ≡ 0
unfolding empty
empty_is = refl

pub alone_mark-many : (s v p : ℕ) → IsTrue (has s v) → (count_ones s ≡ 1 → ⊥) → 0 ≡ alone_mark s p
unfolding alone_mark
alone_mark-many s v p there many =
    let some : nat_eq s empty ≡ false = false_from_ne_true (nat_eq s empty) (λ t. absurd (false≢true (sym (has-empty v) ∙ (ap (λ x. has x v) (sym (same_number s empty t)) ∙ there)))) in
    let lone : nat_eq s (one (alone s)) ≡ false = false_from_ne_true (nat_eq s (one (alone s))) (λ t. many (ap count_ones (same_number s (one (alone s)) t) ∙ count_one (alone s))) in
    rw some (rw lone (sym empty_is))

pub alone_mark-none : (s p : ℕ) → s ≡ empty → 18446744073709551615 ≡ alone_mark s p
unfolding alone_mark full
alone_mark-none s p e = rw (eq-eqb s empty e) refl

-- the lowest bit of a number that isn't 0 is a member
lowest : (s : ℕ) → 0 < s → s < 2 ^ 64 → IsTrue (has s (trailing_zeros w64 s))
unfolding has
lowest s some small = ap (λ b. b == 1) (bit_at-trailing_zeros w64 s some small).1

pub alone_mark-bits : (s p m : ℕ) → (s ≡ 0 → ⊥) → s < 2 ^ 64 → count_ones s ≡ 1 → m ≡ one ((p + trailing_zeros w64 s) % 62) → m ≡ alone_mark s p
alone_mark-bits s p m some small single is = alone_mark-one s (trailing_zeros w64 s) p m (lowest s (omega (arith, some)) small) single is

pub alone_mark-no_bits : (s p : ℕ) → s ≡ 0 → 18446744073709551615 ≡ alone_mark s p
alone_mark-no_bits s p e = alone_mark-none s p (e ∙ sym empty_is)

pub alone_mark-more_bits : (s p : ℕ) → (s ≡ 0 → ⊥) → s < 2 ^ 64 → (count_ones s ≡ 1 → ⊥) → 0 ≡ alone_mark s p
alone_mark-more_bits s p some small many = alone_mark-many s (trailing_zeros w64 s) p (lowest s (omega (arith, some)) small) many

-- ---- marks of cubes

-- marks of which a literal has all those of each in which it lies
record Fall (f : ℕ → ℕ → ℕ) : Type 0 where
  falls : (s t n : ℕ) → Within s t → Within (f t n) (f s n)

-- the marks of a literal are marks of its cube
marks_at : (f : ℕ → ℕ → ℕ) (a : List Lit) (n s : ℕ) → literal_at a n ≡ Some s → Within (f s n) (cube_marks f a)
marks_at f [] n s e = let no : None ≡ Some s = e in absurd (cc)
marks_at f (l ∷ a) n s e =
    elim (cases_Bool (nat_eq l.net.0 n)) [
      | inl t ↦
          let here : Some l.set ≡ Some s = rw t at e in
          let same : l.set ≡ s = cc in
          let net : l.net.0 ≡ n = same_number l.net.0 n t in
          λ v h. within_first (f l.set l.net.0) (cube_marks f a) v ((λ i. has (f (same i) (net i)) v) ∙ h)
      | inr g ↦ λ v h. within_second (f l.set l.net.0) (cube_marks f a) v (marks_at f a n s (rw g at e) v h)
    ]

lies_marked : (f : ℕ → ℕ → ℕ) (a : List Lit) (n s : ℕ) (o : Option ℕ) → Fall f → literal_at a n ≡ o → set_lies o s ≡ true → Within (f s n) (cube_marks f a)
lies_marked f a n s None fall e h = absurd (false≢true h)
lies_marked f a n s (Some u) fall e h =
    λ v m. marks_at f a n u e v (fall.falls u s n (Within-from_meet u s (same_number (meet u s) u h)) v m)

cube_marks-within : (f : ℕ → ℕ → ℕ) (a b : List Lit) → Fall f → lies_in a b ≡ true → Within (cube_marks f b) (cube_marks f a)
cube_marks-within f a [] fall h = empty_within (cube_marks f a)
cube_marks-within f a (l ∷ b) fall h =
    let p = and_parts (set_lies (literal_at a l.net.0) l.set) (lies_in a b) h in
    joined_within (f l.set l.net.0) (cube_marks f b) (cube_marks f a) (lies_marked f a l.net.0 l.set (literal_at a l.net.0) fall refl p.0)
    (cube_marks-within f a b fall p.1)

-- ---- marks of lines

narrow_fall : Fall narrow_marks
narrow_fall = record { falls = narrow_marks-within }

wide_fall : Fall wide_marks
wide_fall = record { falls = wide_marks-within }

among : (a b : ℕ) → Within a b → bits_among a b ≡ true
unfolding meet
among a b w = eq-eqb (bit_and a b) a (meet_of_Within a b w)

-- a line has the marks of one in which it lies
told : (a b : Line) → line_lies a b ≡ true → are_among (line_marks b) (line_marks a) ≡ true
unfolding are_among line_marks
told a b h =
    let p = and_parts (set_within a.out b.out) (lies_in a.cube b.cube) h in
    let narrow = both_within (cube_marks narrow_marks b.cube) (set_marks b.out 62) (cube_marks narrow_marks a.cube) (set_marks a.out 62)
    (cube_marks-within narrow_marks a.cube b.cube narrow_fall p.1)
    (set_marks-within a.out b.out 62 (Within-from_meet a.out b.out (same_number (meet a.out b.out) a.out p.0))) in
    let wide = cube_marks-within wide_marks a.cube b.cube wide_fall p.1 in
    and_from (bits_among (line_marks b).narrow (line_marks a).narrow) (bits_among (line_marks b).wide (line_marks a).wide)
    (among (line_marks b).narrow (line_marks a).narrow narrow) (among (line_marks b).wide (line_marks a).wide wide)

-- the test of the marks takes nothing from that of the lines
pub marked : (a b : Line) (own marks : Marks) → own ≡ line_marks a → marks ≡ line_marks b → (are_among marks own && line_lies a b) ≡ line_lies a b
marked a b own marks o m =
    elim (cases_Bool (line_lies a b)) [
      | inl t ↦ and_from (are_among marks own) (line_lies a b) ((λ i. are_among (m i) (o i)) ∙ told a b t) t ∙ sym t
      | inr f ↦ rw f (and-false (are_among marks own))
    ]

-- ---- lines with marks that are far

-- marks that are close are close as far as the first of two tests tells
pub close_near : (n m w x : Bool) → ((n || m) && ((n && w) || (m && x))) ≡ ((n && w) || (m && x))
close_near true m w x = refl
close_near false true w x = refl
close_near false false w x = refl

-- no line lies in one from which its marks are far
far-inside : (x l : Line) → are_close (line_marks x) (line_marks l) ≡ false → line_lies x l ≡ false
unfolding are_close
far-inside x l far =
    false_from_ne_true (line_lies x l)
    (λ t. false≢true (sym far ∙ or_right (are_among (line_marks x) (line_marks l)) (are_among (line_marks l) (line_marks x)) (told x l t)))

-- and none lies in it
far-over : (x l : Line) → are_close (line_marks x) (line_marks l) ≡ false → line_lies l x ≡ false
unfolding are_close
far-over x l far =
    false_from_ne_true (line_lies l x)
    (λ t. false≢true (sym far ∙ or_left (are_among (line_marks x) (line_marks l)) (are_among (line_marks l) (line_marks x)) (told l x t)))

pub far_none : (own : Marks) (marks : List Marks) (k : ℕ) → AreFar own marks k k
far_none own marks k = record { each = λ i low high. absurd (omega arith) }

pub far_more : (own : Marks) (marks : List Marks) (k place : ℕ) → AreFar own marks k place → are_close own (get_or marks place no_marks) ≡ false → AreFar own marks k (place + 1)
far_more own marks k place before here = record {
  each = λ i low high.
      elim (order i place) [
        | inl y ↦ before.each i low y.1
        | inr n ↦
            let above : place ≤ i = n.1 in
            let same : place ≡ i = omega arith in
            subst (λ j. are_close own (get_or marks j no_marks) ≡ false) same here
      ];
}

-- a test that no line with far marks passes
skipped : (d : ℕ) (own : Marks) (p : Line → Bool) (others : List Line) (marks : List Marks) (k to : ℕ) → marks ≡ map line_marks others → ((l : Line) → are_close own (line_marks l) ≡ false → p l ≡ false) → to ≡ k + d → to ≤ length others → AreFar own marks k to → list_any p (drop to others) ≡ list_any p (drop k others)
skipped zero own p others marks k to beside fails e end far = let same : to ≡ k = omega arith in ap (λ i. list_any p (drop i others)) same
skipped (suc d) own p others marks k to beside fails e end far =
    let none : Line = record { cube = []; out = 0 } in
    let low : k < length others = omega arith in
    let here : are_close own (line_marks (get_or others k none)) ≡ false =
    ap (are_close own) (sym (ap (λ ms. get_or ms k no_marks) beside ∙ get_or-map line_marks others k none no_marks low)) ∙ far.each k (omega arith) (omega arith) in
    let rest = skipped d own p others marks (k + 1) to beside fails (omega arith) end (record { each = λ i above below. far.each i (omega arith) below }) in
    rest ∙ sym (ap (list_any p) (drop_more others k none low) ∙ ap (λ b. b || list_any p (drop (k + 1) others)) (fails (get_or others k none) here))

-- how a line stands among the others so far
pub record Stands (x : Line) (others : List Line) (found : Bool) (place : ℕ) : Type 0 where
  pub within : place ≤ length others
  pub inside : list_any (line_lies x) (drop place others) ≡ list_any (line_lies x) others
  pub over : (found || list_any (λ l. line_lies l x) (drop place others)) ≡ list_any (λ l. line_lies l x) others

pub stands_none : (x : Line) (others : List Line) → Stands x others false 0
stands_none x others = record { within = omega arith; inside = refl; over = refl }

pub stands_far : (x : Line) (others : List Line) (own : Marks) (marks : List Marks) (over : Bool) (k to : ℕ) → own ≡ line_marks x → marks ≡ map line_marks others → k ≤ to → to ≤ length marks → AreFar own marks k to → Stands x others over k → Stands x others over to
stands_far x others own marks over k to is beside later end far before =
    let long : length marks ≡ length others = ap length beside ∙ length-map others line_marks in
    let end_of_lines : to ≤ length others = omega (arith, long) in
    let split : to ≡ k + (to - k) = omega arith in
    let inside = skipped (to - k) own (line_lies x) others marks k to beside (λ l f. far-inside x l (ap (λ m. are_close m (line_marks l)) (sym is) ∙ f)) split end_of_lines far in
    let under = skipped (to - k) own (λ l. line_lies l x) others marks k to beside (λ l f. far-over x l (ap (λ m. are_close m (line_marks l)) (sym is) ∙ f)) split end_of_lines far in
    record {
      within = end_of_lines;
      inside = inside ∙ before.inside;
      over = ap (λ b. over || b) under ∙ before.over;
    }

pub stands_inside : (x l : Line) (others : List Line) (over b : Bool) (place : ℕ) → place < length others → l ≡ get_or others place l → b ≡ line_lies x l → b ≡ true → Stands x others over place → true ≡ list_any (line_lies x) others
stands_inside x l others over b place low here is t before =
    let split : drop place others ≡ l ∷ drop (place + 1) others = drop_more others place l low ∙ ap (λ z. z ∷ drop (place + 1) others) (sym here) in
    sym (or_left (line_lies x l) (list_any (line_lies x) (drop (place + 1) others)) (sym is ∙ t)) ∙ (ap (list_any (line_lies x)) (sym split) ∙ before.inside)

pub stands_more : (x l : Line) (others : List Line) (over b c : Bool) (place : ℕ) → place < length others → l ≡ get_or others place l → b ≡ line_lies x l → b ≡ false → c ≡ line_lies l x → Stands x others over place → Stands x others (over || c) (place + 1)
stands_more x l others over b c place low here is f under before =
    let split : drop place others ≡ l ∷ drop (place + 1) others = drop_more others place l low ∙ ap (λ z. z ∷ drop (place + 1) others) (sym here) in
    record {
      within = omega arith;
      inside =
          ap (λ y. y || list_any (line_lies x) (drop (place + 1) others)) (sym (sym is ∙ f))
          ∙ (ap (list_any (line_lies x)) (sym split) ∙ before.inside);
      over =
          ap (λ y. (over || y) || list_any (λ m. line_lies m x) (drop (place + 1) others)) under
          ∙ (or_again over (line_lies l x) (list_any (λ m. line_lies m x) (drop (place + 1) others))
          ∙ (ap (λ ls. over || list_any (λ m. line_lies m x) ls) (sym split) ∙ before.over));
    }

pub stands_all : (x : Line) (others : List Line) (over : Bool) (place : ℕ) → length others ≤ place → Stands x others over place → (false ≡ list_any (line_lies x) others) × (over ≡ list_any (λ l. line_lies l x) others)
stands_all x others over place end before = (
  ap (list_any (line_lies x)) (sym (drop_all place others end)) ∙ before.inside,
  sym (or-false over) ∙ (ap (λ ls. over || list_any (λ l. line_lies l x) ls) (sym (drop_all place others end)) ∙ before.over),
)

-- ---- the literals, one by one

-- the marks so far are those of the first literals
pub record Gathers (f : ℕ → ℕ → ℕ) (lits : List Lit) (i marks : ℕ) : Type 0 where
  pub all : join marks (cube_marks f (drop i lits)) ≡ cube_marks f lits

pub gathers_none : (f : ℕ → ℕ → ℕ) (lits : List Lit) → Gathers f lits 0 empty
gathers_none f lits = record { all = join_empty (cube_marks f lits) }

pub gathers_more : (f : ℕ → ℕ → ℕ) (lits : List Lit) (i marks more : ℕ) (l : Lit) → i < length lits → l ≡ get_or lits i l → more ≡ f l.set l.net.0 → Gathers f lits i marks → Gathers f lits (i + 1) (bit_or marks more)
unfolding join
gathers_more f lits i marks more l low here is before =
    let own = f l.set l.net.0 in
    let rest = cube_marks f (drop (i + 1) lits) in
    let split : drop i lits ≡ l ∷ drop (i + 1) lits = drop_more lits i l low ∙ ap (λ x. x ∷ drop (i + 1) lits) (sym here) in
    record { all = ap (λ m. join (bit_or marks m) rest) is ∙ (join-append marks own rest ∙ (ap (λ ls. join marks (cube_marks f ls)) (sym split) ∙ before.all)) }

pub gathers_all : (f : ℕ → ℕ → ℕ) (lits : List Lit) (i marks : ℕ) → length lits ≤ i → Gathers f lits i marks → marks ≡ cube_marks f lits
gathers_all f lits i marks end before =
    sym (join-nothing marks) ∙ (ap (λ ls. join marks (cube_marks f ls)) (sym (drop_all i lits end)) ∙ before.all)

-- ---- marks beside lines

-- what is made of the elements is exchanged with them
map-swap : {X Y : Type 0} (f : X → Y) (xs : List X) (i j : ℕ) → i < length xs → j < length xs → swap (map f xs) i j ≡ map f (swap xs i j)
map-swap f [] i j p q = refl
map-swap f (d ∷ ys) i j p q =
    let xs = d ∷ ys in
    let first = get_or-map f xs i d (f d) p in
    let second = get_or-map f xs j d (f d) q in
    (λ k. set (set (map f xs) i (second k)) j (first k))
    ∙ sym (map-set f (set xs i (get_or xs j d)) j (get_or xs i d) ∙ ap (λ zs. set zs j (f (get_or xs i d))) (map-set f xs i (get_or xs j d)))

pub exchanged : (before after : List Line) (marks turned : List Marks) (i j : ℕ) → i < length before → j < length before → marks ≡ map line_marks before → after ≡ swap before i j → turned ≡ swap marks i j → turned ≡ map line_marks after
exchanged before after marks turned i j p q beside lines other =
    other ∙ (ap (λ ms. swap ms i j) beside ∙ (map-swap line_marks before i j p q ∙ ap (map line_marks) (sym lines)))
