-- Lists of lines as sets of lines: what is left of lines, and which of them it is.
use Rattle.std.proofs.Common.{◌≡◌, ◌∙◌, ◌<◌, ◌≤◌, Bool, true, false, not, ◌&&◌, ◌||◌, List, [], ◌∷◌, ◌++◌, ◌⊎◌, length, filter, refl, sym, ap, arith, inl, inr, if◌then◌else◌}
use Rattle.std.specs.List.{list_any}
use Rattle.std.proofs.lemmas.Bool.{cases_Bool, false≢true, and_parts, and_from, or_left, or_right, not-true, not_from_false, false_from_ne_true}
use Rattle.std.proofs.lemmas.List.Folds.{list_any-append}
use Rattle.std.proofs.lemmas.List.Sums.{length-filter, count_by-le-length}
use Rattle.std.proofs.lemmas.Map.Views.{any-filter_same, list_any-from_Contains}
use Rattle.mv_cover.specs.declared.line.Line.{Line}
use Rattle.mv_cover.specs.Equal.{line_eq}
use Rattle.mv_cover.specs.Keys.{line_eq-Decides, line_eq-equiv}
use Rattle.mv_cover.specs.Lines.{lines_differ}
use Rattle.mv_cover.specs.Absorb.{firsts, swallowed_by, unswallowed, left_of}
use Rattle.mv_cover.proofs.Absorbing.{any_at, find_any, any-firsts}
use Rattle.mv_composite.specs.Takers.{is_among, HaveSameLines}
use Rattle.mv_composite.proofs.Formed.{differ_left}

-- ---- a line among others

same_line_test : (l m : Line) (p : Line → Bool) → line_eq l m ≡ true → p l ≡ p m
same_line_test l m p e = ap p ((line_eq-Decides l m).0 e)

other_way : (l m : Line) → line_eq l m ≡ false → line_eq m l ≡ false
other_way l m f = false_from_ne_true (line_eq m l) (λ t. false≢true (sym f ∙ (line_eq-Decides l m).1 (sym ((line_eq-Decides m l).0 t))))

pub among_first : (xs ys : List Line) (l : Line) → is_among xs l ≡ true → is_among (xs ++ ys) l ≡ true
among_first xs ys l h = list_any-append (line_eq l) xs ys ∙ or_left (is_among xs l) (is_among ys l) h

pub among_second : (xs ys : List Line) (l : Line) → is_among ys l ≡ true → is_among (xs ++ ys) l ≡ true
among_second xs ys l h = list_any-append (line_eq l) xs ys ∙ or_right (is_among xs l) (is_among ys l) h

pub among_either : (xs ys : List Line) (l : Line) → is_among (xs ++ ys) l ≡ true → (is_among xs l ≡ true) ⊎ (is_among ys l ≡ true)
among_either xs ys l h =
    let k = sym (list_any-append (line_eq l) xs ys) ∙ h in
    elim (cases_Bool (is_among xs l)) [
      | inl t ↦ inl t
      | inr f ↦ inr (rw f at k)
    ]

-- among one line
pub among_one : (x l : Line) → is_among (x ∷ []) l ≡ true → l ≡ x
among_one x l h =
    elim (cases_Bool (line_eq l x)) [
      | inl t ↦ (line_eq-Decides l x).0 t
      | inr f ↦ absurd (false≢true (rw f at h))
    ]

-- a line that is among them and passes
pub among-passes : (ls : List Line) (l : Line) (p : Line → Bool) → is_among ls l ≡ true → p l ≡ true → list_any p ls ≡ true
among-passes ls l p h k = let m = find_any (line_eq l) ls h in any_at p ls m.x m.there (sym (same_line_test l m.x p m.pass) ∙ k)

pub passes-among : (ls : List Line) (p : Line → Bool) → list_any p ls ≡ true → (l : Line) × (is_among ls l ≡ true) × (p l ≡ true)
passes-among ls p h = let m = find_any p ls h in (m.x, list_any-from_Contains line_eq-equiv m.x ls m.there, m.pass)

-- a line is left where it is among them and none of them swallows it
pub among-left : (ls : List Line) (l : Line) → is_among (left_of ls) l ≡ (not (list_any (swallowed_by l) ls) && is_among ls l)
unfolding left_of
among-left ls l =
    any-filter_same (line_eq l) (λ m. not (list_any (swallowed_by m) (firsts ls))) (not (list_any (swallowed_by l) (firsts ls)))
    (λ m e. sym (same_line_test l m (λ k. not (list_any (swallowed_by k) (firsts ls))) e)) (firsts ls)
    ∙ (λ i. not (any-firsts (swallowed_by l) ls i) && any-firsts (line_eq l) ls i)

pub left-among : (ls : List Line) (l : Line) → is_among (left_of ls) l ≡ true → is_among ls l ≡ true
left-among ls l h = (and_parts (not (list_any (swallowed_by l) ls)) (is_among ls l) (sym (among-left ls l) ∙ h)).1

-- ---- some of the lines, of which each that is swallowed by one of all is swallowed by one of them

pub record IsClosed (ls some : List Line) : Type 0 where
  pub from : (l : Line) → is_among some l ≡ true → is_among ls l ≡ true
  pub up : (l m : Line) → is_among some l ≡ true → is_among ls m ≡ true → swallowed_by l m ≡ true → list_any (swallowed_by l) some ≡ true

-- what is left of them is left of all
left-closed : (ls some : List Line) → IsClosed ls some → (l : Line) → is_among (left_of some) l ≡ true → is_among (left_of ls) l ≡ true
left-closed ls some closed l h =
    let p = and_parts (not (list_any (swallowed_by l) some)) (is_among some l) (sym (among-left some l) ∙ h) in
    among-left ls l
    ∙ and_from (not (list_any (swallowed_by l) ls)) (is_among ls l)
    (not_from_false (list_any (swallowed_by l) ls)
    (false_from_ne_true (list_any (swallowed_by l) ls) (λ t.
    let m = passes-among ls (swallowed_by l) t in
    false≢true (sym (not-true (list_any (swallowed_by l) some) p.0) ∙ closed.up l m.0 p.1 m.1 m.2))))
    (closed.from l p.1)

pub same_test : (a b : Bool) → (a ≡ true → b ≡ true) → (b ≡ true → a ≡ true) → a ≡ b
same_test true b up down = sym (up refl)
same_test false true up down = down refl
same_test false false up down = refl

-- of the same lines the same is left
pub closed-same : (ls some : List Line) → HaveSameLines some ls → IsClosed ls some
closed-same ls some same = record { from = λ l h. sym (same.same l) ∙ h; up = λ l m h k s. among-passes some m (swallowed_by l) (same.same m ∙ k) s }

pub left-same : (ls some : List Line) → HaveSameLines some ls → HaveSameLines (left_of some) (left_of ls)
left-same ls some same = record {
  same = λ l.
      same_test (is_among (left_of some) l) (is_among (left_of ls) l) (left-closed ls some (closed-same ls some same) l)
      (left-closed some ls (closed-same some ls (record { same = λ m. sym (same.same m) })) l);
}

-- ---- how many

fewer_others : (x : Line) (ys : List Line) → is_among ys x ≡ true → length (filter (λ (m : Line). not (line_eq m x)) ys) < length ys
fewer_others x [] h = absurd (false≢true h)
fewer_others x (y ∷ ys) h =
    elim (cases_Bool (line_eq y x)) [
      | inl t ↦
          let p = λ (m : Line). not (line_eq m x) in
          let size = length-filter p ys in
          let le = count_by-le-length p ys in
          rw t (omega arith)
      | inr f ↦ let ih = fewer_others x ys (rw (other_way y x f) at h) in rw f (omega arith)
    ]

-- lines that differ, each of which is among others, are no more than those
fewer_lines : (xs ys : List Line) → lines_differ xs ≡ true → ((l : Line) → is_among xs l ≡ true → is_among ys l ≡ true) → length xs ≤ length ys
fewer_lines [] ys differ inside = omega arith
fewer_lines (x ∷ xs) ys differ inside =
    let p = and_parts (not (is_among xs x)) (lines_differ xs) differ in
    let new = not-true (is_among xs x) p.0 in
    let others = λ (m : Line). not (line_eq m x) in
    let rest = fewer_lines xs (filter others ys) p.1 (λ l h.
    let other : others l ≡ true = not_from_false (line_eq l x) (false_from_ne_true (line_eq l x) (λ t. false≢true (sym new ∙ (sym (same_line_test l x (is_among xs) t) ∙ h)))) in
    any-filter_same (line_eq l) others true (λ m e. sym (same_line_test l m others e) ∙ other) ys ∙ inside l (or_right (line_eq l x) (is_among xs l) h)) in
    let fewer = fewer_others x ys (inside x (or_left (line_eq x x) (is_among xs x) ((line_eq-Decides x x).1 refl))) in
    omega arith

-- no more are left of them than of all
pub fewer_left : (ls some : List Line) → IsClosed ls some → length (left_of some) ≤ length (left_of ls)
fewer_left ls some closed = fewer_lines (left_of some) (left_of ls) (differ_left some) (left-closed ls some closed)

-- ---- the lines that are left, in their order

-- tests that say the same of each line that is among them keep the same
filter-same : (p q : Line → Bool) (ls : List Line) → ((l : Line) → is_among ls l ≡ true → p l ≡ q l) → filter p ls ≡ filter q ls
filter-same p q [] same = refl
filter-same p q (l ∷ ls) same =
    let here = same l (or_left (line_eq l l) (is_among ls l) ((line_eq-Decides l l).1 refl)) in
    let rest = filter-same p q ls (λ m h. same m (or_right (line_eq m l) (is_among ls m) h)) in
    λ i. if here i then l ∷ rest i else rest i

filter-both : (p q : Line → Bool) (ls : List Line) → filter p (filter q ls) ≡ filter (λ l. q l && p l) ls
filter-both p q [] = refl
filter-both p q (l ∷ ls) =
    elim (cases_Bool (q l)) [
      | inl t ↦ rw t (ap (λ ms. if p l then l ∷ ms else ms) (filter-both p q ls))
      | inr f ↦ rw f (filter-both p q ls)
    ]

-- of lines that pass a test the first are those of all that pass
firsts-filter : (p : Line → Bool) (ls : List Line) → firsts (filter p ls) ≡ filter p (firsts ls)
firsts-filter p [] = refl
firsts-filter p (l ∷ ls) =
    let others = λ (m : Line). not (line_eq m l) in
    let ih = firsts-filter p ls in
    let swapped : filter others (filter p (firsts ls)) ≡ filter p (filter others (firsts ls)) =
    filter-both others p (firsts ls)
    ∙ (filter-same (λ m. p m && others m) (λ m. others m && p m) (firsts ls) (λ m h. swap (p m) (others m)) ∙ sym (filter-both p others (firsts ls)))
    in
    elim (cases_Bool (p l)) [
      | inl t ↦ rw t (ap (λ ms. l ∷ ms) (ap (filter others) ih ∙ swapped))
      | inr f ↦
          let gone : (m : Line) → p m ≡ (p m && others m) = λ m.
          elim (cases_Bool (line_eq m l)) [
            | inl t ↦ let none : p m ≡ false = same_line_test m l p t ∙ f in rw none refl
            | inr g ↦ rw g (whole (p m))
          ] in
          rw f (ih ∙ (filter-same p (λ m. p m && others m) (firsts ls) (λ m h. gone m) ∙ (sym (filter-both others p (firsts ls)) ∙ swapped)))
    ]
  where
    swap : (a b : Bool) → (a && b) ≡ (b && a)
    swap true true = refl
    swap true false = refl
    swap false true = refl
    swap false false = refl

    whole : (a : Bool) → a ≡ (a && true)
    whole true = refl
    whole false = refl

any-filter : (q p : Line → Bool) (ls : List Line) → list_any p (filter q ls) ≡ list_any (λ l. q l && p l) ls
any-filter q p [] = refl
any-filter q p (l ∷ ls) =
    elim (cases_Bool (q l)) [
      | inl t ↦ rw t (ap (λ b. p l || b) (any-filter q p ls))
      | inr f ↦ rw f (any-filter q p ls)
    ]

-- of those that none of the lines swallows none goes
left-unswallowed : (ls : List Line) → left_of (filter (λ (l : Line). not (list_any (swallowed_by l) ls)) ls) ≡ left_of ls
unfolding left_of
left-unswallowed ls =
    let stays = λ (l : Line). not (list_any (swallowed_by l) ls) in
    let kept = filter stays (firsts ls) in
    let stays_there : (l : Line) → stays l ≡ not (list_any (swallowed_by l) (firsts ls)) = λ l. ap not (sym (any-firsts (swallowed_by l) ls)) in
    let none : (l : Line) → stays l ≡ true → not (list_any (swallowed_by l) kept) ≡ true = λ l t.
    not_from_false (list_any (swallowed_by l) kept)
    (false_from_ne_true (list_any (swallowed_by l) kept) (λ s.
    let m = passes-among (firsts ls) (λ k. stays k && swallowed_by l k) (sym (any-filter stays (swallowed_by l) (firsts ls)) ∙ s) in
    let there = among-passes (firsts ls) m.0 (swallowed_by l) m.1 (and_parts (stays m.0) (swallowed_by l m.0) m.2).1 in
    false≢true (sym (not-true (list_any (swallowed_by l) ls) t) ∙ (sym (any-firsts (swallowed_by l) ls) ∙ there))))
    in
    ap unswallowed (firsts-filter stays ls)
    ∙ (filter-both (λ (l : Line). not (list_any (swallowed_by l) kept)) stays (firsts ls)
    ∙ filter-same (λ l. stays l && not (list_any (swallowed_by l) kept)) (λ l. not (list_any (swallowed_by l) (firsts ls))) (firsts ls) (λ l h.
    elim (cases_Bool (stays l)) [
      | inl t ↦ and_from (stays l) (not (list_any (swallowed_by l) kept)) t (none l t) ∙ (sym t ∙ stays_there l)
      | inr f ↦ ap (λ b. b && not (list_any (swallowed_by l) kept)) f ∙ (sym f ∙ stays_there l)
    ]))

-- so the lines that are among those left leave what all leave
pub left-picked : (ls others : List Line) → HaveSameLines others (left_of ls) → left_of (filter (is_among others) ls) ≡ left_of ls
left-picked ls others same =
    let stays = λ (l : Line). not (list_any (swallowed_by l) ls) in
    ap left_of (filter-same (is_among others) stays ls (λ l h. same.same l ∙ (among-left ls l ∙ beside (stays l) (is_among ls l) h))) ∙ left-unswallowed ls
  where
    beside : (a b : Bool) → b ≡ true → (a && b) ≡ a
    beside true b e = e
    beside false b e = refl
