-- How many literals lines have where some are left out, cubes meet, or a net is read in place of another: never more.
use Rattle.std.proofs.Common.{◌≡◌, ℕ, suc, ◌+◌, ◌≤◌, Bool, not, nat_eq, nat_lt, List, [], ◌∷◌, ◌++◌, length, Option, Some, None, filter, inl, inr, refl, arith}
use Rattle.std.specs.List.{list_all, list_any, flat_map}
use Rattle.std.proofs.lemmas.Bool.{cases_Bool, cond_both}
use Rattle.mv_base.specs.Set.{empty}
use Rattle.mv_composite.specs.Wired.{line_asking, line_wired, wired}
use Rattle.mv_cover.specs.declared.cover.Cover.{Cover}
use Rattle.mv_cover.specs.Literal.{Lit}
use Rattle.mv_cover.specs.declared.line.Line.{Line}
use Rattle.mv_cover.specs.Absorb.{firsts, swallowed_by, left_of, absorbed}
use Rattle.mv_cover.specs.Cofactors.{cube_without}
use Rattle.mv_cover.specs.Complement.{lines_for}
use Rattle.mv_cover.specs.Covers.{literal_count}
use Rattle.mv_cover.specs.Equal.{line_eq}
use Rattle.mv_cover.specs.Meets.{literal_at, put_in, merged, met}

-- ---- lines that are left

count-append : (xs ys : List Line) → literal_count (xs ++ ys) ≡ literal_count xs + literal_count ys
count-append [] ys = omega arith
count-append (x ∷ xs) ys = omega (arith, count-append xs ys)

fewer_filtered : (p : Line → Bool) (ls : List Line) → literal_count (filter p ls) ≤ literal_count ls
fewer_filtered p [] = omega arith
fewer_filtered p (l ∷ ls) =
    let rest = fewer_filtered p ls in
    cond_both (p l) (l ∷ filter p ls) (filter p ls) (λ ks. literal_count ks ≤ length l.cube + literal_count ls) (λ _. omega arith) (λ _. omega arith)

fewer_firsts : (ls : List Line) → literal_count (firsts ls) ≤ literal_count ls
fewer_firsts [] = omega arith
fewer_firsts (l ∷ ls) = omega (arith, fewer_firsts ls, fewer_filtered (λ (k : Line). not (line_eq k l)) (firsts ls))

-- absorbing leaves no more literals
pub fewer_left : (ls : List Line) → literal_count (left_of ls) ≤ literal_count ls
unfolding left_of
fewer_left ls = omega (arith, fewer_firsts ls, fewer_filtered (λ (l : Line). not (list_any (swallowed_by l) (firsts ls))) (firsts ls))

-- lines that are each given in place of a line, which has no fewer literals
pub fewer_given : (give : Line → List Line) → ((l : Line) → literal_count (give l) ≤ length l.cube) → (ls : List Line) → literal_count (flat_map give ls) ≤ literal_count ls
fewer_given give each [] = omega arith
fewer_given give each (l ∷ ls) = omega (arith, each l, fewer_given give each ls, count-append (give l) (flat_map give ls))

-- ---- cubes

pub length-without : (n : ℕ) (c : List Lit) → length (cube_without n c) ≤ length c
length-without n [] = omega arith
length-without n (l ∷ ls) =
    let rest = length-without n ls in
    cond_both (not (nat_eq l.net.0 n)) (l ∷ cube_without n ls) (cube_without n ls) (λ c. length c ≤ length (l ∷ ls)) (λ _. omega arith) (λ _. omega arith)

-- a cube has fewer literals without those on a net that it has one on
without_less : (n set : ℕ) (c : List Lit) → literal_at c n ≡ Some set → length (cube_without n c) + 1 ≤ length c
without_less n set [] e = let bad : None ≡ Some set = e in absurd cc
without_less n set (l ∷ ls) e =
    elim (cases_Bool (nat_eq l.net.0 n)) [
      | inl t ↦ rw t (omega (arith, length-without n ls))
      | inr f ↦ rw f (omega (arith, without_less n set ls (rw f at e)))
    ]

length-put_in : (l : Lit) (rest : List Lit → List Lit) (k : ℕ) → ((c : List Lit) → length (rest c) ≤ k + length c) → (ms : List Lit) → length (put_in l rest ms) ≤ suc k + length ms
unfolding put_in
length-put_in l rest k few [] = omega (arith, few [])
length-put_in l rest k few (m ∷ ms) =
    elim (cases_Bool (nat_lt l.net.0 m.net.0)) [
      | inl t ↦ rw t (omega (arith, few (m ∷ ms)))
      | inr f ↦
          elim (cases_Bool (nat_lt m.net.0 l.net.0)) [
            | inl t ↦ rw f (rw t (omega (arith, length-put_in l rest k few ms)))
            | inr g ↦ rw f (rw g (omega (arith, few ms)))
          ]
    ]

-- two cubes have no fewer literals than what they share
length-merged : (a b : List Lit) → length (merged a b) ≤ length a + length b
unfolding merged
length-merged [] b = omega arith
length-merged (l ∷ ls) b = length-put_in l (λ c. merged ls c) (length ls) (λ c. length-merged ls c) b

pub fewer_met : (out : ℕ) (a b : List Lit) → literal_count (lines_for out (met a b)) ≤ length a + length b
unfolding met
fewer_met out a b =
    let long = length-merged a b in
    cond_both (list_all (λ l. not (nat_eq l.set empty)) (merged a b)) (merged a b ∷ []) [] (λ cs. literal_count (lines_for out cs) ≤ length a + length b) (λ _. omega arith) (λ _. omega arith)

-- ---- a net in place of another

fewer_asking : (n m : ℕ) (l : Line) (asked : Option ℕ) → literal_at l.cube n ≡ asked → literal_count (line_asking n m l asked) ≤ length l.cube
fewer_asking n m l None e = omega arith
fewer_asking n m l (Some set) e =
    omega (arith, fewer_met l.out (cube_without n l.cube) (record { net = record { 0 = m }; set = set } ∷ []), without_less n set l.cube e)

fewer_wired_line : (n m : ℕ) (l : Line) → literal_count (line_wired n m l) ≤ length l.cube
unfolding line_wired
fewer_wired_line n m l = fewer_asking n m l (literal_at l.cube n) refl

pub fewer_wired : (n m : ℕ) (c : Cover) → literal_count (wired n m c).lines ≤ literal_count c.lines
unfolding wired absorbed
fewer_wired n m c = omega (arith, fewer_left (flat_map (line_wired n m) c.lines), fewer_given (line_wired n m) (fewer_wired_line n m) c.lines)
