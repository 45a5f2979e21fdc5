-- A row has at most one cube: two that hold at the same points are one.
use Rattle.std.proofs.Common.{◌≡◌, ℕ, ◌+◌, ◌<◌, ◌≤◌, true, not, List, [], ◌∷◌, get_or, map, refl, sym, ◌∙◌, ap, arith, inl, inr, All}
use Rattle.std.specs.List.{range_with_len}
use Rattle.std.proofs.lemmas.Bool.{cases_Bool, false≢true, and_from, not_from_false, eq-eqb, ne_eqb, lt-ltb, ltb-true, false_from_ne_true}
use Rattle.std.proofs.lemmas.List.Elements.{All-nil, All-cons, All-head, All-tail}
use Rattle.std.proofs.lemmas.List.FromFn.{get_or-map-range_with_len}
use Rattle.mv_base.specs.Set.{empty}
use Rattle.mv_base.proofs.Sets.{has-full, meet_of_Within}
use Rattle.mv_cover.specs.Literal.{Lit}
use Rattle.mv_cover.specs.declared.line.Line.{Line}
use Rattle.mv_cover.specs.Absorb.{line_lies, swallowed_by}
use Rattle.mv_cover.specs.Containing.{set_within, lies_in, FitsNet, FitsCube}
use Rattle.mv_cover.specs.Covering.{IsPoint}
use Rattle.mv_cover.specs.Cubes.{IsCube}
use Rattle.mv_cover.specs.Equal.{line_eq}
use Rattle.mv_cover.specs.Keys.{line_eq-Decides}
use Rattle.mv_cover.proofs.Absorbing.{swallowed-through, swallowed-self}
use Rattle.mv_cover.proofs.Containing.{lies_outside}
use Rattle.mv_cover.proofs.Members.{member_of}
use Rattle.mv_rows.specs.declared.column.Column.{Column}
use Rattle.mv_rows.specs.Cubes.{in_range, CountBy, IsColumn, AreColumns, IsPart, AreParts, IsRowCube}

-- ---- cubes that lie in one another

within_self : (s : ℕ) → set_within s s ≡ true
within_self s = eq-eqb _ _ (meet_of_Within s s (λ v h. h))

-- lines of one output swallow one another where they differ
swallows : (l m : Line) → l.out ≡ m.out → lies_in l.cube m.cube ≡ true → (l ≡ m → ⊥) → swallowed_by l m ≡ true
swallows l m e lies other =
    and_from (line_lies l m) (not (line_eq l m))
    (and_from (set_within l.out m.out) (lies_in l.cube m.cube) (ap (λ s. set_within l.out s) (sym e) ∙ within_self l.out) lies)
    (not_from_false (line_eq l m) (false_from_ne_true (line_eq l m) (λ y. other ((line_eq-Decides l m).0 y))))

line_of : List Lit → Line
line_of c = record { cube = c; out = empty }

-- cubes that lie in one another are one: no line swallows itself
same_cubes : (a b : List Lit) → IsCube a → IsCube b → lies_in a b ≡ true → lies_in b a ≡ true → a ≡ b
unfolding line_of
same_cubes a b is it h k =
    elim (cases_Bool (line_eq (line_of a) (line_of b))) [
      | inl y ↦ ap (λ (l : Line). l.cube) ((line_eq-Decides (line_of a) (line_of b)).0 y)
      | inr n ↦
          let apart : line_of a ≡ line_of b → ⊥ = λ e. false≢true (sym n ∙ (line_eq-Decides (line_of a) (line_of b)).1 e) in
          let there = swallows (line_of a) (line_of b) refl h apart in
          let back = swallows (line_of b) (line_of a) refl k (λ e. apart (sym e)) in
          absurd (false≢true (sym (swallowed-self (line_of a)) ∙ swallowed-through (line_of a) (line_of b) (line_of a) is it there back))
    ]

-- ---- how many values the nets have, as a list

abbrev IsCounted : List ℕ → Column → Type 0
IsCounted counts c = c.count ≡ get_or counts c.net.0 0

-- a number past those of the columns' nets
reach : List Column → ℕ
reach [] = 0
reach (c ∷ cs) = (c.net.0 + 1) + reach cs

counts_listed : (count : ℕ → ℕ) (size : ℕ) (cs : List Column) → CountBy count cs → reach cs ≤ size → All (IsCounted (map count (range_with_len 0 size))) cs
unfolding reach
counts_listed count size [] by low = All-nil (IsCounted (map count (range_with_len 0 size)))
counts_listed count size (c ∷ cs) by low =
    let P : Column → Type 0 = λ d. d.count ≡ count d.net.0 in
    All-cons (IsCounted (map count (range_with_len 0 size))) c cs
    (All-head P c cs by ∙ sym (get_or-map-range_with_len count 0 size c.net.0 c.net.0 0 (omega arith) (omega arith)))
    (counts_listed count size cs (All-tail P c cs by) (omega arith))

-- ---- where two cubes of a row are

fits_net : (counts : List ℕ) (n set : ℕ) → IsPart (get_or counts n 0) set → FitsNet counts n set
fits_net counts n set part =
    let m = member_of set (ne_eqb set empty part.values.some) in
    let low : m.0 < get_or counts n 0 = ltb-true m.0 (get_or counts n 0) (sym (has-full (get_or counts n 0) m.0) ∙ part.values.within m.0 m.1) in
    record { valued = omega (arith, low); within = part.values.within; not_full = part.not_full }

fits_cube : (counts : List ℕ) (c : List Lit) → AreParts (λ n. get_or counts n 0) c → FitsCube counts c
fits_cube counts [] parts = tt
fits_cube counts (l ∷ ls) parts = (fits_net counts l.net.0 l.set parts.0, fits_cube counts ls parts.1)

point_ranges : (counts : List ℕ) (cs : List Column) (at : ℕ → ℕ) → All IsColumn cs → All (IsCounted counts) cs → IsPoint counts at → in_range at cs ≡ true
point_ranges counts [] at each by p = refl
point_ranges counts (c ∷ cs) at each by p =
    let e = All-head (IsCounted counts) c cs by in
    let some = (All-head IsColumn c cs each).some in
    let low : at c.net.0 < get_or counts c.net.0 0 = p.below c.net.0 (omega (arith, e, some)) in
    and_from _ _ (lt-ltb (at c.net.0) c.count (omega (arith, e, low)))
    (point_ranges counts cs at (All-tail IsColumn c cs each) (All-tail (IsCounted counts) c cs by) p)

one_lies : (counts : List ℕ) (cs : List Column) (sets : List ℕ) (a b : List Lit) → All IsColumn cs → All (IsCounted counts) cs → IsRowCube cs sets a → IsRowCube cs sets b → lies_in a b ≡ true
one_lies counts cs sets a b each by p q =
    elim (cases_Bool (lies_in a b)) [
      | inl y ↦ y
      | inr n ↦
          let out = lies_outside counts a b p.formed q.formed n (fits_cube counts b (q.parts _ by)) (fits_cube counts a (p.parts _ by)) in
          let range = point_ranges counts cs out.at each by out.point in
          absurd (false≢true (sym out.missed ∙ (q.points out.at range ∙ (sym (p.points out.at range) ∙ out.there))))
    ]

-- a row has at most one cube
pub one_cube : (cs : List Column) (sets : List ℕ) (a b : List Lit) → AreColumns cs → IsRowCube cs sets a → IsRowCube cs sets b → a ≡ b
one_cube cs sets a b columns p q =
    let counts = map columns.count (range_with_len 0 (reach cs)) in
    let by : All (IsCounted counts) cs = counts_listed columns.count (reach cs) cs columns.counts (omega arith) in
    same_cubes a b p.formed q.formed (one_lies counts cs sets a b columns.each by p q) (one_lies counts cs sets b a columns.each by q p)
