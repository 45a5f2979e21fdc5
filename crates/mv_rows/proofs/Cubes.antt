-- The literals of a row are its cube.
use Rattle.std.proofs.Common.{◌≡◌, ◌≢◌, ℕ, ◌+◌, ◌<◌, ◌≤◌, Bool, true, false, not, ◌&&◌, Option, Some, None, Result, Ok, Err, IfOk, MatchOption, List, [], ◌∷◌, ◌++◌, get_or, nat_eq, refl, sym, ◌∙◌, ap, subst, arith, inl, inr, All}
use Rattle.std.specs.Prelude.{◌==◌, nat_le, nat_lt}
use Rattle.std.specs.List.{list_all}
use Rattle.std.proofs.Math.Bool.{and-true}
use Rattle.std.proofs.lemmas.Bool.{cases_Bool, cond_both, false≢true, not-true, and_parts, and_from, and_right, leb-true, le-leb, eqb-true, eqb-false, ltb-true, lt-ltb}
use Rattle.std.proofs.lemmas.List.Elements.{All-head, All-tail, All-weaker}
use Rattle.mv_base.specs.Set.{has, empty, full, meet, Within}
use Rattle.mv_base.specs.declared.limits.TheConstants.{MAX_VALUES}
use Rattle.mv_base.proofs.Sets.{has-full, has-meet, has-empty}
use Rattle.mv_cover.specs.Literal.{Lit}
use Rattle.mv_cover.specs.Cubes.{holds, matches, IsCube}
use Rattle.mv_cover.specs.Meets.{literal_at}
use Rattle.mv_cover.proofs.Covering.{same_number}
use Rattle.mv_cover.proofs.Points.{matches-append}
use Rattle.mv_cover.proofs.Meets.{Rises, ascend-Rises}
use Rattle.mv_cover.proofs.Containing.{value_at}
use Rattle.mv_cover.proofs.Members.{point_of}
use Rattle.mv_rows.specs.declared.column.Column.{Column}
use Rattle.mv_rows.specs.declared.column.Placed.{Placed}
use Rattle.mv_rows.specs.declared.cube.Group.{Group}
use Rattle.mv_design.specs.Tables.{row_matches}
use Rattle.mv_rows.specs.Columns.{rises_after, IsColumnOrder, set_at}
use Rattle.mv_rows.specs.Cubes.{column_values, in_range, CountBy, IsColumn, AreColumns, FitRow, AreParts, HasNoPoint, IsRowCube}
use Rattle.mv_rows.specs.Meeting.{opened, closed, literals_from, literals_of, all_possible, ArePossible}
use Rattle.mv_rows.proofs.Values.{within_meet}
use Rattle.mv_rows.proofs.Orders.{SetFits, column_in, column_holds, all_ordered, sets_fit, ordered_in, ordered_hold}

-- ---- the nets ascend

Rises-closed : (k : ℕ) (o : Group) (ls : List Lit) → k ≤ o.column.net.0 → Rises (o.column.net.0 + 1) ls → Rises k ls → Rises k (closed o ++ ls)
Rises-closed k o ls low behind all =
    let P : List Lit → Type 0 = λ x. Rises k (x ++ ls) in
    cond_both (o.set == full o.column.count) [] (record { net = o.column.net; set = o.set } ∷ []) P (λ _. all) (λ _. (low, behind))

Rises-last : (k : ℕ) (o : Group) → k ≤ o.column.net.0 → Rises k (closed o)
Rises-last k o low =
    let P : List Lit → Type 0 = λ x. Rises k x in
    cond_both (o.set == full o.column.count) [] (record { net = o.column.net; set = o.set } ∷ []) P (λ _. tt) (λ _. (low, tt))

Rises-literals_from : (k : ℕ) (sets : List ℕ) (o : Group) (ps : List Placed) → k ≤ o.column.net.0 → rises_after o.column.net.0 ps ≡ true → Rises k (literals_from sets o ps)
Rises-literals_from k sets o [] low up = Rises-last k o low
Rises-literals_from k sets o (p ∷ ps) low up =
    let q = and_parts (nat_le o.column.net.0 p.column.net.0) (rises_after p.column.net.0 ps) up in
    let next : o.column.net.0 ≤ p.column.net.0 = leb-true _ _ q.0 in
    elim (cases_Bool (nat_eq p.column.net.0 o.column.net.0)) [
      | inl t ↦
          let same : p.column.net.0 ≡ o.column.net.0 = same_number _ _ t in
          let more : rises_after o.column.net.0 ps ≡ true = rw (← same) q.1 in
          rw t (Rises-literals_from k sets (record { column = o.column; set = meet o.set (set_at sets p) }) ps low more)
      | inr f ↦
          let other : p.column.net.0 ≢ o.column.net.0 = eqb-false _ _ f in
          let new : Group = record { column = p.column; set = set_at sets p } in
          rw f
          (Rises-closed k o (literals_from sets new ps) low
          (Rises-literals_from (o.column.net.0 + 1) sets new ps (omega arith) q.1)
          (Rises-literals_from k sets new ps (omega arith) q.1))
    ]

Rises-literals_of : (sets : List ℕ) (ps : List Placed) → rises_after 0 ps ≡ true → Rises 0 (literals_of sets ps)
Rises-literals_of sets [] up = tt
Rises-literals_of sets (p ∷ ps) up =
    let q = and_parts (nat_le 0 p.column.net.0) (rises_after p.column.net.0 ps) up in
    Rises-literals_from 0 sets (opened p.column) (p ∷ ps) (omega arith) (and_from _ _ (le-leb p.column.net.0 p.column.net.0 (omega arith)) q.1)

pub IsCube-literals : (sets : List ℕ) (order : List Placed) (lits : List Lit) → rises_after 0 order ≡ true → lits ≡ literals_of sets order → all_possible lits ≡ true → IsCube lits
IsCube-literals sets order lits up e some = record {
  ascending = ascend-Rises 0 lits (subst (Rises 0) (sym e) (Rises-literals_of sets order up));
  possible = some;
}

-- ---- the literals hold where the columns hold

matches-closed : (at : ℕ → ℕ) (o : Group) → nat_lt (at o.column.net.0) o.column.count ≡ true → matches at (closed o) ≡ (has o.set (at o.column.net.0) && true)
matches-closed at o range =
    let P : List Lit → Type 0 = λ x. matches at x ≡ (has o.set (at o.column.net.0) && true) in
    cond_both (o.set == full o.column.count) [] (record { net = o.column.net; set = o.set } ∷ []) P
    (λ y.
    let member : has o.set (at o.column.net.0) ≡ true = ap (λ s. has s (at o.column.net.0)) (eqb-true _ _ y) ∙ (has-full o.column.count (at o.column.net.0) ∙ range) in
    rw member refl)
    (λ _. refl)

met_and : (x a b c : Bool) → x ≡ (a && b) → (x && c) ≡ (a && (b && c))
met_and x true b c e = ap (λ y. y && c) e
met_and x false b c e = ap (λ y. y && c) e

matches-literals_from : (at : ℕ → ℕ) (sets : List ℕ) (o : Group) (ps : List Placed) → nat_lt (at o.column.net.0) o.column.count ≡ true → list_all (column_in at) ps ≡ true → matches at (literals_from sets o ps) ≡ (has o.set (at o.column.net.0) && list_all (column_holds at sets) ps)
matches-literals_from at sets o [] range all = matches-closed at o range
matches-literals_from at sets o (p ∷ ps) range all =
    let q = and_parts (column_in at p) (list_all (column_in at) ps) all in
    elim (cases_Bool (nat_eq p.column.net.0 o.column.net.0)) [
      | inl t ↦
          let same : p.column.net.0 ≡ o.column.net.0 = same_number _ _ t in
          let both : has (meet o.set (set_at sets p)) (at o.column.net.0) ≡ (has o.set (at o.column.net.0) && column_holds at sets p) =
          has-meet o.set (set_at sets p) (at o.column.net.0) ∙ ap (λ (n : ℕ). has o.set (at o.column.net.0) && has (set_at sets p) (at n)) (sym same) in
          rw t
          (matches-literals_from at sets (record { column = o.column; set = meet o.set (set_at sets p) }) ps range q.1
          ∙ met_and _ _ _ _ both)
      | inr f ↦
          let new : Group = record { column = p.column; set = set_at sets p } in
          rw f
          (matches-append at (closed o) (literals_from sets new ps)
          ∙ (ap (λ x. x && matches at (literals_from sets new ps)) (matches-closed at o range ∙ and-true _)
          ∙ ap (λ x. has o.set (at o.column.net.0) && x) (matches-literals_from at sets new ps q.0 q.1)))
    ]

-- the full set leaves nothing out
matches-literals_of : (at : ℕ → ℕ) (sets : List ℕ) (ps : List Placed) → list_all (column_in at) ps ≡ true → matches at (literals_of sets ps) ≡ list_all (column_holds at sets) ps
matches-literals_of at sets [] all = refl
matches-literals_of at sets (p ∷ ps) all =
    let q = and_parts (column_in at p) (list_all (column_in at) ps) all in
    matches-literals_from at sets (opened p.column) (p ∷ ps) q.0 all
    ∙ ap (λ x. x && list_all (column_holds at sets) (p ∷ ps)) (has-full p.column.count (at p.column.net.0) ∙ q.0)

-- ---- each literal leaves some values out

-- some of the values, but not all, or none
record IsLess (count set : ℕ) : Type 0 where
  within : Within set (full count)
  not_full : set ≡ full count → ⊥

abbrev AreLess : (ℕ → ℕ) → List Lit → Type 0
AreLess count [] = Unit {0}
AreLess count (l ∷ ls) = IsLess (count l.net.0) l.set × AreLess count ls

AreLess-append : (count : ℕ → ℕ) (xs ys : List Lit) → AreLess count xs → AreLess count ys → AreLess count (xs ++ ys)
AreLess-append count [] ys a b = b
AreLess-append count (x ∷ xs) ys a b = (a.0, AreLess-append count xs ys a.1 b)

AreLess-closed : (count : ℕ → ℕ) (o : Group) → o.column.count ≡ count o.column.net.0 → Within o.set (full o.column.count) → AreLess count (closed o)
AreLess-closed count o e within =
    let P : List Lit → Type 0 = λ x. AreLess count x in
    cond_both (o.set == full o.column.count) [] (record { net = o.column.net; set = o.set } ∷ []) P
    (λ _. tt)
    (λ n.
    let Q : ℕ → Type 0 = λ k. Within o.set (full k) in
    (record { within = subst Q e within; not_full = λ f. eqb-false _ _ n (f ∙ ap full (sym e)) }, tt))

-- a column of a net of so many values, whose set is some of them
record Fits (count : ℕ → ℕ) (sets : List ℕ) (p : Placed) : Type 0 where
  counted : p.column.count ≡ count p.column.net.0
  within : SetFits sets p

AreLess-literals_from : (count : ℕ → ℕ) (sets : List ℕ) (o : Group) (ps : List Placed) → o.column.count ≡ count o.column.net.0 → Within o.set (full o.column.count) → All (Fits count sets) ps → AreLess count (literals_from sets o ps)
AreLess-literals_from count sets o [] e within all = AreLess-closed count o e within
AreLess-literals_from count sets o (p ∷ ps) e within all =
    let here : Fits count sets p = All-head (Fits count sets) p ps all in
    let rest = All-tail (Fits count sets) p ps all in
    elim (cases_Bool (nat_eq p.column.net.0 o.column.net.0)) [
      | inl t ↦ rw t (AreLess-literals_from count sets (record { column = o.column; set = meet o.set (set_at sets p) }) ps e (within_meet o.set (set_at sets p) _ within) rest)
      | inr f ↦
          rw f
          (AreLess-append count (closed o) _ (AreLess-closed count o e within)
          (AreLess-literals_from count sets (record { column = p.column; set = set_at sets p }) ps here.counted here.within rest))
    ]

AreLess-literals_of : (count : ℕ → ℕ) (sets : List ℕ) (ps : List Placed) → All (Fits count sets) ps → AreLess count (literals_of sets ps)
AreLess-literals_of count sets [] all = tt
AreLess-literals_of count sets (p ∷ ps) all =
    AreLess-literals_from count sets (opened p.column) (p ∷ ps) (All-head (Fits count sets) p ps all).counted (λ v h. h) all

-- those with members are parts
abbrev nonempty : Lit → Bool
nonempty l = not (nat_eq l.set empty)

parts : (count : ℕ → ℕ) (ls : List Lit) → AreLess count ls → all_possible ls ≡ true → AreParts count ls
parts count [] less some = tt
parts count (l ∷ ls) less some =
    let p = and_parts (nonempty l) (list_all nonempty ls) some in
    (record { values = record { some = eqb-false _ _ (not-true (nat_eq l.set empty) p.0); within = less.0.within }; not_full = less.0.not_full }, parts count ls less.1 p.1)

-- ---- the cube

all_both : {X : Type 0} (P Q R : X → Type 0) → ((x : X) → P x → Q x → R x) → (xs : List X) → All P xs → All Q xs → All R xs
all_both P Q R f xs p q k d low = f (get_or xs k d) (p k d low) (q k d low)

order_fits : (count : ℕ → ℕ) (cs : List Column) (order : List Placed) (sets : List ℕ) → IsColumnOrder cs order → FitRow cs sets → CountBy count cs → All (Fits count sets) order
order_fits count cs order sets o fit by =
    all_both (λ (p : Placed). p.column.count ≡ count p.column.net.0) (SetFits sets) (Fits count sets) (λ p a b. record { counted = a; within = b }) order
    (all_ordered (λ (c : Column). c.count ≡ count c.net.0) cs order o by)
    (sets_fit cs order sets o fit)

points : (cs : List Column) (order : List Placed) (sets : List ℕ) → IsColumnOrder cs order → FitRow cs sets → (at : ℕ → ℕ) → in_range at cs ≡ true → matches at (literals_of sets order) ≡ row_matches sets (column_values at cs)
points cs order sets o fit at range = matches-literals_of at sets order (ordered_in at cs order o ∙ range) ∙ ordered_hold at cs order sets o fit

-- a point of the cube that is 0 off its nets has each net in its range
literal_within : (count : ℕ → ℕ) (ls : List Lit) (n s : ℕ) → AreLess count ls → literal_at ls n ≡ Some s → Within s (full (count n))
literal_within count [] n s less e = absurd (cc)
literal_within count (l ∷ ls) n s less e =
    elim (cases_Bool (nat_eq l.net.0 n)) [
      | inl t ↦
          let same : l.net.0 ≡ n = same_number _ _ t in
          let is : Some l.set ≡ Some s = rw t at e in
          let set : l.set ≡ s = cc in
          λ v h. subst (λ (m : ℕ). has (full (count m)) v ≡ true) same (less.0.within v (ap (λ (x : ℕ). has x v) set ∙ h))
      | inr f ↦ literal_within count ls n s less.1 (rw f at e)
    ]

ranged : (count : ℕ → ℕ) (at : ℕ → ℕ) (ls : List Lit) → AreLess count ls → matches at ls ≡ true → ((n : ℕ) → literal_at ls n ≡ None → at n ≡ 0) → (n : ℕ) → 0 < count n → at n < count n
ranged count at ls less there zeros n some = by_literal (literal_at ls n) refl
  where
    by_literal : (o : Option ℕ) → literal_at ls n ≡ o → at n < count n
    by_literal None e = let z = zeros n e in omega arith
    by_literal (Some s) e =
        let member : has s (at n) ≡ true = value_at at ls n s e there in
        ltb-true _ _ (sym (has-full (count n) (at n)) ∙ literal_within count ls n s less e (at n) member)

in_from : (at : ℕ → ℕ) (cs : List Column) → All (λ (c : Column). at c.net.0 < c.count) cs → in_range at cs ≡ true
in_from at [] h = refl
in_from at (c ∷ cs) h =
    and_from _ _ (lt-ltb _ _ (All-head (λ (d : Column). at d.net.0 < d.count) c cs h)) (in_from at cs (All-tail (λ (d : Column). at d.net.0 < d.count) c cs h))

pub IsRowCube-literals : (cs : List Column) (order : List Placed) (sets : List ℕ) (cube : List Lit) → AreColumns cs → FitRow cs sets → IsColumnOrder cs order → ArePossible (literals_of sets order) cube → IsRowCube cs sets cube
IsRowCube-literals cs order sets cube columns fit o found =
    let e = found.is in
    let some = found.possible in
    let less : (count : ℕ → ℕ) → CountBy count cs → AreLess count cube = λ count by. subst (AreLess count) (sym e) (AreLess-literals_of count sets order (order_fits count cs order sets o fit by)) in
    let rises : Rises 0 cube = subst (Rises 0) (sym e) (Rises-literals_of sets order o.rises) in
    let point = point_of 0 cube rises some in
    let equal : (at : ℕ → ℕ) → in_range at cs ≡ true → matches at cube ≡ row_matches sets (column_values at cs) = λ at range. ap (matches at) e ∙ points cs order sets o fit at range in
    let range : in_range point.at cs ≡ true =
    in_from point.at cs
    (all_both IsColumn (λ (c : Column). c.count ≡ columns.count c.net.0) (λ (c : Column). point.at c.net.0 < c.count)
    (λ c is by.
    let some_value = is.some in
    let low : point.at c.net.0 < columns.count c.net.0 = ranged columns.count point.at cube (less columns.count columns.counts) point.there point.zeros c.net.0 (omega arith) in
    omega arith)
    cs columns.each columns.counts) in
    record {
      points = equal;
      point = record { at = point.at; range = range; there = sym (equal point.at range) ∙ point.there };
      formed = IsCube-literals sets order cube o.rises e some;
      parts = λ count by. parts count cube (less count by) some;
    }

-- a literal without values holds nowhere
some_empty : (at : ℕ → ℕ) (ls : List Lit) → all_possible ls ≡ false → matches at ls ≡ false
some_empty at [] h = absurd (false≢true (sym h))
some_empty at (l ∷ ls) h =
    elim (cases_Bool (nat_eq l.set empty)) [
      | inl t ↦ ap (λ b. b && matches at ls) (ap (λ s. has s (at l.net.0)) (same_number _ _ t) ∙ has-empty (at l.net.0))
      | inr f ↦ and_right (holds at l) (matches at ls) (some_empty at ls (rw f at h))
    ]

pub HasNoPoint-literals : (cs : List Column) (order : List Placed) (sets : List ℕ) → FitRow cs sets → IsColumnOrder cs order → all_possible (literals_of sets order) ≡ false → HasNoPoint cs sets
HasNoPoint-literals cs order sets fit o none = record { nowhere = λ at range. sym (points cs order sets o fit at range) ∙ some_empty at (literals_of sets order) none }

-- what an answer says of each case, from what another says
pub each_case : {X E : Type 0} (N M : Type 0) (P Q : X → Type 0) → (N → M) → ((x : X) → P x → Q x) → (r : Result (Option X) E) → IfOk r (λ o. MatchOption o N P) → IfOk r (λ o. MatchOption o M Q)
each_case N M P Q f g (Ok None) h = f h
each_case N M P Q f g (Ok (Some x)) h = g x h
each_case N M P Q f g (Err e) h = tt

-- no net of a column has too many values
pub counts_few : (cs : List Column) (order : List Placed) → AreColumns cs → IsColumnOrder cs order → All (λ (p : Placed). p.column.count ≤ MAX_VALUES) order
counts_few cs order columns o = all_ordered (λ (c : Column). c.count ≤ MAX_VALUES) cs order o (All-weaker IsColumn (λ (c : Column). c.count ≤ MAX_VALUES) (λ c is. is.few) cs columns.each)
