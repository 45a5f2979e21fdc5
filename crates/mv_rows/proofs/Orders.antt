-- The columns of a table by ascending net: what holds of each holds in every order, and the row matches by either.
use Rattle.std.proofs.Common.{◌≡◌, ℕ, suc, ◌+◌, ◌<◌, ◌≤◌, Bool, true, not, ◌&&◌, List, [], ◌∷◌, ◌++◌, length, get_or, take, refl, sym, ◌∙◌, ap, subst, arith, All}
use Rattle.std.specs.Prelude.{nat_lt}
use Rattle.std.specs.List.{list_all}
use Rattle.std.specs.List.Sorted.{IsPermutation, IsNonDecreasingBy}
use Rattle.std.proofs.lemmas.Bool.{and_from, le-leb}
use Rattle.std.proofs.lemmas.List.{take_more, length-take-le}
use Rattle.std.proofs.lemmas.List.Elements.{All-nil, All-cons, All-head, All-tail, All-weaker}
use Rattle.std.proofs.lemmas.List.Sorted.{All-permutation, list_any-IsPermutation}
use Rattle.mv_base.specs.Set.{has, full, Within}
use Rattle.mv_cover.proofs.Points.{list_all-none}
use Rattle.mv_rows.specs.declared.column.Column.{Column}
use Rattle.mv_rows.specs.declared.column.Placed.{Placed}
use Rattle.mv_design.specs.Tables.{row_matches}
use Rattle.mv_rows.specs.Columns.{placed, rises_after, IsColumnOrder, set_at}
use Rattle.mv_rows.specs.Cubes.{column_values, in_range, FitRow}

-- ---- columns with their places

placed-push : (k : ℕ) (cs : List Column) (c : Column) → placed k (cs ++ c ∷ []) ≡ placed k cs ++ record { column = c; place = k + length cs } ∷ []
placed-push k [] c = ap (λ (p : ℕ). record { column = c; place = p } ∷ []) (omega arith)
placed-push k (d ∷ ds) c =
    ap (λ ps. record { column = d; place = k } ∷ ps)
    (placed-push (k + 1) ds c ∙ ap (λ (p : ℕ). placed (k + 1) ds ++ record { column = c; place = p } ∷ []) (omega arith))

-- one more column
pub placed_more : (cs : List Column) (i : ℕ) (d : Column) → i < length cs → placed 0 (take (i + 1) cs) ≡ placed 0 (take i cs) ++ record { column = get_or cs i d; place = i } ∷ []
placed_more cs i d h =
    ap (placed 0) (take_more cs i d h)
    ∙ (placed-push 0 (take i cs) (get_or cs i d)
    ∙ ap (λ (p : ℕ). placed 0 (take i cs) ++ record { column = get_or cs i d; place = p } ∷ []) (omega (arith, length-take-le i cs (omega arith))))

-- ---- ascending nets

rises_from : (n : ℕ) (ps : List Placed) → IsNonDecreasingBy (λ (p : Placed). p.column.net.0) ps → ((d : Placed) → 0 < length ps → n ≤ (get_or ps 0 d).column.net.0) → rises_after n ps ≡ true
rises_from n [] up low = refl
rises_from n (p ∷ ps) up low =
    and_from _ _ (le-leb n p.column.net.0 (low p (omega arith)))
    (rises_from p.column.net.0 ps (λ i j e le lt. up (suc i) (suc j) e (omega arith) (omega arith)) (λ d some. up 0 1 d (omega arith) (omega arith)))

-- the columns with their places, sorted by net
pub IsColumnOrder_from_sort : (cs : List Column) (before after : List Placed) → before ≡ placed 0 cs → IsPermutation before after → IsNonDecreasingBy (λ (p : Placed). p.column.net.0) after → IsColumnOrder cs after
IsColumnOrder_from_sort cs before after e moved up = record {
  moved = let P : List Placed → Type 0 = λ ps. IsPermutation ps after in subst P e moved;
  rises = rises_from 0 after up (λ d some. omega arith);
}

-- ---- what holds of each column, in every order

all_placed : (P : Column → Type 0) (k : ℕ) (cs : List Column) → All P cs → All (λ (p : Placed). P p.column) (placed k cs)
all_placed P k [] h = All-nil _
all_placed P k (c ∷ cs) h =
    All-cons (λ (p : Placed). P p.column) (record { column = c; place = k }) (placed (k + 1) cs) (All-head P c cs h) (all_placed P (k + 1) cs (All-tail P c cs h))

pub all_ordered : (P : Column → Type 0) (cs : List Column) (order : List Placed) → IsColumnOrder cs order → All P cs → All (λ (p : Placed). P p.column) order
all_ordered P cs order o h = All-permutation (λ (p : Placed). P p.column) (placed 0 cs) order o.moved (all_placed P 0 cs h)

-- a set for each column is a set at each place
pub fit_length : (cs : List Column) (sets : List ℕ) → FitRow cs sets → length cs ≡ length sets
fit_length [] [] h = refl
fit_length [] (s ∷ sets) h = absurd h
fit_length (c ∷ cs) [] h = absurd h
fit_length (c ∷ cs) (s ∷ sets) h = let e = fit_length cs sets h.1 in omega (arith, e)

placed_below : (k : ℕ) (cs : List Column) → All (λ (p : Placed). p.place < k + length cs) (placed k cs)
placed_below k [] = All-nil _
placed_below k (c ∷ cs) =
    All-cons (λ (p : Placed). p.place < k + length (c ∷ cs)) _ _ (omega arith)
    (All-weaker (λ (p : Placed). p.place < k + 1 + length cs) (λ (p : Placed). p.place < k + length (c ∷ cs)) (λ p h. omega arith) (placed (k + 1) cs) (placed_below (k + 1) cs))

pub places_fit : (cs : List Column) (order : List Placed) (sets : List ℕ) → IsColumnOrder cs order → FitRow cs sets → All (λ (p : Placed). p.place < length sets) order
places_fit cs order sets o fit =
    All-permutation (λ (p : Placed). p.place < length sets) (placed 0 cs) order o.moved
    (All-weaker (λ (p : Placed). p.place < 0 + length cs) (λ (p : Placed). p.place < length sets) (λ p h. omega (arith, fit_length cs sets fit)) (placed 0 cs) (placed_below 0 cs))

-- the sets from place k on, in a longer list
abbrev Behind : List ℕ → ℕ → List ℕ → Type 0
Behind all k sets = (i : ℕ) → get_or all (k + i) 0 ≡ get_or sets i 0

behind_here : (all : List ℕ) (k s : ℕ) (sets : List ℕ) → Behind all k (s ∷ sets) → get_or all k 0 ≡ s
behind_here all k s sets h = ap (λ x. get_or all x 0) (let z : k ≡ k + 0 = omega arith in z) ∙ h 0

behind_rest : (all : List ℕ) (k s : ℕ) (sets : List ℕ) → Behind all k (s ∷ sets) → Behind all (k + 1) sets
behind_rest all k s sets h i = ap (λ x. get_or all x 0) (let z : k + 1 + i ≡ k + suc i = omega arith in z) ∙ h (suc i)

behind_all : (all : List ℕ) → Behind all 0 all
behind_all all i = ap (λ x. get_or all x 0) (let z : 0 + i ≡ i = omega arith in z)

abbrev pub SetFits : List ℕ → Placed → Type 0
SetFits sets p = Within (set_at sets p) (full p.column.count)

placed_fit : (all : List ℕ) (k : ℕ) (cs : List Column) (sets : List ℕ) → Behind all k sets → FitRow cs sets → All (SetFits all) (placed k cs)
placed_fit all k [] sets h fit = All-nil _
placed_fit all k (c ∷ cs) [] h fit = absurd fit
placed_fit all k (c ∷ cs) (s ∷ sets) h fit =
    let P : ℕ → Type 0 = λ x. Within x (full c.count) in
    All-cons (SetFits all) (record { column = c; place = k }) (placed (k + 1) cs) (subst P (sym (behind_here all k s sets h)) fit.0)
    (placed_fit all (k + 1) cs sets (behind_rest all k s sets h) fit.1)

pub sets_fit : (cs : List Column) (order : List Placed) (sets : List ℕ) → IsColumnOrder cs order → FitRow cs sets → All (SetFits sets) order
sets_fit cs order sets o fit = All-permutation (SetFits sets) (placed 0 cs) order o.moved (placed_fit sets 0 cs sets (behind_all sets) fit)

-- ---- tests of all columns, in every order

list_all-IsPermutation : {X : Type 0} (p : X → Bool) (xs ys : List X) → IsPermutation xs ys → list_all p xs ≡ list_all p ys
list_all-IsPermutation p xs ys h =
    list_all-none p xs ∙ (ap not (list_any-IsPermutation (λ x. not (p x)) xs ys h) ∙ sym (list_all-none p ys))

-- the column's net has one of its values
abbrev pub column_in : (ℕ → ℕ) → Placed → Bool
column_in at p = nat_lt (at p.column.net.0) p.column.count

-- the column's net has one of the values of its set in the row
abbrev pub column_holds : (ℕ → ℕ) → List ℕ → Placed → Bool
column_holds at sets p = has (set_at sets p) (at p.column.net.0)

placed_in : (at : ℕ → ℕ) (k : ℕ) (cs : List Column) → list_all (column_in at) (placed k cs) ≡ in_range at cs
placed_in at k [] = refl
placed_in at k (c ∷ cs) = ap (λ x. nat_lt (at c.net.0) c.count && x) (placed_in at (k + 1) cs)

pub ordered_in : (at : ℕ → ℕ) (cs : List Column) (order : List Placed) → IsColumnOrder cs order → list_all (column_in at) order ≡ in_range at cs
ordered_in at cs order o = sym (list_all-IsPermutation (column_in at) (placed 0 cs) order o.moved) ∙ placed_in at 0 cs

placed_hold : (at : ℕ → ℕ) (all : List ℕ) (k : ℕ) (cs : List Column) (sets : List ℕ) → Behind all k sets → FitRow cs sets → list_all (column_holds at all) (placed k cs) ≡ row_matches sets (column_values at cs)
placed_hold at all k [] [] h fit = refl
placed_hold at all k [] (s ∷ sets) h fit = absurd fit
placed_hold at all k (c ∷ cs) [] h fit = absurd fit
placed_hold at all k (c ∷ cs) (s ∷ sets) h fit =
    ap (λ x. has x (at c.net.0) && list_all (column_holds at all) (placed (k + 1) cs)) (behind_here all k s sets h)
    ∙ ap (λ x. has s (at c.net.0) && x) (placed_hold at all (k + 1) cs sets (behind_rest all k s sets h) fit.1)

pub ordered_hold : (at : ℕ → ℕ) (cs : List Column) (order : List Placed) (sets : List ℕ) → IsColumnOrder cs order → FitRow cs sets → list_all (column_holds at sets) order ≡ row_matches sets (column_values at cs)
ordered_hold at cs order sets o fit = sym (list_all-IsPermutation (column_holds at sets) (placed 0 cs) order o.moved) ∙ placed_hold at sets 0 cs sets (behind_all sets) fit
