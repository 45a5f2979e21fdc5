-- The rows of a row with its entries left, one entry after the other: a row that matches nothing has none.
use Rattle.std.proofs.Common.{◌≡◌, ℕ, zero, suc, ◌+◌, ◌<◌, true, false, not, Option, Some, None, List, [], ◌∷◌, ◌++◌, length, filter, refl, sym, ◌∙◌, ap, subst, arith, inl, inr, append-nil, All}
use Rattle.std.specs.Prelude.{slice_index, slice_set}
use Rattle.std.specs.List.{flat_map, range_with_len}
use Rattle.std.proofs.lemmas.Bool.{cases_Bool, cond_both, and_right}
use Rattle.std.proofs.lemmas.Grind.{flat_map-append}
use Rattle.std.proofs.lemmas.List.Elements.{filter-append, All-nil, All-cons, All-head, All-tail, All-append}
use Rattle.mv_base.specs.Set.{has, one}
use Rattle.mv_design.specs.declared.table.Entry.{Entry}
use Rattle.mv_design.specs.declared.table.Entry.TheVariants.{Set, Same}
use Rattle.mv_rows.specs.declared.column.Column.{Column}
use Rattle.mv_rows.specs.Cubes.{AreColumns, column_values, HasNoPoint}
use Rattle.mv_rows.specs.Lines.{FitEntry, count_at}
use Rattle.mv_rows.proofs.Orders.{fit_length}
use Rattle.mv_rows.proofs.Marked.{none_from_nowhere}
use Rattle.mv_joint.specs.declared.split.PlainRow.{PlainRow}
use Rattle.mv_joint.specs.declared.gather.Gathered.{Gathered}
use Rattle.mv_joint.specs.declared.joint.JointStop.{JointStop}
use Rattle.mv_joint.specs.Split.{narrowing, extended, split, is_possible, IsFit}
use Rattle.mv_joint.specs.Gather.{rest_of, listed, Gathers, StopsOver}
use Rattle.mv_joint.proofs.Splits.{fit_one, fit_narrowing}
use Rattle.mv_joint.proofs.Splitting.{matched_alone, impossible}
use Rattle.mv_joint.proofs.Fitting.{passing}
use Rattle.mv_joint.proofs.Gathering.{gathers_more, stops_more, stops_early}

-- ---- a row that matches nothing

-- a row that no values match
record IsNowhere (cs : List Column) (r : PlainRow) : Type 0 where
  fit : IsFit cs r
  nowhere : HasNoPoint cs r.ins

nowhere_narrowing : (cs : List Column) (k : ℕ) (r : PlainRow) (v : ℕ) → k < length cs → IsNowhere cs r → All (IsNowhere cs) (narrowing k r v)
nowhere_narrowing cs k r v low is =
    let row : PlainRow = record { ins = slice_set r.ins k (one v); outs = r.outs ++ one v ∷ [] } in
    let place : k < length r.ins = omega (arith, low, fit_length cs r.ins is.fit.sets) in
    cond_both (has (slice_index r.ins k) v) (row ∷ []) [] (All (IsNowhere cs))
    (λ there. All-cons (IsNowhere cs) row []
    (record {
      fit = record { sets = fit_one cs r.ins k v is.fit.sets there };
      nowhere = record { nowhere = λ at range. matched_alone r.ins (column_values at cs) k v there place ∙ and_right _ _ (is.nowhere.nowhere at range) };
    })
    (All-nil (IsNowhere cs)))
    (λ _. All-nil (IsNowhere cs))

nowhere_narrowings : (cs : List Column) (k : ℕ) (r : PlainRow) (vs : List ℕ) → k < length cs → IsNowhere cs r → All (IsNowhere cs) (flat_map (narrowing k r) vs)
nowhere_narrowings cs k r [] low is = All-nil (IsNowhere cs)
nowhere_narrowings cs k r (v ∷ vs) low is =
    All-append (IsNowhere cs) (narrowing k r v) (flat_map (narrowing k r) vs) (nowhere_narrowing cs k r v low is) (nowhere_narrowings cs k r vs low is)

nowhere_extended : (cs : List Column) (e : Entry) (r : PlainRow) → FitEntry cs e → IsNowhere cs r → All (IsNowhere cs) (extended cs e r)
nowhere_extended cs (Set s) r entry is =
    All-cons (IsNowhere cs) (record { ins = r.ins; outs = r.outs ++ s ∷ [] }) [] (record { fit = record { sets = is.fit.sets }; nowhere = is.nowhere }) (All-nil (IsNowhere cs))
nowhere_extended cs (Same k) r entry is = nowhere_narrowings cs k r (range_with_len 0 (count_at cs k)) entry is

all_nowhere_extended : (cs : List Column) (e : Entry) (rows : List PlainRow) → FitEntry cs e → All (IsNowhere cs) rows → All (IsNowhere cs) (flat_map (extended cs e) rows)
all_nowhere_extended cs e [] entry all = All-nil (IsNowhere cs)
all_nowhere_extended cs e (r ∷ rows) entry all =
    All-append (IsNowhere cs) (extended cs e r) (flat_map (extended cs e) rows)
    (nowhere_extended cs e r entry (All-head (IsNowhere cs) r rows all))
    (all_nowhere_extended cs e rows entry (All-tail (IsNowhere cs) r rows all))

all_nowhere_split : (cs : List Column) (es : List Entry) (rows : List PlainRow) → All (FitEntry cs) es → All (IsNowhere cs) rows → All (IsNowhere cs) (split cs es rows)
all_nowhere_split cs [] rows entries all = all
all_nowhere_split cs (e ∷ es) rows entries all =
    all_nowhere_split cs es (flat_map (extended cs e) rows) (All-tail (FitEntry cs) e es entries)
    (all_nowhere_extended cs e rows (All-head (FitEntry cs) e es entries) all)

all_gone : (cs : List Column) (rows : List PlainRow) → AreColumns cs → All (IsNowhere cs) rows → filter (is_possible cs) rows ≡ []
all_gone cs [] columns all = refl
all_gone cs (r ∷ rows) columns all =
    let is = All-head (IsNowhere cs) r rows all in
    let gone : is_possible cs r ≡ false = ap not (none_from_nowhere cs r.ins columns is.fit.sets is.nowhere) in
    rw gone (all_gone cs rows columns (All-tail (IsNowhere cs) r rows all))

pub rest_none : (cs : List Column) (es : List Entry) (r : PlainRow) → AreColumns cs → All (FitEntry cs) es → IsFit cs r → is_possible cs r ≡ false → rest_of cs es r ≡ []
rest_none cs es r columns entries fit gone =
    let is : IsNowhere cs r = record { fit = fit; nowhere = record { nowhere = λ at range. impossible at cs r range gone } } in
    all_gone cs (split cs es (r ∷ [])) columns (all_nowhere_split cs es (r ∷ []) entries (All-cons (IsNowhere cs) r [] is (All-nil (IsNowhere cs))))

-- ---- the rows of some rows

split_none : (cs : List Column) (es : List Entry) → split cs es [] ≡ []
split_none cs [] = refl
split_none cs (e ∷ es) = split_none cs es

split-append : (cs : List Column) (es : List Entry) (a b : List PlainRow) → split cs es (a ++ b) ≡ split cs es a ++ split cs es b
split-append cs [] a b = refl
split-append cs (e ∷ es) a b =
    ap (split cs es) (flat_map-append (extended cs e) a b) ∙ split-append cs es (flat_map (extended cs e) a) (flat_map (extended cs e) b)

rests : (cs : List Column) (es : List Entry) (rows : List PlainRow) → filter (is_possible cs) (split cs es rows) ≡ flat_map (rest_of cs es) rows
rests cs es [] = ap (filter (is_possible cs)) (split_none cs es)
rests cs es (r ∷ rows) =
    ap (filter (is_possible cs)) (split-append cs es (r ∷ []) rows)
    ∙ (filter-append (is_possible cs) (split cs es (r ∷ [])) (split cs es rows)
    ∙ ap (λ (rs : List PlainRow). rest_of cs es r ++ rs) (rests cs es rows))

-- rows that match nothing have none
rests_possible : (cs : List Column) (es : List Entry) (rows : List PlainRow) → AreColumns cs → All (FitEntry cs) es → All (IsFit cs) rows → flat_map (rest_of cs es) rows ≡ flat_map (rest_of cs es) (filter (is_possible cs) rows)
rests_possible cs es [] columns entries fits = refl
rests_possible cs es (r ∷ rows) columns entries fits =
    let rest = rests_possible cs es rows columns entries (All-tail (IsFit cs) r rows fits) in
    elim (cases_Bool (is_possible cs r)) [
      | inl t ↦ rw t (ap (λ (rs : List PlainRow). rest_of cs es r ++ rs) rest)
      | inr f ↦ rw f (ap (λ (rs : List PlainRow). rs ++ flat_map (rest_of cs es) rows) (rest_none cs es r columns entries (All-head (IsFit cs) r rows fits) f) ∙ rest)
    ]

-- ---- an entry that names a column

-- the rows of a row with its values below n at place k
abbrev pub rests_below : List Column → List Entry → ℕ → PlainRow → ℕ → List PlainRow
rests_below cs es k r n = flat_map (rest_of cs es) (flat_map (narrowing k r) (range_with_len 0 n))

pub rest_same : (cs : List Column) (es : List Entry) (k : ℕ) (r : PlainRow) → rest_of cs (Same k ∷ es) r ≡ rests_below cs es k r (count_at cs k)
rest_same cs es k r =
    rests cs es (flat_map (extended cs (Same k)) (r ∷ []))
    ∙ ap (flat_map (rest_of cs es)) (append-nil (flat_map (narrowing k r) (range_with_len 0 (count_at cs k))))

numbers_split : (a n m : ℕ) → range_with_len a (n + m) ≡ range_with_len a n ++ range_with_len (a + n) m
numbers_split a zero m =
    let none : 0 + m ≡ m = omega arith in
    let here : a ≡ a + 0 = omega arith in
    (λ i. range_with_len (here i) (none i))
numbers_split a (suc n) m =
    let one_more : suc n + m ≡ suc (n + m) = omega arith in
    let place : (a + 1) + n ≡ a + suc n = omega arith in
    ap (range_with_len a) one_more
    ∙ ap (λ (vs : List ℕ). a ∷ vs) (numbers_split (a + 1) n m ∙ ap (λ (b : ℕ). range_with_len (a + 1) n ++ range_with_len b m) place)

-- the rows of values from n on
abbrev pub rests_from : List Column → List Entry → ℕ → PlainRow → ℕ → ℕ → List PlainRow
rests_from cs es k r n m = flat_map (rest_of cs es) (flat_map (narrowing k r) (range_with_len n m))

pub rests_split : (cs : List Column) (es : List Entry) (k : ℕ) (r : PlainRow) (n m : ℕ) → rests_below cs es k r (n + m) ≡ rests_below cs es k r n ++ rests_from cs es k r n m
rests_split cs es k r n m =
    let f = narrowing k r in
    let place : 0 + n ≡ n = omega arith in
    let numbers : range_with_len 0 (n + m) ≡ range_with_len 0 n ++ range_with_len n m =
    numbers_split 0 n m ∙ ap (λ (b : ℕ). range_with_len 0 n ++ range_with_len b m) place in
    ap (λ (vs : List ℕ). flat_map (rest_of cs es) (flat_map f vs)) numbers
    ∙ (ap (flat_map (rest_of cs es)) (flat_map-append f (range_with_len 0 n) (range_with_len n m))
    ∙ flat_map-append (rest_of cs es) (flat_map f (range_with_len 0 n)) (flat_map f (range_with_len n m)))

rests_next : (cs : List Column) (es : List Entry) (k : ℕ) (r : PlainRow) (n : ℕ) → rests_below cs es k r (n + 1) ≡ rests_below cs es k r n ++ flat_map (rest_of cs es) (narrowing k r n)
rests_next cs es k r n =
    rests_split cs es k r n 1 ∙ ap (λ (rs : List PlainRow). rests_below cs es k r n ++ flat_map (rest_of cs es) rs) (append-nil (narrowing k r n))

-- a row with a value at place k, if there is one, where the row fits
pub record IsFound (cs : List Column) (es : List Entry) (k : ℕ) (r : PlainRow) (v : ℕ) (found : Option PlainRow) : Type 0 where
  pub columns : AreColumns cs
  pub entries : All (FitEntry cs) es
  pub fit : IsFit cs r
  pub is : listed found ≡ filter (is_possible cs) (narrowing k r v)

found_rows : (cs : List Column) (es : List Entry) (k : ℕ) (r : PlainRow) (v : ℕ) (found : Option PlainRow) → IsFound cs es k r v found → flat_map (rest_of cs es) (narrowing k r v) ≡ flat_map (rest_of cs es) (listed found)
found_rows cs es k r v found is =
    rests_possible cs es (narrowing k r v) is.columns is.entries (fit_narrowing cs k r v is.fit) ∙ ap (flat_map (rest_of cs es)) (sym is.is)

pub found_is : (cs : List Column) (es : List Entry) (k : ℕ) (r : PlainRow) (v : ℕ) (next : PlainRow) → IsFound cs es k r v (Some next) → IsFit cs next × (is_possible cs next ≡ true)
found_is cs es k r v next is =
    let P : PlainRow → Type 0 = λ x. IsFit cs x × (is_possible cs x ≡ true) in
    All-head P next [] (subst (All P) (sym is.is) (passing (IsFit cs) (is_possible cs) (narrowing k r v) (fit_narrowing cs k r v is.fit)))

pub rests_none : (cs : List Column) (es : List Entry) (k : ℕ) (r : PlainRow) (v : ℕ) → IsFound cs es k r v None → rests_below cs es k r (v + 1) ≡ rests_below cs es k r v
rests_none cs es k r v is =
    rests_next cs es k r v
    ∙ (ap (λ (rs : List PlainRow). rests_below cs es k r v ++ rs) (found_rows cs es k r v None is) ∙ append-nil (rests_below cs es k r v))

pub rests_some : (cs : List Column) (es : List Entry) (k : ℕ) (r : PlainRow) (v : ℕ) (next : PlainRow) → IsFound cs es k r v (Some next) → rests_below cs es k r (v + 1) ≡ rests_below cs es k r v ++ rest_of cs es next
rests_some cs es k r v next is =
    rests_next cs es k r v
    ∙ ap (λ (rs : List PlainRow). rests_below cs es k r v ++ rs) (found_rows cs es k r v (Some next) is ∙ append-nil (rest_of cs es next))

pub gathers_no_value : (cs : List Column) (es : List Entry) (k : ℕ) (r : PlainRow) (v : ℕ) (x y : Gathered) → IsFound cs es k r v None → Gathers (rests_below cs es k r v) x y → Gathers (rests_below cs es k r (v + 1)) x y
gathers_no_value cs es k r v x y is p = subst (λ (rs : List PlainRow). Gathers rs x y) (sym (rests_none cs es k r v is)) p

pub gathers_value : (cs : List Column) (es : List Entry) (k : ℕ) (r : PlainRow) (v : ℕ) (next : PlainRow) (x y z : Gathered) → IsFound cs es k r v (Some next) → Gathers (rests_below cs es k r v) x y → Gathers (rest_of cs es next) y z → Gathers (rests_below cs es k r (v + 1)) x z
gathers_value cs es k r v next x y z is p q =
    subst (λ (rs : List PlainRow). Gathers rs x z) (sym (rests_some cs es k r v next is)) (gathers_more (rests_below cs es k r v) (rest_of cs es next) x y z p q)

pub stops_value : (cs : List Column) (es : List Entry) (k : ℕ) (r : PlainRow) (v m : ℕ) (next : PlainRow) (x y : Gathered) (stop : JointStop) → (v + 1) + m ≡ count_at cs k → IsFound cs es k r v (Some next) → Gathers (rests_below cs es k r v) x y → StopsOver (rest_of cs es next) y stop → StopsOver (rest_of cs (Same k ∷ es) r) x stop
stops_value cs es k r v m next x y stop many is p h =
    let all : rests_below cs es k r (v + 1) ++ rests_from cs es k r (v + 1) m ≡ rest_of cs (Same k ∷ es) r =
    sym (rests_split cs es k r (v + 1) m) ∙ (ap (rests_below cs es k r) many ∙ sym (rest_same cs es k r)) in
    subst (λ (rs : List PlainRow). StopsOver rs x stop) all
    (stops_early (rests_below cs es k r (v + 1)) (rests_from cs es k r (v + 1) m) x stop
    (subst (λ (rs : List PlainRow). StopsOver rs x stop) (sym (rests_some cs es k r v next is)) (stops_more (rests_below cs es k r v) (rest_of cs es next) x y stop p h)))

pub gathers_same : (cs : List Column) (es : List Entry) (k : ℕ) (r : PlainRow) (n : ℕ) (x y : Gathered) → n ≡ count_at cs k → Gathers (rests_below cs es k r n) x y → Gathers (rest_of cs (Same k ∷ es) r) x y
gathers_same cs es k r n x y many p = subst (λ (rs : List PlainRow). Gathers rs x y) (ap (rests_below cs es k r) many ∙ sym (rest_same cs es k r)) p

-- ---- no entry left

pub rest_end : (cs : List Column) (r : PlainRow) → is_possible cs r ≡ true → r ∷ [] ≡ rest_of cs [] r
rest_end cs r possible = rw possible refl
