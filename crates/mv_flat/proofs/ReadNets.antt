-- What covers over columns depend on: the values of these columns.
use Rattle.std.proofs.Common.{◌≡◌, ℕ, true, false, ◌&&◌, List, [], ◌∷◌, ◌++◌, Option, Some, None, refl, sym, ◌∙◌, ap, ⊎_elim, All}
use Rattle.std.specs.Prelude.{nat_eq}
use Rattle.std.proofs.lemmas.Bool.{false≢true, cond-true, eq-eqb, eqb-true, or_cases, or_left, or_right}
use Rattle.std.proofs.lemmas.List.Elements.{All-cons, All-head, All-nil, All-tail}
use Rattle.mv_base.specs.declared.number.NetId.{NetId}
use Rattle.mv_cover.specs.declared.cover.Cover.{Cover}
use Rattle.mv_cover.proofs.Local.{allowed-local}
use Rattle.mv_rows.specs.declared.column.Column.{Column}
use Rattle.mv_rows.specs.Cubes.{column_values, CountBy}
use Rattle.mv_rows.specs.Covers.{MarkHas}
use Rattle.mv_rows.specs.Flat.{with_mark}
use Rattle.mv_rows.proofs.Flat.{values_marked}
use Rattle.mv_joint.specs.Meaning.{outputs_allow, AreTableCovers}
use Rattle.mv_flat.proofs.FormedCovers.{is_column, count_above, cover_above}

-- ---- the nets of columns

-- how many values each of these has; other nets have none here
abbrev pub count_in : List Column → (ℕ → ℕ) → ℕ → ℕ
count_in columns count n = count_above (is_column columns) count n

-- columns that are among others count by what these do
pub counted_in : (columns cs : List Column) (count : ℕ → ℕ) → ((n : ℕ) → is_column cs n ≡ true → is_column columns n ≡ true) → CountBy count cs
    → CountBy (count_in columns count) cs
counted_in columns [] count among by = All-nil _
counted_in columns (c ∷ cs) count among by =
    let P : Column → Type 0 = λ (d : Column). d.count ≡ count d.net.0 in
    let Q : Column → Type 0 = λ (d : Column). d.count ≡ count_in columns count d.net.0 in
    let here : is_column columns c.net.0 ≡ true = among c.net.0 (or_left (nat_eq c.net.0 c.net.0) (is_column cs c.net.0) (eq-eqb c.net.0 c.net.0 refl)) in
    All-cons Q c cs (All-head P c cs by ∙ sym (cond-true (is_column columns c.net.0) (count c.net.0) 0 here))
    (counted_in columns cs count (λ n h. among n (or_right (nat_eq c.net.0 n) (is_column cs n) h)) (All-tail P c cs by))

-- columns of equal values have nets of equal values
pub same_at : (x y : ℕ → ℕ) (columns : List Column) (n : ℕ) → column_values x columns ≡ column_values y columns → is_column columns n ≡ true → x n ≡ y n
same_at x y [] n e h = absurd (false≢true h)
same_at x y (c ∷ cs) n e h =
    let both : x c.net.0 ∷ column_values x cs ≡ y c.net.0 ∷ column_values y cs = e in
    let here : x c.net.0 ≡ y c.net.0 = cc in
    let rest : column_values x cs ≡ column_values y cs = cc in
    ⊎_elim (λ (t : nat_eq c.net.0 n ≡ true). let s = eqb-true c.net.0 n t in ap x (sym s) ∙ (here ∙ ap y s))
    (λ (t : is_column cs n ≡ true). same_at x y cs n rest t)
    (or_cases (nat_eq c.net.0 n) (is_column cs n) h)

-- ---- what covers depend on

-- outputs' covers allow alike where the columns have equal values
pub outputs_same : (columns : List Column) (count : ℕ → ℕ) (ns : List ℕ) (cs : List Cover) (x y : ℕ → ℕ) (outs : List ℕ)
    → AreTableCovers (count_in columns count) ns cs
    → column_values x columns ≡ column_values y columns → outputs_allow cs x outs ≡ outputs_allow cs y outs
outputs_same columns count ns [] x y [] are e = refl
outputs_same columns count ns [] x y (v ∷ outs) are e = refl
outputs_same columns count ns (c ∷ cs) x y [] are e = refl
outputs_same columns count [] (c ∷ cs) x y (v ∷ outs) are e = absurd are
outputs_same columns count (k ∷ ns) (c ∷ cs) x y (v ∷ outs) are e =
    let here = allowed-local c x y v (λ n h. same_at x y columns n e (cover_above (is_column columns) count k c n are.0 h)) in
    let rest = outputs_same columns count ns cs x y outs are.1 e in
    λ i. here i && rest i

-- ---- columns and a mark

-- the columns, and the mark behind them, where there is one
abbrev pub read_columns : Option Cover → List Column → NetId → List Column
read_columns None columns mark = columns
read_columns (Some c) columns mark = with_mark columns mark

pub values_read : (o : Option Cover) (columns : List Column) (mark : NetId) (x y : ℕ → ℕ) (n : ℕ) → column_values x columns ≡ column_values y columns
    → MarkHas o mark x n
    → MarkHas o mark y n → column_values x (read_columns o columns mark) ≡ column_values y (read_columns o columns mark)
values_read None columns mark x y n e hx hy = e
values_read (Some c) columns mark x y n e hx hy =
    let same : x mark.0 ≡ y mark.0 = hx ∙ sym hy in
    values_marked x columns mark ∙ ((λ i. e i ++ same i ∷ []) ∙ sym (values_marked y columns mark))

in_front : (cs ds : List Column) (n : ℕ) → is_column cs n ≡ true → is_column (cs ++ ds) n ≡ true
in_front [] ds n h = absurd (false≢true h)
in_front (c ∷ cs) ds n h =
    ⊎_elim (λ (y : nat_eq c.net.0 n ≡ true). or_left (nat_eq c.net.0 n) (is_column (cs ++ ds) n) y)
    (λ (y : is_column cs n ≡ true). or_right (nat_eq c.net.0 n) (is_column (cs ++ ds) n) (in_front cs ds n y))
    (or_cases (nat_eq c.net.0 n) (is_column cs n) h)

mark_in : (cs : List Column) (mark : NetId) → is_column (with_mark cs mark) mark.0 ≡ true
mark_in [] mark = or_left (nat_eq mark.0 mark.0) false (eq-eqb mark.0 mark.0 refl)
mark_in (c ∷ cs) mark = or_right (nat_eq c.net.0 mark.0) (is_column (with_mark cs mark) mark.0) (mark_in cs mark)

pub in_read : (o : Option Cover) (columns : List Column) (mark : NetId) (n : ℕ) → is_column (read_columns o columns mark) n ≡ true
    → is_column (with_mark columns mark) n ≡ true
in_read None columns mark n h = in_front columns (record { net = mark; count = 2 } ∷ []) n h
in_read (Some c) columns mark n h = h

front_of : (P : Column → Type 0) (cs ds : List Column) → All P (cs ++ ds) → All P cs
front_of P [] ds all = All-nil P
front_of P (c ∷ cs) ds all = All-cons P c cs (All-head P c (cs ++ ds) all) (front_of P cs ds (All-tail P c (cs ++ ds) all))

last_of : (P : Column → Type 0) (cs : List Column) (d : Column) → All P (cs ++ d ∷ []) → P d
last_of P [] d all = All-head P d [] all
last_of P (c ∷ cs) d all = last_of P cs d (All-tail P c (cs ++ d ∷ []) all)

pub count_read : (o : Option Cover) (columns : List Column) (mark : NetId) (count : ℕ → ℕ) → CountBy count (with_mark columns mark)
    → CountBy (count_in (read_columns o columns mark) count) columns
count_read None columns mark count by =
    counted_in columns columns count (λ n h. h) (front_of (λ (c : Column). c.count ≡ count c.net.0) columns (record { net = mark; count = 2 } ∷ []) by)
count_read (Some c) columns mark count by =
    counted_in (with_mark columns mark) columns count (λ n h. in_front columns (record { net = mark; count = 2 } ∷ []) n h)
    (front_of (λ (d : Column). d.count ≡ count d.net.0) columns (record { net = mark; count = 2 } ∷ []) by)

pub mark_read : (o : Option Cover) (columns : List Column) (mark : NetId) (count : ℕ → ℕ) → CountBy count (with_mark columns mark)
    → MarkHas o mark (count_in (read_columns o columns mark) count) 2
mark_read None columns mark count by = tt
mark_read (Some c) columns mark count by =
    let two : 2 ≡ count mark.0 = last_of (λ (d : Column). d.count ≡ count d.net.0) columns (record { net = mark; count = 2 }) by in
    cond-true (is_column (with_mark columns mark) mark.0) (count mark.0) 0 (mark_in columns mark) ∙ sym two
