-- The tables of one output that a table of several is made of: they fit their columns, and need no mark.
use Rattle.std.proofs.Common.{◌≡◌, ℕ, ◌+◌, ◌<◌, ◌≤◌, false, not, nat_eq, cond, Option, Some, None, List, [], ◌∷◌, ◌++◌, length, map, refl, sym, subst, arith, All}
use Rattle.std.specs.List.{list_any}
use Rattle.std.proofs.lemmas.Bool.{cond_both, cond-true, cond-false, and_left, and_right, eq-eqb, or_parts}
use Rattle.std.proofs.lemmas.List.Elements.{All-nil, All-cons, All-head, All-tail, All-append, All-filter, All-map, All-weaker}
use Rattle.mv_base.specs.Set.{one, full}
use Rattle.mv_base.specs.declared.number.NetId.{NetId}
use Rattle.mv_base.specs.declared.limits.TheConstants.{MAX_JOINT_ROWS, MAX_VALUES}
use Rattle.mv_cover.proofs.Points.{one_some}
use Rattle.mv_design.specs.declared.table.Entry.{Entry}
use Rattle.mv_design.specs.declared.table.Entry.TheVariants.{Set}
use Rattle.mv_design.specs.declared.table.Row.{Row}
use Rattle.mv_design.specs.declared.table.FileTable.{FileTable}
use Rattle.mv_rows.specs.declared.column.Column.{Column}
use Rattle.mv_rows.specs.Cubes.{IsColumn, AreColumns, FitRow}
use Rattle.mv_rows.specs.Flat.{only_entry, says_nothing, IsRow, IsDefault, with_mark, marked_sets}
use Rattle.mv_rows.specs.Marked.{matches_none, is_silent, is_marked}
use Rattle.mv_rows.proofs.Over.{one_within}
use Rattle.mv_rows.proofs.Rows.{fit_marked}
use Rattle.mv_joint.specs.declared.split.PlainRow.{PlainRow}
use Rattle.mv_joint.specs.Plain.{PlainTable}
use Rattle.mv_joint.specs.Split.{rows_of, all_rows, IsFit}
use Rattle.mv_joint.specs.Plain.{IsJointFile, stays, needs_mark, set_of, said, with_any_mark, mark_row, mark_table, unmarked, marked, plain_by, plain_of}
use Rattle.mv_joint.specs.Plain as plain
use Rattle.mv_joint.specs.Joint.{distinct, choice_count, choice_entry, choice_row, choice_default, table_of, choice_table, output_row, output_rows, output_table, choice_columns}
use Rattle.mv_joint.specs.declared.plain.SplitTable.{SplitTable}
use Rattle.mv_joint.specs.Gather.{AreChoices, choice_of}
use Rattle.mv_joint.specs.Lawful.{IsPlain, IsSplit, IsUnmarked, IsMarkTable}
use Rattle.mv_joint.proofs.Fitting.{rows_fit, all_rows_fit}

-- ---- rows with one value as output

-- a row whose entry is a value
record GivesValue (cs : List Column) (r : Row) : Type 0 where
  row : IsRow cs r
  says : says_nothing (only_entry r.outs) ≡ false

none_silent : (cs : List Column) (rows : List Row) → All (GivesValue cs) rows → list_any (is_silent cs) rows ≡ false
none_silent cs [] all = refl
none_silent cs (r ∷ rows) all =
    let here = and_left (says_nothing (only_entry r.outs)) (not (matches_none cs r.ins)) (All-head (GivesValue cs) r rows all).says in
    let rest = none_silent cs rows (All-tail (GivesValue cs) r rows all) in
    rw here rest

row_of_value : (cs : List Column) (sets : List ℕ) (v : ℕ) → FitRow cs sets → GivesValue cs (record { ins = sets; outs = Set (one v) ∷ [] })
row_of_value cs sets v fit = record { row = record { sets = fit; single = refl; entry = tt }; says = one_some v }

all_rows_of : (cs : List Column) (rows : List Row) → All (GivesValue cs) rows → All (IsRow cs) rows
all_rows_of cs rows all = All-weaker (GivesValue cs) (IsRow cs) (λ r g. g.row) rows all

-- ---- the mark's table and the choice net's table

mark_rows_give : (cs : List Column) (rows : List PlainRow) → All (IsFit cs) rows → All (GivesValue cs) (map mark_row rows)
mark_rows_give cs rows all =
    All-map (GivesValue cs) mark_row rows (All-weaker (IsFit cs) (λ (r : PlainRow). GivesValue cs (mark_row r)) (λ r fit. row_of_value cs r.ins 0 fit.sets) rows all)

pub mark_unmarked : (cs : List Column) (rows : List PlainRow) → All (IsFit cs) rows → IsUnmarked cs (mark_table rows)
unfolding is_marked
mark_unmarked cs rows all = record {
  table = record {
    rows = all_rows_of cs (map mark_row rows) (mark_rows_give cs rows all);
    default = λ es e. subst (IsDefault cs) (let same : Set (one 1) ∷ [] ≡ es = cc in same) (record { single = refl; entry = tt });
  };
  unmarked = and_right _ _ (none_silent cs (map mark_row rows) (mark_rows_give cs rows all));
}

choice_rows_give : (cs : List Column) (all : List (List ℕ)) (rows : List PlainRow) → All (IsFit cs) rows → All (GivesValue cs) (map (choice_row all) rows)
choice_rows_give cs all rows fits =
    All-map (GivesValue cs) (choice_row all) rows (All-weaker (IsFit cs) (λ (r : PlainRow). GivesValue cs (choice_row all r)) (λ r fit. row_of_value cs r.ins _ fit.sets) rows fits)

choice_default_fits : (cs : List Column) (all : List (List ℕ)) (d : Option (List ℕ)) (es : List Entry) → choice_default all d ≡ Some es → IsDefault cs es
choice_default_fits cs all None es e = absurd (cc)
choice_default_fits cs all (Some outs) es e =
    subst (IsDefault cs) (let same : choice_entry all outs ∷ [] ≡ es = cc in same) (record { single = refl; entry = tt })

choice_no_mark : (cs : List Column) (rows : List Row) (all : List (List ℕ)) (d : Option (List ℕ)) → All (GivesValue cs) rows → is_marked cs (table_of rows (choice_default all d)) ≡ false
unfolding is_marked
choice_no_mark cs rows all None give = refl
choice_no_mark cs rows all (Some outs) give = and_right _ _ (none_silent cs rows give)

choices_unmarked : (cs : List Column) (all : List (List ℕ)) (rows : List PlainRow) (d : Option (List ℕ)) → All (IsFit cs) rows
    → IsUnmarked cs (table_of (map (choice_row all) rows) (choice_default all d))
choices_unmarked cs all rows d fits =
    let give = choice_rows_give cs all rows fits in
    record {
      table = record { rows = all_rows_of cs (map (choice_row all) rows) give; default = λ es e. choice_default_fits cs all d es e };
      unmarked = choice_no_mark cs (map (choice_row all) rows) all d give;
    }

pub choice_unmarked : (mark : NetId) (p : PlainTable) → IsPlain mark p → IsUnmarked p.columns (choice_table p)
choice_unmarked mark p is = choices_unmarked p.columns (distinct p) p.rows p.default is.rows

pub split_unmarked : (mark : NetId) (f : SplitTable) → IsSplit mark f → IsUnmarked f.columns (choice_of f)
split_unmarked mark f is = choices_unmarked f.columns f.choices.keys f.rows f.default is.rows

two_few : 2 ≤ MAX_VALUES
two_few = omega arith

-- ---- the tables of the outputs

pub count_some : (all : List (List ℕ)) → 0 < choice_count all
count_some all = omega arith

pub count_few : (all : List (List ℕ)) → length all ≤ MAX_VALUES → choice_count all ≤ MAX_VALUES
count_few all few = omega (arith, two_few)

pub count_reaches : (all : List (List ℕ)) → length all ≤ choice_count all
count_reaches all = omega arith

pub choice_lawful : (all : List (List ℕ)) (choice : NetId) → length all ≤ MAX_VALUES → AreColumns (choice_columns all choice)
choice_lawful all choice few =
    let c : Column = record { net = choice; count = choice_count all } in
    record {
      each = All-cons IsColumn c [] (record { some = count_some all; few = count_few all few }) (All-nil IsColumn);
      count = λ _. choice_count all;
      counts = All-cons (λ (d : Column). d.count ≡ choice_count all) c [] refl (All-nil _);
    }

pub choice_with_mark : (all : List (List ℕ)) (choice mark : NetId) → length all ≤ MAX_VALUES → nat_eq mark.0 choice.0 ≡ false → AreColumns (with_mark (choice_columns all choice) mark)
choice_with_mark all choice mark few apart =
    let c : Column = record { net = choice; count = choice_count all } in
    let m : Column = record { net = mark; count = 2 } in
    let count : ℕ → ℕ = λ n. cond (nat_eq n choice.0) (choice_count all) 2 in
    let P : Column → Type 0 = λ (d : Column). d.count ≡ count d.net.0 in
    record {
      each = All-cons IsColumn c (m ∷ []) (record { some = count_some all; few = count_few all few })
          (All-cons IsColumn m [] (record { some = omega arith; few = two_few }) (All-nil IsColumn));
      count = count;
      counts = All-cons P c (m ∷ []) (sym (cond-true (nat_eq choice.0 choice.0) (choice_count all) 2 (eq-eqb choice.0 choice.0 refl)))
          (All-cons P m [] (sym (cond-false (nat_eq mark.0 choice.0) (choice_count all) 2 apart)) (All-nil P));
    }

output_rows_fit : (cs : List Column) (j v n : ℕ) (all : List (List ℕ)) → ((u : ℕ) → u < n → FitRow cs (one u ∷ [])) → v + length all ≤ n → All (IsRow cs) (output_rows j v all)
output_rows_fit cs j v n [] fit low = All-nil (IsRow cs)
output_rows_fit cs j v n (outs ∷ all) fit low =
    All-cons (IsRow cs) (output_row j v outs) (output_rows j (v + 1) all) (record { sets = fit v (omega arith); single = refl; entry = tt })
    (output_rows_fit cs j (v + 1) n all fit (omega arith))

pub output_unmarked : (all : List (List ℕ)) (choice : NetId) (j : ℕ) → IsUnmarked (choice_columns all choice) (output_table all j)
unfolding is_marked
output_unmarked all choice j = record {
  table = record {
    rows = output_rows_fit (choice_columns all choice) j 0 (choice_count all) all (λ u low. (one_within u (choice_count all) low, tt)) (let low : length all ≤ choice_count all = count_reaches all in omega (arith, low));
    default = λ es e. absurd (cc);
  };
  unmarked = refl;
}

-- ---- the table without `=`

-- the mark may be asked for twice
twice_marked : (cs : List Column) (mark : NetId) → AreColumns (with_mark cs mark) → AreColumns (with_mark (with_mark cs mark) mark)
twice_marked cs mark is =
    let m : Column = record { net = mark; count = 2 } in
    let P : Column → Type 0 = λ (d : Column). d.count ≡ is.count d.net.0 in
    let counted : 2 ≡ is.count mark.0 = All-last P cs m is.counts in
    record {
      each = All-append IsColumn (with_mark cs mark) (m ∷ []) is.each (All-cons IsColumn m [] (record { some = omega arith; few = two_few }) (All-nil IsColumn));
      count = is.count;
      counts = All-append P (with_mark cs mark) (m ∷ []) is.counts (All-cons P m [] counted (All-nil P));
    }
  where
    All-last : (P : Column → Type 0) (cs : List Column) (m : Column) → All P (cs ++ m ∷ []) → P m
    All-last P [] m h = All-head P m [] h
    All-last P (c ∷ cs) m h = All-last P cs m (All-tail P c (cs ++ m ∷ []) h)

fit_any_mark : (cs : List Column) (mark : NetId) (sets : List ℕ) → FitRow cs sets → FitRow (with_mark cs mark) (sets ++ full 2 ∷ [])
fit_any_mark [] mark [] fit = ((λ v h. h), tt)
fit_any_mark [] mark (s ∷ sets) fit = absurd fit
fit_any_mark (c ∷ cs) mark [] fit = absurd fit
fit_any_mark (c ∷ cs) mark (s ∷ sets) fit = (fit.0, fit_any_mark cs mark sets fit.1)

pub said_fit : (cs : List Column) (rows : List PlainRow) → All (IsFit cs) rows → All (IsFit cs) (said rows)
said_fit cs rows all = All-filter (λ (r : PlainRow). not (plain.is_silent r)) (IsFit cs) rows all

-- a table without `=` over these columns, and the mark's table
pub record IsLawfulPlain (cs : List Column) (mark : NetId) (p : PlainTable) : Type 0 where
  pub table : IsPlain mark p
  pub mark_table : IsMarkTable cs p.mark

unmarked_lawful : (cs : List Column) (mark : NetId) (rows : List PlainRow) (d : Option (List ℕ)) → AreColumns cs → AreColumns (with_mark cs mark) → All (IsFit cs) rows → IsLawfulPlain cs mark (unmarked cs rows d)
unmarked_lawful cs mark rows d columns with all = record {
  table = record { columns = columns; with_mark = with; rows = said_fit cs rows all };
  mark_table = record { each = λ t e. absurd (cc) };
}

marked_lawful : (cs : List Column) (mark : NetId) (rows : List PlainRow) (es : List Entry) → AreColumns (with_mark cs mark) → All (IsFit cs) rows → IsLawfulPlain cs mark (marked cs mark rows es)
marked_lawful cs mark rows es with all = record {
  table = record {
    columns = with;
    with_mark = twice_marked cs mark with;
    rows = All-append (IsFit (with_mark cs mark)) (map with_any_mark (said rows)) (rows_of (with_mark cs mark) (marked_sets cs) es)
        (All-map (IsFit (with_mark cs mark)) with_any_mark (said rows)
        (All-weaker (IsFit cs) (λ (r : PlainRow). IsFit (with_mark cs mark) (with_any_mark r)) (λ r fit. record { sets = fit_any_mark cs mark r.ins fit.sets }) (said rows) (said_fit cs rows all)))
        (rows_fit (with_mark cs mark) (marked_sets cs) es (fit_marked cs mark));
  };
  mark_table = record { each = λ t e. subst (IsUnmarked cs) (let same : mark_table rows ≡ t = cc in same) (mark_unmarked cs rows all) };
}

by_default : (cs : List Column) (mark : NetId) (rows : List PlainRow) (d : Option (List Entry)) → AreColumns cs → AreColumns (with_mark cs mark) → All (IsFit cs) rows → IsLawfulPlain cs mark (plain_by cs mark rows d)
by_default cs mark rows None columns with all = unmarked_lawful cs mark rows None columns with all
by_default cs mark rows (Some es) columns with all =
    let P : PlainTable → Type 0 = IsLawfulPlain cs mark in
    cond_both (not (stays cs rows es)) (unmarked cs rows None) (cond (needs_mark rows es) (marked cs mark rows es) (unmarked cs rows (Some (map set_of es)))) P
    (λ _. unmarked_lawful cs mark rows None columns with all)
    (λ _. cond_both (needs_mark rows es) (marked cs mark rows es) (unmarked cs rows (Some (map set_of es))) P
    (λ _. marked_lawful cs mark rows es with all)
    (λ _. unmarked_lawful cs mark rows (Some (map set_of es)) columns with all))

pub plain_lawful : (cs : List Column) (t : FileTable) (mark : NetId) → AreColumns cs → AreColumns (with_mark cs mark) → IsJointFile cs t → IsLawfulPlain cs mark (plain_of cs t mark)
plain_lawful cs t mark columns with table = by_default cs mark (all_rows cs t.rows) t.default columns with (all_rows_fit cs (length t.outputs) t.rows table.rows)

-- ---- a table whose rows are split

pub split_lawful : (cs : List Column) (t : FileTable) (mark : NetId) (f : SplitTable) → AreColumns cs → AreColumns (with_mark cs mark) → IsJointFile cs t
    → AreChoices (plain_of cs t mark) f → length f.choices.keys ≤ MAX_JOINT_ROWS → IsSplit mark f
split_lawful cs t mark f columns with table a few =
    let p = plain_of cs t mark in
    let is = (plain_lawful cs t mark columns with table).table in
    record {
      columns = subst AreColumns (sym a.columns) is.columns;
      with_mark = subst (λ ds. AreColumns (with_mark ds mark)) (sym a.columns) is.with_mark;
      rows = subst (λ ds. All (IsFit ds) f.rows) (sym a.columns) (subst (All (IsFit p.columns)) (sym a.rows) is.rows);
      few = omega (arith, few);
    }

pub split_choice : (p : PlainTable) (f : SplitTable) → AreChoices p f → choice_of f ≡ choice_table p
split_choice p f a = λ i. table_of (map (choice_row (a.choices i)) (a.rows i)) (choice_default (a.choices i) (a.default i))

-- the mark and the choice net are apart
pub apart_mark : (cs : List Column) (mark choice : NetId) → list_any (λ (c : Column). nat_eq c.net.0 choice.0) (with_mark cs mark) ≡ false → nat_eq mark.0 choice.0 ≡ false
apart_mark [] mark choice h = (or_parts _ _ h).0
apart_mark (c ∷ cs) mark choice h = apart_mark cs mark choice (or_parts _ _ h).1

-- a column of the choice net
pub column_is : (all : List (List ℕ)) (c : Column) → c.count ≡ choice_count all → c ∷ [] ≡ choice_columns all c.net
column_is all c e = λ i. record { net = c.net; count = e i } ∷ []
