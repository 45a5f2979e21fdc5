-- A table without `=` allows what the table of the file allows, with the mark at its value.
use Rattle.std.proofs.Common.{◌≡◌, ℕ, ◌<◌, Bool, true, false, not, ◌&&◌, ◌||◌, nat_eq, cond, Option, Some, None, List, [], ◌∷◌, ◌++◌, length, map, refl, sym, ◌∙◌, ap, inl, inr, All}
use Rattle.std.specs.List.{list_any}
use Rattle.std.proofs.Math.Bool.{and-true, and-false, or-false}
use Rattle.std.proofs.lemmas.Bool.{cases_Bool, cond_both, false≢true, and_left, and_right, or_cases, or_parts, or_left, or_right, eqb-true, lt-ltb}
use Rattle.std.proofs.lemmas.List.Elements.{All-head, All-tail}
use Rattle.std.proofs.lemmas.List.Folds.{list_any-append}
use Rattle.mv_base.specs.Set.{has, empty, full}
use Rattle.mv_base.specs.declared.number.NetId.{NetId}
use Rattle.mv_base.proofs.Sets.{has-empty, has-full}
use Rattle.mv_design.specs.declared.table.Entry.{Entry}
use Rattle.mv_design.specs.declared.table.Entry.TheVariants.{Set, Same}
use Rattle.mv_design.specs.declared.table.FileTable.{FileTable}
use Rattle.mv_design.specs.Tables.{row_matches, entries_hold, some_row_matches, some_row_holds, default_holds, table_allows}
use Rattle.mv_rows.specs.declared.column.Column.{Column}
use Rattle.mv_rows.specs.Cubes.{column_values, in_range, FitRow}
use Rattle.mv_rows.specs.Covers.{mark_value}
use Rattle.mv_rows.specs.Lines.{FitEntry}
use Rattle.mv_rows.specs.Flat.{says_nothing, with_mark, marked_sets}
use Rattle.mv_rows.specs.Marked.{matches_all}
use Rattle.mv_rows.proofs.Flat.{nothing_holds, marked_matches, fit_with_mark, marked_holds, range_marked, mark_below, mark_one}
use Rattle.mv_rows.proofs.Matching.{matched_everywhere}
use Rattle.mv_rows.proofs.Rows.{fit_marked}
use Rattle.mv_joint.specs.declared.split.PlainRow.{PlainRow}
use Rattle.mv_joint.specs.Plain.{PlainTable}
use Rattle.mv_joint.specs.Split.{all_rows, rows_of, IsFit}
use Rattle.mv_joint.specs.Plain.{IsJointDefault, IsJointFile, is_silent, said, some_bare, stays, is_same, needs_mark, set_of, with_any_mark, unmarked, marked, plain_by, plain_of}
use Rattle.mv_joint.proofs.Anys.{any_same, any-map, any-filter}
use Rattle.mv_joint.proofs.Fitting.{all_rows_fit}
use Rattle.mv_joint.proofs.Tables.{said_fit}
use Rattle.mv_joint.proofs.Splitting.{matches_at, holds_at, holds-rows, holds-all, matches-all}

-- the default's sets hold the outputs, if there is a default
abbrev pub given_holds : Option (List ℕ) → List ℕ → Bool
given_holds None outs = false
given_holds (Some sets) outs = row_matches sets outs

-- a table without `=` allows the outputs
abbrev pub plain_allows : PlainTable → List ℕ → List ℕ → Bool
plain_allows p values outs = list_any (holds_at values outs) p.rows || (not (list_any (matches_at values) p.rows) && given_holds p.default outs)

-- ---- rows that say nothing of an output

not_false : (b : Bool) → not b ≡ false → b ≡ true
not_false true e = refl
not_false false e = sym e

silent_holds : (sets outs : List ℕ) → list_any (λ s. nat_eq s empty) sets ≡ true → row_matches sets outs ≡ false
silent_holds [] outs h = absurd (false≢true h)
silent_holds (s ∷ sets) [] h = refl
silent_holds (s ∷ sets) (o ∷ outs) h =
    elim (or_cases (nat_eq s empty) (list_any (λ t. nat_eq t empty) sets) h) [
      | inl none ↦ and_left (has s o) (row_matches sets outs) (ap (λ t. has t o) (eqb-true s empty none) ∙ has-empty o)
      | inr rest ↦ and_right (has s o) (row_matches sets outs) (silent_holds sets outs rest)
    ]

holds-said : (values outs : List ℕ) (rows : List PlainRow) → list_any (holds_at values outs) (said rows) ≡ list_any (holds_at values outs) rows
holds-said values outs rows =
    any-filter (holds_at values outs) (λ (r : PlainRow). not (is_silent r)) (λ r gone. and_right _ _ (silent_holds r.outs outs (not_false (is_silent r) gone))) rows

pub all_said : (rows : List PlainRow) → list_any is_silent rows ≡ false → said rows ≡ rows
all_said [] h = refl
all_said (r ∷ rows) h =
    let p = or_parts (is_silent r) (list_any is_silent rows) h in
    rw p.0 (ap (λ (rs : List PlainRow). r ∷ rs) (all_said rows p.1))

-- ---- the default

nothing_held : (values : List ℕ) (es : List Entry) (outs : List ℕ) → list_any says_nothing es ≡ true → entries_hold values es outs ≡ false
nothing_held values [] outs h = absurd (false≢true h)
nothing_held values (e ∷ es) [] h = refl
nothing_held values (e ∷ es) (o ∷ outs) h =
    elim (or_cases (says_nothing e) (list_any says_nothing es) h) [
      | inl none ↦ and_left _ _ (nothing_holds values o e none)
      | inr rest ↦ and_right _ _ (nothing_held values es outs rest)
    ]

bare_matched : (at : ℕ → ℕ) (cs : List Column) (rows : List PlainRow) → in_range at cs ≡ true → All (IsFit cs) rows → some_bare cs rows ≡ true → list_any (matches_at (column_values at cs)) rows ≡ true
bare_matched at cs [] range fits h = h
bare_matched at cs (r ∷ rows) range fits h =
    elim (or_cases (matches_all cs r.ins) (some_bare cs rows) h) [
      | inl here ↦ or_left _ _ (matched_everywhere at cs r.ins (All-head (IsFit cs) r rows fits).sets range here)
      | inr rest ↦ or_right _ _ (bare_matched at cs rows range (All-tail (IsFit cs) r rows fits) rest)
    ]

sets_held : (values : List ℕ) (es : List Entry) (outs : List ℕ) → list_any is_same es ≡ false → row_matches (map set_of es) outs ≡ entries_hold values es outs
sets_held values [] [] h = refl
sets_held values [] (o ∷ outs) h = refl
sets_held values (e ∷ es) [] h = refl
sets_held values (Set s ∷ es) (o ∷ outs) h = ap (λ b. has s o && b) (sets_held values es outs h)
sets_held values (Same k ∷ es) (o ∷ outs) h = absurd (false≢true (sym h))

-- a default that doesn't stay holds nothing where no row matches
gone_default : (at : ℕ → ℕ) (cs : List Column) (rows : List PlainRow) (es : List Entry) (outs : List ℕ) → in_range at cs ≡ true → All (IsFit cs) rows → stays cs rows es ≡ false → (not (list_any (matches_at (column_values at cs)) rows) && entries_hold (column_values at cs) es outs) ≡ false
gone_default at cs rows es outs range fits h =
    elim (cases_Bool (list_any says_nothing es)) [
      | inl none ↦ and_right _ _ (nothing_held (column_values at cs) es outs none)
      | inr some ↦
          let bare : some_bare cs rows ≡ true = not_false (some_bare cs rows) (rw some at h) in
          and_left _ _ (ap not (bare_matched at cs rows range fits bare))
    ]

-- ---- the mark

any_marked : (at : ℕ → ℕ) (cs : List Column) (mark : NetId) (sets : List ℕ) → FitRow cs sets → at mark.0 < 2 → row_matches (sets ++ full 2 ∷ []) (column_values at (with_mark cs mark)) ≡ row_matches sets (column_values at cs)
any_marked at [] mark [] fit low = and-true _ ∙ (has-full 2 (at mark.0) ∙ lt-ltb (at mark.0) 2 low)
any_marked at [] mark (s ∷ sets) fit low = absurd fit
any_marked at (c ∷ cs) mark [] fit low = absurd fit
any_marked at (c ∷ cs) mark (s ∷ sets) fit low = ap (λ b. has s (at c.net.0) && b) (any_marked at cs mark sets fit.1 low)

holds-marked : (at : ℕ → ℕ) (cs : List Column) (mark : NetId) (rows : List PlainRow) (outs : List ℕ) → All (IsFit cs) rows → at mark.0 < 2 → list_any (holds_at (column_values at (with_mark cs mark)) outs) (map with_any_mark rows) ≡ list_any (holds_at (column_values at cs) outs) rows
holds-marked at cs mark rows outs fits low =
    any-map (holds_at (column_values at (with_mark cs mark)) outs) with_any_mark rows
    ∙ any_same (IsFit cs) (λ r. holds_at (column_values at (with_mark cs mark)) outs (with_any_mark r)) (holds_at (column_values at cs) outs)
    (λ r fit. ap (λ b. b && row_matches r.outs outs) (any_marked at cs mark r.ins fit.sets low)) rows fits

entries_marked : (at : ℕ → ℕ) (cs : List Column) (mark : NetId) (es : List Entry) (outs : List ℕ) → All (FitEntry cs) es → entries_hold (column_values at (with_mark cs mark)) es outs ≡ entries_hold (column_values at cs) es outs
entries_marked at cs mark [] [] fits = refl
entries_marked at cs mark [] (o ∷ outs) fits = refl
entries_marked at cs mark (e ∷ es) [] fits = refl
entries_marked at cs mark (e ∷ es) (o ∷ outs) fits =
    let here = marked_holds at cs mark e o (All-head (FitEntry cs) e es fits) in
    let rest = entries_marked at cs mark es outs (All-tail (FitEntry cs) e es fits) in
    λ i. here i && rest i

fits_with_mark : (cs : List Column) (mark : NetId) (es : List Entry) → All (FitEntry cs) es → All (FitEntry (with_mark cs mark)) es
fits_with_mark cs mark es all k d low = fit_with_mark cs mark _ (all k d low)

-- ---- the table

-- the mark is at a value, if there is a mark
abbrev pub MarkAt : Option FileTable → NetId → (ℕ → ℕ) → ℕ → Type 0
MarkAt None mark at n = Unit {0}
MarkAt (Some _) mark at n = at mark.0 ≡ n

-- the values of a table's columns, and what the table says there
record Point (cs : List Column) (t : FileTable) (at : ℕ → ℕ) : Type 0 where
  range : in_range at cs ≡ true
  file : IsJointFile cs t

abbrev want : (ℕ → ℕ) → List Column → FileTable → Option (List Entry) → List ℕ → Bool
want at cs t d outs = some_row_holds t.rows (column_values at cs) outs || (not (some_row_matches t.rows (column_values at cs)) && default_holds d (column_values at cs) outs)

unmarked_holds : (cs : List Column) (t : FileTable) (at : ℕ → ℕ) (outs : List ℕ) → Point cs t at → list_any (holds_at (column_values at cs) outs) (said (all_rows cs t.rows)) ≡ some_row_holds t.rows (column_values at cs) outs
unmarked_holds cs t at outs p = holds-said (column_values at cs) outs (all_rows cs t.rows) ∙ holds-all at cs (length t.outputs) t.rows outs p.range p.file.rows

without_default : (cs : List Column) (t : FileTable) (at : ℕ → ℕ) (outs : List ℕ) (d : Option (List Entry)) → Point cs t at → (not (some_row_matches t.rows (column_values at cs)) && default_holds d (column_values at cs) outs) ≡ false → plain_allows (unmarked cs (all_rows cs t.rows) None) (column_values at cs) outs ≡ want at cs t d outs
without_default cs t at outs d p gone =
    ap (λ b. list_any (holds_at (column_values at cs) outs) (said (all_rows cs t.rows)) || b) (and-false _ ∙ sym gone)
    ∙ ap (λ b. b || (not (some_row_matches t.rows (column_values at cs)) && default_holds d (column_values at cs) outs)) (unmarked_holds cs t at outs p)

with_sets : (cs : List Column) (t : FileTable) (at : ℕ → ℕ) (outs : List ℕ) (es : List Entry) → Point cs t at → needs_mark (all_rows cs t.rows) es ≡ false → plain_allows (unmarked cs (all_rows cs t.rows) (Some (map set_of es))) (column_values at cs) outs ≡ want at cs t (Some es) outs
with_sets cs t at outs es p h =
    let values = column_values at cs in
    let parts = or_parts (list_any is_same es) (list_any is_silent (all_rows cs t.rows)) h in
    let holds = unmarked_holds cs t at outs p in
    let matches : list_any (matches_at values) (said (all_rows cs t.rows)) ≡ some_row_matches t.rows values =
    ap (list_any (matches_at values)) (all_said (all_rows cs t.rows) parts.1) ∙ matches-all at cs (length t.outputs) t.rows p.range p.file.rows in
    let sets = sets_held values es outs parts.0 in
    λ i. holds i || (not (matches i) && sets i)

with_rows : (cs : List Column) (t : FileTable) (at : ℕ → ℕ) (mark : NetId) (outs : List ℕ) (es : List Entry) → Point cs t at → IsJointDefault cs (length t.outputs) es → at mark.0 ≡ mark_value t.rows (column_values at cs) → plain_allows (marked cs mark (all_rows cs t.rows) es) (column_values at (with_mark cs mark)) outs ≡ want at cs t (Some es) outs
with_rows cs t at mark outs es p fit value =
    let values = column_values at cs in
    let m = some_row_matches t.rows values in
    let below = mark_below m (at mark.0) value in
    let rows = all_rows cs t.rows in
    let fits = all_rows_fit cs (length t.outputs) t.rows p.file.rows in
    let holds : list_any (holds_at (column_values at (with_mark cs mark)) outs) (map with_any_mark (said rows)) ≡ some_row_holds t.rows values outs =
    holds-marked at cs mark (said rows) outs (said_fit cs rows fits) below ∙ unmarked_holds cs t at outs p in
    let default : list_any (holds_at (column_values at (with_mark cs mark)) outs) (rows_of (with_mark cs mark) (marked_sets cs) es) ≡ (not m && entries_hold values es outs) =
    holds-rows at (with_mark cs mark) (marked_sets cs) es outs (range_marked at cs mark p.range below) (fit_marked cs mark) (fits_with_mark cs mark es fit.fit)
    ∙ (λ i. (marked_matches at cs mark p.range ∙ mark_one m (at mark.0) value) i && entries_marked at cs mark es outs fit.fit i) in
    ap (λ b. list_any (holds_at (column_values at (with_mark cs mark)) outs) (marked cs mark rows es).rows || b) (and-false _)
    ∙ (or-false _
    ∙ (list_any-append (holds_at (column_values at (with_mark cs mark)) outs) (map with_any_mark (said rows)) (rows_of (with_mark cs mark) (marked_sets cs) es)
    ∙ λ i. holds i || default i))

-- the table without `=` allows the outputs where this is wanted
abbrev Means : (ℕ → ℕ) → NetId → ℕ → List ℕ → Bool → PlainTable → Type 0
Means at mark n outs wanted p = MarkAt p.mark mark at n → plain_allows p (column_values at p.columns) outs ≡ wanted

by_default : (cs : List Column) (t : FileTable) (at : ℕ → ℕ) (mark : NetId) (outs : List ℕ) (d : Option (List Entry)) → Point cs t at → ((es : List Entry) → d ≡ Some es → IsJointDefault cs (length t.outputs) es) → Means at mark (mark_value t.rows (column_values at cs)) outs (want at cs t d outs) (plain_by cs mark (all_rows cs t.rows) d)
by_default cs t at mark outs None p fit = λ _. without_default cs t at outs None p (and-false _)
by_default cs t at mark outs (Some es) p fit =
    let rows = all_rows cs t.rows in
    let values = column_values at cs in
    let fits = all_rows_fit cs (length t.outputs) t.rows p.file.rows in
    let P : PlainTable → Type 0 = Means at mark (mark_value t.rows values) outs (want at cs t (Some es) outs) in
    cond_both (not (stays cs rows es)) (unmarked cs rows None) (cond (needs_mark rows es) (marked cs mark rows es) (unmarked cs rows (Some (map set_of es)))) P
    (λ gone.
    let none : stays cs rows es ≡ false = not_true (stays cs rows es) gone in
    λ _. without_default cs t at outs (Some es) p
    (ap (λ b. not b && entries_hold values es outs) (sym (matches-all at cs (length t.outputs) t.rows p.range p.file.rows)) ∙ gone_default at cs rows es outs p.range fits none))
    (λ _. cond_both (needs_mark rows es) (marked cs mark rows es) (unmarked cs rows (Some (map set_of es))) P
    (λ _. λ value. with_rows cs t at mark outs es p (fit es refl) value)
    (λ plain. λ _. with_sets cs t at outs es p plain))
  where
    not_true : (b : Bool) → not b ≡ true → b ≡ false
    not_true true e = sym e
    not_true false e = refl

pub plain_means : (cs : List Column) (t : FileTable) (mark : NetId) (at : ℕ → ℕ) (outs : List ℕ) → IsJointFile cs t → in_range at cs ≡ true → MarkAt (plain_of cs t mark).mark mark at (mark_value t.rows (column_values at cs)) → plain_allows (plain_of cs t mark) (column_values at (plain_of cs t mark).columns) outs ≡ table_allows t.rows t.default (column_values at cs) outs
unfolding table_allows
plain_means cs t mark at outs file range value = by_default cs t at mark outs t.default (record { range = range; file = file }) file.default value
