-- The columns of a file's table by number: they fit its rows, and the numbers of the nets that are made for it are none of
-- theirs.
use Rattle.std.proofs.Common.{◌≡◌, ℕ, suc, true, false, cond, List, [], ◌∷◌, length, get_or, map, refl, sym, ◌∙◌, ap, arith, ◌==◌, nat_eq, All}
use Rattle.std.specs.List.{list_all, list_any}
use Rattle.std.proofs.lemmas.Bool.{and_parts, cond-true, cond-false, false_from_ne_true, ne_eqb, or_from}
use Rattle.std.proofs.lemmas.Bool.Decides.{nat_tests}
use Rattle.std.proofs.lemmas.List.{length-map}
use Rattle.std.proofs.lemmas.List.Elements.{All-nil, All-cons, All-head, All-append, All-weaker}
use Rattle.std.proofs.lemmas.List.Folds.{list_any-append}
use Rattle.mv_base.specs.Names.{among, is_net_name}
use Rattle.mv_base.specs.declared.number.NetId.{NetId}
use Rattle.mv_design.specs.declared.design.Decl.{Decl}
use Rattle.mv_design.specs.declared.table.Entry.{Entry}
use Rattle.mv_design.specs.declared.table.Entry.TheVariants.{Set, Same}
use Rattle.mv_design.specs.declared.table.Row.{Row}
use Rattle.mv_design.specs.declared.table.FileTable.{FileTable}
use Rattle.mv_rows.specs.declared.column.Column.{Column}
use Rattle.mv_rows.specs.Cubes.{IsColumn, AreColumns, CountBy, FitRow}
use Rattle.mv_rows.specs.Lines.{FitEntry}
use Rattle.mv_rows.specs.Flat.{only_entry, with_mark, IsRow, IsTable}
use Rattle.mv_joint.specs.Plain.{IsJointRow, IsJointFile, AreApart}
use Rattle.mv_design.specs.Values.{count_of}
use Rattle.mv_acyclic.specs.Numbers.{number_in}
use Rattle.mv_resets.specs.NetModels.{HasLawfulValues}
use Rattle.mv_design.specs.Proper.{FitSets, FitOutput, FitOutputs, IsFileRow}
use Rattle.mv_acyclic.proofs.Listed.{IsNumber-among, name_at}
use Rattle.mv_design.specs.Nets.{output_of}
use Rattle.mv_flat.proofs.Lawful.{lawful_unspaced}
use Rattle.mv_flat.specs.Numbers.{column_of, columns_at, mark_at, choice_name, choice_at}
use Rattle.mv_flat.specs.Placed.{are_known, IsPlacedTable}
use Rattle.mv_flat.proofs.Counts.{values_few}
use Rattle.mv_flat.proofs.Numbered.{net_not_mark, net_not_choice, choice_not_own_mark}

-- ---- numbers of values

-- how many values the net with a number has: two at the mark, and elsewhere those of the name
abbrev count_by : List Decl → List (List ℕ) → ℕ → ℕ → ℕ
count_by ds names mark n = cond (n == mark) 2 (count_of ds (get_or names n []))

-- no lawful name has this number
abbrev IsApart : List (List ℕ) → ℕ → Type 0
IsApart names mark = (w : List ℕ) → among w names ≡ true → is_net_name w ≡ true → number_in names w ≡ mark → ⊥

mark_apart : (names : List (List ℕ)) (t : FileTable) → IsApart names (mark_at names t).0
mark_apart names t w known lawful = net_not_mark names t w known (lawful_unspaced w lawful)

past_apart : (names : List (List ℕ)) → IsApart names (length names)
past_apart names w known lawful same = let l = (IsNumber-among names w known).within in omega (arith, same)

column_counts : (ds : List Decl) (names : List (List ℕ)) (mark : ℕ) (w : List ℕ) → IsApart names mark → among w names ≡ true → is_net_name w ≡ true → count_of ds w ≡ count_by ds names mark (number_in names w)
column_counts ds names mark w apart known lawful =
    ap (count_of ds) (sym (name_at names w known))
    ∙ sym (cond-false (number_in names w == mark) 2 _ (unequal (number_in names w) _ (apart w known lawful)))
  where
    unequal : (m n : ℕ) → (m ≡ n → ⊥) → (m == n) ≡ false
    unequal m n apart = false_from_ne_true (m == n) (λ y. apart (is_equal m n y))
      where
        is_equal : (a b : ℕ) → (a == b) ≡ true → a ≡ b
        is_equal a b y = grind (arith, nat_tests)

columns_count : (ds : List Decl) (names : List (List ℕ)) (mark : ℕ) (ws : List (List ℕ)) → IsApart names mark → are_known names ws ≡ true → list_all is_net_name ws ≡ true → CountBy (count_by ds names mark) (map (column_of ds names) ws)
columns_count ds names mark [] apart known lawful = All-nil _
columns_count ds names mark (w ∷ ws) apart known lawful =
    let k = and_parts (among w names) _ known in
    let l = and_parts (is_net_name w) _ lawful in
    All-cons (λ (c : Column). c.count ≡ count_by ds names mark c.net.0) (column_of ds names w) (map (column_of ds names) ws) (column_counts ds names mark w apart k.0 l.0)
    (columns_count ds names mark ws apart k.1 l.1)

mark_counts : (ds : List Decl) (names : List (List ℕ)) (mark : ℕ) → 2 ≡ count_by ds names mark mark
mark_counts ds names mark = sym (cond-true (mark == mark) 2 _ (equal mark))
  where
    equal : (n : ℕ) → (n == n) ≡ true
    equal n = grind (arith, nat_tests)

-- ---- the columns

columns_are : (ds : List Decl) (names ws : List (List ℕ)) → All HasLawfulValues ds → All IsColumn (map (column_of ds names) ws)
columns_are ds names [] all = All-nil _
columns_are ds names (w ∷ ws) all =
    let f = values_few ds w all in
    All-cons IsColumn (column_of ds names w) (map (column_of ds names) ws) (record { some = f.some; few = f.few }) (columns_are ds names ws all)

pub table_columns : (ds : List Decl) (names : List (List ℕ)) (t : FileTable) → All HasLawfulValues ds → IsPlacedTable ds names t
    → AreColumns (columns_at ds names t)
table_columns ds names t all p = record {
  each = columns_are ds names t.inputs all;
  count = count_by ds names (mark_at names t).0;
  counts = columns_count ds names (mark_at names t).0 t.inputs (mark_apart names t) p.known p.fits.inputs;
}

behind_columns : (ds : List Decl) (names : List (List ℕ)) (t : FileTable) (mark : NetId) → IsApart names mark.0 → All HasLawfulValues ds → IsPlacedTable ds names t
    → AreColumns (with_mark (columns_at ds names t) mark)
behind_columns ds names t mark apart all p = record {
  each = All-append IsColumn (columns_at ds names t) _ (columns_are ds names t.inputs all) (All-cons IsColumn _ [] (record { some = omega arith; few = omega arith }) (All-nil _));
  count = count_by ds names mark.0;
  counts =
      let P : Column → Type 0 = λ (c : Column). c.count ≡ count_by ds names mark.0 c.net.0 in
      All-append P (columns_at ds names t) _ (columns_count ds names mark.0 t.inputs apart p.known p.fits.inputs) (All-cons P _ [] (mark_counts ds names mark.0) (All-nil P));
}

pub marked_columns : (ds : List Decl) (names : List (List ℕ)) (t : FileTable) → All HasLawfulValues ds → IsPlacedTable ds names t
    → AreColumns (with_mark (columns_at ds names t) (mark_at names t))
marked_columns ds names t all p = behind_columns ds names t (mark_at names t) (mark_apart names t) all p

-- the same with a number past all others
pub past_columns : (ds : List Decl) (names : List (List ℕ)) (t : FileTable) → All HasLawfulValues ds → IsPlacedTable ds names t
    → AreColumns (with_mark (columns_at ds names t) (record { 0 = length names }))
past_columns ds names t all p = behind_columns ds names t (record { 0 = length names }) (past_apart names) all p

-- ---- the rows

sets_fit : (ds : List Decl) (names ws : List (List ℕ)) (sets : List ℕ) → FitSets ds ws sets → FitRow (map (column_of ds names) ws) sets
sets_fit ds names [] [] h = tt
sets_fit ds names [] (s ∷ sets) h = absurd h
sets_fit ds names (w ∷ ws) [] h = absurd h
sets_fit ds names (w ∷ ws) (s ∷ sets) h = (h.0, sets_fit ds names ws sets h.1)

entry_fits : (ds : List Decl) (names : List (List ℕ)) (t : FileTable) (out : List ℕ) (e : Entry) → FitOutput ds t.inputs out e → FitEntry (columns_at ds names t) e
entry_fits ds names t out (Set s) h = tt
entry_fits ds names t out (Same k) h = let l = h.within in let e = length-map t.inputs (column_of ds names) in omega arith

-- an entry for each output, which fits
record AreEntries (ds : List Decl) (names : List (List ℕ)) (t : FileTable) (outs : List (List ℕ)) (entries : List Entry) : Type 0 where
  several : length entries ≡ length outs
  fit : All (FitEntry (columns_at ds names t)) entries

entries_fit : (ds : List Decl) (names : List (List ℕ)) (t : FileTable) (outs : List (List ℕ)) (entries : List Entry) → FitOutputs ds t.inputs outs entries
    → AreEntries ds names t outs entries
entries_fit ds names t [] [] h = record { several = refl; fit = All-nil _ }
entries_fit ds names t [] (e ∷ es) h = absurd h
entries_fit ds names t (o ∷ os) [] h = absurd h
entries_fit ds names t (o ∷ os) (e ∷ es) h =
    let r = entries_fit ds names t os es h.1 in
    record {
      several = ap suc r.several;
      fit = All-cons (FitEntry (columns_at ds names t)) e es (entry_fits ds names t o e h.0) r.fit;
    }

-- ---- tables of one output

-- one entry that fits
record IsOne (ds : List Decl) (names : List (List ℕ)) (t : FileTable) (entries : List Entry) : Type 0 where
  single : length entries ≡ 1
  entry : FitEntry (columns_at ds names t) (only_entry entries)

one_fits : (ds : List Decl) (names : List (List ℕ)) (t : FileTable) (entries : List Entry) → length t.outputs ≡ 1
    → FitOutputs ds t.inputs t.outputs entries → IsOne ds names t entries
one_fits ds names t entries single h =
    let r = entries_fit ds names t t.outputs entries h in
    first entries (r.several ∙ single) r.fit
  where
    first : (es : List Entry) → length es ≡ 1 → All (FitEntry (columns_at ds names t)) es → IsOne ds names t es
    first [] one fit = absurd (omega arith)
    first (e ∷ es) one fit = record { single = one; entry = All-head (FitEntry (columns_at ds names t)) e es fit }

row_is : (ds : List Decl) (names : List (List ℕ)) (t : FileTable) → length t.outputs ≡ 1 → (r : Row) → IsFileRow ds t r → IsRow (columns_at ds names t) r
row_is ds names t single r f =
    let o = one_fits ds names t r.outs single f.outs in
    record { sets = sets_fit ds names t.inputs r.ins f.sets; single = o.single; entry = o.entry }

pub table_is : (ds : List Decl) (names : List (List ℕ)) (t : FileTable) → IsPlacedTable ds names t → length t.outputs ≡ 1 → IsTable (columns_at ds names t) t
table_is ds names t p single = record {
  rows = All-weaker (IsFileRow ds t) (IsRow (columns_at ds names t)) (row_is ds names t single) t.rows p.fits.rows;
  default = λ entries e.
      let o = one_fits ds names t entries single (p.fits.default entries e) in
      record { single = o.single; entry = o.entry };
}

-- ---- tables of several outputs

joint_row : (ds : List Decl) (names : List (List ℕ)) (t : FileTable) (r : Row) → IsFileRow ds t r → IsJointRow (columns_at ds names t) (length t.outputs) r
joint_row ds names t r f =
    let o = entries_fit ds names t t.outputs r.outs f.outs in
    record { sets = sets_fit ds names t.inputs r.ins f.sets; several = o.several; entries = o.fit }

pub joint_file : (ds : List Decl) (names : List (List ℕ)) (t : FileTable) → IsPlacedTable ds names t → IsJointFile (columns_at ds names t) t
joint_file ds names t p = record {
  rows = All-weaker (IsFileRow ds t) (IsJointRow (columns_at ds names t) (length t.outputs)) (joint_row ds names t) t.rows p.fits.rows;
  default = λ entries e.
      let o = entries_fit ds names t t.outputs entries (p.fits.default entries e) in
      record { several = o.several; fit = o.fit };
}

-- no column has this number
no_column : (ds : List Decl) (names ws : List (List ℕ)) (n : ℕ) → are_known names ws ≡ true → list_all is_net_name ws ≡ true → IsApart names n
    → list_any (λ (c : Column). nat_eq c.net.0 n) (map (column_of ds names) ws) ≡ false
no_column ds names [] n known lawful apart = refl
no_column ds names (w ∷ ws) n known lawful apart =
    let k = and_parts (among w names) _ known in
    let l = and_parts (is_net_name w) _ lawful in
    or_from _ _ (ne_eqb (number_in names w) n (apart w k.0 l.0)) (no_column ds names ws n k.1 l.1 apart)

-- the mark is the net of no column
pub mark_unread : (ds : List Decl) (names : List (List ℕ)) (t : FileTable) → IsPlacedTable ds names t
    → list_any (λ (c : Column). nat_eq c.net.0 (mark_at names t).0) (columns_at ds names t) ≡ false
mark_unread ds names t p = no_column ds names t.inputs (mark_at names t).0 p.known p.fits.inputs (mark_apart names t)

-- nor is a number past all others one of theirs
pub past_unread : (ds : List Decl) (names : List (List ℕ)) (t : FileTable) → IsPlacedTable ds names t
    → list_any (λ (c : Column). nat_eq c.net.0 (length names)) (columns_at ds names t) ≡ false
past_unread ds names t p = no_column ds names t.inputs (length names) p.known p.fits.inputs (past_apart names)

-- the choice net is the net of no column nor the mark
pub apart : (ds : List Decl) (names : List (List ℕ)) (t : FileTable) → All HasLawfulValues ds → IsPlacedTable ds names t
    → among (choice_name (output_of t)) names ≡ true → AreApart (columns_at ds names t) (mark_at names t) (choice_at names t)
apart ds names t all p chosen = record {
  inputs = table_columns ds names t all p;
  marked = marked_columns ds names t all p;
  chosen =
      let other : IsApart names (choice_at names t).0 = λ w known lawful. net_not_choice names t w known (lawful_unspaced w lawful) in
      let mark : nat_eq (mark_at names t).0 (choice_at names t).0 ≡ false = ne_eqb _ _ (λ e. choice_not_own_mark names t chosen (sym e)) in
      list_any-append (λ (c : Column). nat_eq c.net.0 (choice_at names t).0) (columns_at ds names t) _
      ∙ or_from _ _ (no_column ds names t.inputs (choice_at names t).0 p.known p.fits.inputs other) (or_from _ _ mark refl);
}
