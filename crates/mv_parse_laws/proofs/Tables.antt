-- The tables and reset tables of a model, as its lines are read: each has lawful columns, and its rows and defaults have an
-- entry for each.
use Rattle.std.proofs.Common.{◌≡◌, Bool, true, false, ◌&&◌, List, [], ◌∷◌, ◌++◌, refl, ap, sym, subst, ◌∙◌, ⊎_elim}
use Rattle.std.specs.Prelude.{All, Option, Some, None}
use Rattle.std.specs.List.{list_all}
use Rattle.std.proofs.lemmas.Bool.{cases_Bool, cond_both, cond-false, and_parts, and_right}
use Rattle.std.proofs.lemmas.List.Elements.{All-nil, All-cons, All-append}
use Rattle.mv_lex.specs.declared.lines.LexLine.{LexLine}
use Rattle.mv_design.specs.declared.design.Decl.{Decl}
use Rattle.mv_design.specs.declared.table.FileTable.{FileTable}
use Rattle.mv_line.specs.Words.{behind_first}
use Rattle.mv_table.specs.Tables.{table_of}
use Rattle.mv_parse.specs.declared.command.Command.{Command}
use Rattle.mv_parse.specs.declared.command.Command.TheVariants.{Table, Reset, Default, Row}
use Rattle.mv_parse.specs.declared.known.OpenTable.{OpenTable}
use Rattle.mv_parse.specs.Commands.{command_at, keeps_table, is_table}
use Rattle.mv_parse.specs.Known.{front_rows, table_at, tables_of, reset_at, resets_of, table_state, open_table}
use Rattle.mv_design.specs.Proper.{IsFileTable, IsFileReset}
use Rattle.mv_parse_laws.proofs.Rows.{IsEntryLine, EntryLine, HasColumns, IsTableAt, table-fits, reset-fits}

-- each line that begins a table or a reset table does so with the rows and defaults right behind it
abbrev pub AreTables : List LexLine → Type 0
AreTables [] = Unit {0}
AreTables (l ∷ ls) = (is_table (command_at l) ≡ true → IsTableAt l (front_rows ls)) × AreTables ls

-- ---- one line more

-- all of these lines are rows and defaults
abbrev all_keep : List LexLine → Bool
all_keep ls = list_all (λ l. keeps_table (command_at l)) ls

other-false : (b c : Bool) → (b && c) ≡ false → b ≡ true → c ≡ false
other-false true c e y = e
other-false false c e y = cc

-- a line that is neither ends the front
front-kept : (ls : List LexLine) (x : LexLine) → all_keep ls ≡ false → front_rows (ls ++ x ∷ []) ≡ front_rows ls
front-kept [] x shut = cc
front-kept (l ∷ ls) x shut =
    ⊎_elim
    (λ (y : keeps_table (command_at l) ≡ true). rw y (ap (λ rest. l ∷ rest) (front-kept ls x (other-false _ _ shut y))))
    (λ (n : keeps_table (command_at l) ≡ false). rw n refl)
    (cases_Bool (keeps_table (command_at l)))

front-all : (ls : List LexLine) → all_keep ls ≡ true → front_rows ls ≡ ls
front-all [] all = refl
front-all (l ∷ ls) all =
    let p = and_parts (keeps_table (command_at l)) (all_keep ls) all in
    rw p.0 (ap (λ rest. l ∷ rest) (front-all ls p.1))

front-push : (ls : List LexLine) (x : LexLine) → all_keep ls ≡ true → front_rows (ls ++ x ∷ []) ≡ ls ++ front_rows (x ∷ [])
front-push [] x all = refl
front-push (l ∷ ls) x all =
    let p = and_parts (keeps_table (command_at l)) (all_keep ls) all in
    rw p.0 (ap (λ rest. l ∷ rest) (front-push ls x p.1))

-- what holds of the front holds of it with one more line
entries-push : (P : LexLine → Type 0) (ls : List LexLine) (x : LexLine) → all_keep ls ≡ true → (keeps_table (command_at x) ≡ true → P x) → All P (front_rows ls) → All P (front_rows (ls ++ x ∷ []))
entries-push P ls x all fits h =
    let last : All P (front_rows (x ∷ [])) = cond_both (keeps_table (command_at x)) (x ∷ []) [] (All P) (λ y. All-cons P x [] (fits y) (All-nil P)) (λ n. All-nil P) in
    subst (All P) (sym (front-push ls x all)) (All-append P ls (front_rows (x ∷ [])) (subst (All P) (front-all ls all) h) last)

-- rows and defaults alone leave no table open
keeps-no-table : (c : Command) → keeps_table c ≡ true → is_table c ≡ false
keeps-no-table Default y = refl
keeps-no-table Row y = refl
keeps-no-table _ y = cc

none-open : (ls : List LexLine) → all_keep ls ≡ true → open_table ls ≡ None
none-open [] all = refl
none-open (l ∷ ls) all =
    let p = and_parts _ _ all in
    rw (keeps-no-table (command_at l) p.0) (none-open ls p.1)

nothing-open : (o : Option OpenTable) (t : OpenTable) → o ≡ None → o ≡ Some t → ⊥
nothing-open o t e f = cc

open-here : (l : LexLine) (ls : List LexLine) → is_table (command_at l) ≡ true → all_keep ls ≡ true → open_table (l ∷ ls) ≡ Some (table_state l ls)
open-here l ls e all = rw (e, all) refl

pub tables-push : (ls : List LexLine) (x : LexLine) → AreTables ls → (is_table (command_at x) ≡ true → HasColumns (command_at x) (behind_first x))
    → (keeps_table (command_at x) ≡ true → (t : OpenTable) → open_table ls ≡ Some t → IsEntryLine t.ins t.outs x) → AreTables (ls ++ x ∷ [])
tables-push [] x h head fits = (λ e. record { columns = head e; entries = All-nil (EntryLine (behind_first x)) }, tt)
tables-push (l ∷ ls) x h head fits =
    ⊎_elim
    (λ (all : all_keep ls ≡ true). (
      λ (e : is_table (command_at l) ≡ true).
          let old : IsTableAt l (front_rows ls) = h.0 e in
          record {
            columns = old.columns;
            entries = entries-push (EntryLine (behind_first l)) ls x all (λ k. fits k (table_state l ls) (open-here l ls e all)) old.entries;
          },
      tables-push ls x h.1 head (λ k t o. absurd (nothing-open (open_table ls) t (none-open ls all) o)),
    ))
    (λ (shut : all_keep ls ≡ false). (
      λ (e : is_table (command_at l) ≡ true). subst (IsTableAt l) (sym (front-kept ls x shut)) (h.0 e),
      tables-push ls x h.1 head (λ k t o.
          fits k t (cond-false (is_table (command_at l) && all_keep ls) (Some (table_state l ls)) (open_table ls) (and_right _ _ shut) ∙ o)),
    ))
    (cases_Bool (all_keep ls))

-- ---- the tables and reset tables that the lines say

-- these tables and these reset tables fit
pub record DoFit (ds : List Decl) (plain reset : List FileTable) : Type 0 where
  pub tables : All (IsFileTable ds) plain
  pub resets : All (IsFileReset ds) reset

one-fits : (ds : List Decl) (l : LexLine) (rows : List LexLine) → IsTableAt l rows → All (IsFileTable ds) (table_of ds l rows ∷ [])
one-fits ds l rows h = All-cons (IsFileTable ds) (table_of ds l rows) [] (table-fits ds l rows h) (All-nil (IsFileTable ds))

one-resets : (ds : List Decl) (l : LexLine) (rows : List LexLine) → command_at l ≡ Reset → IsTableAt l rows → All (IsFileReset ds) (table_of ds l rows ∷ [])
one-resets ds l rows e h = All-cons (IsFileReset ds) (table_of ds l rows) [] (reset-fits ds l rows e h) (All-nil (IsFileReset ds))

none-fit : (ds : List Decl) → All (IsFileTable ds) []
none-fit ds = All-nil (IsFileTable ds)

none-resets : (ds : List Decl) → All (IsFileReset ds) []
none-resets ds = All-nil (IsFileReset ds)

table-here : (c : Command) (ds : List Decl) (l : LexLine) (ls : List LexLine) → command_at l ≡ c → (is_table c ≡ true → IsTableAt l (front_rows ls))
    → DoFit ds (table_at c ds l ls) (reset_at c ds l ls)
table-here Table ds l ls e h = record { tables = one-fits ds l (front_rows ls) (h refl); resets = none-resets ds }
table-here Reset ds l ls e h = record { tables = none-fit ds; resets = one-resets ds l (front_rows ls) e (h refl) }
table-here _ ds l ls e h = record { tables = none-fit ds; resets = none-resets ds }

pub tables-fit : (ds : List Decl) (ls : List LexLine) → AreTables ls → DoFit ds (tables_of ds ls) (resets_of ds ls)
tables-fit ds [] h = record { tables = none-fit ds; resets = none-resets ds }
tables-fit ds (l ∷ ls) h =
    let here = table-here (command_at l) ds l ls refl h.0 in
    let behind = tables-fit ds ls h.1 in
    record {
      tables = All-append (IsFileTable ds) (table_at (command_at l) ds l ls) (tables_of ds ls) here.tables behind.tables;
      resets = All-append (IsFileReset ds) (reset_at (command_at l) ds l ls) (resets_of ds ls) here.resets behind.resets;
    }
