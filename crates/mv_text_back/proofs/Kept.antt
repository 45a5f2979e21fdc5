-- The lines of a model with tables and reset tables: those that leave one open belong to the one before them.
use Rattle.std.proofs.Common.{◌≡◌, Bool, true, false, not, List, [], ◌∷◌, ◌++◌, refl, ap}
use Rattle.std.specs.Prelude.{if◌then◌else◌}
use Rattle.std.specs.List.{list_all}
use Rattle.std.proofs.lemmas.Bool.{and_parts, not-true}
use Rattle.mv_base.proofs.Lists.{all-weaker}
use Rattle.mv_lex.specs.declared.lines.LexLine.{LexLine}
use Rattle.mv_design.specs.declared.design.Decl.{Decl}
use Rattle.mv_design.specs.declared.table.FileTable.{FileTable}
use Rattle.mv_table.specs.Tables.{table_of, table_faults}
use Rattle.mv_parse.specs.declared.command.Command.{Command}
use Rattle.mv_parse.specs.declared.command.Command.TheVariants.{Default, Row}
use Rattle.mv_parse.specs.Commands.{command_at, keeps_table}
use Rattle.mv_parse.specs.Known.{front_rows, table_at, tables_of, reset_at, resets_of}
use Rattle.mv_parse.specs.Grammar.{table_value_faults, tables_faults}
use Rattle.mv_text_back.proofs.Commands.{begins}
use Rattle.mv_text_back.proofs.Tells.{all_pass, is_of_table, begins_none, says_none, tables-behind, resets-behind, none-valued, values-behind}

-- ---- what leaves a table open

abbrev pub keeps : LexLine → Bool
keeps l = keeps_table (command_at l)

-- behind a table's lines nothing stands, or a line that doesn't
abbrev pub is_fresh : List LexLine → Bool
is_fresh [] = true
is_fresh (l ∷ ls) = not (keeps l)

keeps_none : (c : Command) → keeps_table c ≡ true → begins_none c ≡ true
keeps_none Default e = refl
keeps_none Row e = refl
keeps_none _ e = cc

keeps_says_none : (c : Command) → keeps_table c ≡ true → says_none c ≡ true
keeps_says_none Default e = refl
keeps_says_none Row e = refl
keeps_says_none _ e = cc

keeps_of_table : (c : Command) → keeps_table c ≡ true → is_of_table c ≡ true
keeps_of_table Default e = refl
keeps_of_table Row e = refl
keeps_of_table _ e = cc

pub kept-of_table : (kept : List LexLine) → list_all keeps kept ≡ true → all_pass is_of_table kept ≡ true
kept-of_table kept e = all-weaker keeps _ (λ l y. keeps_of_table (command_at l) y) kept e

kept_none : (kept : List LexLine) → list_all keeps kept ≡ true → all_pass begins_none kept ≡ true
kept_none kept e = all-weaker keeps _ (λ l y. keeps_none (command_at l) y) kept e

kept_say_none : (kept : List LexLine) → list_all keeps kept ≡ true → all_pass says_none kept ≡ true
kept_say_none kept e = all-weaker keeps _ (λ l y. keeps_says_none (command_at l) y) kept e

-- ---- what the first line of a table, or of a reset table, says

-- the table, where it is one of those that are looked for
abbrev pub one_if : Bool → FileTable → List FileTable
one_if test t = if test then t ∷ [] else []

table_begins : (resets : Bool) (ds : List Decl) (l : LexLine) (ls : List LexLine)
    → table_at (begins resets) ds l ls ≡ one_if (not resets) (table_of ds l (front_rows ls))
table_begins true ds l ls = refl
table_begins false ds l ls = refl

reset_begins : (resets : Bool) (ds : List Decl) (l : LexLine) (ls : List LexLine)
    → reset_at (begins resets) ds l ls ≡ one_if resets (table_of ds l (front_rows ls))
reset_begins true ds l ls = refl
reset_begins false ds l ls = refl

values_begin : (resets : Bool) (ds : List Decl) (l : LexLine) (ls : List LexLine)
    → table_value_faults (begins resets) ds l ls ≡ table_faults ds l (front_rows ls)
values_begin true ds l ls = refl
values_begin false ds l ls = refl

module _ (rest : List LexLine) (fresh : is_fresh rest ≡ true) where
  front-fresh : (ls : List LexLine) → is_fresh ls ≡ true → front_rows ls ≡ []
  front-fresh [] e = refl
  front-fresh (l ∷ ls) e = rw (not-true (keeps l) e) refl

  front-kept : (kept : List LexLine) → list_all keeps kept ≡ true → front_rows (kept ++ rest) ≡ kept
  front-kept [] e = front-fresh rest fresh
  front-kept (l ∷ kept) e =
      let p = and_parts (keeps l) (list_all keeps kept) e in
      rw p.0 (ap (λ ls. l ∷ ls) (front-kept kept p.1))

  -- it with the lines that belong to it
  pub tables-block : (resets : Bool) (ds : List Decl) (l : LexLine) (kept : List LexLine) → command_at l ≡ begins resets → list_all keeps kept ≡ true
      → tables_of ds (l ∷ kept ++ rest) ≡ one_if (not resets) (table_of ds l kept) ++ tables_of ds rest
  tables-block resets ds l kept is e =
      rw (is, table_begins resets ds l (kept ++ rest), front-kept kept e, tables-behind ds kept rest (kept_none kept e)) refl

  pub resets-block : (resets : Bool) (ds : List Decl) (l : LexLine) (kept : List LexLine) → command_at l ≡ begins resets → list_all keeps kept ≡ true
      → resets_of ds (l ∷ kept ++ rest) ≡ one_if resets (table_of ds l kept) ++ resets_of ds rest
  resets-block resets ds l kept is e =
      rw (is, reset_begins resets ds l (kept ++ rest), front-kept kept e, resets-behind ds kept rest (kept_none kept e)) refl

  pub values-block : (resets : Bool) (ds : List Decl) (l : LexLine) (kept : List LexLine) → command_at l ≡ begins resets → list_all keeps kept ≡ true
      → tables_faults ds (l ∷ kept ++ rest) ≡ table_faults ds l kept ++ tables_faults ds rest
  values-block resets ds l kept is e =
      rw (is, values_begin resets ds l (kept ++ rest), front-kept kept e, values-behind ds kept rest (none-valued ds kept (kept_say_none kept e))) refl
