-- The open table: what one more line makes of it.
use Rattle.std.proofs.Common.{◌≡◌, ◌+◌, Bool, true, false, ◌&&◌, List, [], ◌∷◌, ◌++◌, length, length-append, refl, ap, ◌∙◌, if◌then◌else◌}
use Rattle.std.specs.Prelude.{Option, Some, None, option_map, unwrap_or}
use Rattle.std.specs.List.{list_all}
use Rattle.std.proofs.Math.Bool.{and-true, and-false}
use Rattle.mv_base.proofs.Lists.{list_all-push}
use Rattle.mv_lex.specs.declared.lines.LexLine.{LexLine}
use Rattle.mv_line.specs.Words.{behind_first}
use Rattle.mv_blif_line.specs.declared.command.Command.{Command}
use Rattle.mv_blif_line.specs.declared.command.Command.TheVariants.{Names, Row}
use Rattle.mv_blif_line.specs.declared.row.OpenTable.{OpenTable}
use Rattle.mv_blif_line.specs.Commands.{command_at, is_row}
use Rattle.mv_blif_line.specs.Rows.{output_of, value_of, new_table, row_seen}
use Rattle.mv_blif.specs.Known.{is_names, first_value, table_state, open_table}

-- one more row
first-push : (rows : List LexLine) (l : LexLine) → first_value (rows ++ l ∷ []) ≡ Some (unwrap_or (first_value rows) (value_of (output_of l.words)))
first-push [] l = refl
first-push (x ∷ rows) l = refl

state-row : (x : LexLine) (rows : List LexLine) (l : LexLine) → table_state x (rows ++ l ∷ []) ≡ row_seen l.words (table_state x rows)
state-row x rows l =
    let more : length (rows ++ l ∷ []) ≡ length rows + 1 = length-append rows (l ∷ []) in
    rw (more, first-push rows l) refl

-- whether a table that begins before is open behind one more line
shut-test : (x : LexLine) (ls : List LexLine) (l : LexLine) (c : Command) → command_at l ≡ c
    → (is_names (command_at x) && list_all (λ r. is_row (command_at r)) (ls ++ l ∷ [])) ≡ (is_names (command_at x) && (list_all (λ r. is_row (command_at r)) ls && is_row c))
shut-test x ls l c e =
    ap (λ b. is_names (command_at x) && b) (list_all-push (λ r. is_row (command_at r)) ls l ∙ ap (λ k. list_all (λ r. is_row (command_at r)) ls && is_row k) e)

choose : (b : Bool) (t u : OpenTable) (o p : Option OpenTable) (f : OpenTable → OpenTable) → u ≡ f t → p ≡ option_map f o → (if b then Some u else p) ≡ option_map f (if b then Some t else o)
choose true t u o p f e h = ap Some e
choose false t u o p f e h = h

-- it stays open behind a row
pub open_table-row : (ls : List LexLine) (l : LexLine) → command_at l ≡ Row → open_table (ls ++ l ∷ []) ≡ option_map (row_seen l.words) (open_table ls)
open_table-row [] l e = rw e refl
open_table-row (x ∷ ls) l e =
    let still : (is_names (command_at x) && list_all (λ r. is_row (command_at r)) (ls ++ l ∷ [])) ≡ (is_names (command_at x) && list_all (λ r. is_row (command_at r)) ls)
    = shut-test x ls l Row e ∙ ap (λ b. is_names (command_at x) && b) (and-true (list_all (λ r. is_row (command_at r)) ls)) in
    ap (λ b. if b then Some (table_state x (ls ++ l ∷ [])) else open_table (ls ++ l ∷ [])) still
    ∙ choose (is_names (command_at x) && list_all (λ r. is_row (command_at r)) ls) (table_state x ls) (table_state x (ls ++ l ∷ [])) (open_table ls) (open_table (ls ++ l ∷ [])) (row_seen l.words) (state-row x ls l) (open_table-row ls l e)

-- behind any other line it is closed, or another begins
shut : (x : LexLine) (ls : List LexLine) (l : LexLine) (c : Command) → command_at l ≡ c → is_row c ≡ false
    → (is_names (command_at x) && list_all (λ r. is_row (command_at r)) (ls ++ l ∷ [])) ≡ false
shut x ls l c e n =
    shut-test x ls l c e
    ∙ (ap (λ b. is_names (command_at x) && (list_all (λ r. is_row (command_at r)) ls && b)) n
    ∙ (ap (λ b. is_names (command_at x) && b) (and-false (list_all (λ r. is_row (command_at r)) ls)) ∙ and-false (is_names (command_at x))))

pub open_table-names : (ls : List LexLine) (l : LexLine) → command_at l ≡ Names → open_table (ls ++ l ∷ []) ≡ Some (new_table (behind_first l))
open_table-names [] l e = rw e refl
open_table-names (x ∷ ls) l e =
    ap (λ b. if b then Some (table_state x (ls ++ l ∷ [])) else open_table (ls ++ l ∷ [])) (shut x ls l Names e refl) ∙ open_table-names ls l e

pub open_table-other : (ls : List LexLine) (l : LexLine) (c : Command) → command_at l ≡ c → is_row c ≡ false → is_names c ≡ false → open_table (ls ++ l ∷ []) ≡ None
open_table-other [] l c e n m = rw (e, m) refl
open_table-other (x ∷ ls) l c e n m =
    ap (λ b. if b then Some (table_state x (ls ++ l ∷ [])) else open_table (ls ++ l ∷ [])) (shut x ls l c e n) ∙ open_table-other ls l c e n m
