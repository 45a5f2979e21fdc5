-- A table whose first line has no fault has no more columns than a table may have.
use Rattle.std.proofs.Common.{◌≡◌, ℕ, ◌+◌, ◌≤◌, true, false, List, [], ◌∷◌, ◌++◌, length, ◌&&◌, subst, ⊎_elim, arith}
use Rattle.std.specs.Prelude.{Option, Some, None, nat_le, nat_lt, All}
use Rattle.std.specs.List.{list_all}
use Rattle.std.proofs.lemmas.Bool.{cases_Bool, and_parts, ltb-false}
use Rattle.std.proofs.lemmas.List.Elements.{All-head, All-tail}
use Rattle.mv_base.specs.Names.{among}
use Rattle.mv_base.specs.declared.limits.TheConstants.{MAX_COLUMNS}
use Rattle.mv_lex.specs.declared.lines.LexLine.{LexLine}
use Rattle.mv_fault.specs.declared.fault.ParseFault.TheVariants.{Extra, Repeated}
use Rattle.mv_fault.specs.Tells.{when}
use Rattle.mv_fault.proofs.Nothing.{left-nothing, right-nothing, when-nothing}
use Rattle.mv_table.specs.Columns.{ins_of, outs_of, column_faults, names_faults, outputs_faults, columns_faults, output_faults, reset_faults}
use Rattle.mv_line.specs.Words.{behind_first, first_word}
use Rattle.mv_parse.specs.declared.command.Command.{Command}
use Rattle.mv_parse.specs.declared.command.Command.TheVariants.{Table, Reset}
use Rattle.mv_parse.specs.declared.known.OpenTable.{OpenTable}
use Rattle.mv_parse.specs.declared.known.OpenModel.{OpenModel}
use Rattle.mv_parse.specs.declared.known.Known.{Known}
use Rattle.mv_parse.specs.Commands.{command_at, keeps_table, is_table}
use Rattle.mv_parse.specs.Grammar.{body_faults, line_faults}
use Rattle.mv_parse.specs.Known.{open_table, table_state}
use Rattle.mv_parse.specs.Steps.{HasFewColumns}

pub few : (m n : ℕ) → nat_le m n ≡ false → n + 1 ≤ m
few m n e = grind arith

-- a column without a fault, behind so many
column-few : (n at : ℕ) (w : List ℕ) → column_faults n at w ≡ [] → at + 1 ≤ MAX_COLUMNS
column-few n at w none = few MAX_COLUMNS at (when-nothing _ _ (left-nothing _ _ none))

-- column names without a fault, behind so many columns
names-few : (n at : ℕ) (ws : List (List ℕ)) → at ≤ MAX_COLUMNS → names_faults n at ws ≡ [] → at + length ws ≤ MAX_COLUMNS
names-few n at [] within none = omega arith
names-few n at (w ∷ ws) within none =
    let below = column-few n at w (left-nothing (column_faults n at w) (names_faults n (at + 1) ws) none) in
    let rest : (at + 1) + length ws ≤ MAX_COLUMNS = names-few n (at + 1) ws below (right-nothing (column_faults n at w) (names_faults n (at + 1) ws) none) in
    omega arith

-- outputs without a fault, behind these outputs
outputs-few : (n at : ℕ) (earlier ws : List (List ℕ)) → at ≤ MAX_COLUMNS → outputs_faults n at earlier ws ≡ [] → at + length ws ≤ MAX_COLUMNS
outputs-few n at earlier [] within none = omega arith
outputs-few n at earlier (w ∷ ws) within none =
    let twice = when (among w earlier) (Repeated n w) in
    let behind = outputs_faults n (at + 1) (earlier ++ w ∷ []) ws in
    let below = column-few n at w (left-nothing (column_faults n at w) twice (left-nothing (column_faults n at w ++ twice) behind none)) in
    let rest : (at + 1) + length ws ≤ MAX_COLUMNS =
    outputs-few n (at + 1) (earlier ++ w ∷ []) ws below (right-nothing (column_faults n at w ++ twice) behind none) in
    omega arith

-- a table's first line without a fault
pub columns-few : (n : ℕ) (word : List ℕ) (words : List (List ℕ)) → columns_faults n word words ≡ [] → length (ins_of words) + length (outs_of words) ≤ MAX_COLUMNS
unfolding columns_faults
columns-few n word words none =
    let ins : 0 + length (ins_of words) ≤ MAX_COLUMNS = names-few n 0 (ins_of words) (omega arith) (left-nothing _ _ (left-nothing _ _ none)) in
    outputs-few n (length (ins_of words)) [] (outs_of words) (omega arith) (right-nothing _ _ (left-nothing _ _ none))

-- and a reset table's
output-few : (n : ℕ) (word : List ℕ) (at : ℕ) (ws : List (List ℕ)) → at ≤ MAX_COLUMNS → output_faults n word at ws ≡ [] → at + length ws ≤ MAX_COLUMNS
output-few n word at [] within none = cc
output-few n word at (w ∷ []) within none = names-few n at (w ∷ []) within (left-nothing (names_faults n at (w ∷ [])) [] none)
output-few n word at (w ∷ v ∷ ws) within none =
    let extra = when (nat_lt 0 (length (v ∷ ws))) (Extra n word) in
    let no_more : length (v ∷ ws) ≤ 0 = ltb-false 0 (length (v ∷ ws)) (when-nothing _ _ (right-nothing (names_faults n at (w ∷ [])) extra none)) in
    omega arith

pub reset-few : (n : ℕ) (word : List ℕ) (words : List (List ℕ)) → reset_faults n word words ≡ [] → length (ins_of words) + length (outs_of words) ≤ MAX_COLUMNS
unfolding reset_faults
reset-few n word words none =
    let ins : 0 + length (ins_of words) ≤ MAX_COLUMNS = names-few n 0 (ins_of words) (omega arith) (left-nothing _ _ none) in
    output-few n word (length (ins_of words)) (outs_of words) (omega arith) (right-nothing (names_faults n 0 (ins_of words)) _ none)

-- a line without a fault is narrow
body-narrow : (c : Command) (o : Option OpenModel) (ls : List LexLine) (l : LexLine) → is_table c ≡ true → body_faults c o ls l ≡ []
    → length (ins_of (behind_first l)) + length (outs_of (behind_first l)) ≤ MAX_COLUMNS
body-narrow Table None ls l e none = cc
body-narrow Table (Some m) ls l e none = columns-few l.number (first_word l) (behind_first l) none
body-narrow Reset None ls l e none = cc
body-narrow Reset (Some m) ls l e none = reset-few l.number (first_word l) (behind_first l) none
body-narrow _ o ls l e none = cc

table-narrow : (c : Command) (k : Known) (ls : List LexLine) (l : LexLine) → is_table c ≡ true → line_faults c k ls l ≡ []
    → length (ins_of (behind_first l)) + length (outs_of (behind_first l)) ≤ MAX_COLUMNS
unfolding line_faults
table-narrow Table k ls l e none = body-narrow Table k.inside ls l e none
table-narrow Reset k ls l e none = body-narrow Reset k.inside ls l e none
table-narrow _ k ls l e none = cc

pub line-narrow : (k : Known) (ls : List LexLine) (l : LexLine) → line_faults (command_at l) k ls l ≡ [] → HasFewColumns l
line-narrow k ls l none = λ e. table-narrow (command_at l) k ls l e none

-- and so is the open table of narrow lines
pub open-small : (ls : List LexLine) (t : OpenTable) → All (λ (l : LexLine). HasFewColumns l) ls → open_table ls ≡ Some t → t.ins + t.outs ≤ MAX_COLUMNS
open-small [] t narrow e = cc
open-small (x ∷ ls) t narrow e =
    ⊎_elim
    (λ (y : (is_table (command_at x) && list_all (λ r. keeps_table (command_at r)) ls) ≡ true).
    let is : Some (table_state x ls) ≡ Some t = rw y at e in
    let same : table_state x ls ≡ t = cc in
    let P : OpenTable → Type 0 = λ u. u.ins + u.outs ≤ MAX_COLUMNS in
    subst P same (All-head (λ (l : LexLine). HasFewColumns l) x ls narrow (and_parts (is_table (command_at x)) (list_all (λ r. keeps_table (command_at r)) ls) y).0))
    (λ (n : (is_table (command_at x) && list_all (λ r. keeps_table (command_at r)) ls) ≡ false).
    open-small ls t (All-tail (λ (l : LexLine). HasFewColumns l) x ls narrow) (rw n at e))
    (cases_Bool (is_table (command_at x) && list_all (λ r. keeps_table (command_at r)) ls))
