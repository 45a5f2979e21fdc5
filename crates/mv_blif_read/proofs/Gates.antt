-- The tables that lines say, those of reset nets among them.
use Rattle.std.proofs.Common.{◌≡◌, ◌∙◌, ℕ, ◌-◌, ◌≤◌, not, ◌==◌, Option, Some, None, List, [], ◌∷◌, ◌++◌, length, drop, inl, inr, refl, sym, ap, arith}
use Rattle.std.specs.Prelude.{All, map, nat_lt, unwrap_or}
use Rattle.std.proofs.lemmas.Bool.{cond_both, eqb-true, not-false}
use Rattle.std.proofs.lemmas.List.{length-drop}
use Rattle.std.proofs.lemmas.List.Elements.{All-nil, All-cons, All-append, All-head, All-tail, All-map}
use Rattle.mv_base.specs.Set.{one}
use Rattle.mv_lex.specs.declared.lines.LexLine.{LexLine}
use Rattle.mv_design.specs.declared.table.Entry.TheVariants.{Set}
use Rattle.mv_design.specs.declared.table.FileTable.{FileTable}
use Rattle.mv_design.specs.declared.table.Row.{Row}
use Rattle.mv_fault.proofs.Nothing.{right-nothing, when-nothing}
use Rattle.mv_line.specs.Words.{behind_first, first_of}
use Rattle.mv_blif_line.specs.declared.command.Command.{Command}
use Rattle.mv_blif_line.specs.declared.command.Command.TheVariants.{Names, Row as SaysRow}
use Rattle.mv_blif_line.specs.declared.fault.BlifFault.TheVariants.{MixedRows}
use Rattle.mv_blif_line.specs.declared.row.OpenTable.{OpenTable}
use Rattle.mv_blif_line.specs.Commands.{command_at, is_row}
use Rattle.mv_blif_line.specs.Latches.{constant_reset, resets_at, settings_at}
use Rattle.mv_blif_line.specs.Rows.{plane_of, output_of, value_of, plane_faults, mixed_faults, output_faults, count_faults, row_faults, new_table, row_seen}
use Rattle.mv_blif_line.specs.Tables.{row_of, default_value, table_of}
use Rattle.mv_blif.specs.declared.known.Known.{Known}
use Rattle.mv_blif.specs.Known.{known}
use Rattle.mv_blif.specs.Grammar.{row_line_faults, inside_faults, faults_behind, faults_of}
use Rattle.mv_blif.specs.Meaning.{front_rows, tables_at, tables_of, resets_of, blif_model}
use Rattle.mv_blif.specs.Steps.{line_step}
use Rattle.mv_blif.proofs.Knowns.{known-push}
use Rattle.mv_blif_laws.proofs.Faultless.{here-none, behind-none}
use Rattle.mv_blif_laws.proofs.Tables.{is-row, row-next}
use Rattle.mv_resets.specs.Resets.{reset_table, all_tables}
use Rattle.mv_resets.proofs.ByLine.{All-by_line}
use Rattle.mv_blif_read.proofs.Complete.{SaysValue, IsGate}
use Rattle.mv_blif_read.proofs.Latches.{said-all}

-- ---- rows

-- the value that a row says
abbrev value_at : LexLine → ℕ
value_at l = value_of (output_of l.words)

-- that of the first of these rows
abbrev said_value : List LexLine → ℕ
said_value [] = 0
said_value (l ∷ ls) = value_at l

abbrev SaysAt : ℕ → LexLine → Type 0
SaysAt v l = value_at l ≡ v

-- all of them say one
abbrev SayOne : List LexLine → Type 0
SayOne ls = All (SaysAt (said_value ls)) ls

rows_say : (v : ℕ) (ls : List LexLine) → All (SaysAt v) ls → All (SaysValue v) (map (λ (l : LexLine). row_of l.words) ls)
rows_say v [] all = All-nil (SaysValue v)
rows_say v (l ∷ ls) all =
    let here : value_at l ≡ v = All-head (SaysAt v) l ls all in
    All-cons (SaysValue v) (row_of l.words) (map (λ (x : LexLine). row_of x.words) ls) (ap (λ k. Set (one k)) here)
    (rows_say v ls (All-tail (SaysAt v) l ls all))

output_same : (n : ℕ) (first : Option ℕ) (v : ℕ) (w : List ℕ) → first ≡ Some v → output_faults n first w ≡ [] → value_of w ≡ v
unfolding output_faults
output_same n None v w e none = cc
output_same n (Some u) v w e none =
    let same : u ≡ v = cc in
    eqb-true (value_of w) u
    (not-false (value_of w == u) (when-nothing (not (value_of w == u)) (MixedRows n) (right-nothing _ (mixed_faults n (Some u) (value_of w)) none))) ∙ same

row_same : (n : ℕ) (t : OpenTable) (v : ℕ) (words : List (List ℕ)) → t.first ≡ Some v → row_faults n t words ≡ [] → value_of (output_of words) ≡ v
unfolding row_faults
row_same n t v words e none =
    output_same n t.first v (output_of words) e
    (right-nothing (count_faults n t words ++ plane_faults n t.ins (plane_of words)) (output_faults n t.first (output_of words)) none)

row_here : (c : Command) (k : Known) (before : List LexLine) (l : LexLine) (t : OpenTable) (v : ℕ) → c ≡ SaysRow → k.table ≡ Some t → t.first ≡ Some v
    → inside_faults c k before l ≡ [] → SaysAt v l
row_here c k before l t v row opened first none =
    let faults : row_line_faults k.table l ≡ [] = ap (λ (x : Command). inside_faults x k before l) (sym row) ∙ none in
    row_same l.number t v l.words first (ap (λ (x : Option OpenTable). row_line_faults x l) (sym opened) ∙ faults)

row_opened : (before : List LexLine) (l : LexLine) (t : OpenTable) → command_at l ≡ SaysRow → (known before).table ≡ Some t
    → (known (before ++ l ∷ [])).table ≡ Some (row_seen l.words t)
row_opened before l t row opened =
    ap (λ (k : Known). k.table) (known-push before l) ∙ row-next (command_at l) (known before) l t row opened

-- the rows in front say what the first row of the open table said
front_same : (before ls : List LexLine) (t : OpenTable) (v : ℕ) → (known before).table ≡ Some t → t.first ≡ Some v → faults_behind before ls ≡ []
    → All (SaysAt v) (front_rows ls)
front_same before [] t v opened first none = All-nil (SaysAt v)
front_same before (l ∷ ls) t v opened first none =
    cond_both (is_row (command_at l)) (l ∷ front_rows ls) [] (All (SaysAt v))
    (λ y.
    let row : command_at l ≡ SaysRow = is-row (command_at l) y in
    All-cons (SaysAt v) l (front_rows ls) (row_here (command_at l) (known before) before l t v row opened first (here-none before l ls none))
    (front_same (before ++ l ∷ []) ls (row_seen l.words t) v (row_opened before l t row opened)
    (ap (λ o. Some (unwrap_or o (value_at l))) first) (behind-none before l ls none)))
    (λ n. All-nil (SaysAt v))

-- and of a table without rows so far they say one value
front_one : (before ls : List LexLine) (t : OpenTable) → (known before).table ≡ Some t → t.first ≡ None → faults_behind before ls ≡ [] → SayOne (front_rows ls)
front_one before [] t opened first none = All-nil (SaysAt 0)
front_one before (l ∷ ls) t opened first none =
    cond_both (is_row (command_at l)) (l ∷ front_rows ls) [] SayOne
    (λ y.
    let row : command_at l ≡ SaysRow = is-row (command_at l) y in
    All-cons (SaysAt (value_at l)) l (front_rows ls) refl
    (front_same (before ++ l ∷ []) ls (row_seen l.words t) (value_at l) (row_opened before l t row opened)
    (ap (λ o. Some (unwrap_or o (value_at l))) first) (behind-none before l ls none)))
    (λ n. All-nil (SaysAt 0))

-- ---- tables

last_alone : (words : List (List ℕ)) → length (drop (length words - 1) words) ≤ 1
last_alone words = simp length-drop (omega arith)

table_gate : (head : LexLine) (rows : List LexLine) → SayOne rows → IsGate (table_of head rows)
unfolding table_of
table_gate head rows say = record {
  single = last_alone (behind_first head);
  value = said_value rows;
  rows = rows_say (said_value rows) rows say;
  left = inl (record { value = default_value rows; is = refl });
}

tables_here : (c : Command) (before : List LexLine) (l : LexLine) (ls : List LexLine) → command_at l ≡ c → faults_behind (before ++ l ∷ []) ls ≡ []
    → All IsGate (tables_at c l ls)
tables_here Names before l ls is behind =
    let opens : (known (before ++ l ∷ [])).table ≡ Some (new_table (behind_first l)) =
    ap (λ (k : Known). k.table) (known-push before l) ∙ ap (λ (x : Command). (line_step x l (known before)).table) is in
    All-cons IsGate (table_of l (front_rows ls)) []
    (table_gate l (front_rows ls) (front_one (before ++ l ∷ []) ls (new_table (behind_first l)) opens refl behind)) (All-nil IsGate)
tables_here _ before l ls is behind = All-nil IsGate

tables_gates : (before ls : List LexLine) → faults_behind before ls ≡ [] → All IsGate (tables_of ls)
tables_gates before [] none = All-nil IsGate
tables_gates before (l ∷ ls) none =
    All-append IsGate (tables_at (command_at l) l ls) (tables_of ls)
    (tables_here (command_at l) before l ls refl (behind-none before l ls none))
    (tables_gates (before ++ l ∷ []) ls (behind-none before l ls none))

-- ---- reset tables

abbrev IsResetGate : FileTable → Type 0
IsResetGate t = IsGate (reset_table t)

constant_gate : (n : ℕ) (net : List ℕ) (value : ℕ) → IsResetGate (constant_reset n net value)
constant_gate n net value =
    let row : Row = record { ins = []; outs = Set (one value) ∷ [] } in
    record {
      single = omega arith;
      value = value;
      rows = All-cons (SaysValue value) row [] refl (All-nil (SaysValue value));
      left = inr (record { row = row; bare = refl; inputs = refl; rows = refl; default = refl });
    }

resets_here : (l : LexLine) → All IsResetGate (resets_at l)
unfolding resets_at
resets_here l =
    let reset : FileTable = constant_reset l.number (first_of (drop 1 (behind_first l))) (settings_at l).init in
    cond_both (nat_lt (settings_at l).init 2) (reset ∷ []) [] (All IsResetGate)
    (λ y.
    All-cons IsResetGate reset [] (constant_gate l.number (first_of (drop 1 (behind_first l))) (settings_at l).init) (All-nil IsResetGate))
    (λ n. All-nil IsResetGate)

-- ---- all of them

pub all_gates : (ls : List LexLine) → faults_of ls ≡ [] → All IsGate (all_tables (blif_model ls))
unfolding faults_of
all_gates ls none =
    All-by_line IsGate (λ (t : FileTable). t.line) (map reset_table (resets_of ls)) (tables_of ls)
    (All-map IsGate reset_table (resets_of ls) (said-all IsResetGate resets_at resets_here ls))
    (tables_gates [] ls none)
