-- The tables of lines without a fault: their columns are lawful, and each of their rows has a set for each input.
use Rattle.std.proofs.Common.{◌≡◌, ◌∙◌, ℕ, ◌-◌, ◌<◌, true, false, ◌==◌, if◌then◌else◌, Option, Some, List, [], ◌∷◌, ◌++◌, length, take, drop, refl, sym, ap, arith}
use Rattle.std.specs.Prelude.{All, map, option_map}
use Rattle.std.specs.List.{list_all}
use Rattle.std.proofs.lemmas.Bool.{cond_both, and_parts, not-false, eqb-true}
use Rattle.std.proofs.lemmas.Bool.Decides.{nat_tests}
use Rattle.std.proofs.lemmas.List.{length-drop, length-take-le, take-append-drop}
use Rattle.std.proofs.lemmas.List.Elements.{All-nil, All-cons, All-append, All-head, All-tail}
use Rattle.std.proofs.lemmas.List.Folds.{list_all-append}
use Rattle.mv_base.specs.Names.{is_net_name}
use Rattle.mv_base.specs.Set.{one, full, Within}
use Rattle.mv_lex.specs.declared.lines.LexLine.{LexLine}
use Rattle.mv_design.specs.declared.table.Entry.{Entry}
use Rattle.mv_design.specs.declared.table.Entry.TheVariants.{Set}
use Rattle.mv_design.specs.declared.table.FileTable.{FileTable}
use Rattle.mv_design.specs.Proper.{FitSets, FitOutputs, IsFileRow, IsFileTable}
use Rattle.mv_fault.specs.declared.fault.ParseFault.TheVariants.{Missing, Columns as WrongColumns}
use Rattle.mv_fault.specs.Tells.{when}
use Rattle.mv_fault.proofs.Nothing.{left-nothing, right-nothing, when-nothing}
use Rattle.mv_table.specs.Columns.{names_faults}
use Rattle.mv_parse_laws.proofs.Columns.{names-lawful}
use Rattle.mv_parse_laws.proofs.WordSets.{one-within}
use Rattle.mv_line.specs.Words.{behind_first, first_word}
use Rattle.mv_blif_line.specs.declared.command.Command.{Command}
use Rattle.mv_blif_line.specs.declared.command.Command.TheVariants.{Names, Row as SaysRow}
use Rattle.mv_blif_line.specs.declared.fault.BlifFault.{BlifFault}
use Rattle.mv_blif_line.specs.declared.fault.BlifFault.TheVariants.{Line}
use Rattle.mv_blif_line.specs.declared.row.OpenTable.{OpenTable}
use Rattle.mv_blif_line.specs.Commands.{command_at, is_row}
use Rattle.mv_blif_line.specs.Faults.{shared}
use Rattle.mv_blif_line.specs.Heads.{columns_faults}
use Rattle.mv_blif_line.specs.Rows.{plane_of, output_of, value_of, is_one, plane_faults, output_faults, count_faults, row_faults, new_table, row_seen}
use Rattle.mv_blif_line.specs.Tables.{byte_set, row_of, default_value, table_of}
use Rattle.mv_blif.specs.declared.known.Known.{Known}
use Rattle.mv_blif.specs.Known.{known}
use Rattle.mv_blif.specs.Grammar.{row_line_faults, inside_faults, faults_behind}
use Rattle.mv_blif.specs.Meaning.{front_rows, tables_at, tables_of}
use Rattle.mv_blif.specs.Steps.{line_step}
use Rattle.mv_blif.proofs.Knowns.{known-push}
use Rattle.mv_blif_laws.proofs.Faultless.{map-nothing, here-none, behind-none}

-- ---- the first line of a table

-- its words are lawful names, and there are some
record HasNames (words : List (List ℕ)) : Type 0 where
  lawful : list_all is_net_name words ≡ true
  some : 0 < length words

some-words : (n : ℕ) → (n == 0) ≡ false → 0 < n
some-words n e = grind (arith, nat_tests)

line-names : (n : ℕ) (word : List ℕ) (words : List (List ℕ)) → columns_faults n word words ≡ [] → HasNames words
unfolding columns_faults
line-names n word words none =
    let names = shared (names_faults n 0 words) in
    let lacks : List BlifFault = when (length words == 0) (Line (Missing n word)) in
    record {
      lawful = names-lawful n 0 words (map-nothing Line (names_faults n 0 words) (left-nothing names lacks none));
      some = some-words (length words) (when-nothing _ _ (right-nothing names lacks none));
    }

-- so are those in front of the last, and the last
front-lawful : (words : List (List ℕ)) (k : ℕ) → list_all is_net_name words ≡ true → (list_all is_net_name (take k words) ≡ true) × (list_all is_net_name (drop k words) ≡ true)
front-lawful words k all =
    and_parts (list_all is_net_name (take k words)) (list_all is_net_name (drop k words))
    (sym (list_all-append is_net_name (take k words) (drop k words)) ∙ (ap (list_all is_net_name) (take-append-drop k words) ∙ all))

-- and the last is one
one-behind : (words : List (List ℕ)) → 0 < length words → length (drop (length words - 1) words) ≡ 1
one-behind words some = simp length-drop (omega arith)

-- ---- rows

-- a row has a byte for each of so many inputs
abbrev Fits : ℕ → LexLine → Type 0
Fits ins l = length (plane_of l.words) ≡ ins

byte-within : (b : ℕ) → Within (byte_set b) (full 2)
byte-within b =
    cond_both (b == 48) (one 0) (if b == 49 then one 1 else full 2) (λ s. Within s (full 2))
    (λ y. one-within 0 2 (omega arith))
    (λ n. cond_both (b == 49) (one 1) (full 2) (λ s. Within s (full 2)) (λ y. one-within 1 2 (omega arith)) (λ m v h. h))

sets-fit : (nets : List (List ℕ)) (plane : List ℕ) → length plane ≡ length nets → FitSets [] nets (map byte_set plane)
sets-fit [] [] e = tt
sets-fit [] (b ∷ plane) e = absurd (omega arith)
sets-fit (net ∷ nets) [] e = absurd (omega arith)
sets-fit (net ∷ nets) (b ∷ plane) e = (byte-within b, sets-fit nets plane (omega arith))

-- one output has one of two values
pub value-fits : (ins nets : List (List ℕ)) (v : ℕ) → length nets ≡ 1 → v < 2 → FitOutputs [] ins nets (Set (one v) ∷ [])
value-fits ins [] v e low = absurd (omega arith)
value-fits ins (net ∷ []) v e low = (one-within v 2 low, tt)
value-fits ins (net ∷ other ∷ nets) v e low = absurd (omega arith)

value-low : (w : List ℕ) → value_of w < 2
value-low w = cond_both (is_one w) 1 0 (λ v. v < 2) (λ y. omega arith) (λ n. omega arith)

default-low : (rows : List LexLine) → default_value rows < 2
default-low [] = omega arith
default-low (l ∷ rows) = omega arith

rows-fit : (t : FileTable) (ls : List LexLine) → length t.outputs ≡ 1 → All (Fits (length t.inputs)) ls → All (IsFileRow [] t) (map (λ (l : LexLine). row_of l.words) ls)
rows-fit t [] single h = All-nil (IsFileRow [] t)
rows-fit t (l ∷ ls) single h =
    let here : IsFileRow [] t (row_of l.words) = record {
      sets = sets-fit t.inputs (plane_of l.words) (All-head (Fits (length t.inputs)) l ls h);
      outs = value-fits t.inputs t.outputs (value_of (output_of l.words)) single (value-low (output_of l.words));
    } in
    All-cons (IsFileRow [] t) (row_of l.words) (map (λ (x : LexLine). row_of x.words) ls) here (rows-fit t ls single (All-tail (Fits (length t.inputs)) l ls h))

-- ---- a table

table-fits : (head : LexLine) (rows : List LexLine) → HasNames (behind_first head) → All (Fits (length (behind_first head) - 1)) rows → IsFileTable [] (table_of head rows)
unfolding table_of
table-fits head rows names h =
    let words : List (List ℕ) = behind_first head in
    let k : ℕ = length words - 1 in
    let parts = front-lawful words k names.lawful in
    let ins : length (take k words) ≡ k = length-take-le k words (omega arith) in
    let some : 0 < length words = names.some in
    let single : length (drop k words) ≡ 1 = one-behind words some in
    let t : FileTable = record {
      line = head.number;
      inputs = take k words;
      outputs = drop k words;
      rows = map (λ (l : LexLine). row_of l.words) rows;
      default = Some (Set (one (default_value rows)) ∷ []);
    } in
    record {
      inputs = parts.0;
      outputs = parts.1;
      some = omega (arith, single);
      rows = rows-fit t rows single (rw ins h);
      default = λ entries e. default-is t entries e single;
    }
  where
    default-is : (t : FileTable) (entries : List Entry) → Some (Set (one (default_value rows)) ∷ []) ≡ Some entries → length t.outputs ≡ 1 → FitOutputs [] t.inputs t.outputs entries
    default-is t entries e single =
        let same : Set (one (default_value rows)) ∷ [] ≡ entries = cc in
        rw (← same) (value-fits t.inputs t.outputs (default_value rows) single (default-low rows))

-- ---- the lines behind its first

row-plane : (n : ℕ) (t : OpenTable) (words : List (List ℕ)) → row_faults n t words ≡ [] → length (plane_of words) ≡ t.ins
unfolding row_faults
row-plane n t words none =
    let counted = count_faults n t words in
    let plane = plane_faults n t.ins (plane_of words) in
    let both : counted ++ plane ≡ [] = left-nothing (counted ++ plane) (output_faults n t.first (output_of words)) none in
    let here : plane ≡ [] = right-nothing counted plane both in
    eqb-true _ _ (not-false _ (when-nothing _ (Line (WrongColumns n t.ins (length (plane_of words)))) (left-nothing _ _ here)))

pub is-row : (c : Command) → is_row c ≡ true → c ≡ SaysRow
is-row SaysRow y = refl
is-row _ y = cc

row-here : (c : Command) (k : Known) (before : List LexLine) (l : LexLine) (t : OpenTable) → c ≡ SaysRow → k.table ≡ Some t → inside_faults c k before l ≡ [] → Fits t.ins l
row-here c k before l t row opened none =
    let faults : row_line_faults k.table l ≡ [] = ap (λ (x : Command). inside_faults x k before l) (sym row) ∙ none in
    row-plane l.number t l.words (ap (λ (x : Option OpenTable). row_line_faults x l) (sym opened) ∙ faults)

pub row-next : (c : Command) (k : Known) (l : LexLine) (t : OpenTable) → c ≡ SaysRow → k.table ≡ Some t → (line_step c l k).table ≡ Some (row_seen l.words t)
row-next c k l t row opened = ap (λ (x : Command). (line_step x l k).table) row ∙ ap (option_map (row_seen l.words)) opened

-- the rows in front have a byte for each input of the open table
front-fits : (before ls : List LexLine) (t : OpenTable) → (known before).table ≡ Some t → faults_behind before ls ≡ [] → All (Fits t.ins) (front_rows ls)
front-fits before [] t opened none = All-nil (Fits t.ins)
front-fits before (l ∷ ls) t opened none =
    cond_both (is_row (command_at l)) (l ∷ front_rows ls) [] (All (Fits t.ins))
    (λ y.
    let row : command_at l ≡ SaysRow = is-row (command_at l) y in
    let next : (known (before ++ l ∷ [])).table ≡ Some (row_seen l.words t) = ap (λ (k : Known). k.table) (known-push before l) ∙ row-next (command_at l) (known before) l t row opened in
    All-cons (Fits t.ins) l (front_rows ls) (row-here (command_at l) (known before) before l t row opened (here-none before l ls none))
    (front-fits (before ++ l ∷ []) ls (row_seen l.words t) next (behind-none before l ls none)))
    (λ n. All-nil (Fits t.ins))

-- ---- all tables

tables-here : (c : Command) (before : List LexLine) (l : LexLine) (ls : List LexLine) → command_at l ≡ c → inside_faults c (known before) before l ≡ [] → faults_behind (before ++ l ∷ []) ls ≡ []
    → All (IsFileTable []) (tables_at c l ls)
tables-here Names before l ls is here behind =
    let opens : (known (before ++ l ∷ [])).table ≡ Some (new_table (behind_first l)) = ap (λ (k : Known). k.table) (known-push before l) ∙ ap (λ (x : Command). (line_step x l (known before)).table) is in
    All-cons (IsFileTable []) (table_of l (front_rows ls)) []
    (table-fits l (front_rows ls) (line-names l.number (first_word l) (behind_first l) here) (front-fits (before ++ l ∷ []) ls (new_table (behind_first l)) opens behind))
    (All-nil (IsFileTable []))
tables-here _ before l ls is here behind = All-nil (IsFileTable [])

pub tables-fit : (before ls : List LexLine) → faults_behind before ls ≡ [] → All (IsFileTable []) (tables_of ls)
tables-fit before [] none = All-nil (IsFileTable [])
tables-fit before (l ∷ ls) none =
    All-append (IsFileTable []) (tables_at (command_at l) l ls) (tables_of ls)
    (tables-here (command_at l) before l ls refl (here-none before l ls none) (behind-none before l ls none))
    (tables-fit (before ++ l ∷ []) ls (behind-none before l ls none))
