-- The lines of a table or a reset table, within a model: limits are their only faults, but for those of their values.
use Rattle.std.proofs.Common.{◌≡◌, ◌∙◌, ℕ, ◌+◌, Bool, true, false, not, ◌&&◌, List, [], ◌∷◌, ◌++◌, length, refl, sym, ap, subst, eq-eqb, arith}
use Rattle.std.specs.Prelude.{Option, Some, None, option_map, codes, nat_le, ◌==◌}
use Rattle.std.specs.List.{list_all}
use Rattle.std.proofs.lemmas.Bool.{and_parts, eqb-true, not-true}
use Rattle.mv_base.specs.Names.{begins_with, is_net_name}
use Rattle.mv_base.specs.declared.limits.TheConstants.{MAX_TABLE_LINES}
use Rattle.mv_lex.specs.declared.lines.LexLine.{LexLine}
use Rattle.mv_fault.specs.declared.fault.Which.TheVariants.{TableLines}
use Rattle.mv_fault.specs.declared.fault.ParseFault.TheVariants.{Limit}
use Rattle.mv_fault.specs.Tells.{when}
use Rattle.mv_line.specs.Words.{behind_first, first_of}
use Rattle.mv_parse.specs.declared.command.Command.TheVariants.{Table, Reset, Default, Row}
use Rattle.mv_parse.specs.declared.known.OpenTable.{OpenTable}
use Rattle.mv_parse.specs.Commands.{command_at}
use Rattle.mv_parse.specs.Known.{open_table}
use Rattle.mv_parse.specs.Grammar.{row_faults, default_faults, at_table, faults_at}
use Rattle.mv_parse.specs.Steps.{new_table, default_seen, row_seen}
use Rattle.mv_parse.proofs.Opens.{open_table-row, open_table-default, open_table-table, open_table-reset}
use Rattle.mv_text_back.proofs.TextModel.{begin_word}
use Rattle.mv_text_back.proofs.Commands.{begins, command-begins, command-default, command-row}
use Rattle.mv_text_back.proofs.Opened.{stays, goes_on, going-push, faults-going}
use Rattle.mv_text_back.proofs.Limits.{only_limits, limits-append, when-limit, AreFine}
use Rattle.mv_text_back.proofs.Columns.{columns, ins-written, outs-written, columns-limits, reset-limits}
use Rattle.mv_lines_back.specs.TextWords.{lines_from}

-- ---- rows

-- the words of a row with so many columns
abbrev pub is_row_line : ℕ → List (List ℕ) → Bool
is_row_line count ws = not (begins_with 46 (first_of ws)) && (length ws == count)

row_line : (h : LexLine) (front : List LexLine) (n : ℕ) (t : OpenTable) (ws : List (List ℕ)) → list_all goes_on (h ∷ front) ≡ true
    → open_table front ≡ Some t → command_at (record { number = n; words = ws }) ≡ Row → length ws ≡ t.ins + t.outs
    → only_limits (faults_at (h ∷ front) (record { number = n; words = ws })) ≡ true
unfolding row_faults
row_line h front n t ws goes e is long =
    let many = when (nat_le MAX_TABLE_LINES t.rows) (Limit n TableLines (MAX_TABLE_LINES + 1)) in
    let limit = when-limit (nat_le MAX_TABLE_LINES t.rows) (Limit n TableLines (MAX_TABLE_LINES + 1)) refl in
    let said : only_limits (row_faults n t ws) ≡ true = rw (eq-eqb (length ws) (t.ins + t.outs) long) (limits-append many [] limit refl) in
    ap only_limits (faults-going Row h front (record { number = n; words = ws }) goes is refl refl ∙ ap (λ o. at_table n o (λ u. row_faults n u ws)) e) ∙ said

pub rows-fine : (h : LexLine) (front : List LexLine) (n : ℕ) (t : OpenTable) (rows : List (List (List ℕ))) → list_all goes_on (h ∷ front) ≡ true
    → open_table front ≡ Some t → list_all (is_row_line (t.ins + t.outs)) rows ≡ true → AreFine (h ∷ front) (lines_from n rows)
rows-fine h front n t [] goes e each = tt
rows-fine h front n t (ws ∷ rows) goes e each =
    let p = and_parts (is_row_line (t.ins + t.outs) ws) (list_all (is_row_line (t.ins + t.outs)) rows) each in
    let q = and_parts (not (begins_with 46 (first_of ws))) (length ws == t.ins + t.outs) p.0 in
    let l : LexLine = record { number = n; words = ws } in
    let is : command_at l ≡ Row = command-row (first_of ws) (not-true _ q.0) in
    let still = open_table-row front l is ∙ ap (option_map row_seen) e in (
      row_line h front n t ws goes e is (eqb-true (length ws) (t.ins + t.outs) q.1),
      rows-fine h (front ++ l ∷ []) (n + 1) (row_seen t) rows (going-push Row (h ∷ front) l goes is refl) still p.1,
    )

-- ---- the default

abbrev default_line : ℕ → List ℕ → LexLine
default_line n w = record { number = n; words = codes ".default" ∷ w ∷ [] }

default_fine : (h : LexLine) (front : List LexLine) (n : ℕ) (t : OpenTable) (w : List ℕ) → list_all goes_on (h ∷ front) ≡ true
    → open_table front ≡ Some t → t.has_default ≡ false → t.outs ≡ 1 → only_limits (faults_at (h ∷ front) (default_line n w)) ≡ true
unfolding default_faults
default_fine h front n t w goes e first one =
    let said : only_limits (default_faults n (codes ".default") t (w ∷ [])) ≡ true = rw (first, one) refl in
    let going = faults-going Default h front (default_line n w) goes command-default refl refl in
    ap only_limits (going ∙ ap (λ o. at_table n o (λ u. default_faults n (codes ".default") u (w ∷ []))) e) ∙ said

-- ---- the first line

abbrev pub head_line : Bool → ℕ → List (List ℕ) → List ℕ → LexLine
head_line resets n names name = record { number = n; words = begin_word resets ∷ columns names name }

head_fine : (resets : Bool) (h : LexLine) (front : List LexLine) (n : ℕ) (names : List (List ℕ)) (name : List ℕ) → list_all goes_on (h ∷ front) ≡ true
    → list_all is_net_name names ≡ true → is_net_name name ≡ true → only_limits (faults_at (h ∷ front) (head_line resets n names name)) ≡ true
head_fine false h front n names name goes lawful own =
    ap only_limits (faults-going Table h front (head_line false n names name) goes (command-begins false) refl refl)
    ∙ columns-limits n (codes ".table") names name lawful own
head_fine true h front n names name goes lawful own =
    ap only_limits (faults-going Reset h front (head_line true n names name) goes (command-begins true) refl refl)
    ∙ reset-limits n (codes ".reset") names name lawful own

-- behind it the table is open, and its model too
opens : (resets : Bool) (front : List LexLine) (l : LexLine) → command_at l ≡ begins resets → open_table (front ++ l ∷ []) ≡ Some (new_table (behind_first l))
opens false front l is = open_table-table front l is
opens true front l is = open_table-reset front l is

begins_stay : (resets : Bool) → stays (begins resets) ≡ true
begins_stay true = refl
begins_stay false = refl

-- ---- the whole

-- a table's lines: its first, the default if it has one, and the rows
abbrev pub table_lines : Bool → List (List ℕ) → List ℕ → List (List (List ℕ)) → List (List (List ℕ)) → List (List (List ℕ))
table_lines resets names name default rows = (begin_word resets ∷ columns names name) ∷ (default ++ rows)

abbrev pub one_default : Option (List ℕ) → List (List (List ℕ))
one_default None = []
one_default (Some w) = (codes ".default" ∷ w ∷ []) ∷ []

behind_head : (h : LexLine) (front : List LexLine) (n : ℕ) (t : OpenTable) (default : Option (List ℕ)) (rows : List (List (List ℕ)))
    → list_all goes_on (h ∷ front) ≡ true → open_table front ≡ Some t → t.has_default ≡ false → t.outs ≡ 1
    → list_all (is_row_line (t.ins + t.outs)) rows ≡ true → AreFine (h ∷ front) (lines_from n (one_default default ++ rows))
behind_head h front n t None rows goes e first one each = rows-fine h front n t rows goes e each
behind_head h front n t (Some w) rows goes e first one each =
    let l = default_line n w in
    let on = going-push Default (h ∷ front) l goes command-default refl in
    let still = open_table-default front l command-default ∙ ap (option_map default_seen) e in
    (default_fine h front n t w goes e first one, rows-fine h (front ++ l ∷ []) (n + 1) (default_seen t) rows on still each)

pub table-fine : (resets : Bool) (h : LexLine) (front : List LexLine) (n : ℕ) (names : List (List ℕ)) (name : List ℕ) (default : Option (List ℕ))
    (rows : List (List (List ℕ))) → list_all goes_on (h ∷ front) ≡ true → list_all is_net_name names ≡ true → is_net_name name ≡ true
    → list_all (is_row_line (length names + 1)) rows ≡ true → AreFine (h ∷ front) (lines_from n (table_lines resets names name (one_default default) rows))
table-fine resets h front n names name default rows goes lawful own each =
    let l = head_line resets n names name in
    let t = new_table (columns names name) in
    let ins : t.ins ≡ length names = ap length (ins-written names name lawful) in
    let outs : t.outs ≡ 1 = ap length (outs-written names name lawful) in
    let count : t.ins + t.outs ≡ length names + 1 = omega (arith, ins, outs) in
    let rows_are : list_all (is_row_line (t.ins + t.outs)) rows ≡ true = subst (λ (k : ℕ). list_all (is_row_line k) rows ≡ true) (sym count) each in
    let on = going-push (begins resets) (h ∷ front) l goes (command-begins resets) (begins_stay resets) in
    let opened = opens resets front l (command-begins resets) in
    (head_fine resets h front n names name goes lawful own, behind_head h (front ++ l ∷ []) (n + 1) t default rows on opened refl outs rows_are)
