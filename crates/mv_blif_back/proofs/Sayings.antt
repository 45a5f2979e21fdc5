-- The lines of a network say its design.
use Rattle.std.proofs.Common.{◌≡◌, ◌∙◌, ℕ, ◌+◌, ◌-◌, suc, Bool, true, false, List, [], ◌∷◌, ◌++◌, length, length-append, map, take, drop, codes, Option, Some, None, ⊎_elim, refl, sym, ap, subst, append-nil, append_assoc, arith}
use Rattle.std.specs.List.{list_all, flat_map}
use Rattle.std.proofs.lemmas.Bool.{cond_both, cases_Bool, cond-true, cond-false, and_parts, and_from}
use Rattle.std.proofs.lemmas.List.Folds.{list_all-append}
use Rattle.std.proofs.lemmas.Grind.{flat_map-append}
use Rattle.mv_base.proofs.Lists.{flat_map-nothing}
use Rattle.mv_cover.specs.declared.line.Line.{Line}
use Rattle.mv_cover.specs.declared.cover.Cover.{Cover}
use Rattle.mv_design.specs.declared.table.FileTable.{FileTable}
use Rattle.mv_design.specs.declared.design.FileLatch.{FileLatch}
use Rattle.mv_latch.specs.declared.latch.BlifLatch.{BlifLatch}
use Rattle.mv_lex.specs.declared.lines.LexLine.{LexLine}
use Rattle.mv_lex.specs.Lines.{lines_of}
use Rattle.mv_line.specs.Latches.{latch_of}
use Rattle.mv_line.specs.Words.{behind_first}
use Rattle.mv_lines_back.specs.TextWords.{lines_from}
use Rattle.mv_lines_back.proofs.LinesFrom.{lines_from-append}
use Rattle.mv_net.specs.declared.parts.FlatNet.{FlatNet}
use Rattle.mv_net.specs.declared.parts.FlatLatch.{FlatLatch}
use Rattle.mv_net.specs.declared.parts.NetParts.{NetParts}
use Rattle.mv_net.specs.Nets.{slot, name_in}
use Rattle.mv_net.specs.Index.{is_reset}
use Rattle.mv_net.specs.Formed.{WellFormed}
use Rattle.mv_text.specs.Text.{fanins_of, names_of}
use Rattle.mv_blif_line.specs.declared.command.Command.{Command}
use Rattle.mv_blif_line.specs.declared.command.Command.TheVariants.{Inputs, Outputs, Names, Latch, Row as OfRow}
use Rattle.mv_blif_line.specs.Commands.{command_at, is_row}
use Rattle.mv_blif_line.specs.Latches.{settings_at, resets_at}
use Rattle.mv_blif_line.specs.Tables.{row_of, default_value, table_of}
use Rattle.mv_blif.specs.declared.design.BlifDesign.{BlifDesign}
use Rattle.mv_blif.specs.Grammar.{IsBlif}
use Rattle.mv_blif.specs.Known.{inputs_at, inputs_of, outputs_at, outputs_of}
use Rattle.mv_blif.specs.Meaning.{front_rows, tables_at, tables_of, at_latch, said_of, latches_of, resets_of, settings_said, blif_of}
use Rattle.mv_blif_text.specs.BlifText.{choice_words, said_words, net_words, latch_words, latches_words, inner_lines, blif_lines, blif_text}
use Rattle.mv_blif_back.specs.Said.{IsSaid, AreSaid}
use Rattle.mv_blif_back.specs.Rows.{default_of, one_entry}
use Rattle.mv_blif_back.specs.Model.{gate_said, cover_said, net_said, tables_said, latches_said, reset_said, resets_said, model_said, design_said}
use Rattle.mv_blif_back.proofs.Accepted.{text-accepted}
use Rattle.mv_blif_back.proofs.Choice.{made}
use Rattle.mv_blif_back.proofs.Commands.{command-model, command-inputs, command-outputs, command-names, command-latch, command-end, command-row, settings-back}
use Rattle.mv_blif_back.proofs.Gates.{choice-rows}
use Rattle.mv_blif_back.proofs.Written.{text-lines}

-- ---- the commands of a table's lines

module _ (q : Command → Bool) (row : q OfRow ≡ true) where
  abbrev All : List LexLine → Type 0
  All ls = list_all (λ (l : LexLine). q (command_at l)) ls ≡ true

  rows_all : (n : ℕ) (fanins : List ℕ) (b : Bool) (ls : List Line) → All (lines_from n (map (made fanins b) ls))
  rows_all n fanins b [] = refl
  rows_all n fanins b (l ∷ ls) = and_from (q (command_at (record { number = n; words = made fanins b l }))) _ (ap q (command-row fanins b l.cube) ∙ row) (rows_all (n + 1) fanins b ls)

  choice_all : (n : ℕ) (fanins : List ℕ) (c : Cover) → All (lines_from n (choice_words fanins c))
  choice_all n fanins c =
      let is = choice-rows fanins c in
      let P : List (List (List ℕ)) → Type 0 = λ ws. All (lines_from n ws) in
      subst P (sym is.are) (rows_all n fanins is.value is.lines)

  module _ (names : q Names ≡ true) (nets : List (Option FlatNet)) where
    cover_all : (n : ℕ) (name : List ℕ) (t : Option Cover) → All (lines_from n (said_words nets name t))
    cover_all n name None = refl
    cover_all n name (Some c) =
        let head : LexLine = record { number = n; words = codes ".names" ∷ map (λ m. name_in (slot nets m)) (fanins_of (length nets) c) ++ name ∷ [] } in
        and_from (q (command_at head)) _ (ap q command-names ∙ names) (choice_all (n + 1) (fanins_of (length nets) c) c)

    net_all : (n : ℕ) (o : Option FlatNet) → All (lines_from n (net_words nets o))
    net_all n None = refl
    net_all n (Some f) = cond_both (is_reset (Some f.kind)) [] (said_words nets f.name f.table) (λ ws. All (lines_from n ws)) (λ y. refl) (λ other. cover_all n f.name f.table)

    tables_all : (n : ℕ) (fs : List (Option FlatNet)) → All (lines_from n (flat_map (net_words nets) fs))
    tables_all n [] = refl
    tables_all n (f ∷ fs) =
        ap (list_all (λ (l : LexLine). q (command_at l))) (lines_from-append n (net_words nets f) (flat_map (net_words nets) fs))
        ∙ (list_all-append (λ (l : LexLine). q (command_at l)) (lines_from n (net_words nets f)) _ ∙ and_from _ _ (net_all n f) (tables_all (n + length (net_words nets f)) fs))

-- a line of a table
abbrev of_table : Command → Bool
of_table Names = true
of_table OfRow = true
of_table _ = false

-- a line between the outputs and the end
abbrev of_inner : Command → Bool
of_inner Names = true
of_inner OfRow = true
of_inner Latch = true
of_inner _ = false

no_latch : {X : Type 0} (said : LexLine → List X) (c : Command) (l : LexLine) → of_table c ≡ true → at_latch said c l ≡ []
no_latch said Latch l e = cc
no_latch said _ l e = refl

no_input : (c : Command) (ws : List (List ℕ)) → of_inner c ≡ true → inputs_at c ws ≡ []
no_input Inputs ws e = cc
no_input _ ws e = refl

no_output : (c : Command) (ws : List (List ℕ)) → of_inner c ≡ true → outputs_at c ws ≡ []
no_output Outputs ws e = cc
no_output _ ws e = refl

no_table : (c : Command) (l : LexLine) (ls : List LexLine) → is_row c ≡ true → tables_at c l ls ≡ []
no_table Names l ls e = cc
no_table _ l ls e = refl

-- ---- tables

-- rows say no table of their own
rows_past : (rows ls : List LexLine) → list_all (λ (l : LexLine). is_row (command_at l)) rows ≡ true → tables_of (rows ++ ls) ≡ tables_of ls
rows_past [] ls all = refl
rows_past (r ∷ rows) ls all =
    let both = and_parts (is_row (command_at r)) (list_all (λ (l : LexLine). is_row (command_at l)) rows) all in
    ap (λ ts. ts ++ tables_of (rows ++ ls)) (no_table (command_at r) r (rows ++ ls) both.0) ∙ rows_past rows ls both.1

rows_front : (rows ls : List LexLine) → list_all (λ (l : LexLine). is_row (command_at l)) rows ≡ true → front_rows ls ≡ [] → front_rows (rows ++ ls) ≡ rows
rows_front [] ls all none = none
rows_front (r ∷ rows) ls all none =
    let both = and_parts (is_row (command_at r)) (list_all (λ (l : LexLine). is_row (command_at l)) rows) all in
    cond-true (is_row (command_at r)) _ _ both.0 ∙ ap (λ rs. r ∷ rs) (rows_front rows ls both.1 none)

rows_are : (n : ℕ) (rows : List (List (List ℕ))) → map (λ (l : LexLine). row_of l.words) (lines_from n rows) ≡ map row_of rows
rows_are n [] = refl
rows_are n (ws ∷ rows) = ap (λ rs. row_of ws ∷ rs) (rows_are (n + 1) rows)

default_is : (n : ℕ) (rows : List (List (List ℕ))) → default_value (lines_from n rows) ≡ default_of rows
default_is n [] = refl
default_is n (ws ∷ rows) = refl

front_names : (names : List (List ℕ)) (name : List ℕ) → take (length (names ++ name ∷ []) - 1) (names ++ name ∷ []) ≡ names
front_names names name = ap (λ k. take k (names ++ name ∷ [])) (count names name) ∙ taken names name
  where
    count : (ws : List (List ℕ)) (w : List ℕ) → length (ws ++ w ∷ []) - 1 ≡ length ws
    count ws w = let long : length (ws ++ w ∷ []) ≡ length ws + 1 = length-append ws (w ∷ []) in omega (arith, long)

    taken : (ws : List (List ℕ)) (w : List ℕ) → take (length ws) (ws ++ w ∷ []) ≡ ws
    taken [] w = refl
    taken (v ∷ ws) w = ap (λ vs. v ∷ vs) (taken ws w)

last_name : (names : List (List ℕ)) (name : List ℕ) → drop (length (names ++ name ∷ []) - 1) (names ++ name ∷ []) ≡ name ∷ []
last_name names name = ap (λ k. drop k (names ++ name ∷ [])) (count names name) ∙ dropped names name
  where
    count : (ws : List (List ℕ)) (w : List ℕ) → length (ws ++ w ∷ []) - 1 ≡ length ws
    count ws w = let long : length (ws ++ w ∷ []) ≡ length ws + 1 = length-append ws (w ∷ []) in omega (arith, long)

    dropped : (ws : List (List ℕ)) (w : List ℕ) → drop (length ws) (ws ++ w ∷ []) ≡ w ∷ []
    dropped [] w = refl
    dropped (v ∷ ws) w = dropped ws w

-- the table of a first line with these names and the rows behind it
table_is : (n k : ℕ) (names : List (List ℕ)) (name : List ℕ) (rows : List (List (List ℕ))) → table_of (record { number = n; words = codes ".names" ∷ names ++ name ∷ [] }) (lines_from k rows)
    ≡ record { line = n; inputs = names; outputs = name ∷ []; rows = map row_of rows; default = Some (one_entry (default_of rows)) }
unfolding table_of
table_is n k names name rows = rw (front_names names name, last_name names name, rows_are k rows, default_is k rows) refl

module _ (nets : List (Option FlatNet)) where
  cover_tables : (n : ℕ) (name : List ℕ) (t : Option Cover) (ls : List LexLine) → front_rows ls ≡ [] → tables_of (lines_from n (said_words nets name t) ++ ls) ≡ cover_said nets n name t ++ tables_of ls
  cover_tables n name None ls none = refl
  cover_tables n name (Some c) ls none =
      let fanins = fanins_of (length nets) c in
      let names = map (λ m. name_in (slot nets m)) fanins in
      let head : LexLine = record { number = n; words = codes ".names" ∷ names ++ name ∷ [] } in
      let rows = lines_from (n + 1) (choice_words fanins c) in
      let all = choice_all is_row refl (n + 1) fanins c in
      ap (λ x. tables_at x head (rows ++ ls) ++ tables_of (rows ++ ls)) command-names
      ∙ (ap (λ rs. table_of head rs ∷ tables_of (rows ++ ls)) (rows_front rows ls all none)
      ∙ (ap (λ t. t ∷ tables_of (rows ++ ls)) (table_is n (n + 1) names name (choice_words fanins c)) ∙ ap (λ ts. gate_said nets n name fanins c ∷ ts) (rows_past rows ls all)))

  net_tables : (n : ℕ) (o : Option FlatNet) (ls : List LexLine) → front_rows ls ≡ [] → tables_of (lines_from n (net_words nets o) ++ ls) ≡ net_said nets n o ++ tables_of ls
  net_tables n None ls none = refl
  net_tables n (Some f) ls none =
      let t = is_reset (Some f.kind) in
      ⊎_elim
      (λ (y : t ≡ true).
      ap (λ ws. tables_of (lines_from n ws ++ ls)) (cond-true t [] (said_words nets f.name f.table) y) ∙ ap (λ ts. ts ++ tables_of ls) (sym (cond-true t [] (cover_said nets n f.name f.table) y)))
      (λ (other : t ≡ false).
      ap (λ ws. tables_of (lines_from n ws ++ ls)) (cond-false t [] (said_words nets f.name f.table) other)
      ∙ (cover_tables n f.name f.table ls none ∙ ap (λ ts. ts ++ tables_of ls) (sym (cond-false t [] (cover_said nets n f.name f.table) other))))
      (cases_Bool t)

  -- no row stands in front of a table's first line
  cover_front : (n : ℕ) (name : List ℕ) (t : Option Cover) (ls : List LexLine) → front_rows ls ≡ [] → front_rows (lines_from n (said_words nets name t) ++ ls) ≡ []
  cover_front n name None ls none = none
  cover_front n name (Some c) ls none = rw command-names refl

  net_front : (n : ℕ) (o : Option FlatNet) (ls : List LexLine) → front_rows ls ≡ [] → front_rows (lines_from n (net_words nets o) ++ ls) ≡ []
  net_front n None ls none = none
  net_front n (Some f) ls none = cond_both (is_reset (Some f.kind)) [] (said_words nets f.name f.table) (λ ws. front_rows (lines_from n ws ++ ls) ≡ []) (λ y. none) (λ other. cover_front n f.name f.table ls none)

  joined : (n : ℕ) (f : Option FlatNet) (fs : List (Option FlatNet)) (ls : List LexLine)
      → lines_from n (flat_map (net_words nets) (f ∷ fs)) ++ ls ≡ lines_from n (net_words nets f) ++ (lines_from (n + length (net_words nets f)) (flat_map (net_words nets) fs) ++ ls)
  joined n f fs ls = ap (λ xs. xs ++ ls) (lines_from-append n (net_words nets f) (flat_map (net_words nets) fs)) ∙ append_assoc (lines_from n (net_words nets f)) _ ls

  tables_front : (n : ℕ) (fs : List (Option FlatNet)) (ls : List LexLine) → front_rows ls ≡ [] → front_rows (lines_from n (flat_map (net_words nets) fs) ++ ls) ≡ []
  tables_front n [] ls none = none
  tables_front n (f ∷ fs) ls none = ap front_rows (joined n f fs ls) ∙ net_front n f _ (tables_front (n + length (net_words nets f)) fs ls none)

  tables_are : (n : ℕ) (fs : List (Option FlatNet)) (ls : List LexLine) → front_rows ls ≡ [] → tables_of ls ≡ [] → tables_of (lines_from n (flat_map (net_words nets) fs) ++ ls) ≡ tables_said nets n fs
  tables_are n [] ls front none = none
  tables_are n (f ∷ fs) ls front none =
      let k = n + length (net_words nets f) in
      ap tables_of (joined n f fs ls)
      ∙ (net_tables n f (lines_from k (flat_map (net_words nets) fs) ++ ls) (tables_front k fs ls front) ∙ ap (λ ts. net_said nets n f ++ ts) (tables_are k fs ls front none))

-- ---- latches

module _ (net : NetParts) where
  -- what the lines of latches say, line by line
  latch_part : {X : Type 0} (said : LexLine → List X) (make : ℕ → FlatLatch → BlifLatch → List X)
      → ((n : ℕ) (l : FlatLatch) (b : BlifLatch) → IsSaid net l b → said (record { number = n; words = latch_words net.nets l b }) ≡ make n l b)
      → (n : ℕ) (l : FlatLatch) (b : BlifLatch) (ls : List FlatLatch) (bs : List BlifLatch) (rest : List X) → IsSaid net l b
      → said_of said (lines_from (n + 1) (latches_words net.nets ls bs)) ≡ rest
      → said_of said (lines_from n (latches_words net.nets (l ∷ ls) (b ∷ bs))) ≡ make n l b ++ rest
  latch_part said make each n l b ls bs rest is more =
      let x : LexLine = record { number = n; words = latch_words net.nets l b } in
      let behind = said_of said (lines_from (n + 1) (latches_words net.nets ls bs)) in
      ap (λ c. at_latch said c x ++ behind) command-latch ∙ (ap (λ ys. ys ++ behind) (each n l b is) ∙ ap (λ ys. make n l b ++ ys) more)

  settings_are : (n : ℕ) (ls : List FlatLatch) (bs : List BlifLatch) → AreSaid net ls bs → settings_said (lines_from n (latches_words net.nets ls bs)) ≡ bs
  settings_are n [] [] all = refl
  settings_are n [] (b ∷ bs) all = absurd all
  settings_are n (l ∷ ls) [] all = absurd all
  settings_are n (l ∷ ls) (b ∷ bs) all =
      latch_part (λ x. settings_at x ∷ []) (λ k m c. c ∷ []) (λ k m c is. ap (λ s. s ∷ []) (settings-back net m c is)) n l b ls bs bs all.0 (settings_are (n + 1) ls bs all.1)

  latches_are : (n : ℕ) (ls : List FlatLatch) (bs : List BlifLatch) → AreSaid net ls bs → latches_of (lines_from n (latches_words net.nets ls bs)) ≡ latches_said net.nets n ls
  latches_are n [] [] all = refl
  latches_are n [] (b ∷ bs) all = absurd all
  latches_are n (l ∷ ls) [] all = absurd all
  latches_are n (l ∷ ls) (b ∷ bs) all =
      latch_part (λ x. latch_of x ∷ []) (λ k m c. record { line = k; input = name_in (slot net.nets m.input.0); output = name_in (slot net.nets m.output.0) } ∷ []) (λ k m c is. refl) n l b ls bs (latches_said net.nets (n + 1) ls) all.0 (latches_are (n + 1) ls bs all.1)

  reset_is : (n : ℕ) (l : FlatLatch) (b : BlifLatch) → IsSaid net l b → resets_at (record { number = n; words = latch_words net.nets l b }) ≡ reset_said net.nets n l b.init
  unfolding resets_at
  reset_is n l b is = ap (λ (s : BlifLatch). reset_said net.nets n l s.init) (settings-back net l b is)

  resets_are : (n : ℕ) (ls : List FlatLatch) (bs : List BlifLatch) → AreSaid net ls bs → resets_of (lines_from n (latches_words net.nets ls bs)) ≡ resets_said net.nets n ls bs
  resets_are n [] [] all = refl
  resets_are n [] (b ∷ bs) all = absurd all
  resets_are n (l ∷ ls) [] all = absurd all
  resets_are n (l ∷ ls) (b ∷ bs) all =
      latch_part resets_at (λ k m c. reset_said net.nets k m c.init) reset_is n l b ls bs (resets_said net.nets (n + 1) ls bs) all.0 (resets_are (n + 1) ls bs all.1)

  latches_long : (ls : List FlatLatch) (bs : List BlifLatch) → AreSaid net ls bs → length (latches_words net.nets ls bs) ≡ length ls
  latches_long [] [] all = refl
  latches_long [] (b ∷ bs) all = absurd all
  latches_long (l ∷ ls) [] all = absurd all
  latches_long (l ∷ ls) (b ∷ bs) all = ap suc (latches_long ls bs all.1)

  latches_inner : (n : ℕ) (ls : List FlatLatch) (bs : List BlifLatch) → list_all (λ (l : LexLine). of_inner (command_at l)) (lines_from n (latches_words net.nets ls bs)) ≡ true
  latches_inner n [] bs = refl
  latches_inner n (l ∷ ls) [] = refl
  latches_inner n (l ∷ ls) (b ∷ bs) = and_from (of_inner (command_at (record { number = n; words = latch_words net.nets l b }))) _ (ap of_inner command-latch) (latches_inner (n + 1) ls bs)

  -- lines of latches begin no table
  latches_past : (n : ℕ) (ls : List FlatLatch) (bs : List BlifLatch) (rest : List LexLine) → tables_of (lines_from n (latches_words net.nets ls bs) ++ rest) ≡ tables_of rest
  latches_past n [] bs rest = refl
  latches_past n (l ∷ ls) [] rest = refl
  latches_past n (l ∷ ls) (b ∷ bs) rest =
      let x : LexLine = record { number = n; words = latch_words net.nets l b } in
      let more = lines_from (n + 1) (latches_words net.nets ls bs) ++ rest in
      ap (λ c. tables_at c x more ++ tables_of more) command-latch ∙ latches_past (n + 1) ls bs rest

  -- ---- the whole

  module _ (bs : List BlifLatch) (said : AreSaid net net.latches bs) where
    abbrev latch_lines : List LexLine
    latch_lines = lines_from 4 (latches_words net.nets net.latches bs)

    abbrev table_lines : List LexLine
    table_lines = lines_from (4 + length (latches_words net.nets net.latches bs)) (flat_map (net_words net.nets) net.nets)

    abbrev last : ℕ → LexLine
    last k = record { number = k; words = codes ".end" ∷ [] }

    abbrev all : ℕ → List LexLine
    all k = record { number = 1; words = codes ".model" ∷ net.root ∷ [] }
        ∷ record { number = 2; words = codes ".inputs" ∷ names_of net.nets net.inputs }
        ∷ record { number = 3; words = codes ".outputs" ∷ names_of net.nets net.outputs }
        ∷ ((latch_lines ++ table_lines) ++ last k ∷ [])

    abbrev end_number : ℕ
    end_number = 4 + length (inner_lines net bs)

    numbered : lines_from 1 (blif_lines net bs) ≡ all end_number
    unfolding blif_lines
    numbered =
        let front : List LexLine → List LexLine = λ ls. record { number = 1; words = codes ".model" ∷ net.root ∷ [] }
        ∷ record { number = 2; words = codes ".inputs" ∷ names_of net.nets net.inputs }
        ∷ record { number = 3; words = codes ".outputs" ∷ names_of net.nets net.outputs } ∷ ls in
        ap front
        (lines_from-append 4 (inner_lines net bs) ((codes ".end" ∷ []) ∷ [])
        ∙ ap (λ ls. ls ++ last end_number ∷ []) (lines_from-append 4 (latches_words net.nets net.latches bs) (flat_map (net_words net.nets) net.nets)))

    -- lines of latches alone say something of latches
    latches_alone : {X : Type 0} (tell : LexLine → List X) (k : ℕ) → said_of tell (all k) ≡ said_of tell latch_lines
    latches_alone {X = X} tell k =
        let F : LexLine → List X = λ l. at_latch tell (command_at l) l in
        let none : flat_map F table_lines ≡ [] = flat_map-nothing F (λ (l : LexLine). of_table (command_at l)) (λ l h. no_latch tell (command_at l) l h) table_lines (tables_all of_table refl refl net.nets _ net.nets) in
        let ends : flat_map F (last k ∷ []) ≡ [] = rw command-end refl in
        rw (command-model, command-inputs, command-outputs)
        (flat_map-append F (latch_lines ++ table_lines) (last k ∷ [])
        ∙ (ap (λ ys. flat_map F (latch_lines ++ table_lines) ++ ys) ends
        ∙ (append-nil _ ∙ (flat_map-append F latch_lines table_lines ∙ (ap (λ ys. flat_map F latch_lines ++ ys) none ∙ append-nil _)))))

    inner_all : list_all (λ (l : LexLine). of_inner (command_at l)) (latch_lines ++ table_lines) ≡ true
    inner_all =
        list_all-append (λ (l : LexLine). of_inner (command_at l)) latch_lines table_lines ∙ and_from _ _ (latches_inner 4 net.latches bs) (tables_all of_inner refl refl net.nets _ net.nets)

    -- so the lines between the outputs and the end name no port
    nothing_inner : {X : Type 0} (F : LexLine → List X) (k : ℕ) → ((l : LexLine) → of_inner (command_at l) ≡ true → F l ≡ []) → F (last k) ≡ [] → flat_map F ((latch_lines ++ table_lines) ++ last k ∷ []) ≡ []
    nothing_inner F k each ends =
        flat_map-append F (latch_lines ++ table_lines) (last k ∷ [])
        ∙ (ap (λ ys. ys ++ flat_map F (last k ∷ [])) (flat_map-nothing F (λ (l : LexLine). of_inner (command_at l)) each (latch_lines ++ table_lines) inner_all)
        ∙ (append-nil (F (last k)) ∙ ends))

    inputs_are : (k : ℕ) → inputs_of (all k) ≡ names_of net.nets net.inputs
    inputs_are k =
        let F : LexLine → List (List ℕ) = λ l. inputs_at (command_at l) (behind_first l) in
        let none = nothing_inner F k (λ l h. no_input (command_at l) (behind_first l) h) (ap (λ c. inputs_at c (behind_first (last k))) command-end) in
        rw (command-model, command-inputs, command-outputs) (ap (λ ys. names_of net.nets net.inputs ++ ys) none ∙ append-nil _)

    outputs_are : (k : ℕ) → outputs_of (all k) ≡ names_of net.nets net.outputs
    outputs_are k =
        let F : LexLine → List (List ℕ) = λ l. outputs_at (command_at l) (behind_first l) in
        let none = nothing_inner F k (λ l h. no_output (command_at l) (behind_first l) h) (ap (λ c. outputs_at c (behind_first (last k))) command-end) in
        rw (command-model, command-inputs, command-outputs) (ap (λ ys. names_of net.nets net.outputs ++ ys) none ∙ append-nil _)

    tables_whole : (k : ℕ) → tables_of (all k) ≡ tables_said net.nets (4 + length net.latches) net.nets
    tables_whole k =
        let front : front_rows (last k ∷ []) ≡ [] = rw command-end refl in
        let none : tables_of (last k ∷ []) ≡ [] = rw command-end refl in
        let start : 4 + length (latches_words net.nets net.latches bs) ≡ 4 + length net.latches = ap (λ n. 4 + n) (latches_long net.latches bs said) in
        rw (command-model, command-inputs, command-outputs)
        (ap tables_of (append_assoc latch_lines table_lines (last k ∷ []))
        ∙ (latches_past 4 net.latches bs (table_lines ++ last k ∷ [])
        ∙ (tables_are net.nets (4 + length (latches_words net.nets net.latches bs)) net.nets (last k ∷ []) front none ∙ ap (λ n. tables_said net.nets n net.nets) start)))

    abbrev design_of : List (List ℕ) → List (List ℕ) → List FileTable → List FileLatch → List FileTable → List BlifLatch → BlifDesign
    design_of i o t l r s = record {
      design = record { root = 0; models = record { name = net.root; inputs = i; outputs = o; decls = []; tables = t; latches = l; resets = r; instances = [] } ∷ [] };
      latches = s;
    }

    parts : (i o : List (List ℕ)) (t : List FileTable) (l : List FileLatch) (r : List FileTable) (s : List BlifLatch) → i ≡ names_of net.nets net.inputs → o ≡ names_of net.nets net.outputs
        → t ≡ tables_said net.nets (4 + length net.latches) net.nets → l ≡ latches_said net.nets 4 net.latches → r ≡ resets_said net.nets 4 net.latches bs → s ≡ bs
        → design_of i o t l r s ≡ design_of (names_of net.nets net.inputs) (names_of net.nets net.outputs) (tables_said net.nets (4 + length net.latches) net.nets) (latches_said net.nets 4 net.latches) (resets_said net.nets 4 net.latches bs) bs
    parts i o t l r s a b c d e f = rw (a, b, c, d, e, f) refl

    whole : (k : ℕ) → blif_of (all k) ≡ design_said net bs
    unfolding blif_of model_said
    whole k =
        let latches : latches_of (all k) ≡ latches_said net.nets 4 net.latches = latches_alone (λ l. latch_of l ∷ []) k ∙ latches_are 4 net.latches bs said in
        let resets : resets_of (all k) ≡ resets_said net.nets 4 net.latches bs = latches_alone resets_at k ∙ resets_are 4 net.latches bs said in
        let settings : settings_said (all k) ≡ bs = latches_alone (λ l. settings_at l ∷ []) k ∙ settings_are 4 net.latches bs said in
        parts (inputs_of (all k)) (outputs_of (all k)) (tables_of (all k)) (latches_of (all k)) (resets_of (all k)) (settings_said (all k)) (inputs_are k) (outputs_are k) (tables_whole k) latches resets settings

    -- the lines say the design
    pub lines-say : blif_of (lines_from 1 (blif_lines net bs)) ≡ design_said net bs
    lines-say = ap blif_of numbered ∙ whole end_number

-- the text says it
pub text-says : (net : NetParts) (bs : List BlifLatch) → WellFormed net → AreSaid net net.latches bs → blif_of (lines_of (blif_text net bs)) ≡ design_said net bs
text-says net bs formed said = ap blif_of (text-lines net formed bs said) ∙ lines-say net bs said

-- the grammar relates its lines to it
pub text-is_design : (net : NetParts) (bs : List BlifLatch) → WellFormed net → AreSaid net net.latches bs → IsBlif (lines_of (blif_text net bs)) (design_said net bs)
text-is_design net bs formed said =
    let P : BlifDesign → Type 0 = λ d. IsBlif (lines_of (blif_text net bs)) d in
    subst P (text-says net bs formed said) (text-accepted net bs formed said)
