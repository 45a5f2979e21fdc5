-- The lines of all tables and reset tables of a network: what they say, and that limits are their only faults.
use Rattle.std.proofs.Common.{◌≡◌, ◌∙◌, ℕ, ◌+◌, Bool, true, false, not, List, [], ◌∷◌, ◌++◌, length, map, refl, sym, ap, subst}
use Rattle.std.specs.Prelude.{Option, Some, None, option_map}
use Rattle.std.specs.List.{list_all, flat_map}
use Rattle.std.proofs.lemmas.Bool.{and_from}
use Rattle.std.proofs.lemmas.List.Folds.{list_all-append}
use Rattle.mv_lex.specs.declared.lines.LexLine.{LexLine}
use Rattle.mv_design.specs.declared.design.Decl.{Decl}
use Rattle.mv_design.specs.declared.table.FileTable.{FileTable}
use Rattle.mv_cover.specs.declared.cover.Cover.{Cover}
use Rattle.mv_table.specs.Tables.{table_of}
use Rattle.mv_parse.specs.Commands.{command_at, keeps_table}
use Rattle.mv_parse.specs.Known.{tables_of, resets_of}
use Rattle.mv_parse.specs.Grammar.{tables_faults}
use Rattle.mv_net.specs.declared.parts.FlatNet.{FlatNet}
use Rattle.mv_net.specs.Nets.{spelled_values}
use Rattle.mv_text.specs.Text.{fanins_of, entry_word, default_words, line_words, head_word, told_name, table_words, net_words}
use Rattle.mv_text_back.proofs.TextModel.{fanin_names, IsTableOf, TableOrNot, is_reset_net, is_other_net, kept_if, AreTablesOf}
use Rattle.mv_text_back.proofs.Commands.{begins, command-begins}
use Rattle.mv_text_back.proofs.Opened.{goes_on}
use Rattle.mv_text_back.proofs.Limits.{AreFine, AreFine-append}
use Rattle.mv_text_back.proofs.Nets.{EachNet}
use Rattle.mv_text_back.proofs.TableLines.{head_line, one_default, table_lines, table-fine}
use Rattle.mv_lines_back.proofs.LinesFrom.{lines_from-append}
use Rattle.mv_text_back.proofs.Tells.{all_pass, is_of_table, tables-inner, inner-goes}
use Rattle.mv_text_back.proofs.Kept.{is_fresh, kept-of_table, one_if, tables-block, resets-block, values-block}
use Rattle.mv_text_back.proofs.TableText.{IsTableNet, are_rows, kept_words, SayTable, table-said}
use Rattle.mv_lines_back.specs.TextWords.{lines_from}

module _ (nets : List (Option FlatNet)) (ds : List Decl) where
  -- if the net has a table, it can be said
  abbrev pub CanTable : FlatNet → Option Cover → Type 0
  CanTable f t = (c : Cover) → t ≡ Some c → IsTableNet nets ds f c

  abbrev words_of : FlatNet → Option Cover → List (List (List ℕ))
  words_of f t = table_words nets (head_word (Some f)) t (spelled_values f.values f.value_names) (told_name (Some f))

  -- the lines of one table
  abbrev head_at : ℕ → FlatNet → Cover → LexLine
  head_at n f c = head_line (is_reset_net f) n (fanin_names nets c) (told_name (Some f))

  abbrev kept_at : ℕ → FlatNet → Cover → List LexLine
  kept_at n f c = lines_from (n + 1) (kept_words nets f c)

  abbrev end_of : ℕ → FlatNet → Cover → ℕ
  end_of n f c = (n + 1) + length (kept_words nets f c)

  split : (n : ℕ) (f : FlatNet) (c : Cover) (rest : List (List (List ℕ))) → lines_from n (words_of f (Some c) ++ rest) ≡ head_at n f c ∷ kept_at n f c ++ lines_from (end_of n f c) rest
  split n f c rest = ap (λ ls. head_at n f c ∷ ls) (lines_from-append (n + 1) (kept_words nets f c) rest)

  said_at : (n : ℕ) (f : FlatNet) (c : Cover) → IsTableNet nets ds f c → SayTable nets ds f c (head_at n f c) (kept_at n f c)
  said_at n f c is = table-said nets ds f c n (n + 1) is

  -- what the first line of a table is
  head_begins : (n : ℕ) (f : FlatNet) (c : Cover) → command_at (head_at n f c) ≡ begins (is_reset_net f)
  head_begins n f c = command-begins (is_reset_net f)

  begins_table : (b : Bool) → is_of_table (begins b) ≡ true
  begins_table true = refl
  begins_table false = refl

  begins_fresh : (b : Bool) → not (keeps_table (begins b)) ≡ true
  begins_fresh true = refl
  begins_fresh false = refl

  -- the lines of one table belong to tables
  inside_table : (n : ℕ) (f : FlatNet) (c : Cover) → IsTableNet nets ds f c → all_pass is_of_table (head_at n f c ∷ kept_at n f c) ≡ true
  inside_table n f c is =
      and_from (is_of_table (command_at (head_at n f c))) _ (ap is_of_table (head_begins n f c) ∙ begins_table (is_reset_net f)) (kept-of_table (kept_at n f c) (said_at n f c is).keep)

  -- ---- what they say

  -- lines of tables say the tables of nets, and the reset tables of reset nets, and their values have no fault
  pub record SayTables (Tables Resets : List FileTable → Type 0) (lines : List LexLine) : Type 0 where
    pub tables : Tables (tables_of ds lines)
    pub resets : Resets (resets_of ds lines)
    pub faults : tables_faults ds lines ≡ []
    pub fresh : is_fresh lines ≡ true
    pub inside : all_pass is_of_table lines ≡ true

  -- the table stands first among those that are looked for, if it is one of them
  first_or_not : (b : Bool) (f : FlatNet) (c : Cover) (t : FileTable) (ts : List FileTable) (Rest : List FileTable → Type 0) → IsTableOf nets f c t → Rest ts
      → TableOrNot nets f (kept_if b (Some c)) Rest (one_if b t ++ ts)
  first_or_not true f c t ts Rest is rest = (is, rest)
  first_or_not false f c t ts Rest is rest = rest

  -- one table of a net, or one reset table
  abbrev Tables : FlatNet → Option Cover → (List FileTable → Type 0) → List FileTable → Type 0
  Tables f t Rest = TableOrNot nets f (kept_if (is_other_net f) t) Rest

  abbrev Resets : FlatNet → Option Cover → (List FileTable → Type 0) → List FileTable → Type 0
  Resets f t Rest = TableOrNot nets f (kept_if (is_reset_net f) t) Rest

  one_table : (n : ℕ) (f : FlatNet) (c : Cover) (more : List LexLine) (T R : List FileTable → Type 0) → IsTableNet nets ds f c → SayTables T R more
      → SayTables (Tables f (Some c) T) (Resets f (Some c) R) (head_at n f c ∷ kept_at n f c ++ more)
  one_table n f c more T R is behind =
      let head = head_at n f c in
      let kept = kept_at n f c in
      let say = said_at n f c is in
      let table = table_of ds head kept in
      record {
        tables = subst (Tables f (Some c) T) (sym (tables-block more behind.fresh (is_reset_net f) ds head kept (head_begins n f c) say.keep)) (first_or_not (is_other_net f) f c table (tables_of ds more) T say.table behind.tables);
        resets = subst (Resets f (Some c) R) (sym (resets-block more behind.fresh (is_reset_net f) ds head kept (head_begins n f c) say.keep)) (first_or_not (is_reset_net f) f c table (resets_of ds more) R say.table behind.resets);
        faults = values-block more behind.fresh (is_reset_net f) ds head kept (head_begins n f c) say.keep ∙ rw (say.faults, behind.faults) refl;
        fresh = ap (λ k. not (keeps_table k)) (head_begins n f c) ∙ begins_fresh (is_reset_net f);
        inside = list_all-append (λ l. is_of_table (command_at l)) (head ∷ kept) more ∙ and_from _ _ (inside_table n f c is) behind.inside;
      }

  none_kept : (b : Bool) → kept_if b None ≡ None
  none_kept true = refl
  none_kept false = refl

  table_or_not : (n : ℕ) (f : FlatNet) (t : Option Cover) (rest : List (List (List ℕ))) (T R : List FileTable → Type 0) → CanTable f t
      → ((k : ℕ) → SayTables T R (lines_from k rest)) → SayTables (Tables f t T) (Resets f t R) (lines_from n (words_of f t ++ rest))
  table_or_not n f None rest T R can say = rw (none_kept (is_reset_net f), none_kept (is_other_net f)) (say n)
  table_or_not n f (Some c) rest T R can say =
      subst (λ (ls : List LexLine). SayTables (Tables f (Some c) T) (Resets f (Some c) R) ls) (sym (split n f c rest)) (one_table n f c (lines_from (end_of n f c) rest) T R (can c refl) (say (end_of n f c)))

  pub tables-said : (n : ℕ) (fs : List (Option FlatNet)) → EachNet (λ f. CanTable f f.table) fs
      → SayTables (AreTablesOf nets is_other_net fs) (AreTablesOf nets is_reset_net fs) (lines_from n (flat_map (net_words nets) fs))
  tables-said n [] each = record { tables = refl; resets = refl; faults = refl; fresh = refl; inside = refl }
  tables-said n (None ∷ fs) each = tables-said n fs each
  tables-said n (Some f ∷ fs) each =
      table_or_not n f f.table (flat_map (net_words nets) fs) (AreTablesOf nets is_other_net fs) (AreTablesOf nets is_reset_net fs) each.0 (λ k. tables-said k fs each.1)

  -- ---- that they have no fault

  -- wherever they stand in a model
  abbrev FineFrom : LexLine → List (List (List ℕ)) → Type 0
  FineFrom h words = (front : List LexLine) (n : ℕ) → list_all goes_on (h ∷ front) ≡ true → AreFine (h ∷ front) (lines_from n words)

  same_default : (values : List (List ℕ)) (default : Option ℕ) → one_default (option_map (entry_word values) default) ≡ default_words values default
  same_default values None = refl
  same_default values (Some set) = refl

  table_fine : (h : LexLine) (f : FlatNet) (c : Cover) → IsTableNet nets ds f c → FineFrom h (words_of f (Some c))
  table_fine h f c is front n goes =
      let values = spelled_values f.values f.value_names in
      let fanins = fanins_of (length nets) c in
      let names = fanin_names nets c in
      let rows = map (line_words nets values fanins) c.lines in
      subst (λ (d : List (List (List ℕ))). AreFine (h ∷ front) (lines_from n (table_lines (is_reset_net f) names (told_name (Some f)) d rows))) (same_default values c.default)
      (table-fine (is_reset_net f) h front n names (told_name (Some f)) (option_map (entry_word values) c.default) rows goes is.lawful is.own (are_rows nets ds (told_name (Some f)) f.values values is.output fanins c.lines is.fanins))

  goes_behind : (h : LexLine) (front : List LexLine) (n : ℕ) (f : FlatNet) (c : Cover) → IsTableNet nets ds f c → list_all goes_on (h ∷ front) ≡ true → list_all goes_on (h ∷ front ++ head_at n f c ∷ kept_at n f c) ≡ true
  goes_behind h front n f c is goes =
      list_all-append goes_on (h ∷ front) (head_at n f c ∷ kept_at n f c)
      ∙ and_from _ _ goes (inner-goes (head_at n f c ∷ kept_at n f c) (tables-inner (head_at n f c ∷ kept_at n f c) (inside_table n f c is)))

  fine_or_not : (h : LexLine) (f : FlatNet) (t : Option Cover) (rest : List (List (List ℕ))) → CanTable f t → FineFrom h rest → FineFrom h (words_of f t ++ rest)
  fine_or_not h f None rest can fine front n goes = fine front n goes
  fine_or_not h f (Some c) rest can fine front n goes =
      let block = head_at n f c ∷ kept_at n f c in
      let is = can c refl in
      subst (λ (ls : List LexLine). AreFine (h ∷ front) ls) (sym (split n f c rest))
      (AreFine-append (h ∷ front) block (lines_from (end_of n f c) rest) (table_fine h f c is front n goes) (fine (front ++ block) (end_of n f c) (goes_behind h front n f c is goes)))

  pub tables-fine : (h : LexLine) (fs : List (Option FlatNet)) → EachNet (λ f. CanTable f f.table) fs → FineFrom h (flat_map (net_words nets) fs)
  tables-fine h [] each front n goes = tt
  tables-fine h (None ∷ fs) each front n goes = tables-fine h fs each front n goes
  tables-fine h (Some f ∷ fs) each front n goes =
      fine_or_not h f f.table (flat_map (net_words nets) fs) each.0 (tables-fine h fs each.1) front n goes
