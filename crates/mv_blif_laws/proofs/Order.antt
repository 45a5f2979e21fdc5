-- The tables, latches and reset tables of lines whose numbers ascend stand by ascending line, each kind for itself, and no two of
-- them have one line, but that a reset table has that of its own latch.
use Rattle.std.proofs.Common.{◌≡◌, ◌∙◌, ℕ, ◌<◌, true, false, List, [], ◌∷◌, ◌++◌, refl, sym, subst}
use Rattle.std.specs.Prelude.{All, nat_eq, nat_lt}
use Rattle.std.specs.List.{list_any}
use Rattle.std.proofs.lemmas.Bool.{false≢true, and_from, or_parts, cond_both, not_from_false, eq-eqb}
use Rattle.std.proofs.lemmas.List.Elements.{All-nil, All-cons, All-head, All-tail}
use Rattle.mv_lex.specs.declared.lines.LexLine.{LexLine}
use Rattle.mv_design.specs.declared.design.FileLatch.{FileLatch}
use Rattle.mv_design.specs.declared.table.FileTable.{FileTable}
use Rattle.mv_design.specs.Proper.{numbers_ascend, none_in_both, table_lines, latch_lines, SharesOwnOnly, StandsByLine}
use Rattle.mv_parse_laws.specs.Lines.{numbers_of}
use Rattle.mv_parse_laws.proofs.Ascending.{first-below, ascend-tail, ascend-cons, ascend-lower, none-behind, none-first}
use Rattle.mv_parse_laws.proofs.Order.{one-shares}
use Rattle.mv_line.specs.Latches.{latch_of}
use Rattle.mv_blif_line.specs.declared.command.Command.{Command}
use Rattle.mv_blif_line.specs.declared.command.Command.TheVariants.{Model, Names, Latch}
use Rattle.mv_blif_line.specs.Commands.{command_at}
use Rattle.mv_blif_line.specs.Latches.{settings_at, constant_reset, resets_at}
use Rattle.mv_blif_line.specs.Tables.{table_of}
use Rattle.mv_blif.specs.Meaning.{tables_at, tables_of, at_latch, latches_of, resets_of, front_rows, blif_model}

-- ---- reset tables and latches

-- none of these reset tables has the line of this latch
share-more : (h : FileLatch) (hs : List FileLatch) (rs : List FileTable) → list_any (nat_eq h.line) (table_lines rs) ≡ false
    → All (λ reset. All (SharesOwnOnly reset) hs) rs → All (λ reset. All (SharesOwnOnly reset) (h ∷ hs)) rs
share-more h hs [] none all = All-nil (λ reset. All (SharesOwnOnly reset) (h ∷ hs))
share-more h hs (r ∷ rs) none all =
    let p = or_parts (nat_eq h.line r.line) (list_any (nat_eq h.line) (table_lines rs)) none in
    let apart : SharesOwnOnly r h = record { own = λ e. absurd (false≢true (sym p.0 ∙ eq-eqb h.line r.line (sym e))) } in
    All-cons (λ reset. All (SharesOwnOnly reset) (h ∷ hs)) r rs
    (All-cons (SharesOwnOnly r) h hs apart (All-head (λ reset. All (SharesOwnOnly reset) hs) r rs all))
    (share-more h hs rs p.1 (All-tail (λ reset. All (SharesOwnOnly reset) hs) r rs all))

-- ---- tables, latches and reset tables behind a line

-- all stand behind this line, and in order
record AreBehind (low : ℕ) (ts : List FileTable) (hs : List FileLatch) (rs : List FileTable) : Type 0 where
  tables : numbers_ascend (low ∷ table_lines ts) ≡ true
  latches : numbers_ascend (low ∷ latch_lines hs) ≡ true
  resets : numbers_ascend (low ∷ table_lines rs) ≡ true
  latches_tables : none_in_both (latch_lines hs) (table_lines ts) ≡ true
  resets_tables : none_in_both (table_lines rs) (table_lines ts) ≡ true
  shares : All (λ reset. All (SharesOwnOnly reset) hs) rs

module _ (low : ℕ) (l : LexLine) (ts : List FileTable) (hs : List FileLatch) (rs : List FileTable) (above : low < l.number) (b : AreBehind l.number ts hs rs) where
  -- the line says nothing of these
  still : AreBehind low ts hs rs
  still = record {
    tables = ascend-lower low l.number (table_lines ts) above b.tables;
    latches = ascend-lower low l.number (latch_lines hs) above b.latches;
    resets = ascend-lower low l.number (table_lines rs) above b.resets;
    latches_tables = b.latches_tables;
    resets_tables = b.resets_tables;
    shares = b.shares;
  }

  -- a table of this line
  with_table : (t : FileTable) → t.line ≡ l.number → AreBehind low (t ∷ ts) hs rs
  with_table t is = record {
    tables = subst (λ (n : ℕ). numbers_ascend (low ∷ n ∷ table_lines ts) ≡ true) (sym is) (ascend-cons low l.number (table_lines ts) above b.tables);
    latches = ascend-lower low l.number (latch_lines hs) above b.latches;
    resets = ascend-lower low l.number (table_lines rs) above b.resets;
    latches_tables = subst (λ (n : ℕ). none_in_both (latch_lines hs) (n ∷ table_lines ts) ≡ true) (sym is) (none-first l.number (latch_lines hs) (table_lines ts) b.latches b.latches_tables);
    resets_tables = subst (λ (n : ℕ). none_in_both (table_lines rs) (n ∷ table_lines ts) ≡ true) (sym is) (none-first l.number (table_lines rs) (table_lines ts) b.resets b.resets_tables);
    shares = b.shares;
  }

  -- no table has the line
  no_table : (others : List ℕ) → none_in_both others (table_lines ts) ≡ true → none_in_both (l.number ∷ others) (table_lines ts) ≡ true
  no_table others none = and_from _ _ (not_from_false _ (none-behind l.number (table_lines ts) b.tables)) none

  -- a latch of this line
  with_latch : AreBehind low ts (latch_of l ∷ hs) rs
  with_latch = record {
    tables = ascend-lower low l.number (table_lines ts) above b.tables;
    latches = ascend-cons low l.number (latch_lines hs) above b.latches;
    resets = ascend-lower low l.number (table_lines rs) above b.resets;
    latches_tables = no_table (latch_lines hs) b.latches_tables;
    resets_tables = b.resets_tables;
    shares = share-more (latch_of l) hs rs (none-behind l.number (table_lines rs) b.resets) b.shares;
  }

  -- and its reset table
  with_reset : (value : ℕ) → AreBehind low ts (latch_of l ∷ hs) (constant_reset l.number (latch_of l).output value ∷ rs)
  with_reset value =
      let reset : FileTable = constant_reset l.number (latch_of l).output value in
      let own : SharesOwnOnly reset (latch_of l) = record { own = λ e. refl } in
      record {
        tables = with_latch.tables;
        latches = with_latch.latches;
        resets = ascend-cons low l.number (table_lines rs) above b.resets;
        latches_tables = with_latch.latches_tables;
        resets_tables = no_table (table_lines rs) b.resets_tables;
        shares =
            All-cons (λ r. All (SharesOwnOnly r) (latch_of l ∷ hs)) reset rs
            (All-cons (SharesOwnOnly reset) (latch_of l) hs own (one-shares reset hs (none-behind l.number (latch_lines hs) b.latches)))
            with_latch.shares;
      }

  with_resets : AreBehind low ts (latch_of l ∷ hs) (resets_at l ++ rs)
  unfolding resets_at
  with_resets =
      let value : ℕ = (settings_at l).init in
      cond_both (nat_lt value 2) (constant_reset l.number (latch_of l).output value ∷ []) [] (λ new. AreBehind low ts (latch_of l ∷ hs) (new ++ rs))
      (λ y. with_reset value) (λ n. with_latch)

-- ---- all lines

line-behind : (c : Command) (low : ℕ) (l : LexLine) (ls : List LexLine) (ts : List FileTable) (hs : List FileLatch) (rs : List FileTable) → low < l.number → AreBehind l.number ts hs rs
    → AreBehind low (tables_at c l ls ++ ts) (at_latch (λ x. latch_of x ∷ []) c l ++ hs) (at_latch resets_at c l ++ rs)
unfolding table_of
line-behind Names low l ls ts hs rs above b = with_table low l ts hs rs above b (table_of l (front_rows ls)) refl
line-behind Latch low l ls ts hs rs above b = with_resets low l ts hs rs above b
line-behind _ low l ls ts hs rs above b = still low l ts hs rs above b

all-behind : (low : ℕ) (ls : List LexLine) → numbers_ascend (low ∷ numbers_of ls) ≡ true → AreBehind low (tables_of ls) (latches_of ls) (resets_of ls)
all-behind low [] up = record {
  tables = refl;
  latches = refl;
  resets = refl;
  latches_tables = refl;
  resets_tables = refl;
  shares = All-nil (λ reset. All (SharesOwnOnly reset) []);
}
all-behind low (l ∷ ls) up =
    line-behind (command_at l) low l ls (tables_of ls) (latches_of ls) (resets_of ls) (first-below low l.number (numbers_of ls) up)
    (all-behind l.number ls (ascend-tail low (l.number ∷ numbers_of ls) up))

none-in-none : (ns : List ℕ) → none_in_both ns [] ≡ true
none-in-none [] = refl
none-in-none (n ∷ ns) = none-in-none ns

pub stands : (l : LexLine) (ls : List LexLine) → command_at l ≡ Model → numbers_ascend (numbers_of (l ∷ ls)) ≡ true → StandsByLine (blif_model (l ∷ ls))
stands l ls begins up =
    let b = all-behind l.number ls up in
    rw begins
    (record {
      tables = ascend-tail l.number (table_lines (tables_of ls)) b.tables;
      latches = ascend-tail l.number (latch_lines (latches_of ls)) b.latches;
      resets = ascend-tail l.number (table_lines (resets_of ls)) b.resets;
      instances = refl;
      latches_tables = b.latches_tables;
      resets_tables = b.resets_tables;
      instances_tables = refl;
      latches_instances = none-in-none (latch_lines (latches_of ls));
      resets_instances = none-in-none (table_lines (resets_of ls));
      resets_latches = b.shares;
    })
