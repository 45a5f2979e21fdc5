-- The lines of a table and of a latch within a model: they have no fault but limits.
use Rattle.std.proofs.Common.{◌≡◌, ◌∙◌, ℕ, ◌+◌, ◌<◌, ◌≤◌, Bool, true, false, not, ◌==◌, List, [], ◌∷◌, ◌++◌, length, length-append, map, codes, Option, Some, None, ◌⊎◌, inl, inr, ⊎_elim, refl, sym, ap, subst, arith}
use Rattle.std.specs.Prelude.{nat_le, option_map, unwrap_or}
use Rattle.std.specs.List.{list_all, list_any}
use Rattle.std.proofs.lemmas.Bool.{cond_both, cond-false, and_parts, and_from, ne_eqb, eq-eqb}
use Rattle.std.proofs.lemmas.List.{length-map}
use Rattle.std.proofs.lemmas.List.Folds.{list_all-append, list_all-map}
use Rattle.mv_base.specs.Names.{is_net_name}
use Rattle.mv_base.specs.declared.limits.TheConstants.{MAX_COLUMNS, MAX_TABLE_LINES}
use Rattle.mv_base.proofs.Lists.{everywhere}
use Rattle.mv_cover.specs.Literal.{Lit}
use Rattle.mv_cover.specs.declared.line.Line.{Line}
use Rattle.mv_cover.specs.declared.cover.Cover.{Cover}
use Rattle.mv_cover.specs.Covers.{default_gives}
use Rattle.mv_fault.specs.declared.fault.ParseFault.{ParseFault}
use Rattle.mv_fault.specs.declared.fault.ParseFault.TheVariants.{Limit, BadName}
use Rattle.mv_fault.specs.declared.fault.Which.TheVariants.{Columns as ManyColumns, TableLines}
use Rattle.mv_fault.specs.Tells.{when}
use Rattle.mv_fault.proofs.Firsts.{append-nothing}
use Rattle.mv_lex.specs.declared.lines.LexLine.{LexLine}
use Rattle.mv_lines_back.specs.TextWords.{lines_from}
use Rattle.mv_table.specs.Columns.{names_faults}
use Rattle.mv_chosen.specs.Binary.{lacks_one, lines_for}
use Rattle.mv_blif_line.specs.declared.command.Command.TheVariants.{Names, Row}
use Rattle.mv_blif_line.specs.declared.fault.BlifFault.{BlifFault}
use Rattle.mv_blif_line.specs.declared.fault.BlifFault.TheVariants.{Line as OfLine}
use Rattle.mv_blif_line.specs.declared.row.OpenTable.{OpenTable}
use Rattle.mv_blif_line.specs.Commands.{command_at}
use Rattle.mv_blif_line.specs.Faults.{shared}
use Rattle.mv_blif_line.specs.Heads.{columns_faults}
use Rattle.mv_blif_line.specs.Rows.{words_wanted, is_plane_byte, is_output, plane_of, output_of, value_of as said_value, mixed_faults, output_faults, row_faults, new_table, row_seen}
use Rattle.mv_blif.specs.declared.known.Known.{Known}
use Rattle.mv_blif.specs.Known.{known}
use Rattle.mv_blif.specs.Grammar.{row_line_faults}
use Rattle.mv_blif_text.specs.BlifText.{plane_byte, row_words, picks, value_of, digit_of, rows_words, zeros_words, choice_words}
use Rattle.mv_blif_back.proofs.Planes.{plane-byte, output-said, plane-said, digit-value}
use Rattle.mv_blif_back.proofs.Choice.{made}
use Rattle.mv_blif_back.proofs.Commands.{command-names, command-row}
use Rattle.mv_blif_back.proofs.Walks.{IsIn, pushed, stays-names, stays-row, Walks, walks-none, walks-one, walks-append, WalksFrom}

-- the rows of a choice are those of some lines, for one value
pub record IsRows (fanins : List ℕ) (rows : List (List (List ℕ))) : Type 0 where
  pub value : Bool
  pub lines : List Line
  pub are : rows ≡ map (made fanins value) lines

pub choice-rows : (fanins : List ℕ) (c : Cover) → IsRows fanins (choice_words fanins c)
choice-rows fanins c =
    let P : List (List (List ℕ)) → Type 0 = IsRows fanins in
    cond_both (default_gives c.default 1) (zeros_words fanins c.lines) (rows_words fanins true c.lines) P
    (λ y. cond_both (list_any lacks_one c.lines) (rows_words fanins false c.lines) (row_words fanins 49 [] ∷ []) P
    (λ z. record { value = false; lines = lines_for (picks false) 0 c.lines; are = refl })
    (λ z. record { value = true; lines = record { cube = []; out = 0 } ∷ []; are = refl }))
    (λ n. record { value = true; lines = lines_for (picks true) 1 c.lines; are = refl })

when_none : (t : Bool) (f : BlifFault) → t ≡ true → when (not t) f ≡ []
when_none true f e = refl
when_none false f e = cc

-- columns and rows up to these numbers pass the limits
pub record PassLimits (p : BlifFault → Bool) (columns rows : ℕ) : Type 0 where
  pub column : (n k : ℕ) → k < columns → list_all p (when (nat_le MAX_COLUMNS k) (OfLine (Limit n ManyColumns (MAX_COLUMNS + 1)))) ≡ true
  pub row : (n k : ℕ) → k < rows → list_all p (when (nat_le MAX_TABLE_LINES k) (OfLine (Limit n TableLines (MAX_TABLE_LINES + 1)))) ≡ true

module _ (p : BlifFault → Bool) where
  passes_both : (a b : List BlifFault) → list_all p a ≡ true → list_all p b ≡ true → list_all p (a ++ b) ≡ true
  passes_both a b h i = list_all-append p a b ∙ and_from (list_all p a) (list_all p b) h i

  passes_nothing : (a : List BlifFault) → a ≡ [] → list_all p a ≡ true
  passes_nothing a e = ap (list_all p) e

  -- ---- the first line

  column_pass : (t good : Bool) (many bad : ParseFault) (rest : List ParseFault) → good ≡ true → list_all p (when t (OfLine many)) ≡ true → list_all p (shared rest) ≡ true
      → list_all p (shared ((when t many ++ when (not good) bad) ++ rest)) ≡ true
  column_pass true true many bad rest e h r = and_from (p (OfLine many)) _ (and_parts (p (OfLine many)) true h).0 r
  column_pass false true many bad rest e h r = r
  column_pass true false many bad rest e h r = cc
  column_pass false false many bad rest e h r = cc

  names_pass : (columns rows n at : ℕ) (ws : List (List ℕ)) → PassLimits p columns rows → list_all is_net_name ws ≡ true → at + length ws ≤ columns → list_all p (shared (names_faults n at ws)) ≡ true
  names_pass columns rows n at [] limits lawful few = refl
  names_pass columns rows n at (w ∷ ws) limits lawful few =
      let both = and_parts (is_net_name w) (list_all is_net_name ws) lawful in
      column_pass (nat_le MAX_COLUMNS at) (is_net_name w) (Limit n ManyColumns (MAX_COLUMNS + 1)) (BadName n w) (names_faults n (at + 1) ws) both.0 (limits.column n at (omega (arith, few)))
      (names_pass columns rows n (at + 1) ws limits both.1 (omega (arith, few)))

  columns_pass : (columns rows n : ℕ) (word : List ℕ) (names : List (List ℕ)) (name : List ℕ) → PassLimits p columns rows → list_all is_net_name (names ++ name ∷ []) ≡ true → length names < columns
      → list_all p (columns_faults n word (names ++ name ∷ [])) ≡ true
  unfolding columns_faults
  columns_pass columns rows n word names name limits lawful few =
      let long : length (names ++ name ∷ []) ≡ length names + 1 = length-append names (name ∷ []) in
      passes_both _ _ (names_pass columns rows n 0 (names ++ name ∷ []) limits lawful (omega (arith, few, long)))
      (passes_nothing _ (cond-false (length (names ++ name ∷ []) == 0) _ _ (ne_eqb _ 0 (λ z. omega (arith, z, long)))))

  -- ---- a row

  wanted : (fanins : List ℕ) (digit : ℕ) (cube : List Lit) → (length (row_words fanins digit cube) == words_wanted (length fanins)) ≡ true
  wanted [] digit cube = refl
  wanted (m ∷ ms) digit cube = eq-eqb _ _ (sym (cond-false (length (m ∷ ms) == 0) 1 2 (ne_eqb (length (m ∷ ms)) 0 (λ z. omega (arith, z)))))

  digit_output : (b : Bool) → is_output (digit_of b ∷ []) ≡ true
  digit_output true = refl
  digit_output false = refl

  abbrev FirstIs : Bool → Option ℕ → Type 0
  FirstIs b o = (o ≡ None) ⊎ (o ≡ Some (value_of b))

  mixed_none : (n : ℕ) (b : Bool) (o : Option ℕ) (v : ℕ) → v ≡ value_of b → FirstIs b o → mixed_faults n o v ≡ []
  mixed_none n b o v e first =
      ⊎_elim
      (λ (none : o ≡ None). ap (λ x. mixed_faults n x v) none)
      (λ (some : o ≡ Some (value_of b)). ap (λ x. mixed_faults n x v) some ∙ when_none (v == value_of b) _ (eq-eqb v (value_of b) e))
      first

  row_pass : (columns rows n : ℕ) (t : OpenTable) (fanins : List ℕ) (b : Bool) (l : Line) → PassLimits p columns rows → t.ins ≡ length fanins → FirstIs b t.first → t.rows < rows
      → list_all p (row_faults n t (made fanins b l)) ≡ true
  unfolding row_faults output_faults
  row_pass columns rows n t fanins b l limits ins first few =
      let words = made fanins b l in
      let digit = digit_of b in
      let out : output_of words ≡ digit ∷ [] = output-said fanins digit l.cube in
      let plane : plane_of words ≡ map (plane_byte l.cube) fanins = plane-said fanins digit l.cube in
      let long : (length words == words_wanted t.ins) ≡ true = ap (λ k. length words == words_wanted k) ins ∙ wanted fanins digit l.cube in
      let size : (length (plane_of words) == t.ins) ≡ true = eq-eqb _ _ (ap length plane ∙ (length-map fanins (plane_byte l.cube) ∙ sym ins)) in
      let bytes : list_all is_plane_byte (plane_of words) ≡ true = ap (list_all is_plane_byte) plane ∙ (list_all-map is_plane_byte (plane_byte l.cube) fanins ∙ everywhere (λ m. is_plane_byte (plane_byte l.cube m)) (plane-byte l.cube) fanins) in
      let output : is_output (output_of words) ≡ true = ap is_output out ∙ digit_output b in
      let value : said_value (output_of words) ≡ value_of b = ap said_value out ∙ digit-value b in
      passes_both _ _
      (passes_both _ _ (passes_both _ _ (limits.row n t.rows few) (passes_nothing _ (when_none _ _ long))) (passes_nothing _ (append-nothing _ _ (when_none _ _ size) (when_none _ _ bytes))))
      (passes_nothing _ (append-nothing _ _ (when_none _ _ output) (mixed_none n b t.first (said_value (output_of words)) value first)))

  -- ---- a table

  module _ (ins : List (List ℕ)) where
    rows_walk : (columns rows n : ℕ) (before : List LexLine) (t : OpenTable) (fanins : List ℕ) (b : Bool) (ls : List Line) → PassLimits p columns rows → IsIn ins (known before) → (known before).table ≡ Some t
        → t.ins ≡ length fanins → FirstIs b t.first → t.rows + length ls ≤ rows → Walks p ins before (lines_from n (map (made fanins b) ls))
    rows_walk columns rows n before t fanins b [] limits is table same first few = walks-none p ins before is
    rows_walk columns rows n before t fanins b (l ∷ ls) limits is table same first few =
        let x : LexLine = record { number = n; words = made fanins b l } in
        let at : command_at x ≡ Row = command-row fanins b l.cube in
        let pass : list_all p (row_line_faults (known before).table x) ≡ true = ap (λ o. list_all p (row_line_faults o x)) table ∙ row_pass columns rows n t fanins b l limits same first (omega (arith, few)) in
        let one = walks-one p ins Row before x is at refl stays-row pass refl in
        let next : (known (before ++ x ∷ [])).table ≡ Some (row_seen x.words t) = ap (λ (k : Known). k.table) (pushed Row before x at) ∙ ap (option_map (row_seen x.words)) table in
        let value : said_value (output_of x.words) ≡ value_of b = ap said_value (output-said fanins (digit_of b) l.cube) ∙ digit-value b in
        let seen : (row_seen x.words t).first ≡ Some (value_of b)
        = ⊎_elim
        (λ (none : t.first ≡ None). ap (λ o. Some (unwrap_or o (said_value (output_of x.words)))) none ∙ ap Some value)
        (λ (some : t.first ≡ Some (value_of b)). ap (λ o. Some (unwrap_or o (said_value (output_of x.words)))) some)
        first in
        walks-append p ins before (x ∷ []) _ one
        (rows_walk columns rows (n + 1) (before ++ x ∷ []) (row_seen x.words t) fanins b ls limits one.after next same (inr seen) (omega (arith, few)))

    -- a table's first line, with the rows of a choice behind it
    pub gate-walk : (columns rows : ℕ) (fanins : List ℕ) (names : List (List ℕ)) (name : List ℕ) (said : List (List (List ℕ))) → PassLimits p columns rows → IsRows fanins said → length names ≡ length fanins
        → list_all is_net_name (names ++ name ∷ []) ≡ true → length fanins < columns → length said ≤ rows → WalksFrom p ins ((codes ".names" ∷ names ++ name ∷ []) ∷ said)
    gate-walk columns rows fanins names name said limits is_rows same lawful narrow short before n is =
        let x : LexLine = record { number = n; words = codes ".names" ∷ names ++ name ∷ [] } in
        let t : OpenTable = new_table (names ++ name ∷ []) in
        let one = walks-one p ins Names before x is command-names refl stays-names (columns_pass columns rows n (codes ".names") names name limits lawful (omega (arith, narrow, same))) refl in
        let opens : (known (before ++ x ∷ [])).table ≡ Some t = ap (λ (k : Known). k.table) (pushed Names before x command-names) in
        let wide : t.ins ≡ length fanins = let long : length (names ++ name ∷ []) ≡ length names + 1 = length-append names (name ∷ []) in omega (arith, long, same) in
        let count : length said ≡ length is_rows.lines = ap length is_rows.are ∙ length-map is_rows.lines (made fanins is_rows.value) in
        let P : List (List (List ℕ)) → Type 0 = λ rs. Walks p ins (before ++ x ∷ []) (lines_from (n + 1) rs) in
        walks-append p ins before (x ∷ []) _ one
        (subst P (sym is_rows.are) (rows_walk columns rows (n + 1) (before ++ x ∷ []) t fanins is_rows.value is_rows.lines limits one.after opens wide (inl refl) (omega (arith, short, count))))
