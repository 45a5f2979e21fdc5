-- A table over columns is one over their places, and what is made of it there is made of it over the columns.
use Rattle.std.proofs.Common.{◌≡◌, ℕ, ◌<◌, true, false, ◌||◌, nat_eq, List, [], ◌∷◌, length, map, refl, sym, ◌∙◌, ap, subst, arith, All}
use Rattle.std.specs.List.{list_any}
use Rattle.std.proofs.lemmas.List.{length-map}
use Rattle.std.proofs.lemmas.List.Elements.{All-nil, All-cons, All-head, All-tail}
use Rattle.std.proofs.lemmas.Simd.{map-map}
use Rattle.mv_base.specs.declared.number.NetId.{NetId}
use Rattle.mv_design.specs.declared.table.Entry.{Entry}
use Rattle.mv_design.specs.declared.table.Entry.TheVariants.{Set, Same}
use Rattle.mv_design.specs.declared.table.Row.{Row}
use Rattle.mv_design.specs.declared.table.FileTable.{FileTable}
use Rattle.mv_rows.specs.declared.column.Column.{Column}
use Rattle.mv_rows.specs.declared.table.FlatTable.{FlatTable}
use Rattle.mv_rows.specs.declared.stop.RowStop.{RowStop}
use Rattle.mv_rows.specs.declared.stop.RowStop.TheVariants.{Many, Memory}
use Rattle.mv_rows.specs.Cubes.{IsColumn, AreColumns, FitRow}
use Rattle.mv_rows.specs.Lines.{FitEntry}
use Rattle.mv_rows.specs.Flat.{only_entry, with_mark, IsRow, IsTable, IsMade}
use Rattle.mv_rows.specs.Many.{StopsAt}
use Rattle.mv_rows.specs.Marked.{is_marked}
use Rattle.mv_rows.proofs.Renumbered.{marked_alike}
use Rattle.mv_shapes.specs.declared.shape.Shape.{Shape}
use Rattle.mv_shapes.specs.Shape.{spread, net_at, column_over, flat_over, line_over, IsLowFlat, IsShape}
use Rattle.mv_shapes.proofs.Spread.{Rises, rises, eq-spread}
use Rattle.mv_shapes.proofs.Spreading.{counts_over, columns_marked, made_over}
use Rattle.mv_shapes.proofs.Low.{made_low}

-- ---- columns

each_placed : (nets : List NetId) (cs : List Column) → All IsColumn (map (column_over nets) cs) → All IsColumn cs
each_placed nets [] h = All-nil IsColumn
each_placed nets (c ∷ cs) h =
    let over = map (column_over nets) cs in
    let here = All-head IsColumn (column_over nets c) over h in
    All-cons IsColumn c cs (record { some = here.some; few = here.few }) (each_placed nets cs (All-tail IsColumn (column_over nets c) over h))

columns_placed : (nets : List NetId) (up : Rises 0 nets) (cs : List Column) → AreColumns (map (column_over nets) cs) → AreColumns cs
columns_placed nets up cs h = record {
  each = each_placed nets cs h.each;
  count = λ k. h.count (spread 0 nets k);
  counts = counts_over nets up h.count cs h.counts;
}

module _ (columns : List Column) (mark : NetId) (s : Shape) (is : IsShape columns mark s) where
  abbrev up : Rises 0 s.nets
  up = rises s.nets is.ascend

  abbrev places : List Column
  places = s.columns.items

  pub shape_columns : AreColumns columns → AreColumns places
  shape_columns h = columns_placed s.nets up places (subst AreColumns (sym is.columns_are) h)

  marked_is : map (column_over s.nets) (with_mark places s.mark) ≡ with_mark columns mark
  marked_is = columns_marked s.nets up places s.mark ∙ (λ i. with_mark (is.columns_are i) (is.mark_is i))

  pub shape_marked : AreColumns (with_mark columns mark) → AreColumns (with_mark places s.mark)
  shape_marked h = columns_placed s.nets up (with_mark places s.mark) (subst AreColumns (sym marked_is) h)

  -- ---- tables

  fit_placed : (cs : List Column) (sets : List ℕ) → FitRow (map (column_over s.nets) cs) sets → FitRow cs sets
  fit_placed [] [] h = tt
  fit_placed [] (_ ∷ _) h = absurd h
  fit_placed (_ ∷ _) [] h = absurd h
  fit_placed (c ∷ cs) (x ∷ xs) h = (h.0, fit_placed cs xs h.1)

  entry_placed : (cs : List Column) (e : Entry) → FitEntry (map (column_over s.nets) cs) e → FitEntry cs e
  entry_placed cs (Set _) h = tt
  entry_placed cs (Same k) h = let l = length-map cs (column_over s.nets) in let low : k < length (map (column_over s.nets) cs) = h in omega (arith, l, low)

  rows_placed : (cs : List Column) (rows : List Row) → All (IsRow (map (column_over s.nets) cs)) rows → All (IsRow cs) rows
  rows_placed cs [] h = All-nil (IsRow cs)
  rows_placed cs (r ∷ rows) h =
      let here = All-head (IsRow (map (column_over s.nets) cs)) r rows h in
      All-cons (IsRow cs) r rows
      (record { sets = fit_placed cs r.ins here.sets; single = here.single; entry = entry_placed cs (only_entry r.outs) here.entry })
      (rows_placed cs rows (All-tail (IsRow (map (column_over s.nets) cs)) r rows h))

  table_placed : (cs : List Column) (t : FileTable) → IsTable (map (column_over s.nets) cs) t → IsTable cs t
  table_placed cs t h = record {
    rows = rows_placed cs t.rows h.rows;
    default = λ es e. let d = h.default es e in record { single = d.single; entry = entry_placed cs (only_entry es) d.entry };
  }

  pub shape_table : (t : FileTable) → IsTable columns t → IsTable places t
  shape_table t h =
      let P : List Column → Type 0 = λ cs. IsTable cs t in
      table_placed places t (subst P (sym is.columns_are) h)

  -- ---- the mark, which no column is

  word_of : Column → List ℕ
  word_of c = c.net.0 ∷ c.count ∷ []

  of_word : List ℕ → Column
  of_word [] = record { net = record { 0 = 0 }; count = 0 }
  of_word (n ∷ []) = record { net = record { 0 = n }; count = 0 }
  of_word (n ∷ k ∷ ws) = record { net = record { 0 = n }; count = k }

  words_back : (cs : List Column) → map of_word (map word_of cs) ≡ cs
  unfolding word_of of_word
  words_back [] = refl
  words_back (c ∷ cs) = ap (λ (ds : List Column). c ∷ ds) (words_back cs)

  marked_placed : (cs : List Column) (t : FileTable) → is_marked cs t ≡ is_marked (map (column_over s.nets) cs) t
  marked_placed cs t =
      let f : List ℕ → Column = of_word in
      let g : List ℕ → Column = λ w. column_over s.nets (of_word w) in
      let ws = map word_of cs in
      let back : map g ws ≡ map (column_over s.nets) cs = sym (map-map (column_over s.nets) of_word ws) ∙ ap (map (column_over s.nets)) (words_back cs) in
      ap (λ ds. is_marked ds t) (sym (words_back cs))
      ∙ (marked_alike f g ws t (λ u h. refl) (λ u w h j. sym (eq-spread s.nets (of_word u).net.0 (of_word w).net.0 up)) ∙ ap (λ ds. is_marked ds t) back)

  pub shape_is_marked : (t : FileTable) → is_marked places t ≡ is_marked columns t
  shape_is_marked t = marked_placed places t ∙ ap (λ cs. is_marked cs t) is.columns_are

  apart_placed : (cs : List Column) (n : ℕ) → list_any (λ (c : Column). nat_eq c.net.0 (spread 0 s.nets n)) (map (column_over s.nets) cs) ≡ list_any (λ (c : Column). nat_eq c.net.0 n) cs
  apart_placed [] n = refl
  apart_placed (c ∷ cs) n =
      let here = eq-spread s.nets c.net.0 n up in
      let rest = apart_placed cs n in
      λ i. here i || rest i

  pub shape_unread : (t : FileTable) → (is_marked columns t ≡ true → list_any (λ (c : Column). nat_eq c.net.0 mark.0) columns ≡ false)
      → is_marked places t ≡ true → list_any (λ (c : Column). nat_eq c.net.0 s.mark.0) places ≡ false
  shape_unread t unread marked =
      let there : is_marked columns t ≡ true = sym (shape_is_marked t) ∙ marked in
      let over : list_any (λ (c : Column). nat_eq c.net.0 (spread 0 s.nets s.mark.0)) (map (column_over s.nets) places) ≡ list_any (λ (c : Column). nat_eq c.net.0 mark.0) columns =
      λ i. list_any (λ (c : Column). nat_eq c.net.0 (is.mark_is i).0) (is.columns_are i) in
      sym (apart_placed places s.mark.0) ∙ (over ∙ unread there)

  -- ---- covers

  pub shape_low : (t : FileTable) (flat : FlatTable) → AreColumns columns → AreColumns (with_mark columns mark) → IsMade places t s.mark flat → IsLowFlat (length s.nets) flat
  shape_low t flat plain marked made =
      made_low (length s.nets) places t s.mark flat (record { columns = shape_columns plain; with_mark = shape_marked marked; low = is.low; low_mark = is.low_mark }) made

  pub shape_made : (t : FileTable) (flat : FlatTable) → IsMade places t s.mark flat → IsMade columns t mark (flat_over s.nets flat)
  shape_made t flat made =
      let P : List Column → Type 0 = λ cs. IsMade cs t (net_at s.nets s.mark.0) (flat_over s.nets flat) in
      let Q : NetId → Type 0 = λ m. IsMade columns t m (flat_over s.nets flat) in
      subst Q is.mark_is (subst P is.columns_are (made_over s.nets up places t s.mark flat made))

  pub shape_stop : (t : FileTable) (most : ℕ) (stop : RowStop) → StopsAt places t s.mark most stop → StopsAt columns t mark most stop
  shape_stop t most Many h =
      let l = length-map h.flat.cover.lines (line_over s.nets) in
      let m = h.many in
      record { flat = flat_over s.nets h.flat; made = shape_made t h.flat h.made; many = omega (arith, l, m) }
  shape_stop t most Memory h = tt
