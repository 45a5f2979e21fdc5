-- What is so of a table over places of nets is so over the nets that stand there: its lines, and so its covers.
use Rattle.std.proofs.Common.{◌≡◌, ℕ, zero, suc, Bool, ◌&&◌, ◌||◌, not, nat_eq, nat_lt, if◌then◌else◌, filter, Option, Some, None, List, [], ◌∷◌, ◌++◌, map, inl, inr, refl, sym, ◌∙◌, ap, subst}
use Rattle.std.specs.List.{list_all, list_any}
use Rattle.std.specs.Option.{option_map}
use Rattle.std.proofs.lemmas.Bool.{cases_Bool}
use Rattle.std.proofs.lemmas.List.{length-map, map-append}
use Rattle.std.proofs.lemmas.List.Elements.{All-nil, All-cons, All-head, All-tail}
use Rattle.std.proofs.lemmas.List.Folds.{list_all-map}
use Rattle.mv_base.specs.Set.{empty, full, has, one}
use Rattle.mv_base.specs.declared.number.NetId.{NetId}
use Rattle.mv_cover.specs.Absorb.{firsts, some_bare}
use Rattle.mv_cover.specs.Cubes.{matches, nets_ascend, IsCube}
use Rattle.mv_cover.specs.Equal.{cube_eq, line_eq}
use Rattle.mv_cover.specs.Literal.{Lit}
use Rattle.mv_cover.specs.declared.line.Line.{Line}
use Rattle.mv_cover.specs.declared.cover.Cover.{Cover}
use Rattle.mv_design.specs.Tables.{row_matches}
use Rattle.mv_design.specs.declared.table.Entry.{Entry}
use Rattle.mv_design.specs.declared.table.Entry.TheVariants.{Set, Same}
use Rattle.mv_design.specs.declared.table.Row.{Row}
use Rattle.mv_design.specs.declared.table.FileTable.{FileTable}
use Rattle.mv_rows.specs.declared.column.Column.{Column}
use Rattle.mv_rows.specs.declared.table.FlatTable.{FlatTable}
use Rattle.mv_rows.specs.Cubes.{column_values, in_range, CountBy, AreParts, HasPoint, HasNoPoint, IsRowCube}
use Rattle.mv_rows.specs.Lines.{OneLine, EachValue, EntryLines, narrowed, count_at}
use Rattle.mv_rows.specs.Flat.{only_entry, RowsLines, has_output, kept, says_nothing, default_left, plain_default, mark_line, mark_cover, with_mark, marked_sets, unmarked, FlatBy, FlatOf, IsMade}
use Rattle.mv_shapes.specs.Shape.{spread, net_at, column_over, lit_over, line_over, cover_over, flat_over}
use Rattle.mv_shapes.proofs.Spread.{Rises, lt-spread, eq-spread, place_back, back-spread}

module _ (nets : List NetId) (up : Rises 0 nets) where
  -- values of nets, as values of the places where these stand
  abbrev at_places : (ℕ → ℕ) → ℕ → ℕ
  at_places at k = at (spread 0 nets k)

  -- ---- columns

  values_over : (at : ℕ → ℕ) (cs : List Column) → column_values at (map (column_over nets) cs) ≡ column_values (at_places at) cs
  values_over at [] = refl
  values_over at (c ∷ cs) = ap (λ vs. at_places at c.net.0 ∷ vs) (values_over at cs)

  range_over : (at : ℕ → ℕ) (cs : List Column) → in_range at (map (column_over nets) cs) ≡ in_range (at_places at) cs
  range_over at cs = list_all-map (λ (c : Column). nat_lt (at c.net.0) c.count) (column_over nets) cs

  row_over : (at : ℕ → ℕ) (sets : List ℕ) (cs : List Column)
      → row_matches sets (column_values at (map (column_over nets) cs)) ≡ row_matches sets (column_values (at_places at) cs)
  row_over at sets cs = ap (row_matches sets) (values_over at cs)

  pub counts_over : (count : ℕ → ℕ) (cs : List Column) → CountBy count (map (column_over nets) cs) → CountBy (at_places count) cs
  counts_over count [] h = All-nil _
  counts_over count (c ∷ cs) h =
      let P : Column → Type 0 = λ d. d.count ≡ count d.net.0 in
      All-cons (λ (d : Column). d.count ≡ at_places count d.net.0) c cs (All-head P (column_over nets c) (map (column_over nets) cs) h)
      (counts_over count cs (All-tail P (column_over nets c) (map (column_over nets) cs) h))

  pub count_over : (cs : List Column) (k : ℕ) → count_at (map (column_over nets) cs) k ≡ count_at cs k
  count_over [] k = refl
  count_over (c ∷ cs) zero = refl
  count_over (c ∷ cs) (suc k) = count_over cs k

  -- ---- cubes

  matches_over : (at : ℕ → ℕ) (cube : List Lit) → matches at (map (lit_over nets) cube) ≡ matches (at_places at) cube
  matches_over at [] = refl
  matches_over at (l ∷ ls) = ap (λ b. has l.set (at_places at l.net.0) && b) (matches_over at ls)

  ascend_over : (cube : List Lit) → nets_ascend (map (lit_over nets) cube) ≡ nets_ascend cube
  ascend_over [] = refl
  ascend_over (l ∷ []) = refl
  ascend_over (l ∷ m ∷ ls) =
      let first = lt-spread nets l.net.0 m.net.0 up in
      let rest = ascend_over (m ∷ ls) in
      λ i. first i && rest i

  possible_over : (cube : List Lit) → list_all (λ (l : Lit). not (nat_eq l.set empty)) (map (lit_over nets) cube) ≡ list_all (λ (l : Lit). not (nat_eq l.set empty)) cube
  possible_over [] = refl
  possible_over (l ∷ ls) = ap (λ b. not (nat_eq l.set empty) && b) (possible_over ls)

  pub cube_formed : (cube : List Lit) → IsCube cube → IsCube (map (lit_over nets) cube)
  cube_formed cube is = record { ascending = ascend_over cube ∙ is.ascending; possible = possible_over cube ∙ is.possible }

  parts_over : (count : ℕ → ℕ) (cube : List Lit) → AreParts (at_places count) cube → AreParts count (map (lit_over nets) cube)
  parts_over count [] h = tt
  parts_over count (l ∷ ls) h = (h.0, parts_over count ls h.1)

  point_over : (cs : List Column) (sets : List ℕ) → HasPoint cs sets → HasPoint (map (column_over nets) cs) sets
  point_over cs sets p =
      let at : ℕ → ℕ = λ n. p.at (place_back 0 nets n) in
      let same : at_places at ≡ p.at = λ i k. p.at (back-spread nets k up i) in
      record {
        at = at;
        range = range_over at cs ∙ (ap (λ f. in_range f cs) same ∙ p.range);
        there = row_over at sets cs ∙ (ap (λ f. row_matches sets (column_values f cs)) same ∙ p.there);
      }

  nowhere_over : (cs : List Column) (sets : List ℕ) → HasNoPoint cs sets → HasNoPoint (map (column_over nets) cs) sets
  nowhere_over cs sets n =
      record { nowhere = λ at range. row_over at sets cs ∙ n.nowhere (at_places at) (sym (range_over at cs) ∙ range) }

  row_cube_over : (cs : List Column) (sets : List ℕ) (cube : List Lit) → IsRowCube cs sets cube → IsRowCube (map (column_over nets) cs) sets (map (lit_over nets) cube)
  row_cube_over cs sets cube is = record {
    points = λ at range.
        matches_over at cube ∙ (is.points (at_places at) (sym (range_over at cs) ∙ range) ∙ sym (row_over at sets cs));
    point = point_over cs sets is.point;
    formed = cube_formed cube is.formed;
    parts = λ count by. parts_over count cube (is.parts (at_places count) (counts_over count cs by));
  }

  -- ---- lines

  one_over : (cs : List Column) (sets : List ℕ) (out : ℕ) (ls : List Line) → OneLine cs sets out ls → OneLine (map (column_over nets) cs) sets out (map (line_over nets) ls)
  one_over cs sets out [] h = nowhere_over cs sets h
  one_over cs sets out (l ∷ []) h = record { cube = row_cube_over cs sets l.cube h.cube; out_is = h.out_is }
  one_over cs sets out (_ ∷ _ ∷ _) h = absurd h

  joined_over : (ls before here : List Line) → ls ≡ before ++ here → map (line_over nets) ls ≡ map (line_over nets) before ++ map (line_over nets) here
  joined_over ls before here e = ap (map (line_over nets)) e ∙ map-append (line_over nets) before here

  each_over : (cs : List Column) (sets : List ℕ) (k n : ℕ) (ls : List Line) → EachValue cs sets k n ls → EachValue (map (column_over nets) cs) sets k n (map (line_over nets) ls)
  each_over cs sets k zero ls h = ap (map (line_over nets)) h
  each_over cs sets k (suc v) ls h = record {
    before = map (line_over nets) h.before;
    here = map (line_over nets) h.here;
    are_before = each_over cs sets k v h.before h.are_before;
    are_here = one_over cs (narrowed sets k v) (one v) h.here h.are_here;
    joined = joined_over ls h.before h.here h.joined;
  }

  pub entry_over : (cs : List Column) (sets : List ℕ) (e : Entry) (ls : List Line) → EntryLines cs sets e ls → EntryLines (map (column_over nets) cs) sets e (map (line_over nets) ls)
  entry_over cs sets (Set s) ls h = one_over cs sets s ls h
  entry_over cs sets (Same k) ls h =
      let P : ℕ → Type 0 = λ n. EachValue (map (column_over nets) cs) sets k n (map (line_over nets) ls) in
      subst P (sym (count_over cs k)) (each_over cs sets k (count_at cs k) ls h)

  rows_over : (cs : List Column) (rows : List Row) (ls : List Line) → RowsLines cs rows ls → RowsLines (map (column_over nets) cs) rows (map (line_over nets) ls)
  rows_over cs [] ls h = ap (map (line_over nets)) h
  rows_over cs (r ∷ rows) ls h = record {
    before = map (line_over nets) h.before;
    here = map (line_over nets) h.here;
    are_before = entry_over cs r.ins (only_entry r.outs) h.before h.are_before;
    are_here = rows_over cs rows h.here h.are_here;
    joined = joined_over ls h.before h.here h.joined;
  }

  -- ---- lines that are equal

  cube_same : (a b : List Lit) → cube_eq (map (lit_over nets) a) (map (lit_over nets) b) ≡ cube_eq a b
  cube_same [] [] = refl
  cube_same [] (m ∷ ms) = refl
  cube_same (l ∷ ls) [] = refl
  cube_same (l ∷ ls) (m ∷ ms) =
      let first = eq-spread nets l.net.0 m.net.0 up in
      let rest = cube_same ls ms in
      λ i. (first i && nat_eq l.set m.set) && rest i

  line_same : (a b : Line) → line_eq (line_over nets a) (line_over nets b) ≡ line_eq a b
  line_same a b = ap (λ x. x && nat_eq a.out b.out) (cube_same a.cube b.cube)

  -- a test that says the same of a line over places and over nets
  filter_over : (p q : Line → Bool) → ((l : Line) → p (line_over nets l) ≡ q l) → (ls : List Line) → filter p (map (line_over nets) ls) ≡ map (line_over nets) (filter q ls)
  filter_over p q same [] = refl
  filter_over p q same (l ∷ ls) =
      let rest = filter_over p q same ls in
      elim (cases_Bool (q l)) [
        | inl y ↦ rw (same l ∙ y) (rw y (ap (λ (ms : List Line). line_over nets l ∷ ms) rest))
        | inr n ↦ rw (same l ∙ n) (rw n rest)
      ]

  firsts_over : (ls : List Line) → firsts (map (line_over nets) ls) ≡ map (line_over nets) (firsts ls)
  firsts_over [] = refl
  firsts_over (l ∷ ls) =
      let p : Line → Bool = λ m. not (line_eq m (line_over nets l)) in
      let q : Line → Bool = λ m. not (line_eq m l) in
      ap (λ (ms : List Line). line_over nets l ∷ ms)
      (ap (filter p) (firsts_over ls) ∙ filter_over p q (λ m. ap not (line_same m l)) (firsts ls))

  pub kept_over : (ls : List Line) → kept (map (line_over nets) ls) ≡ map (line_over nets) (kept ls)
  kept_over ls = ap firsts (filter_over has_output has_output (λ l. refl) ls) ∙ firsts_over (filter has_output ls)

  -- ---- covers

  bare_over : (ls : List Line) → some_bare (map (line_over nets) ls) ≡ some_bare ls
  bare_over [] = refl
  bare_over (l ∷ ls) = let e = length-map l.cube (lit_over nets) in let rest = bare_over ls in λ i. nat_eq (e i) 0 || rest i

  silent_over : (ls : List Line) → list_any (λ (l : Line). nat_eq l.out empty) (map (line_over nets) ls) ≡ list_any (λ (l : Line). nat_eq l.out empty) ls
  silent_over [] = refl
  silent_over (l ∷ ls) = ap (λ b. nat_eq l.out empty || b) (silent_over ls)

  left_over : (d : Option (List Entry)) (ls : List Line) → default_left d (map (line_over nets) ls) ≡ default_left d ls
  left_over None ls = refl
  left_over (Some es) ls = ap (λ b. if says_nothing (only_entry es) || b then None else Some (only_entry es)) (bare_over ls)

  plain_over : (e : Entry) (ls : List Line) → plain_default e (map (line_over nets) ls) ≡ plain_default e ls
  plain_over (Set s) ls = ap (λ b. if b then None else Some s) (silent_over ls)
  plain_over (Same k) ls = refl

  marked_lines : (ls : List Line) → map mark_line (map (line_over nets) ls) ≡ map (line_over nets) (map mark_line ls)
  marked_lines [] = refl
  marked_lines (l ∷ ls) = ap (λ (ms : List Line). mark_line (line_over nets l) ∷ ms) (marked_lines ls)

  mark_over : (ls : List Line) → mark_cover (map (line_over nets) ls) ≡ cover_over nets (mark_cover ls)
  mark_over ls =
      let lines : firsts (map mark_line (map (line_over nets) ls)) ≡ map (line_over nets) (firsts (map mark_line ls)) =
      ap firsts (marked_lines ls) ∙ firsts_over (map mark_line ls) in
      λ i. record { lines = lines i; default = Some (one 1) }

  pub columns_marked : (cs : List Column) (mark : NetId) → map (column_over nets) (with_mark cs mark) ≡ with_mark (map (column_over nets) cs) (net_at nets mark.0)
  columns_marked cs mark = map-append (column_over nets) cs _

  sets_marked : (cs : List Column) → marked_sets (map (column_over nets) cs) ≡ marked_sets cs
  sets_marked [] = refl
  sets_marked (c ∷ cs) = ap (λ (ss : List ℕ). full c.count ∷ ss) (sets_marked cs)

  unmarked_over : (ls : List Line) (d : Option ℕ) → unmarked (map (line_over nets) ls) d ≡ flat_over nets (unmarked ls d)
  unmarked_over ls d =
      let lines = kept_over ls in
      λ i. record { cover = record { lines = lines i; default = d }; mark = None }

  by_over : (cs : List Column) (mark : NetId) (ls : List Line) (e : Entry) (o : Option ℕ) (flat : FlatTable) → FlatBy cs mark ls e o flat
      → FlatBy (map (column_over nets) cs) (net_at nets mark.0) (map (line_over nets) ls) e o (flat_over nets flat)
  by_over cs mark ls e None flat h =
      let added = map (line_over nets) h.added in
      let P : List Column → Type 0 = λ ds. EntryLines ds (marked_sets cs) e added in
      let Q : List ℕ → Type 0 = λ ss. EntryLines (with_mark (map (column_over nets) cs) (net_at nets mark.0)) ss e added in
      let lines : map (line_over nets) (kept (ls ++ h.added)) ≡ kept (map (line_over nets) ls ++ added) =
      sym (kept_over (ls ++ h.added)) ∙ ap kept (map-append (line_over nets) ls h.added) in
      let cover : List Line → Cover = λ ms. record { lines = ms; default = None } in
      record {
        added = added;
        are = subst Q (sym (sets_marked cs)) (subst P (columns_marked cs mark) (entry_over (with_mark cs mark) (marked_sets cs) e h.added h.are));
        cover_is = ap (cover_over nets) h.cover_is ∙ ap cover lines;
        mark_is = ap (option_map (cover_over nets)) h.mark_is ∙ ap (λ (c : Cover). Some c) (sym (mark_over ls));
      }
  by_over cs mark ls e (Some s) flat h = ap (flat_over nets) h ∙ sym (unmarked_over ls (Some s))

  of_over : (cs : List Column) (mark : NetId) (ls : List Line) (o : Option Entry) (flat : FlatTable) → FlatOf cs mark ls o flat
      → FlatOf (map (column_over nets) cs) (net_at nets mark.0) (map (line_over nets) ls) o (flat_over nets flat)
  of_over cs mark ls None flat h = ap (flat_over nets) h ∙ sym (unmarked_over ls None)
  of_over cs mark ls (Some e) flat h =
      let P : Option ℕ → Type 0 = λ o. FlatBy (map (column_over nets) cs) (net_at nets mark.0) (map (line_over nets) ls) e o (flat_over nets flat) in
      subst P (sym (plain_over e ls)) (by_over cs mark ls e (plain_default e ls) flat h)

  -- the covers of a table over places are its covers over the nets there
  pub made_over : (cs : List Column) (t : FileTable) (mark : NetId) (flat : FlatTable) → IsMade cs t mark flat
      → IsMade (map (column_over nets) cs) t (net_at nets mark.0) (flat_over nets flat)
  made_over cs t mark flat made =
      let P : Option Entry → Type 0 = λ o. FlatOf (map (column_over nets) cs) (net_at nets mark.0) (map (line_over nets) made.lines) o (flat_over nets flat) in
      record {
        lines = map (line_over nets) made.lines;
        are = rows_over cs t.rows made.lines made.are;
        covers = subst P (sym (left_over t.default made.lines)) (of_over cs mark made.lines (default_left t.default made.lines) flat made.covers);
      }
