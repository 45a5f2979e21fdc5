-- The covers of a table mean what the table means.
use Rattle.std.proofs.Common.{◌≡◌, ℕ, ◌<◌, ◌≤◌, Bool, true, false, not, ◌&&◌, ◌||◌, nat_eq, cond, Option, Some, None, List, [], ◌∷◌, ◌++◌, filter, length, get_or, map, refl, sym, ◌∙◌, ap, subst, arith, inl, inr, All}
use Rattle.std.specs.Prelude.{nat_lt}
use Rattle.std.specs.List.{list_any}
use Rattle.std.proofs.Math.Bool.{and-true, and-false, or-false}
use Rattle.std.proofs.lemmas.Bool.{cases_Bool, false≢true, and_parts, and_from, or_cases, or_parts, eqb-false, eq-eqb, lt-ltb}
use Rattle.std.proofs.lemmas.List.{map-append, get_or_append_left, length-append}
use Rattle.std.proofs.lemmas.List.Elements.{All-nil, All-cons, All-head, All-tail, All-append, All-weaker, All-map}
use Rattle.std.proofs.lemmas.List.Folds.{list_all-append}
use Rattle.std.proofs.lemmas.Option.{same_Some}
use Rattle.mv_base.specs.Set.{has, empty, one, full, Within}
use Rattle.mv_base.specs.declared.number.NetId.{NetId}
use Rattle.mv_base.proofs.Sets.{has-empty, has-one, has-full}
use Rattle.mv_cover.specs.Covers.{some_gives, some_matches, default_gives, allowed}
use Rattle.mv_cover.specs.Lines.{IsOutput}
use Rattle.mv_cover.specs.Absorb.{some_bare}
use Rattle.mv_cover.specs.declared.line.Line.{Line}
use Rattle.mv_cover.specs.declared.cover.Cover.{Cover}
use Rattle.mv_cover.proofs.Covering.{same_number}
use Rattle.mv_cover.proofs.Absorbing.{bare-matches, all-firsts}
use Rattle.mv_cover.proofs.Points.{some_matches-append, some_gives-append}
use Rattle.mv_design.specs.declared.table.Entry.{Entry}
use Rattle.mv_design.specs.declared.table.Entry.TheVariants.{Set, Same}
use Rattle.mv_design.specs.declared.table.Row.{Row}
use Rattle.mv_design.specs.declared.table.FileTable.{FileTable}
use Rattle.mv_rows.specs.declared.column.Column.{Column}
use Rattle.mv_rows.specs.declared.table.FlatTable.{FlatTable}
use Rattle.mv_design.specs.Tables.{row_matches, row_holds, entry_holds, entries_hold, some_row_holds, some_row_matches, default_holds, table_allows}
use Rattle.mv_rows.specs.Cubes.{column_values, in_range, CountBy}
use Rattle.mv_rows.specs.Lines.{FitEntry}
use Rattle.mv_rows.specs.Flat.{only_entry, IsRow, IsTable, RowsLines, has_output, kept, says_nothing, default_left, plain_default, mark_line, mark_cover, with_mark, marked_sets, unmarked, IsMarked, FlatBy, FlatOf, IsMade}
use Rattle.mv_rows.specs.Covers.{IsTableLine, IsTableCover, FitOutput, FitOutputs, mark_value, MarkHas, IsFlatTable}
use Rattle.mv_rows.proofs.Meanings.{gives-entry, matches-entry, values_length}
use Rattle.mv_rows.proofs.Rows.{fit_marked}
use Rattle.mv_cover.proofs.Differing.{differ-firsts}
use Rattle.mv_rows.proofs.Kept.{gives-kept, matches-kept, gives-marked, matches-marked, bare-kept, bare-marked, all-kept}
use Rattle.mv_rows.proofs.Over.{IsOver, RowSays, entry-over, rows-over, says_any, says_within}

-- ---- a single output

single_holds : (values : List ℕ) (v : ℕ) (es : List Entry) → length es ≡ 1 → entries_hold values es (v ∷ []) ≡ entry_holds values (only_entry es) v
single_holds values v [] h = absurd (omega (arith, h))
single_holds values v (e ∷ []) h = and-true (entry_holds values e v)
single_holds values v (e ∷ f ∷ es) h = absurd (omega (arith, h))

-- ---- the lines of the rows

rows-give : (at : ℕ → ℕ) (v : ℕ) (cs : List Column) (rows : List Row) (ls : List Line) → All (IsRow cs) rows → RowsLines cs rows ls → in_range at cs ≡ true → some_gives at v ls ≡ some_row_holds rows (column_values at cs) (v ∷ [])
rows-give at v cs [] ls all are range = ap (some_gives at v) are
rows-give at v cs (r ∷ rows) ls all are range =
    let row = All-head (IsRow cs) r rows all in
    let first : some_gives at v are.before ≡ row_holds r (column_values at cs) (v ∷ []) =
    gives-entry at v cs r.ins (only_entry r.outs) are.before row.sets row.entry are.are_before range
    ∙ ap (λ b. row_matches r.ins (column_values at cs) && b) (sym (single_holds (column_values at cs) v r.outs row.single)) in
    let rest = rows-give at v cs rows are.here (All-tail (IsRow cs) r rows all) are.are_here range in
    ap (some_gives at v) are.joined ∙ (some_gives-append at v are.before are.here ∙ λ i. first i || rest i)

rows-match : (at : ℕ → ℕ) (cs : List Column) (rows : List Row) (ls : List Line) → All (IsRow cs) rows → RowsLines cs rows ls → in_range at cs ≡ true → some_matches at ls ≡ some_row_matches rows (column_values at cs)
rows-match at cs [] ls all are range = ap (some_matches at) are
rows-match at cs (r ∷ rows) ls all are range =
    let row = All-head (IsRow cs) r rows all in
    let first = matches-entry at cs r.ins (only_entry r.outs) are.before row.sets row.entry are.are_before range in
    let rest = rows-match at cs rows are.here (All-tail (IsRow cs) r rows all) are.are_here range in
    ap (some_matches at) are.joined ∙ (some_matches-append at are.before are.here ∙ λ i. first i || rest i)

-- ---- the default

pub nothing_holds : (values : List ℕ) (v : ℕ) (e : Entry) → says_nothing e ≡ true → entry_holds values e v ≡ false
nothing_holds values v (Set s) h = ap (λ x. has x v) (same_number s empty h) ∙ has-empty v
nothing_holds values v (Same k) h = absurd (false≢true h)

-- no default is left: it holds nothing where no row matches
none_left : (d : Option (List Entry)) (ls : List Line) (values : List ℕ) (v : ℕ) (m : Bool) → ((es : List Entry) → d ≡ Some es → length es ≡ 1) → default_left d ls ≡ None → (some_bare ls ≡ true → m ≡ true) → (not m && default_holds d values (v ∷ [])) ≡ false
none_left None ls values v m one_entry e bare = and-false (not m)
none_left (Some es) ls values v m one_entry e bare =
    elim (cases_Bool (says_nothing (only_entry es) || some_bare ls)) [
      | inl gone ↦
          elim (or_cases (says_nothing (only_entry es)) (some_bare ls) gone) [
            | inl nothing ↦ ap (λ b. not m && b) (single_holds values v es (one_entry es refl) ∙ nothing_holds values v (only_entry es) nothing) ∙ and-false (not m)
            | inr there ↦ ap (λ b. not b && entries_hold values es (v ∷ [])) (bare there)
          ]
      | inr stays ↦ let gone_too : Some (only_entry es) ≡ None = rw stays at e in absurd (cc)
    ]

-- a default is left: the table's, beside lines that all have literals
record IsLeft (d : Option (List Entry)) (ls : List Line) (e : Entry) : Type 0 where
  entries : List Entry
  is : d ≡ Some entries
  entry : e ≡ only_entry entries
  says : says_nothing e ≡ false
  bare : some_bare ls ≡ false

some_left : (d : Option (List Entry)) (ls : List Line) (e : Entry) → default_left d ls ≡ Some e → IsLeft d ls e
some_left None ls e h = absurd (cc)
some_left (Some es) ls e h =
    elim (cases_Bool (says_nothing (only_entry es) || some_bare ls)) [
      | inl gone ↦ let gone_too : None ≡ Some e = rw gone at h in absurd (cc)
      | inr stays ↦
          let same : Some (only_entry es) ≡ Some e = rw stays at h in
          let entry : e ≡ only_entry es = cc in
          let p = or_parts (says_nothing (only_entry es)) (some_bare ls) stays in
          record { entries = es; is = refl; entry = entry; says = ap says_nothing entry ∙ p.0; bare = p.1 }
    ]

-- it is a set, and each line has an output
record IsPlainDefault (e : Entry) (ls : List Line) (s : ℕ) : Type 0 where
  is : e ≡ Set s
  outputs : list_any (λ (l : Line). nat_eq l.out empty) ls ≡ false

plain_is : (e : Entry) (ls : List Line) (s : ℕ) → plain_default e ls ≡ Some s → IsPlainDefault e ls s
plain_is (Same k) ls s h = absurd (cc)
plain_is (Set x) ls s h =
    elim (cases_Bool (list_any (λ (l : Line). nat_eq l.out empty) ls)) [
      | inl gone ↦ let gone_too : None ≡ Some s = rw gone at h in absurd (cc)
      | inr stays ↦
          let same : Some x ≡ Some s = rw stays at h in
          let set : x ≡ s = cc in
          record { is = ap (λ (y : ℕ). Set y) set; outputs = stays }
    ]

-- what it holds
left_holds : (cs : List Column) (t : FileTable) (ls : List Line) (e : Entry) (values : List ℕ) (v : ℕ) → IsTable cs t → IsLeft t.default ls e → default_holds t.default values (v ∷ []) ≡ entry_holds values e v
left_holds cs t ls e values v table left =
    ap (λ d. default_holds d values (v ∷ [])) left.is
    ∙ (single_holds values v left.entries (table.default left.entries left.is).single
    ∙ ap (λ (f : Entry). entry_holds values f v) (sym left.entry))

-- ---- without a mark

allows_none : (cs : List Column) (t : FileTable) (ls : List Line) → IsTable cs t → RowsLines cs t.rows ls → default_left t.default ls ≡ None → (at : ℕ → ℕ) → in_range at cs ≡ true → (v : ℕ) → allowed (unmarked ls None).cover at v ≡ table_allows t.rows t.default (column_values at cs) (v ∷ [])
unfolding allowed table_allows
allows_none cs t ls table are left at range v =
    let values = column_values at cs in
    let gone : (not (some_row_matches t.rows values) && default_holds t.default values (v ∷ [])) ≡ false =
    none_left t.default ls values v (some_row_matches t.rows values) (λ es e. (table.default es e).single) left
    (λ b. sym (rows-match at cs t.rows ls table.rows are range) ∙ bare-matches at ls b) in
    ap (λ b. some_gives at v (kept ls) || b) (and-false (not (some_matches at (kept ls))))
    ∙ (or-false _
    ∙ (gives-kept at v ls
    ∙ (rows-give at v cs t.rows ls table.rows are range
    ∙ (sym (or-false _) ∙ ap (λ b. some_row_holds t.rows values (v ∷ []) || b) (sym gone)))))

allows_some : (cs : List Column) (t : FileTable) (ls : List Line) (e : Entry) (s : ℕ) → IsTable cs t → RowsLines cs t.rows ls → IsLeft t.default ls e → IsPlainDefault e ls s → (at : ℕ → ℕ) → in_range at cs ≡ true → (v : ℕ) → allowed (unmarked ls (Some s)).cover at v ≡ table_allows t.rows t.default (column_values at cs) (v ∷ [])
unfolding allowed table_allows
allows_some cs t ls e s table are left plain at range v =
    let values = column_values at cs in
    let holds : default_holds t.default values (v ∷ []) ≡ has s v = left_holds cs t ls e values v table left ∙ ap (λ (f : Entry). entry_holds values f v) plain.is in
    let gives = gives-kept at v ls ∙ rows-give at v cs t.rows ls table.rows are range in
    let matches = matches-kept at ls plain.outputs ∙ rows-match at cs t.rows ls table.rows are range in
    λ i. gives i || (not (matches i) && sym holds i)

-- ---- the mark

pub mark_is : (m : Bool) (v : ℕ) → ((m && has (one 0) v) || (not m && has (one 1) v)) ≡ nat_eq v (cond m 0 1)
mark_is true v = or-false _ ∙ has-one 0 v
mark_is false v = has-one 1 v

allows_mark : (cs : List Column) (t : FileTable) (ls : List Line) → IsTable cs t → RowsLines cs t.rows ls → (at : ℕ → ℕ) → in_range at cs ≡ true → (v : ℕ) → allowed (mark_cover ls) at v ≡ nat_eq v (mark_value t.rows (column_values at cs))
unfolding allowed
allows_mark cs t ls table are at range v =
    let m = rows-match at cs t.rows ls table.rows are range in
    let gives = gives-marked at v ls ∙ ap (λ b. b && has (one 0) v) m in
    let matches = matches-marked at ls ∙ m in
    (λ i. gives i || (not (matches i) && has (one 1) v)) ∙ mark_is (some_row_matches t.rows (column_values at cs)) v

-- ---- with a mark

pub values_marked : (at : ℕ → ℕ) (cs : List Column) (mark : NetId) → column_values at (with_mark cs mark) ≡ column_values at cs ++ at mark.0 ∷ []
values_marked at cs mark = map-append (λ (c : Column). at c.net.0) cs (record { net = mark; count = 2 } ∷ [])

pub marked_matches : (at : ℕ → ℕ) (cs : List Column) (mark : NetId) → in_range at cs ≡ true → row_matches (marked_sets cs) (column_values at (with_mark cs mark)) ≡ nat_eq (at mark.0) 1
marked_matches at [] mark range = and-true _ ∙ has-one 1 (at mark.0)
marked_matches at (c ∷ cs) mark range =
    let p = and_parts (nat_lt (at c.net.0) c.count) (in_range at cs) range in
    ap (λ b. b && row_matches (marked_sets cs) (column_values at (with_mark cs mark))) (has-full c.count (at c.net.0) ∙ p.0) ∙ marked_matches at cs mark p.1

pub fit_with_mark : (cs : List Column) (mark : NetId) (e : Entry) → FitEntry cs e → FitEntry (with_mark cs mark) e
fit_with_mark cs mark (Set s) fit = tt
fit_with_mark cs mark (Same k) fit = let low : k < length cs = fit in omega (arith, length-append cs (record { net = mark; count = 2 } ∷ []))

pub marked_holds : (at : ℕ → ℕ) (cs : List Column) (mark : NetId) (e : Entry) (v : ℕ) → FitEntry cs e → entry_holds (column_values at (with_mark cs mark)) e v ≡ entry_holds (column_values at cs) e v
marked_holds at cs mark (Set s) v fit = refl
marked_holds at cs mark (Same k) v fit =
    let place : k < length cs = fit in
    let low : k < length (column_values at cs) = omega (arith, values_length at cs) in
    ap (λ (x : List ℕ). nat_lt k (length x) && nat_eq (get_or x k 0) v) (values_marked at cs mark)
    ∙ ((λ i. lt-ltb k (length (column_values at cs ++ at mark.0 ∷ [])) (omega (arith, length-append (column_values at cs) (at mark.0 ∷ []))) i && nat_eq (get_or_append_left (column_values at cs) (at mark.0 ∷ []) 0 k low i) v)
    ∙ sym (ap (λ b. b && nat_eq (get_or (column_values at cs) k 0) v) (lt-ltb k (length (column_values at cs)) low)))

pub range_marked : (at : ℕ → ℕ) (cs : List Column) (mark : NetId) → in_range at cs ≡ true → at mark.0 < 2 → in_range at (with_mark cs mark) ≡ true
range_marked at cs mark range low =
    list_all-append (λ (c : Column). nat_lt (at c.net.0) c.count) cs (record { net = mark; count = 2 } ∷ [])
    ∙ and_from _ _ range (and-true _ ∙ lt-ltb (at mark.0) 2 low)

pub mark_below : (m : Bool) (x : ℕ) → x ≡ cond m 0 1 → x < 2
mark_below true x e = omega arith
mark_below false x e = omega arith

pub mark_one : (m : Bool) (x : ℕ) → x ≡ cond m 0 1 → nat_eq x 1 ≡ not m
mark_one true x e = ap (λ y. nat_eq y 1) e
mark_one false x e = ap (λ y. nat_eq y 1) e

allows_marked : (cs : List Column) (t : FileTable) (mark : NetId) (ls : List Line) (e : Entry) (flat : FlatTable) → IsTable cs t → RowsLines cs t.rows ls → IsLeft t.default ls e → FitEntry cs e → IsMarked cs mark ls e flat → (at : ℕ → ℕ) → in_range at cs ≡ true → at mark.0 ≡ mark_value t.rows (column_values at cs) → (v : ℕ) → allowed flat.cover at v ≡ table_allows t.rows t.default (column_values at cs) (v ∷ [])
unfolding allowed table_allows
allows_marked cs t mark ls e flat table are left fit is at range value v =
    let values = column_values at cs in
    let m = some_row_matches t.rows values in
    let below = mark_below m (at mark.0) value in
    let added : some_gives at v is.added ≡ (not m && default_holds t.default values (v ∷ [])) =
    gives-entry at v (with_mark cs mark) (marked_sets cs) e is.added (fit_marked cs mark) (fit_with_mark cs mark e fit) is.are (range_marked at cs mark range below)
    ∙ (λ i. (marked_matches at cs mark range ∙ mark_one m (at mark.0) value) i && (marked_holds at cs mark e v fit ∙ sym (left_holds cs t ls e values v table left)) i) in
    let lines = rows-give at v cs t.rows ls table.rows are range in
    ap (λ (c : Cover). some_gives at v c.lines || (not (some_matches at c.lines) && default_gives c.default v)) is.cover_is
    ∙ (ap (λ b. some_gives at v (kept (ls ++ is.added)) || b) (and-false (not (some_matches at (kept (ls ++ is.added)))))
    ∙ (or-false _
    ∙ (gives-kept at v (ls ++ is.added)
    ∙ (some_gives-append at v ls is.added ∙ λ i. lines i || added i))))

-- ---- well formed

keeps : (count : ℕ → ℕ) (values : ℕ) (l : Line) → nat_eq l.out empty ≡ false → IsOver count (λ s. Within s (full values)) l → IsTableLine count values l
keeps count values l some over = record { cube = over.cube; parts = over.parts; out = record { some = eqb-false _ _ some; within = over.out } }

rows_within : (count : ℕ → ℕ) (values : ℕ) (cs : List Column) (t : FileTable) (ls : List Line) → CountBy count cs → RowsLines cs t.rows ls → FitOutputs cs values t → All (IsOver count (λ s. Within s (full values))) ls
rows_within count values cs t ls by are fit =
    rows-over count (λ s. Within s (full values)) cs t.rows ls by are
    (All-weaker (λ (r : Row). FitOutput cs values (only_entry r.outs)) (RowSays (λ s. Within s (full values)) cs) (λ r f. says_within cs values (only_entry r.outs) f) t.rows fit.rows)

bare_not : (ls : List Line) (P : Type 0) → some_bare ls ≡ false → some_bare (kept ls) ≡ true → P
bare_not ls P bare there = absurd (false≢true (sym bare ∙ bare-kept ls there))

formed_none : (count : ℕ → ℕ) (values : ℕ) (ls : List Line) → All (IsOver count (λ s. Within s (full values))) ls → IsTableCover count values (record { lines = kept ls; default = None })
formed_none count values ls over = record {
  lines = all-kept (IsOver count (λ s. Within s (full values))) (IsTableLine count values) (keeps count values) ls over;
  differ = differ-firsts (filter has_output ls);
  default = λ s e. absurd (cc);
  met = λ _. refl;
}

formed_some : (count : ℕ → ℕ) (values : ℕ) (ls : List Line) (s : ℕ) → All (IsOver count (λ x. Within x (full values))) ls → some_bare ls ≡ false → IsOutput values s → IsTableCover count values (record { lines = kept ls; default = Some s })
formed_some count values ls s over bare out = record {
  lines = all-kept (IsOver count (λ x. Within x (full values))) (IsTableLine count values) (keeps count values) ls over;
  differ = differ-firsts (filter has_output ls);
  default = λ x e. let same : s ≡ x = cc in subst (IsOutput values) same out;
  met = λ there. bare_not ls _ bare there;
}

one_output : (v : ℕ) → v < 2 → IsOutput 2 (one v)
one_output v low = record {
  some = λ e. false≢true (sym (has-empty v) ∙ (ap (λ s. has s v) (sym e) ∙ (has-one v v ∙ eq-eqb v v refl)));
  within = λ u h. has-full 2 u ∙ lt-ltb u 2 (let e : u ≡ v = same_number u v (sym (has-one v u) ∙ h) in omega arith);
}

formed_mark : (count : ℕ → ℕ) (cs : List Column) (rows : List Row) (ls : List Line) → CountBy count cs → RowsLines cs rows ls → some_bare ls ≡ false → IsTableCover count 2 (mark_cover ls)
formed_mark count cs rows ls by are bare =
    let over : All (IsOver count (λ _. Unit {0})) ls = rows-over count (λ _. Unit {0}) cs rows ls by are (λ i d low. says_any cs (only_entry (get_or rows i d).outs)) in
    record {
      lines = all-firsts (IsTableLine count 2) (map mark_line ls)
          (All-map (IsTableLine count 2) mark_line ls
          (All-weaker (IsOver count (λ _. Unit {0})) (λ (l : Line). IsTableLine count 2 (mark_line l)) (λ l o. record { cube = o.cube; parts = o.parts; out = one_output 0 (omega arith) }) ls over));
      differ = differ-firsts (map mark_line ls);
      default = λ x e. let same : one 1 ≡ x = cc in subst (IsOutput 2) same (one_output 1 (omega arith));
      met = λ there. absurd (false≢true (sym bare ∙ (sym (bare-marked ls) ∙ there)));
    }

pub count_marked : (count : ℕ → ℕ) (cs : List Column) (mark : NetId) → CountBy count cs → count mark.0 ≡ 2 → CountBy count (with_mark cs mark)
count_marked count cs mark by two =
    All-append (λ (c : Column). c.count ≡ count c.net.0) cs (record { net = mark; count = 2 } ∷ []) by
    (All-cons (λ (c : Column). c.count ≡ count c.net.0) (record { net = mark; count = 2 }) [] (sym two) (All-nil _))

pub output_marked : (cs : List Column) (mark : NetId) (values : ℕ) (e : Entry) → FitEntry cs e → FitOutput cs values e → FitOutput (with_mark cs mark) values e
output_marked cs mark values (Set s) fit out = out
output_marked cs mark values (Same k) fit out =
    let low : k < length cs = fit in
    subst (λ (n : ℕ). n ≤ values) (ap (λ (c : Column). c.count) (sym (get_or_append_left cs (record { net = mark; count = 2 } ∷ []) (record { net = record { 0 = 0 }; count = 0 }) k low))) out

-- ---- the covers

flat_none : (cs : List Column) (t : FileTable) (mark : NetId) (ls : List Line) (flat : FlatTable) → IsTable cs t → RowsLines cs t.rows ls → default_left t.default ls ≡ None → flat ≡ unmarked ls None → IsFlatTable cs t mark flat
flat_none cs t mark ls flat table are left e =
    subst (IsFlatTable cs t mark) (sym e)
    (record {
      allows = λ at range _ v. allows_none cs t ls table are left at range v;
      marks = λ m h. absurd (cc);
      formed = λ count by _ values fit. formed_none count values ls (rows_within count values cs t ls by are fit);
      mark_formed = λ m h. absurd (cc);
    })

flat_some : (cs : List Column) (t : FileTable) (mark : NetId) (ls : List Line) (entry : Entry) (s : ℕ) (flat : FlatTable) → IsTable cs t → RowsLines cs t.rows ls → IsLeft t.default ls entry → IsPlainDefault entry ls s → flat ≡ unmarked ls (Some s) → IsFlatTable cs t mark flat
flat_some cs t mark ls entry s flat table are left plain e =
    subst (IsFlatTable cs t mark) (sym e)
    (record {
      allows = λ at range _ v. allows_some cs t ls entry s table are left plain at range v;
      marks = λ m h. absurd (cc);
      formed = λ count by _ values fit.
          let out : FitOutput cs values (Set s) = subst (FitOutput cs values) (sym left.entry ∙ plain.is) (fit.default left.entries left.is) in
          formed_some count values ls s (rows_within count values cs t ls by are fit) left.bare
          (record { some = eqb-false _ _ (ap says_nothing (sym plain.is) ∙ left.says); within = out });
      mark_formed = λ m h. absurd (cc);
    })

flat_marked : (cs : List Column) (t : FileTable) (mark : NetId) (ls : List Line) (entry : Entry) (flat : FlatTable) → IsTable cs t → RowsLines cs t.rows ls → IsLeft t.default ls entry → IsMarked cs mark ls entry flat → IsFlatTable cs t mark flat
flat_marked cs t mark ls entry flat table are left is =
    let fit : FitEntry cs entry = subst (FitEntry cs) (sym left.entry) (table.default left.entries left.is).entry in
    let cover : (m : Cover) → flat.mark ≡ Some m → m ≡ mark_cover ls = λ m e. let same : Some (mark_cover ls) ≡ Some m = sym is.mark_is ∙ e in sym (same_Some (mark_cover ls) m same) in
    record {
      allows = λ at range value v. allows_marked cs t mark ls entry flat table are left fit is at range (has_mark at (mark_value t.rows (column_values at cs)) value) v;
      marks = λ m e at range v. ap (λ (c : Cover). allowed c at v) (cover m e) ∙ allows_mark cs t ls table are at range v;
      formed = λ count by two values out.
          let fits : FitOutput cs values entry = subst (FitOutput cs values) (sym left.entry) (out.default left.entries left.is) in
          subst (IsTableCover count values) (sym is.cover_is)
          (formed_none count values (ls ++ is.added)
          (All-append (IsOver count (λ s. Within s (full values))) ls is.added (rows_within count values cs t ls by are out)
          (entry-over count (λ s. Within s (full values)) (with_mark cs mark) (marked_sets cs) entry is.added (count_marked count cs mark by (has_mark count 2 two)) is.are
          (says_within (with_mark cs mark) values entry (output_marked cs mark values entry fit fits)))));
      mark_formed = λ m e count by. subst (IsTableCover count 2) (sym (cover m e)) (formed_mark count cs t.rows ls by are left.bare);
    }
  where
    has_mark : (of : ℕ → ℕ) (n : ℕ) → MarkHas flat.mark mark of n → of mark.0 ≡ n
    has_mark of n h = let P : Option Cover → Type 0 = λ o. MarkHas o mark of n in subst P is.mark_is h

pub IsFlatTable_made : (cs : List Column) (t : FileTable) (mark : NetId) (flat : FlatTable) → IsTable cs t → IsMade cs t mark flat → IsFlatTable cs t mark flat
IsFlatTable_made cs t mark flat table made = by_default (default_left t.default made.lines) refl made.covers
  where
    by_plain : (entry : Entry) → IsLeft t.default made.lines entry → (p : Option ℕ) → plain_default entry made.lines ≡ p → FlatBy cs mark made.lines entry p flat → IsFlatTable cs t mark flat
    by_plain entry left None e is = flat_marked cs t mark made.lines entry flat table made.are left is
    by_plain entry left (Some s) e is = flat_some cs t mark made.lines entry s flat table made.are left (plain_is entry made.lines s e) is

    by_default : (d : Option Entry) → default_left t.default made.lines ≡ d → FlatOf cs mark made.lines d flat → IsFlatTable cs t mark flat
    by_default None e is = flat_none cs t mark made.lines flat table made.are e is
    by_default (Some entry) e is = by_plain entry (some_left t.default made.lines entry e) (plain_default entry made.lines) refl is
