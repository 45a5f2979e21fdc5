-- A table of several outputs and the same without equal rows have the same covers.
use Rattle.std.proofs.Common.{◌≡◌, ◌⊎◌, ℕ, ◌<◌, ◌≤◌, Bool, true, false, ◌&&◌, ◌||◌, not, if◌then◌else◌, Option, Some, None, List, [], ◌∷◌, ◌++◌, length, map, inl, inr, append-nil, refl, sym, ◌∙◌, ap, subst, All}
use Rattle.std.specs.List.{list_any}
use Rattle.mv_base.specs.declared.limits.TheConstants.{MAX_VALUES, MAX_JOINT_ROWS}
use Rattle.mv_base.specs.declared.number.NetId.{NetId}
use Rattle.mv_base.proofs.Firsts.{keys-firsts}
use Rattle.mv_cover.specs.Absorb.{firsts}
use Rattle.mv_cover.specs.Equal.{line_eq}
use Rattle.mv_cover.specs.Keys.{line_eq-Decides}
use Rattle.mv_cover.specs.declared.line.Line.{Line}
use Rattle.mv_cover.specs.declared.cover.Cover.{Cover}
use Rattle.mv_cover.proofs.Absorbing.{inserted_firsts}
use Rattle.mv_design.specs.declared.table.Entry.{Entry}
use Rattle.mv_design.specs.declared.table.Row.{Row}
use Rattle.mv_design.specs.declared.table.FileTable.{FileTable}
use Rattle.mv_rows.specs.declared.column.Column.{Column}
use Rattle.mv_rows.specs.declared.table.FlatTable.{FlatTable}
use Rattle.mv_rows.specs.Flat.{only_entry, says_nothing, RowsLines, default_left, with_mark, marked_sets, FlatOf, IsMade}
use Rattle.mv_rows.specs.Lines.{EntryLines}
use Rattle.mv_rows.proofs.Alike.{table_made}
use Rattle.mv_rows.proofs.Existing.{rows_append}
use Rattle.mv_joint.specs.declared.split.PlainRow.{PlainRow}
use Rattle.mv_joint.specs.declared.joint.JointTable.{JointTable}
use Rattle.mv_joint.specs.declared.stop.CoversStop.{CoversStop}
use Rattle.mv_joint.specs.declared.stop.CoversStop.TheVariants.{Wide, Many, Memory}
use Rattle.mv_joint.specs.OutRows.{same_outs, same_outs-Decides}
use Rattle.mv_joint.specs.Split.{rows_of, all_rows}
use Rattle.mv_joint.specs.Plain.{PlainTable, IsJointRow, IsJointDefault, IsJointFile, is_silent, is_same, said, some_bare, stays, needs_mark, set_of, with_any_mark, mark_row, mark_table, unmarked, marked, plain_by, plain_of, default_marked, is_joint_marked}
use Rattle.mv_joint.specs.Joint.{given, distinct, choice_count, choice_row, choice_default, choice_table, table_of, IsCoverOf, AreOutputs, IsMarkOf, IsMadeOf, IsMadeJoint, StopsCovers}
use Rattle.mv_shapes.specs.Distinct.{same_rows, distinct_rows, StandsFor}
use Rattle.mv_shapes.proofs.RowKeys.{same_rows-Decides}
use Rattle.mv_shapes.proofs.Thinned.{IsIn, Thinned, thin_same, thin_firsts, in_front, in_back, drop_all, keep_all, thin_flat, thin_map, thin_filter, thin_append, all_thin, any_thin, inserted_thin}

-- ---- lines

-- the lines of a row of some rows are among theirs
record HasLinesIn (cs : List Column) (lines : List Line) (r : Row) : Type 0 where
  here : List Line
  are : EntryLines cs r.ins (only_entry r.outs) here
  within : (l : Line) → IsIn l here → IsIn l lines

lines_in : (cs : List Column) (b : List Row) (lines : List Line) (r : Row) → IsIn r b → RowsLines cs b lines → HasLinesIn cs lines r
lines_in cs [] lines r h are = absurd h
lines_in cs (q ∷ b) lines r (inl e) are = record {
  here = are.before;
  are = subst (λ (x : Row). EntryLines cs x.ins (only_entry x.outs) are.before) (sym e) are.are_before;
  within = λ l i. subst (IsIn l) (sym are.joined) (in_front l are.before are.here i);
}
lines_in cs (q ∷ b) lines r (inr h) are =
    let rest = lines_in cs b are.here r h are.are_here in
    record {
      here = rest.here;
      are = rest.are;
      within = λ l i. subst (IsIn l) (sym are.joined) (in_back l are.before are.here (rest.within l i));
    }

-- the lines of all rows, of which those of some are without some that stand before them
record HasMoreLines (cs : List Column) (rows : List Row) (before lines : List Line) : Type 0 where
  all : List Line
  are : RowsLines cs rows all
  thin : Thinned before all lines

rows_thin : (cs : List Column) (b rows few : List Row) (before lines : List Line) → Thinned b rows few → RowsLines cs b before → RowsLines cs few lines → HasMoreLines cs rows before lines
rows_thin cs b [] few before lines t front are =
    let none : RowsLines cs [] lines = subst (λ (rs : List Row). RowsLines cs rs lines) t are in
    record { all = []; are = refl; thin = none }
rows_thin cs b (r ∷ rows) few before lines (inl h) front are =
    let rest = rows_thin cs b rows few before lines h.1 front are in
    let own = lines_in cs b before r h.0 front in
    record {
      all = own.here ++ rest.all;
      are = record { before = own.here; here = rest.all; are_before = own.are; are_here = rest.are; joined = refl };
      thin = drop_all before own.here rest.all lines own.within rest.thin;
    }
rows_thin cs b (r ∷ rows) few before lines (inr k) front are =
    let both : RowsLines cs (r ∷ k.rest) lines = subst (λ (rs : List Row). RowsLines cs rs lines) k.is are in
    let one : RowsLines cs (r ∷ []) both.before = record { before = both.before; here = []; are_before = both.are_before; are_here = refl; joined = sym (append-nil both.before) } in
    let rest = rows_thin cs (b ++ r ∷ []) rows k.rest (before ++ both.before) both.here k.are (rows_append cs b (r ∷ []) before both.before front one) both.are_here in
    record {
      all = both.before ++ rest.all;
      are = record { before = both.before; here = rest.all; are_before = both.are_before; are_here = rest.are; joined = refl };
      thin = subst (λ (ls : List Line). Thinned before (both.before ++ rest.all) ls) (sym both.joined) (keep_all before both.before rest.all both.here rest.thin);
    }

-- a table of one output has the covers of the same without equal rows
made_thin : (cs : List Column) (t few : FileTable) (mark : NetId) (flat : FlatTable) → few.default ≡ t.default → Thinned [] t.rows few.rows → IsMade cs few mark flat → IsMade cs t mark flat
made_thin cs t few mark flat default thin made =
    let more = rows_thin cs [] t.rows few.rows [] made.lines thin refl made.are in
    let same : firsts made.lines ≡ firsts more.all =
    sym (sym (inserted_firsts more.all) ∙ (inserted_thin line_eq line_eq-Decides more.all made.lines more.thin ∙ inserted_firsts made.lines)) in
    table_made cs t mark made.lines flat (record { all = more.all; are = more.are; same = same })
    (subst (λ d. FlatOf cs mark made.lines (default_left d made.lines) flat) default made.covers)

-- ---- tables without `=`

record IsThin (cs : List Column) (mark : NetId) (p q : PlainTable) : Type 0 where
  columns : q.columns ≡ p.columns
  rows : Thinned [] p.rows q.rows
  default : q.default ≡ p.default
  marks : (o : Option Cover) → IsMarkOf cs mark q.mark o → IsMarkOf cs mark p.mark o

same_distinct : (cs : List Column) (mark : NetId) (p q : PlainTable) → IsThin cs mark p q → distinct q ≡ distinct p
same_distinct cs mark p q is =
    let outs : PlainRow → List ℕ = λ r. r.outs in
    let decides : (a b : List ℕ) → same_outs a b ≡ true → a ≡ b = λ a b h. (same_outs-Decides a b).0 h in
    let here = map outs p.rows ++ given p.default in
    let there = map outs q.rows ++ given p.default in
    ap (λ d. distinct (record { columns = q.columns; rows = q.rows; default = d; mark = q.mark })) is.default
    ∙ sym (sym (keys-firsts same_outs decides here)
    ∙ (inserted_thin same_outs same_outs-Decides here there (thin_append [] (map outs p.rows) (map outs q.rows) (given p.default) (thin_map outs p.rows q.rows is.rows))
    ∙ keys-firsts same_outs decides there))

made_of : (cs : List Column) (p q : PlainTable) (several : ℕ) (mark choice : NetId) (joint : JointTable) → IsThin cs mark p q → IsMadeOf cs q several mark choice joint → IsMadeOf cs p several mark choice joint
made_of cs p q several mark choice joint is made =
    let e = same_distinct cs mark p q is in
    let all = distinct p in
    let flat : FlatTable = record { cover = joint.choice; mark = None } in
    let chosen : List Column → List (List ℕ) → Option (List ℕ) → Type 0 = λ ks outs d.
    IsMade ks (table_of (map (choice_row outs) q.rows) (choice_default outs d)) mark flat in
    let one : chosen q.columns all q.default = subst (λ outs. chosen q.columns outs q.default) e made.chosen in
    let two : chosen p.columns all p.default = subst (λ ks. chosen ks all p.default) is.columns (subst (λ d. chosen q.columns all d) is.default one) in
    record {
      few = subst (λ outs. length outs ≤ MAX_VALUES) e made.few;
      values = made.values ∙ ap choice_count e;
      chosen = made_thin p.columns (choice_table p) (table_of (map (choice_row all) q.rows) (choice_default all p.default)) mark flat refl (thin_map (choice_row all) p.rows q.rows is.rows) two;
      many = made.many;
      each = subst (λ outs. AreOutputs outs mark choice 0 joint.outputs) e made.each;
      marked = is.marks joint.mark made.marked;
    }

-- ---- the table of a default

unmarked_thin : (cs : List Column) (mark : NetId) (rows few : List PlainRow) (d : Option (List ℕ)) → Thinned [] rows few → IsThin cs mark (unmarked cs rows d) (unmarked cs few d)
unmarked_thin cs mark rows few d t = record {
  columns = refl;
  rows = thin_filter (λ (r : PlainRow). not (is_silent r)) rows few t;
  default = refl;
  marks = λ o h. h;
}

mark_thin : (cs : List Column) (mark : NetId) (rows few : List PlainRow) → Thinned [] rows few → (o : Option Cover) → IsMarkOf cs mark (Some (mark_table few)) o → IsMarkOf cs mark (Some (mark_table rows)) o
mark_thin cs mark rows few t None h = h
mark_thin cs mark rows few t (Some c) h =
    made_thin cs (mark_table rows) (mark_table few) mark (record { cover = c; mark = None }) refl (thin_map mark_row rows few t) h

marked_thin : (cs : List Column) (mark : NetId) (rows few : List PlainRow) (es : List Entry) → Thinned [] rows few → IsThin cs mark (marked cs mark rows es) (marked cs mark few es)
marked_thin cs mark rows few es t = record {
  columns = refl;
  rows = thin_append [] (map with_any_mark (said rows)) (map with_any_mark (said few)) (rows_of (with_mark cs mark) (marked_sets cs) es)
      (thin_map with_any_mark (said rows) (said few) (thin_filter (λ (r : PlainRow). not (is_silent r)) rows few t));
  default = refl;
  marks = mark_thin cs mark rows few t;
}

stays_same : (cs : List Column) (rows few : List PlainRow) (es : List Entry) → Thinned [] rows few → stays cs rows es ≡ stays cs few es
stays_same cs rows few es t =
    let bare : some_bare cs rows ≡ some_bare cs few = any_thin _ rows few t in
    ap (λ b. not (list_any says_nothing es) && not b) bare

needs_same : (rows few : List PlainRow) (es : List Entry) → Thinned [] rows few → needs_mark rows es ≡ needs_mark few es
needs_same rows few es t = ap (λ b. list_any is_same es || b) (any_thin is_silent rows few t)

by_tests : (cs : List Column) (mark : NetId) (rows few : List PlainRow) (es : List Entry) (s n : Bool) → stays cs rows es ≡ s → stays cs few es ≡ s
    → needs_mark rows es ≡ n → needs_mark few es ≡ n → Thinned [] rows few → IsThin cs mark (plain_by cs mark rows (Some es)) (plain_by cs mark few (Some es))
by_tests cs mark rows few es false n e f g h t = rw (e, f) (unmarked_thin cs mark rows few None t)
by_tests cs mark rows few es true true e f g h t = rw (e, f, g, h) (marked_thin cs mark rows few es t)
by_tests cs mark rows few es true false e f g h t = rw (e, f, g, h) (unmarked_thin cs mark rows few (Some (map set_of es)) t)

by_thin : (cs : List Column) (mark : NetId) (rows few : List PlainRow) (d : Option (List Entry)) → Thinned [] rows few → IsThin cs mark (plain_by cs mark rows d) (plain_by cs mark few d)
by_thin cs mark rows few None t = unmarked_thin cs mark rows few None t
by_thin cs mark rows few (Some es) t =
    by_tests cs mark rows few es (stays cs few es) (needs_mark few es) (stays_same cs rows few es t) refl (needs_same rows few es t) refl t

default_thin : (cs : List Column) (rows few : List PlainRow) (d : Option (List Entry)) → Thinned [] rows few → default_marked cs few d ≡ default_marked cs rows d
default_thin cs rows few None t = refl
default_thin cs rows few (Some es) t =
    let s = stays_same cs rows few es t in
    let n = needs_same rows few es t in
    sym (λ i. s i && n i)

-- ---- tables of files

rows_split : (cs : List Column) (rows few : List Row) → Thinned [] rows few → Thinned [] (all_rows cs rows) (all_rows cs few)
rows_split cs rows few t = thin_flat (λ (r : Row). rows_of cs r.ins r.outs) [] rows few t

file_thin : (cs : List Column) (mark : NetId) (one t : FileTable) → one.default ≡ t.default → Thinned [] t.rows one.rows → IsThin cs mark (plain_of cs t mark) (plain_of cs one mark)
file_thin cs mark one t default thin =
    let few = all_rows cs one.rows in
    subst (λ d. IsThin cs mark (plain_of cs t mark) (plain_by cs mark few d)) (sym default) (by_thin cs mark (all_rows cs t.rows) few t.default (rows_split cs t.rows one.rows thin))

made_joint : (cs : List Column) (one t : FileTable) (mark choice : NetId) (joint : JointTable) → length one.outputs ≡ length t.outputs → one.default ≡ t.default → Thinned [] t.rows one.rows
    → IsMadeJoint cs one mark choice joint → IsMadeJoint cs t mark choice joint
made_joint cs one t mark choice joint outputs default thin made =
    made_of cs (plain_of cs t mark) (plain_of cs one mark) (length t.outputs) mark choice joint (file_thin cs mark one t default thin)
    (subst (λ n. IsMadeOf cs (plain_of cs one mark) n mark choice joint) outputs made)

stops_joint : (cs : List Column) (one t : FileTable) (mark choice : NetId) (most : ℕ) (stop : CoversStop) → length one.outputs ≡ length t.outputs → one.default ≡ t.default → Thinned [] t.rows one.rows
    → StopsCovers cs one mark choice most stop → StopsCovers cs t mark choice most stop
stops_joint cs one t mark choice most Wide outputs default thin h =
    subst (λ (outs : List (List ℕ)). MAX_JOINT_ROWS < length outs) (same_distinct cs mark (plain_of cs t mark) (plain_of cs one mark) (file_thin cs mark one t default thin)) h
stops_joint cs one t mark choice most Many outputs default thin h =
    record { joint = h.joint; made = made_joint cs one t mark choice h.joint outputs default thin h.made; many = h.many }
stops_joint cs one t mark choice most Memory outputs default thin h = tt

file_fits : (cs : List Column) (one t : FileTable) → length one.outputs ≡ length t.outputs → one.default ≡ t.default → Thinned [] t.rows one.rows → IsJointFile cs t → IsJointFile cs one
file_fits cs one t outputs default thin file =
    let rows : All (IsJointRow cs (length one.outputs)) t.rows = subst (λ n. All (IsJointRow cs n) t.rows) (sym outputs) file.rows in
    record {
      rows = all_thin (IsJointRow cs (length one.outputs)) [] t.rows one.rows thin rows;
      default = λ es e. subst (λ n. IsJointDefault cs n es) (sym outputs) (file.default es (sym default ∙ e));
    }

marked_same : (cs : List Column) (one t : FileTable) → one.default ≡ t.default → Thinned [] t.rows one.rows → is_joint_marked cs one ≡ is_joint_marked cs t
unfolding is_joint_marked
marked_same cs one t default thin =
    ap (default_marked cs (all_rows cs one.rows)) default ∙ default_thin cs (all_rows cs t.rows) (all_rows cs one.rows) t.default (rows_split cs t.rows one.rows thin)

stands_for : (one t : FileTable) → length one.outputs ≡ length t.outputs → one.default ≡ t.default → Thinned [] t.rows one.rows → StandsFor one t
stands_for one t outputs default thin = record {
  file = λ cs. file_fits cs one t outputs default thin;
  marked = λ cs. marked_same cs one t default thin;
  made = λ cs mark choice joint. made_joint cs one t mark choice joint outputs default thin;
  stops = λ cs mark choice most stop. stops_joint cs one t mark choice most stop outputs default thin;
}

-- a table with as many outputs, the same default and the same rows stands for another
pub stands_same : (one t : FileTable) → length one.outputs ≡ length t.outputs → one.default ≡ t.default → one.rows ≡ t.rows → StandsFor one t
stands_same one t outputs default rows =
    stands_for one t outputs default (subst (Thinned [] t.rows) (sym rows) (thin_same [] t.rows))

-- and so does one without its equal rows
pub stands_distinct : (one t : FileTable) → length one.outputs ≡ length t.outputs → one.default ≡ t.default → one.rows ≡ distinct_rows t.rows → StandsFor one t
stands_distinct one t outputs default rows =
    stands_for one t outputs default (subst (Thinned [] t.rows) (sym rows) (thin_firsts same_rows same_rows-Decides t.rows))

-- and so does an equal one
pub stands_equal : (one t : FileTable) → one ≡ t → StandsFor one t
stands_equal one t e =
    stands_same one t (ap (λ (x : FileTable). length x.outputs) e) (ap (λ (x : FileTable). x.default) e) (ap (λ (x : FileTable). x.rows) e)
