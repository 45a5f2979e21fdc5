-- The covers of a table without a mark are the same whatever number the mark would have.
use Rattle.std.proofs.Common.{◌≡◌, ℕ, Bool, true, false, List, Option, Some, None, length, sym, ◌∙◌, ap, subst, ⊎_elim}
use Rattle.std.specs.Prelude.{is_some, nat_eq, if◌then◌else◌}
use Rattle.std.specs.List.{list_any}
use Rattle.std.proofs.lemmas.Bool.{cases_Bool, cond-false, false≢true}
use Rattle.mv_base.specs.Names.{among}
use Rattle.mv_base.specs.declared.number.NetId.{NetId}
use Rattle.mv_cover.specs.declared.line.Line.{Line}
use Rattle.mv_design.specs.declared.table.Entry.{Entry}
use Rattle.mv_design.specs.declared.table.FileTable.{FileTable}
use Rattle.mv_rows.specs.declared.column.Column.{Column}
use Rattle.mv_rows.specs.declared.table.FlatTable.{FlatTable}
use Rattle.mv_rows.specs.Cubes.{AreColumns}
use Rattle.mv_rows.specs.Flat.{default_left, plain_default, with_mark, FlatBy, FlatOf, IsMade, IsTable}
use Rattle.mv_rows.specs.Marked.{is_marked}
use Rattle.mv_rows.proofs.Marked.{marked_exactly}
use Rattle.mv_joint.specs.Plain.{IsJointFile, AreApart}
use Rattle.mv_design.specs.Nets.{output_of}
use Rattle.mv_flat.specs.Numbers.{columns_at, mark_at, choice_name, choice_at}
use Rattle.mv_flat.specs.Gathered.{is_plain, IsMarkNumber}
use Rattle.mv_flat.specs.Placed.{AreColumnsOf}
use Rattle.mv_flat.proofs.HasMark.{marked_by}
use Rattle.mv_flat.proofs.Needs.{plain_told}
use Rattle.mv_flat.proofs.Shapes.{apart, joint_file, mark_unread, marked_columns, past_columns, past_unread, table_columns, table_is}
use Rattle.mv_flat.proofs.Singles.{not_joint}

unmarked_by : (columns : List Column) (m n : NetId) (lines : List Line) (entry : Entry) (o : Option ℕ) (flat : FlatTable) → is_some flat.mark ≡ false
    → FlatBy columns m lines entry o flat → FlatBy columns n lines entry o flat
unmarked_by columns m n lines entry None flat none h = absurd (false≢true (sym none ∙ ap is_some h.mark_is))
unmarked_by columns m n lines entry (Some s) flat none h = h

unmarked_of : (columns : List Column) (m n : NetId) (lines : List Line) (o : Option Entry) (flat : FlatTable) → is_some flat.mark ≡ false
    → FlatOf columns m lines o flat → FlatOf columns n lines o flat
unmarked_of columns m n lines None flat none h = h
unmarked_of columns m n lines (Some entry) flat none h = unmarked_by columns m n lines entry (plain_default entry lines) flat none h

made_without : (columns : List Column) (t : FileTable) (m n : NetId) (flat : FlatTable) → is_some flat.mark ≡ false → IsMade columns t m flat → IsMade columns t n flat
made_without columns t m n flat none h = record {
  lines = h.lines;
  are = h.are;
  covers = unmarked_of columns m n h.lines (default_left t.default h.lines) flat none h.covers;
}

-- ---- columns by number, with the number of the mark behind them

pub own_columns : (names : List (List ℕ)) (t : FileTable) (columns : List Column) → AreColumnsOf names t columns → AreColumns columns
own_columns names t columns h = subst AreColumns (sym h.are) (table_columns h.decls names t h.proper h.placed)

pub own_table : (names : List (List ℕ)) (t : FileTable) (columns : List Column) → AreColumnsOf names t columns → length t.outputs ≡ 1 → IsTable columns t
own_table names t columns h single = let P : List Column → Type 0 = λ cs. IsTable cs t in subst P (sym h.are) (table_is h.decls names t h.placed single)

pub own_file : (names : List (List ℕ)) (t : FileTable) (columns : List Column) → AreColumnsOf names t columns → IsJointFile columns t
own_file names t columns h = let P : List Column → Type 0 = λ cs. IsJointFile cs t in subst P (sym h.are) (joint_file h.decls names t h.placed)

pub own_apart : (names : List (List ℕ)) (t : FileTable) (columns : List Column) → AreColumnsOf names t columns → among (choice_name (output_of t)) names ≡ true
    → AreApart columns (mark_at names t) (choice_at names t)
own_apart names t columns h chosen =
    let P : List Column → Type 0 = λ cs. AreApart cs (mark_at names t) (choice_at names t) in
    subst P (sym h.are) (apart h.decls names t h.proper h.placed chosen)

split : {a b : NetId} (c : Bool) (P : NetId → Type 0) → P a → P b → P (if c then a else b)
split true P p q = p
split false P p q = q

pub own_marked : (names : List (List ℕ)) (t : FileTable) (columns : List Column) (mark : NetId) → AreColumnsOf names t columns → IsMarkNumber names t mark
    → AreColumns (with_mark columns mark)
own_marked names t columns mark h is =
    let P : NetId → Type 0 = λ n. AreColumns (with_mark (columns_at h.decls names t) n) in
    let Q : List Column → Type 0 = λ cs. AreColumns (with_mark cs mark) in
    subst Q (sym h.are) (subst P (sym is) (split (is_plain t) P (past_columns h.decls names t h.proper h.placed) (marked_columns h.decls names t h.proper h.placed)))

-- and the mark's number is that of no column
pub own_unread : (names : List (List ℕ)) (t : FileTable) (columns : List Column) (mark : NetId) → AreColumnsOf names t columns → IsMarkNumber names t mark
    → list_any (λ (c : Column). nat_eq c.net.0 mark.0) columns ≡ false
own_unread names t columns mark h is =
    let P : NetId → Type 0 = λ n. list_any (λ (c : Column). nat_eq c.net.0 n.0) (columns_at h.decls names t) ≡ false in
    let Q : List Column → Type 0 = λ cs. list_any (λ (c : Column). nat_eq c.net.0 mark.0) cs ≡ false in
    subst Q (sym h.are) (subst P (sym is) (split (is_plain t) P (past_unread h.decls names t h.placed) (mark_unread h.decls names t h.placed)))

-- covers that are made with such a number are those with the mark's
pub own_made : (names : List (List ℕ)) (t : FileTable) (columns : List Column) (mark : NetId) (flat : FlatTable) → AreColumnsOf names t columns
    → length t.outputs ≡ 1 → IsMarkNumber names t mark → IsMade columns t mark flat → IsMade columns t (mark_at names t) flat
own_made names t columns mark flat h single is made =
    let P : NetId → Type 0 = λ n. IsMade columns t n flat in
    ⊎_elim
    (λ (y : is_plain t ≡ true).
    let joint = not_joint t single in
    let e = ap (λ cs. is_marked cs t) h.are ∙ marked_by h.decls names t h.placed joint in
    made_without columns t mark (mark_at names t) flat
    (marked_exactly columns t mark flat (own_columns names t columns h) (own_table names t columns h single) made
    ∙ (e ∙ sym (plain_told h.decls t joint y))) made)
    (λ (n : is_plain t ≡ false). subst P (is ∙ cond-false (is_plain t) _ (mark_at names t) n) made)
    (cases_Bool (is_plain t))
