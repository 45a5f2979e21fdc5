-- A table of several outputs gets a mark exactly where its rows and its default say so, whatever the numbers of the nets are.
use Rattle.std.proofs.Common.{◌≡◌, ℕ, Bool, true, false, not, ◌&&◌, Option, Some, None, List, [], ◌∷◌, if◌then◌else◌, filter, map, refl, sym, ◌∙◌, ap}
use Rattle.std.specs.List.{list_any, flat_map, range_with_len}
use Rattle.std.specs.Option.{is_some}
use Rattle.mv_base.specs.declared.number.NetId.{NetId}
use Rattle.mv_cover.specs.declared.cover.Cover.{Cover}
use Rattle.mv_design.specs.declared.table.Entry.{Entry}
use Rattle.mv_design.specs.declared.table.Entry.TheVariants.{Set, Same}
use Rattle.mv_design.specs.declared.table.Row.{Row}
use Rattle.mv_design.specs.declared.table.FileTable.{FileTable}
use Rattle.mv_rows.specs.declared.column.Column.{Column}
use Rattle.mv_rows.specs.Flat.{says_nothing}
use Rattle.mv_rows.specs.Renumbered.{AreRenumbered}
use Rattle.mv_rows.proofs.Renumbered.{AreAlike, alike}
use Rattle.mv_joint.specs.declared.split.PlainRow.{PlainRow}
use Rattle.mv_joint.specs.declared.joint.JointTable.{JointTable}
use Rattle.mv_joint.specs.Split.{narrowing, extended, split, is_possible, rows_of, all_rows}
use Rattle.mv_joint.specs.Plain.{stays, some_bare, needs_mark, plain_by, plain_of, default_marked, is_joint_marked, mark_table, mark_of}
use Rattle.mv_joint.specs.Joint.{IsMarkOf, IsMadeJoint}

-- ---- the mark

by_tests : (cs : List Column) (mark : NetId) (rows : List PlainRow) (es : List Entry) (s n : Bool) → stays cs rows es ≡ s → needs_mark rows es ≡ n → is_some (plain_by cs mark rows (Some es)).mark ≡ (s && n)
by_tests cs mark rows es true true e f = rw e (rw f refl)
by_tests cs mark rows es true false e f = rw e (rw f refl)
by_tests cs mark rows es false n e f = rw e refl

by_default : (cs : List Column) (mark : NetId) (rows : List PlainRow) (d : Option (List Entry)) → is_some (plain_by cs mark rows d).mark ≡ default_marked cs rows d
by_default cs mark rows None = refl
by_default cs mark rows (Some es) = by_tests cs mark rows es (stays cs rows es) (needs_mark rows es) refl refl

mark_is : (cs : List Column) (mark : NetId) (table : Option FileTable) (cover : Option Cover) → IsMarkOf cs mark table cover → is_some cover ≡ is_some table
mark_is cs mark None None is = refl
mark_is cs mark None (Some c) is = absurd is
mark_is cs mark (Some t) None is = absurd is
mark_is cs mark (Some t) (Some c) is = refl

pub joint_marked_exactly : (cs : List Column) (t : FileTable) (mark choice : NetId) (joint : JointTable) → IsMadeJoint cs t mark choice joint → is_some joint.mark ≡ is_joint_marked cs t
unfolding is_joint_marked
joint_marked_exactly cs t mark choice joint made =
    mark_is cs mark (plain_of cs t mark).mark joint.mark made.marked ∙ by_default cs mark (all_rows cs t.rows) t.default

table_by_tests : (cs : List Column) (mark : NetId) (rows : List PlainRow) (es : List Entry) (s n : Bool) → stays cs rows es ≡ s → needs_mark rows es ≡ n
    → (plain_by cs mark rows (Some es)).mark ≡ (if s && n then Some (mark_table rows) else None)
table_by_tests cs mark rows es true true e f = rw e (rw f refl)
table_by_tests cs mark rows es true false e f = rw e (rw f refl)
table_by_tests cs mark rows es false n e f = rw e refl

table_by_default : (cs : List Column) (mark : NetId) (rows : List PlainRow) (d : Option (List Entry))
    → (plain_by cs mark rows d).mark ≡ (if default_marked cs rows d then Some (mark_table rows) else None)
table_by_default cs mark rows None = refl
table_by_default cs mark rows (Some es) = table_by_tests cs mark rows es (stays cs rows es) (needs_mark rows es) refl refl

-- the mark's table is that of the table without `=`
pub mark_table_of : (cs : List Column) (t : FileTable) (mark : NetId) → mark_of cs t ≡ (plain_of cs t mark).mark
unfolding is_joint_marked
mark_table_of cs t mark = sym (table_by_default cs mark (all_rows cs t.rows) t.default)

-- ---- columns that rows match alike

extended-alike : (cs ds : List Column) → AreAlike cs ds → (e : Entry) (r : PlainRow) → extended cs e r ≡ extended ds e r
extended-alike cs ds a (Set s) r = refl
extended-alike cs ds a (Same k) r = ap (λ (n : ℕ). flat_map (narrowing k r) (range_with_len 0 n)) (a.counts k)

split-alike : (cs ds : List Column) → AreAlike cs ds → (es : List Entry) (rows : List PlainRow) → split cs es rows ≡ split ds es rows
split-alike cs ds a [] rows = refl
split-alike cs ds a (e ∷ es) rows =
    split-alike cs ds a es (flat_map (extended cs e) rows)
    ∙ ap (λ (f : PlainRow → List PlainRow). split ds es (flat_map f rows)) (λ i r. extended-alike cs ds a e r i)

rows-alike : (cs ds : List Column) → AreAlike cs ds → (ins : List ℕ) (es : List Entry) → rows_of cs ins es ≡ rows_of ds ins es
rows-alike cs ds a ins es =
    ap (filter (is_possible cs)) (split-alike cs ds a es (record { ins = ins; outs = [] } ∷ []))
    ∙ ap (λ (p : PlainRow → Bool). filter p (split ds es (record { ins = ins; outs = [] } ∷ []))) (λ i r. not (a.nothing r.ins i))

all-alike : (cs ds : List Column) → AreAlike cs ds → (rows : List Row) → all_rows cs rows ≡ all_rows ds rows
all-alike cs ds a rows = ap (λ (f : Row → List PlainRow). flat_map f rows) (λ i r. rows-alike cs ds a r.ins r.outs i)

default-alike : (cs ds : List Column) → AreAlike cs ds → (rows : List PlainRow) (d : Option (List Entry)) → default_marked cs rows d ≡ default_marked ds rows d
default-alike cs ds a rows None = refl
default-alike cs ds a rows (Some es) =
    let bare : some_bare cs rows ≡ some_bare ds rows = λ i. list_any (λ (r : PlainRow). a.everything r.ins i) rows in
    λ i. (not (list_any says_nothing es) && not (bare i)) && needs_mark rows es

pub joint_marked_alike : (f g : List ℕ → Column) (ws : List (List ℕ)) (t : FileTable) → AreRenumbered f g ws → is_joint_marked (map f ws) t ≡ is_joint_marked (map g ws) t
unfolding is_joint_marked
joint_marked_alike f g ws t same =
    let a = alike f g ws same in
    ap (λ (rows : List PlainRow). default_marked (map f ws) rows t.default) (all-alike (map f ws) (map g ws) a t.rows)
    ∙ default-alike (map f ws) (map g ws) a (all_rows (map g ws) t.rows) t.default
