-- The rows that are gathered give the distinct rows of outputs of the table without `=`, and as many of them as are known.
use Rattle.std.proofs.Common.{◌≡◌, ℕ, true, false, Option, Some, None, List, [], ◌∷◌, ◌++◌, map, refl, sym, ◌∙◌, ap, subst, append-nil, All}
use Rattle.std.specs.List.{list_any}
use Rattle.std.proofs.lemmas.List.{map-append}
use Rattle.std.proofs.lemmas.List.Elements.{All-head, All-tail}
use Rattle.indexmap.specs.IndexSet.{insert_all}
use Rattle.mv_base.specs.Firsts.{firsts_by}
use Rattle.mv_base.specs.declared.number.NetId.{NetId}
use Rattle.mv_design.specs.declared.table.Entry.{Entry}
use Rattle.mv_design.specs.declared.table.FileTable.{FileTable}
use Rattle.mv_rows.specs.declared.column.Column.{Column}
use Rattle.mv_rows.specs.Flat.{says_nothing, with_mark, marked_sets}
use Rattle.mv_joint.specs.declared.split.PlainRow.{PlainRow}
use Rattle.mv_joint.specs.declared.gather.Gathered.{Gathered}
use Rattle.mv_joint.specs.declared.joint.JointStop.{JointStop}
use Rattle.mv_joint.specs.declared.joint.JointStop.TheVariants.{Wide, Memory}
use Rattle.mv_joint.specs.OutRows.{same_outs}
use Rattle.mv_joint.specs.Split.{rows_of, all_rows}
use Rattle.mv_joint.specs.Plain.{is_silent, said, stays, needs_mark, set_of, with_any_mark, unmarked, marked, plain_by, plain_of}
use Rattle.mv_joint.specs.Joint.{given, distinct, StopsWith}
use Rattle.mv_joint.specs.declared.plain.SplitTable.{SplitTable}
use Rattle.mv_joint.specs.Gather.{joined, StopsOver, StopsRows, AreChoices}
use Rattle.mv_joint.proofs.Lists.{inserted_distinct}
use Rattle.mv_joint.proofs.Gathering.{said_outs, said-said, wide_by, wide_grows}
use Rattle.mv_joint.proofs.PlainMeaning.{all_said}
use Rattle.mv_joint.proofs.Looks.{SilentBy, silent_by_entries}

-- ---- rows that say some values of each output

none_are_silent : (rows : List PlainRow) → All (SilentBy false) rows → list_any is_silent rows ≡ false
none_are_silent [] all = refl
none_are_silent (r ∷ rows) all =
    let here : is_silent r ≡ false = All-head (SilentBy false) r rows all in
    rw here (none_are_silent rows (All-tail (SilentBy false) r rows all))

none_said : (rows : List PlainRow) → All (SilentBy true) rows → said rows ≡ []
none_said [] all = refl
none_said (r ∷ rows) all =
    let here : is_silent r ≡ true = All-head (SilentBy true) r rows all in
    rw here (none_said rows (All-tail (SilentBy true) r rows all))

-- each of a row's rows does so where each of its entries has a value, and none does elsewhere
pub rows_said : (cs : List Column) (ins : List ℕ) (es : List Entry) → list_any says_nothing es ≡ false → said (rows_of cs ins es) ≡ rows_of cs ins es
rows_said cs ins es some =
    let rows = rows_of cs ins es in
    all_said rows (none_are_silent rows (subst (λ b. All (SilentBy b) rows) some (silent_by_entries cs ins es)))

pub rows_unsaid : (cs : List Column) (ins : List ℕ) (es : List Entry) → list_any says_nothing es ≡ true → said (rows_of cs ins es) ≡ []
rows_unsaid cs ins es none = none_said (rows_of cs ins es) (subst (λ b. All (SilentBy b) (rows_of cs ins es)) none (silent_by_entries cs ins es))

-- ---- the distinct rows of outputs

abbrev pub row_outs : List PlainRow → List (List ℕ)
row_outs rows = map (λ (r : PlainRow). r.outs) rows

pub distinct_unmarked : (cs : List Column) (rows : List PlainRow) (d : Option (List ℕ)) (keys : List (List ℕ)) → keys ≡ insert_all same_outs (joined [] rows) (given d) → keys ≡ distinct (unmarked cs rows d)
distinct_unmarked cs rows d keys e = inserted_distinct (said_outs rows) (given d) (joined [] rows) keys refl e

outs_any_mark : (rows : List PlainRow) → row_outs (map with_any_mark rows) ≡ row_outs rows
outs_any_mark [] = refl
outs_any_mark (r ∷ rows) = ap (λ (all : List (List ℕ)). r.outs ∷ all) (outs_any_mark rows)

-- the rows of the default where the mark is 1
abbrev pub default_rows : List Column → NetId → List Entry → List PlainRow
default_rows cs mark es = rows_of (with_mark cs mark) (marked_sets cs) es

pub distinct_marked : (cs : List Column) (mark : NetId) (rows : List PlainRow) (es : List Entry) (keys : List (List ℕ)) → keys ≡ insert_all same_outs (joined [] rows) (row_outs (default_rows cs mark es)) → keys ≡ distinct (marked cs mark rows es)
distinct_marked cs mark rows es keys e =
    let more = default_rows cs mark es in
    let same : said_outs rows ++ row_outs more ≡ row_outs (map with_any_mark (said rows) ++ more) ++ [] =
    sym (append-nil (row_outs (map with_any_mark (said rows) ++ more))
    ∙ (map-append (λ (r : PlainRow). r.outs) (map with_any_mark (said rows)) more ∙ ap (λ (all : List (List ℕ)). all ++ row_outs more) (outs_any_mark (said rows)))) in
    inserted_distinct (said_outs rows) (row_outs more) (joined [] rows) keys refl e ∙ ap (firsts_by same_outs) same

pub joined_default : (cs : List Column) (mark : NetId) (es : List Entry) (keys : List (List ℕ)) → list_any says_nothing es ≡ false → joined keys (default_rows cs mark es) ≡ insert_all same_outs keys (row_outs (default_rows cs mark es))
joined_default cs mark es keys some = ap (λ (rows : List PlainRow). insert_all same_outs keys (row_outs rows)) (rows_said (with_mark cs mark) (marked_sets cs) es some)

-- ---- too many of them

pub stops_unmarked : (cs : List Column) (rows : List PlainRow) (d : Option (List ℕ)) (stop : JointStop) → StopsRows rows stop → StopsWith (unmarked cs rows d) stop
stops_unmarked cs rows d Wide h = wide_by _ _ (distinct_unmarked cs rows d _ refl) (wide_grows (joined [] rows) (given d) h)
stops_unmarked cs rows d Memory h = tt

pub stops_marked : (cs : List Column) (mark : NetId) (rows : List PlainRow) (es : List Entry) (stop : JointStop) → StopsRows rows stop → StopsWith (marked cs mark rows es) stop
stops_marked cs mark rows es Wide h = wide_by _ _ (distinct_marked cs mark rows es _ refl) (wide_grows (joined [] rows) (row_outs (default_rows cs mark es)) h)
stops_marked cs mark rows es Memory h = tt

pub stops_with : (cs : List Column) (mark : NetId) (rows : List PlainRow) (es : List Entry) (g : Gathered) (stop : JointStop) → list_any says_nothing es ≡ false → g.outs.keys ≡ joined [] rows → StopsOver (default_rows cs mark es) g stop → StopsWith (marked cs mark rows es) stop
stops_with cs mark rows es g Wide some keys h =
    wide_by _ _ (ap (λ (ks : List (List ℕ)). joined ks (default_rows cs mark es)) keys ∙ distinct_marked cs mark rows es _ (joined_default cs mark es (joined [] rows) some)) h
stops_with cs mark rows es g Memory some keys h = tt

-- ---- a table with a mark, by those of its rows that say some values of each output

marked_rows : (cs : List Column) (mark : NetId) (rows gathered : List PlainRow) (es : List Entry) → gathered ≡ said rows
    → (marked cs mark gathered es).rows ≡ (marked cs mark rows es).rows
marked_rows cs mark rows gathered es e =
    ap (λ (rs : List PlainRow). map with_any_mark rs ++ default_rows cs mark es) (ap said e ∙ said-said rows)

pub marked_choices : (cs : List Column) (mark : NetId) (rows gathered : List PlainRow) (es : List Entry) (f : SplitTable) → gathered ≡ said rows
    → AreChoices (marked cs mark gathered es) f → AreChoices (marked cs mark rows es) f
marked_choices cs mark rows gathered es f e a =
    let same = marked_rows cs mark rows gathered es e in
    record {
      columns = a.columns;
      rows = a.rows ∙ same;
      default = a.default;
      choices = a.choices ∙ ap (λ (rs : List PlainRow). firsts_by same_outs (row_outs rs ++ [])) same;
    }

pub marked_stops : (cs : List Column) (mark : NetId) (rows gathered : List PlainRow) (es : List Entry) (stop : JointStop) → gathered ≡ said rows
    → StopsWith (marked cs mark gathered es) stop → StopsWith (marked cs mark rows es) stop
marked_stops cs mark rows gathered es Wide e h =
    wide_by _ _ (ap (λ (rs : List PlainRow). firsts_by same_outs (row_outs rs ++ [])) (marked_rows cs mark rows gathered es e)) h
marked_stops cs mark rows gathered es Memory e h = tt

-- ---- the table without `=`, by what is left of its default

pub plain_none : (cs : List Column) (t : FileTable) (mark : NetId) → t.default ≡ None → plain_of cs t mark ≡ unmarked cs (all_rows cs t.rows) None
plain_none cs t mark e = ap (plain_by cs mark (all_rows cs t.rows)) e

pub plain_gone : (cs : List Column) (t : FileTable) (mark : NetId) (es : List Entry) → t.default ≡ Some es → stays cs (all_rows cs t.rows) es ≡ false → plain_of cs t mark ≡ unmarked cs (all_rows cs t.rows) None
plain_gone cs t mark es e gone = ap (plain_by cs mark (all_rows cs t.rows)) e ∙ rw gone refl

pub plain_marked : (cs : List Column) (t : FileTable) (mark : NetId) (es : List Entry) → t.default ≡ Some es → stays cs (all_rows cs t.rows) es ≡ true → needs_mark (all_rows cs t.rows) es ≡ true → plain_of cs t mark ≡ marked cs mark (all_rows cs t.rows) es
plain_marked cs t mark es e left needs = ap (plain_by cs mark (all_rows cs t.rows)) e ∙ rw left (rw needs refl)

pub plain_sets : (cs : List Column) (t : FileTable) (mark : NetId) (es : List Entry) → t.default ≡ Some es → stays cs (all_rows cs t.rows) es ≡ true → needs_mark (all_rows cs t.rows) es ≡ false → plain_of cs t mark ≡ unmarked cs (all_rows cs t.rows) (Some (map set_of es))
plain_sets cs t mark es e left stands = ap (plain_by cs mark (all_rows cs t.rows)) e ∙ rw left (rw stands refl)
