-- The rows of the first rows of a table, gathered.
use Rattle.std.proofs.Common.{◌≡◌, ℕ, ◌+◌, ◌<◌, Bool, true, false, not, List, [], ◌∷◌, ◌++◌, length, get_or, take, drop, sym, ◌∙◌, ap, subst, append-nil, take-append-drop}
use Rattle.std.specs.List.{flat_map, list_any}
use Rattle.std.proofs.lemmas.List.{take_more}
use Rattle.std.proofs.lemmas.List.Elements.{filter-append}
use Rattle.std.proofs.lemmas.Grind.{flat_map-append}
use Rattle.mv_design.specs.declared.table.Row.{Row}
use Rattle.mv_rows.specs.declared.column.Column.{Column}
use Rattle.mv_rows.specs.Flat.{says_nothing}
use Rattle.mv_joint.specs.declared.split.PlainRow.{PlainRow}
use Rattle.mv_joint.specs.declared.gather.Gathered.{Gathered}
use Rattle.mv_joint.specs.declared.joint.JointStop.{JointStop}
use Rattle.mv_joint.specs.declared.joint.JointStop.TheVariants.{Wide, Memory}
use Rattle.mv_joint.specs.Split.{rows_of, all_rows}
use Rattle.mv_joint.specs.Plain.{is_silent, said}
use Rattle.mv_joint.specs.Gather.{joined, IsGathered, Gathers, StopsOver, StopsRows}
use Rattle.mv_joint.proofs.Gathering.{joined-said, gathered_more, stops_at, wide_by}
use Rattle.mv_joint.proofs.Wide.{rows_said, rows_unsaid}

-- those of the first rows and of one more
pub rows_taken : (cs : List Column) (rows : List Row) (i : ℕ) (r : Row) → i < length rows → r ≡ get_or rows i r → all_rows cs (take (i + 1) rows) ≡ all_rows cs (take i rows) ++ rows_of cs r.ins r.outs
rows_taken cs rows i r low is =
    let f : Row → List PlainRow = λ x. rows_of cs x.ins x.outs in
    let more : take (i + 1) rows ≡ take i rows ++ r ∷ [] = take_more rows i r low ∙ ap (λ (x : Row). take i rows ++ x ∷ []) (sym is) in
    ap (flat_map f) more ∙ (flat_map-append f (take i rows) (r ∷ []) ∙ ap (λ (all : List PlainRow). flat_map f (take i rows) ++ all) (append-nil (f r)))

-- those of the first rows, of one more, and of those behind
pub rows_around : (cs : List Column) (rows : List Row) (i : ℕ) (r : Row) → i < length rows → r ≡ get_or rows i r → (all_rows cs (take i rows) ++ rows_of cs r.ins r.outs) ++ all_rows cs (drop (i + 1) rows) ≡ all_rows cs rows
rows_around cs rows i r low is =
    let f : Row → List PlainRow = λ x. rows_of cs x.ins x.outs in
    ap (λ (all : List PlainRow). all ++ flat_map f (drop (i + 1) rows)) (sym (rows_taken cs rows i r low is))
    ∙ (sym (flat_map-append f (take (i + 1) rows) (drop (i + 1) rows)) ∙ ap (flat_map f) (take-append-drop (i + 1) rows))

pub gathered_row : (cs : List Column) (rows : List Row) (i : ℕ) (r : Row) (x y : Gathered) → i < length rows → r ≡ get_or rows i r → IsGathered (all_rows cs (take i rows)) x → Gathers (rows_of cs r.ins r.outs) x y → IsGathered (all_rows cs (take (i + 1) rows)) y
gathered_row cs rows i r x y low is p q =
    subst (λ (all : List PlainRow). IsGathered all y) (sym (rows_taken cs rows i r low is)) (gathered_more (all_rows cs (take i rows)) (rows_of cs r.ins r.outs) x y p q)

pub stops_at_row : (cs : List Column) (rows : List Row) (i : ℕ) (r : Row) (x : Gathered) (stop : JointStop) → i < length rows → r ≡ get_or rows i r → IsGathered (all_rows cs (take i rows)) x → StopsOver (rows_of cs r.ins r.outs) x stop → StopsRows (all_rows cs rows) stop
stops_at_row cs rows i r x stop low is p h =
    subst (λ (all : List PlainRow). StopsRows all stop) (rows_around cs rows i r low is)
    (stops_at (all_rows cs (take i rows)) (rows_of cs r.ins r.outs) (all_rows cs (drop (i + 1) rows)) x stop p h)

-- ---- those that say some values of each output

said_taken : (cs : List Column) (rows : List Row) (i : ℕ) (r : Row) → i < length rows → r ≡ get_or rows i r → said (all_rows cs (take (i + 1) rows)) ≡ said (all_rows cs (take i rows)) ++ said (rows_of cs r.ins r.outs)
said_taken cs rows i r low is = ap said (rows_taken cs rows i r low is) ∙ filter-append (λ (x : PlainRow). not (is_silent x)) (all_rows cs (take i rows)) (rows_of cs r.ins r.outs)

-- a row that says nothing of an output
pub said_skipped : (cs : List Column) (rows : List Row) (i : ℕ) (r : Row) (x : Gathered) → i < length rows → r ≡ get_or rows i r → list_any says_nothing r.outs ≡ true → IsGathered (said (all_rows cs (take i rows))) x → IsGathered (said (all_rows cs (take (i + 1) rows))) x
said_skipped cs rows i r x low is none p =
    let before = said (all_rows cs (take i rows)) in
    subst (λ (all : List PlainRow). IsGathered all x)
    (sym (said_taken cs rows i r low is ∙ (ap (λ (all : List PlainRow). before ++ all) (rows_unsaid cs r.ins r.outs none) ∙ append-nil before))) p

-- one that says some values of each
pub said_row : (cs : List Column) (rows : List Row) (i : ℕ) (r : Row) (x y : Gathered) → i < length rows → r ≡ get_or rows i r → list_any says_nothing r.outs ≡ false → IsGathered (said (all_rows cs (take i rows))) x → Gathers (rows_of cs r.ins r.outs) x y → IsGathered (said (all_rows cs (take (i + 1) rows))) y
said_row cs rows i r x y low is some p q =
    let before = said (all_rows cs (take i rows)) in
    subst (λ (all : List PlainRow). IsGathered all y)
    (sym (said_taken cs rows i r low is ∙ ap (λ (all : List PlainRow). before ++ all) (rows_said cs r.ins r.outs some)))
    (gathered_more before (rows_of cs r.ins r.outs) x y p q)

stops_said : (a b : List PlainRow) (stop : JointStop) → said a ≡ b → StopsRows b stop → StopsRows a stop
stops_said a b Wide e h = wide_by _ _ (ap (joined []) (sym e) ∙ joined-said [] a) h
stops_said a b Memory e h = tt

pub stops_at_said : (cs : List Column) (rows : List Row) (i : ℕ) (r : Row) (x : Gathered) (stop : JointStop) → i < length rows → r ≡ get_or rows i r → list_any says_nothing r.outs ≡ false → IsGathered (said (all_rows cs (take i rows))) x → StopsOver (rows_of cs r.ins r.outs) x stop → StopsRows (all_rows cs rows) stop
stops_at_said cs rows i r x stop low is some p h =
    let Says : PlainRow → Bool = λ x. not (is_silent x) in
    let before = all_rows cs (take i rows) in
    let here = rows_of cs r.ins r.outs in
    let behind = all_rows cs (drop (i + 1) rows) in
    let parts : said (all_rows cs rows) ≡ (said before ++ here) ++ said behind =
    ap said (sym (rows_around cs rows i r low is))
    ∙ (filter-append Says (before ++ here) behind
    ∙ ap (λ (all : List PlainRow). all ++ said behind) (filter-append Says before here ∙ ap (λ (all : List PlainRow). said before ++ all) (rows_said cs r.ins r.outs some))) in
    stops_said (all_rows cs rows) _ stop parts (stops_at (said before) here (said behind) x stop p h)
