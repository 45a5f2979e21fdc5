-- The covers of a table of several outputs allow together what the table allows, and are well formed.
use Rattle.std.proofs.Common.{◌≡◌, ℕ, zero, suc, ◌+◌, ◌<◌, Bool, true, false, not, ◌&&◌, ◌||◌, nat_eq, cond, Option, Some, None, List, [], ◌∷◌, ◌++◌, length, get_or, drop, map, refl, sym, ◌∙◌, ap, subst, arith, add-one, All}
use Rattle.std.specs.Prelude.{nat_lt, slice_index_or}
use Rattle.std.specs.List.{list_any, range_with_len}
use Rattle.std.proofs.Math.Bool.{and-true}
use Rattle.std.proofs.lemmas.Bool.{cond_both, cond-true, cond-false, eq-eqb, or_parts}
use Rattle.std.proofs.lemmas.List.Elements.{All-nil, All-cons, All-head, All-tail, All-map, All-weaker}
use Rattle.std.proofs.lemmas.Option.{same_Some}
use Rattle.mv_base.specs.Set.{has, empty, one, full, Within}
use Rattle.mv_base.specs.declared.number.NetId.{NetId}
use Rattle.mv_cover.specs.Covers.{allowed}
use Rattle.mv_cover.specs.declared.cover.Cover.{Cover}
use Rattle.mv_design.specs.declared.table.Entry.{Entry}
use Rattle.mv_design.specs.declared.table.Entry.TheVariants.{Set}
use Rattle.mv_design.specs.declared.table.Row.{Row}
use Rattle.mv_design.specs.declared.table.FileTable.{FileTable}
use Rattle.mv_design.specs.Tables.{row_matches, some_row_matches, some_row_holds, table_allows}
use Rattle.mv_rows.specs.declared.column.Column.{Column}
use Rattle.mv_rows.specs.Cubes.{column_values, in_range, CountBy, AreColumns}
use Rattle.mv_rows.specs.Covers.{FitOutput, FitOutputs, IsTableCover, mark_value, MarkHas, IsFlatTable}
use Rattle.mv_rows.specs.Flat.{with_mark, only_entry}
use Rattle.mv_rows.proofs.Flat.{IsFlatTable_made, mark_is, mark_below, range_marked, count_marked}
use Rattle.mv_rows.proofs.Over.{one_within}
use Rattle.mv_joint.specs.declared.split.PlainRow.{PlainRow}
use Rattle.mv_joint.specs.Plain.{PlainTable}
use Rattle.mv_joint.specs.declared.joint.JointTable.{JointTable}
use Rattle.mv_joint.specs.Split.{all_rows}
use Rattle.mv_joint.specs.Plain.{IsJointFile, stays, needs_mark, set_of, mark_row, mark_table, unmarked, marked, plain_by, plain_of}
use Rattle.mv_joint.specs.Joint.{given, distinct, choice_count, choice_row, choice_default, choice_table, output_row, output_rows, output_table, choice_columns, IsCoverOf, AreOutputs, IsMarkOf, IsMadeJoint}
use Rattle.mv_joint.specs.Meaning.{outputs_allow, with_value, choice_allows, some_choice, FitJointOutputs, AreTableCovers, IsJointTable}
use Rattle.mv_joint.specs.Lawful.{IsPlain}
use Rattle.mv_joint.proofs.Anys.{any-map}
use Rattle.mv_joint.proofs.Tables.{plain_lawful, choice_unmarked, output_unmarked, count_some, count_few, count_reaches}
use Rattle.mv_joint.proofs.Splitting.{matches_at, matches-all}
use Rattle.mv_joint.proofs.PlainMeaning.{MarkAt, plain_means}
use Rattle.mv_joint.proofs.Choosing.{place_in, StandsAt, AsksAt, standing, choose-all, outputs-hold, all-firsts, placed}
use Rattle.mv_joint.proofs.Outs.{HasLength, OutsWithin, OutsAre, plain_long, plain_within}

-- ---- the choice net is apart from the columns

abbrev Apart : ℕ → List Column → Type 0
Apart n cs = list_any (λ (c : Column). nat_eq c.net.0 n) cs ≡ false

values_apart : (at : ℕ → ℕ) (n v : ℕ) (cs : List Column) → Apart n cs → column_values (with_value at n v) cs ≡ column_values at cs
values_apart at n v [] apart = refl
values_apart at n v (c ∷ cs) apart =
    let p = or_parts (nat_eq c.net.0 n) (list_any (λ (d : Column). nat_eq d.net.0 n) cs) apart in
    let here : with_value at n v c.net.0 ≡ at c.net.0 = cond-false (nat_eq c.net.0 n) v (at c.net.0) p.0 in
    let rest = values_apart at n v cs p.1 in
    λ i. here i ∷ rest i

range_apart : (at : ℕ → ℕ) (n v : ℕ) (cs : List Column) → Apart n cs → in_range (with_value at n v) cs ≡ in_range at cs
range_apart at n v [] apart = refl
range_apart at n v (c ∷ cs) apart =
    let p = or_parts (nat_eq c.net.0 n) (list_any (λ (d : Column). nat_eq d.net.0 n) cs) apart in
    let here : with_value at n v c.net.0 ≡ at c.net.0 = cond-false (nat_eq c.net.0 n) v (at c.net.0) p.0 in
    let rest = range_apart at n v cs p.1 in
    λ i. nat_lt (here i) c.count && rest i

apart_columns : (n : ℕ) (cs : List Column) (m : Column) → Apart n (cs ++ m ∷ []) → Apart n cs
apart_columns n [] m h = refl
apart_columns n (c ∷ cs) m h =
    let p = or_parts (nat_eq c.net.0 n) (list_any (λ (d : Column). nat_eq d.net.0 n) (cs ++ m ∷ [])) h in
    rw p.0 (apart_columns n cs m p.1)

-- ---- the columns and the mark of a table without `=`

-- what is so of each form that the table can have is so of the table
plain_cases : (cs : List Column) (t : FileTable) (mark : NetId) (Q : PlainTable → Type 0) → ((d : Option (List ℕ)) → Q (unmarked cs (all_rows cs t.rows) d)) → ((es : List Entry) → Q (marked cs mark (all_rows cs t.rows) es)) → Q (plain_of cs t mark)
plain_cases cs t mark Q plain with = by_default t.default
  where
    by_default : (d : Option (List Entry)) → Q (plain_by cs mark (all_rows cs t.rows) d)
    by_default None = plain None
    by_default (Some es) =
        let rows = all_rows cs t.rows in
        cond_both (not (stays cs rows es)) (unmarked cs rows None) (cond (needs_mark rows es) (marked cs mark rows es) (unmarked cs rows (Some (map set_of es)))) Q
        (λ _. plain None)
        (λ _. cond_both (needs_mark rows es) (marked cs mark rows es) (unmarked cs rows (Some (map set_of es))) Q (λ _. with es) (λ _. plain (Some (map set_of es))))

-- what is so of the columns, and with the mark at its value of the columns with the mark, is so of the table's
table_columns : (cs : List Column) (t : FileTable) (mark : NetId) (of : ℕ → ℕ) (n : ℕ) (P : List Column → Type 0) → P cs → (of mark.0 ≡ n → P (with_mark cs mark)) → MarkAt (plain_of cs t mark).mark mark of n → P (plain_of cs t mark).columns
table_columns cs t mark of n P plain with = plain_cases cs t mark (λ p. MarkAt p.mark mark of n → P p.columns) (λ _ _. plain) (λ _. with)

either_columns : (cs : List Column) (t : FileTable) (mark : NetId) (P : List Column → Type 0) → P cs → P (with_mark cs mark) → P (plain_of cs t mark).columns
either_columns cs t mark P plain with = plain_cases cs t mark (λ p. P p.columns) (λ _. plain) (λ _. with)

-- the mark's table is the mark's table
mark_table_is : (cs : List Column) (t : FileTable) (mark : NetId) (m : FileTable) → (plain_of cs t mark).mark ≡ Some m → mark_table (all_rows cs t.rows) ≡ m
mark_table_is cs t mark m =
    plain_cases cs t mark (λ p. p.mark ≡ Some m → mark_table (all_rows cs t.rows) ≡ m)
    (λ _ e. (let none : None ≡ Some m = e in absurd (cc)))
    (λ _ e. (let some : Some (mark_table (all_rows cs t.rows)) ≡ Some m = e in same_Some _ m some))

-- the mark, if there is one, is the mark's
mark_at : (cs : List Column) (mark : NetId) (table : Option FileTable) (cover : Option Cover) (of : ℕ → ℕ) (n : ℕ) → IsMarkOf cs mark table cover → MarkHas cover mark of n → MarkAt table mark of n
mark_at cs mark None None of n is has = tt
mark_at cs mark None (Some c) of n is has = absurd is
mark_at cs mark (Some t) None of n is has = absurd is
mark_at cs mark (Some t) (Some c) of n is has = has

-- a cover of the mark has a table
record HasTable (cs : List Column) (mark : NetId) (table : Option FileTable) (c : Cover) : Type 0 where
  of : FileTable
  is : table ≡ Some of
  made : IsCoverOf cs of mark c

has_table : (cs : List Column) (mark : NetId) (table : Option FileTable) (cover : Option Cover) (c : Cover) → IsMarkOf cs mark table cover → cover ≡ Some c → HasTable cs mark table c
has_table cs mark None None c is e = absurd (cc)
has_table cs mark None (Some d) c is e = absurd is
has_table cs mark (Some t) None c is e = absurd is
has_table cs mark (Some t) (Some d) c is e = let same : d ≡ c = cc in record { of = t; is = refl; made = subst (IsCoverOf cs t mark) same is }

-- ---- the mark's cover

marks_hold : (rows : List PlainRow) (values : List ℕ) (v : ℕ) → some_row_holds (map mark_row rows) values (v ∷ []) ≡ (list_any (matches_at values) rows && has (one 0) v)
marks_hold [] values v = refl
marks_hold (r ∷ rows) values v =
    ap (λ b. (row_matches r.ins values && (has (one 0) v && true)) || b) (marks_hold rows values v)
    ∙ joined (row_matches r.ins values) (has (one 0) v) (list_any (matches_at values) rows)
  where
    joined : (m h any : Bool) → ((m && (h && true)) || (any && h)) ≡ ((m || any) && h)
    joined true true any = refl
    joined true false true = refl
    joined true false false = refl
    joined false h any = refl

mark_allows : (at : ℕ → ℕ) (cs : List Column) (t : FileTable) (v : ℕ) → IsJointFile cs t → in_range at cs ≡ true → table_allows (mark_table (all_rows cs t.rows)).rows (mark_table (all_rows cs t.rows)).default (column_values at cs) (v ∷ []) ≡ nat_eq v (mark_value t.rows (column_values at cs))
unfolding table_allows
mark_allows at cs t v file range =
    let values = column_values at cs in
    let rows = all_rows cs t.rows in
    let m : list_any (matches_at values) rows ≡ some_row_matches t.rows values = matches-all at cs (length t.outputs) t.rows range file.rows in
    let holds : some_row_holds (map mark_row rows) values (v ∷ []) ≡ (some_row_matches t.rows values && has (one 0) v) = marks_hold rows values v ∙ ap (λ b. b && has (one 0) v) m in
    let matches : some_row_matches (map mark_row rows) values ≡ some_row_matches t.rows values = any-map (λ (r : Row). row_matches r.ins values) mark_row rows ∙ m in
    (λ i. holds i || (not (matches i) && and-true (has (one 1) v) i)) ∙ mark_is (some_row_matches t.rows values) v

-- ---- what holds for the covers

-- a table, with columns and nets as they are asked for, and its covers
pub record IsAsked (cs : List Column) (t : FileTable) (mark choice : NetId) (joint : JointTable) : Type 0 where
  pub columns : AreColumns cs
  pub marked_columns : AreColumns (with_mark cs mark)
  pub apart : list_any (λ (c : Column). nat_eq c.net.0 choice.0) (with_mark cs mark) ≡ false
  pub file : IsJointFile cs t
  pub made : IsMadeJoint cs t mark choice joint

plain_is : (cs : List Column) (t : FileTable) (mark choice : NetId) (joint : JointTable) → IsAsked cs t mark choice joint → IsPlain mark (plain_of cs t mark)
plain_is cs t mark choice joint q = (plain_lawful cs t mark q.columns q.marked_columns q.file).table

chosen_flat : (cs : List Column) (t : FileTable) (mark choice : NetId) (joint : JointTable) → IsAsked cs t mark choice joint → IsFlatTable (plain_of cs t mark).columns (choice_table (plain_of cs t mark)) mark (record { cover = joint.choice; mark = None })
chosen_flat cs t mark choice joint q =
    let p = plain_of cs t mark in
    IsFlatTable_made p.columns (choice_table p) mark (record { cover = joint.choice; mark = None }) (choice_unmarked mark p (plain_is cs t mark choice joint q)).table q.made.chosen

value_there : (at : ℕ → ℕ) (n v : ℕ) → with_value at n v n ≡ v
value_there at n v = cond-true (nat_eq n n) v (at n) (eq-eqb n n refl)

-- what holds of the rows of outputs of a table holds of the distinct ones
all_are : (R : List ℕ → Type 0) (p : PlainTable) → OutsAre R p → All R (distinct p)
all_are R p outs = all-firsts R (map (λ (r : PlainRow). r.outs) p.rows ++ given p.default) (placed R p.rows p.default (λ k d low. (outs.rows k d low).0) (λ sets e. (outs.default sets e).0))

allows : (cs : List Column) (t : FileTable) (mark choice : NetId) (joint : JointTable) → IsAsked cs t mark choice joint → (at : ℕ → ℕ) → in_range at cs ≡ true → MarkHas joint.mark mark at (mark_value t.rows (column_values at cs)) → (outs : List ℕ) → some_choice joint choice at outs ≡ table_allows t.rows t.default (column_values at cs) outs
allows cs t mark choice joint q at range has outs =
    let p = plain_of cs t mark in
    let n = mark_value t.rows (column_values at cs) in
    let value : MarkAt p.mark mark at n = mark_at cs mark p.mark joint.mark at n q.made.marked has in
    let apart : Apart choice.0 p.columns = either_columns cs t mark (Apart choice.0) (apart_columns choice.0 cs (record { net = mark; count = 2 }) q.apart) q.apart in
    let there : in_range at p.columns ≡ true =
    table_columns cs t mark at n (λ ds. in_range at ds ≡ true) range (λ e. range_marked at cs mark range (mark_below (some_row_matches t.rows (column_values at cs)) (at mark.0) e)) value in
    let values = column_values at p.columns in
    let O : ℕ → Bool = λ v. outputs_allow joint.outputs (with_value at choice.0 v) outs in
    let chosen : (v : ℕ) → choice_allows joint choice at outs v ≡ (table_allows (choice_table p).rows (choice_table p).default values (v ∷ []) && O v) =
    λ v. ap (λ b. b && O v)
    ((chosen_flat cs t mark choice joint q).allows (with_value at choice.0 v) (range_apart at choice.0 v p.columns apart ∙ there) tt v
    ∙ ap (λ (x : List ℕ). table_allows (choice_table p).rows (choice_table p).default x (v ∷ [])) (values_apart at choice.0 v p.columns apart)) in
    let long = all_are (HasLength (length t.outputs)) p (plain_long cs t mark q.file) in
    let asks : (sets : List ℕ) → StandsAt (distinct p) sets → AsksAt (distinct p) joint.values O outs sets =
    λ sets s.
    let i = place_in (distinct p) sets in
    let e : with_value at choice.0 i choice.0 ≡ i = value_there at choice.0 i in
    let low : with_value at choice.0 i choice.0 < length (distinct p) = subst (λ (k : ℕ). k < length (distinct p)) (sym e) s.within in
    let full : get_or (distinct p) (with_value at choice.0 i choice.0) [] ≡ sets = ap (λ (k : ℕ). get_or (distinct p) k []) e ∙ s.there in
    let size : length (get_or (distinct p) (with_value at choice.0 i choice.0) []) ≡ 0 + length joint.outputs =
    omega (arith, long (with_value at choice.0 i choice.0) [] low, q.made.many) in
    record {
      below = omega (arith, s.within, count_reaches (distinct p), q.made.values);
      asks = outputs-hold (distinct p) mark choice 0 joint.outputs (with_value at choice.0 i) outs q.made.each low size ∙ ap (λ (x : List ℕ). row_matches x outs) full;
    } in
    ap (λ (f : ℕ → Bool). list_any f (range_with_len 0 joint.values)) (λ k v. chosen v k)
    ∙ (choose-all p joint.values O values outs asks
    ∙ plain_means cs t mark at outs q.file range value)

marks : (cs : List Column) (t : FileTable) (mark choice : NetId) (joint : JointTable) → IsAsked cs t mark choice joint → (m : Cover) → joint.mark ≡ Some m → (at : ℕ → ℕ) → in_range at cs ≡ true → (v : ℕ) → allowed m at v ≡ nat_eq v (mark_value t.rows (column_values at cs))
marks cs t mark choice joint q m e at range v =
    let p = plain_of cs t mark in
    let h = has_table cs mark p.mark joint.mark m q.made.marked e in
    let lawful = (plain_lawful cs t mark q.columns q.marked_columns q.file).mark_table.each h.of h.is in
    (IsFlatTable_made cs h.of mark (record { cover = m; mark = None }) lawful.table h.made).allows at range tt v
    ∙ (ap (λ (x : FileTable). table_allows x.rows x.default (column_values at cs) (v ∷ [])) (sym (mark_table_is cs t mark h.of h.is))
    ∙ mark_allows at cs t v q.file range)

-- ---- well formed

choice_fits : (cs : List Column) (all : List (List ℕ)) (n : ℕ) (rows : List PlainRow) (d : Option (List ℕ)) → All (λ (r : PlainRow). place_in all r.outs < n) rows → ((sets : List ℕ) → d ≡ Some sets → place_in all sets < n) → FitOutputs cs n (record { line = 0; inputs = []; outputs = []; rows = map (choice_row all) rows; default = choice_default all d })
choice_fits cs all n rows d low default = record {
  rows = All-map (λ (r : Row). FitOutput cs n (only_entry r.outs)) (choice_row all) rows
      (All-weaker (λ (r : PlainRow). place_in all r.outs < n) (λ (r : PlainRow). Within (one (place_in all r.outs)) (full n)) (λ r h. one_within (place_in all r.outs) n h) rows low);
  default = λ es e. fits d default es e;
}
  where
    fits : (d : Option (List ℕ)) → ((sets : List ℕ) → d ≡ Some sets → place_in all sets < n) → (es : List Entry) → choice_default all d ≡ Some es → FitOutput cs n (only_entry es)
    fits None low es e = absurd (cc)
    fits (Some sets) low es e =
        let same : Set (one (place_in all sets)) ∷ [] ≡ es = cc in
        subst (λ (x : List Entry). FitOutput cs n (only_entry x)) same (one_within (place_in all sets) n (low sets refl))

formed : (cs : List Column) (t : FileTable) (mark choice : NetId) (joint : JointTable) → IsAsked cs t mark choice joint → (count : ℕ → ℕ) → CountBy count cs → MarkHas joint.mark mark count 2 → IsTableCover count joint.values joint.choice
formed cs t mark choice joint q count by has =
    let p = plain_of cs t mark in
    let value : MarkAt p.mark mark count 2 = mark_at cs mark p.mark joint.mark count 2 q.made.marked has in
    let counted : CountBy count p.columns = table_columns cs t mark count 2 (CountBy count) by (λ e. count_marked count cs mark by e) value in
    let below : (sets : List ℕ) → StandsAt (distinct p) sets → place_in (distinct p) sets < joint.values = λ sets s. omega (arith, s.within, count_reaches (distinct p), q.made.values) in
    (chosen_flat cs t mark choice joint q).formed count counted tt joint.values
    (choice_fits p.columns (distinct p) joint.values p.rows p.default (λ k d low. below _ ((standing p).rows k d low)) (λ sets e. below sets ((standing p).default sets e)))

-- the first set of those behind the first j is the set of output j
head_within : (j n : ℕ) (ns sets : List ℕ) → OutsWithin (n ∷ ns) (drop j sets) → Within (slice_index_or sets j empty) (full n) × OutsWithin ns (drop (suc j) sets)
head_within zero n ns [] h = absurd h
head_within zero n ns (s ∷ sets) h = (h.0, h.1)
head_within (suc j) n ns [] h = absurd h
head_within (suc j) n ns (s ∷ sets) h = head_within j n ns sets h

output_fits : (cs : List Column) (j v n : ℕ) (all : List (List ℕ)) → All (λ (w : List ℕ). Within (slice_index_or w j empty) (full n)) all → All (λ (r : Row). FitOutput cs n (only_entry r.outs)) (output_rows j v all)
output_fits cs j v n [] h = All-nil _
output_fits cs j v n (w ∷ all) h =
    let P : List ℕ → Type 0 = λ (x : List ℕ). Within (slice_index_or x j empty) (full n) in
    All-cons (λ (r : Row). FitOutput cs n (only_entry r.outs)) (output_row j v w) (output_rows j (v + 1) all) (All-head P w all h) (output_fits cs j (v + 1) n all (All-tail P w all h))

covers_formed : (all : List (List ℕ)) (mark choice : NetId) (j : ℕ) (covers : List Cover) (count : ℕ → ℕ) (ns : List ℕ) → AreOutputs all mark choice j covers → CountBy count (choice_columns all choice) → length covers ≡ length ns → All (λ (w : List ℕ). OutsWithin ns (drop j w)) all → AreTableCovers count ns covers
covers_formed all mark choice j [] count [] are by long fit = tt
covers_formed all mark choice j [] count (n ∷ ns) are by long fit = absurd (omega (arith, long))
covers_formed all mark choice j (c ∷ cs) count [] are by long fit = absurd (omega (arith, long))
covers_formed all mark choice j (c ∷ cs) count (n ∷ ns) are by long fit =
    let heads : All (λ (w : List ℕ). Within (slice_index_or w j empty) (full n) × OutsWithin ns (drop (suc j) w)) all =
    All-weaker (λ (w : List ℕ). OutsWithin (n ∷ ns) (drop j w)) _ (λ w h. head_within j n ns w h) all fit in (
      (IsFlatTable_made (choice_columns all choice) (output_table all j) mark (record { cover = c; mark = None }) (output_unmarked all choice j).table are.0).formed count by tt n
          (record { rows = output_fits (choice_columns all choice) j 0 n all (λ k d low. (heads k d low).0); default = λ es e. absurd (cc) }),
      covers_formed all mark choice (j + 1) cs count ns are.1 by (omega (arith, long)) (λ k d low. subst (λ (i : ℕ). OutsWithin ns (drop i (get_or all k d))) (sym (add-one j)) (heads k d low).1),
    )

outputs_formed : (cs : List Column) (t : FileTable) (mark choice : NetId) (joint : JointTable) → IsAsked cs t mark choice joint → (count : ℕ → ℕ) → count choice.0 ≡ joint.values → (counts : List ℕ) → FitJointOutputs cs counts t → AreTableCovers count counts joint.outputs
outputs_formed cs t mark choice joint q count e counts fit =
    let p = plain_of cs t mark in
    let P : Column → Type 0 = λ (c : Column). c.count ≡ count c.net.0 in
    let c : Column = record { net = choice; count = choice_count (distinct p) } in
    covers_formed (distinct p) mark choice 0 joint.outputs count counts q.made.each
    (All-cons P c [] (sym (e ∙ q.made.values)) (All-nil P))
    (q.made.many ∙ sym fit.many)
    (all_are (OutsWithin counts) p (plain_within cs t mark counts q.file fit))

mark_fits : (cs : List Column) (rows : List PlainRow) → FitOutputs cs 2 (mark_table rows)
mark_fits cs rows = record {
  rows = All-map (λ (r : Row). FitOutput cs 2 (only_entry r.outs)) mark_row rows (λ k d low. one_within 0 2 (omega arith));
  default = λ es e.
      let same : Set (one 1) ∷ [] ≡ es = cc in
      subst (λ (x : List Entry). FitOutput cs 2 (only_entry x)) same (one_within 1 2 (omega arith));
}

mark_formed : (cs : List Column) (t : FileTable) (mark choice : NetId) (joint : JointTable) → IsAsked cs t mark choice joint → (m : Cover) → joint.mark ≡ Some m → (count : ℕ → ℕ) → CountBy count cs → IsTableCover count 2 m
mark_formed cs t mark choice joint q m e count by =
    let p = plain_of cs t mark in
    let h = has_table cs mark p.mark joint.mark m q.made.marked e in
    let lawful = (plain_lawful cs t mark q.columns q.marked_columns q.file).mark_table.each h.of h.is in
    (IsFlatTable_made cs h.of mark (record { cover = m; mark = None }) lawful.table h.made).formed count by tt 2
    (subst (FitOutputs cs 2) (mark_table_is cs t mark h.of h.is) (mark_fits cs (all_rows cs t.rows)))

-- ---- the table

pub IsJointTable_made : (cs : List Column) (t : FileTable) (mark choice : NetId) (joint : JointTable) → AreColumns cs → AreColumns (with_mark cs mark) → list_any (λ (c : Column). nat_eq c.net.0 choice.0) (with_mark cs mark) ≡ false → IsJointFile cs t → IsMadeJoint cs t mark choice joint → IsJointTable cs t mark choice joint
IsJointTable_made cs t mark choice joint columns with apart file made =
    let q : IsAsked cs t mark choice joint = record { columns = columns; marked_columns = with; apart = apart; file = file; made = made } in
    let all = distinct (plain_of cs t mark) in
    record {
      some = omega (arith, made.values, count_some all);
      few = omega (arith, made.values, count_few all made.few);
      allows = allows cs t mark choice joint q;
      marks = marks cs t mark choice joint q;
      formed = formed cs t mark choice joint q;
      outputs_formed = outputs_formed cs t mark choice joint q;
      mark_formed = mark_formed cs t mark choice joint q;
    }
