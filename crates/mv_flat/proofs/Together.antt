-- The covers of a table, of one output or of several, allow its outputs' values together exactly where the table does: for a table of
-- several outputs, with some value of its choice net.
use Rattle.std.proofs.Common.{◌≡◌, ℕ, zero, suc, ◌+◌, ◌<◌, Bool, true, false, ◌&&◌, List, [], ◌∷◌, length, get_or, map, Option, Some, refl, sym, ◌∙◌, ap, subst}
use Rattle.std.proofs.Common.{arith, ◌||◌, ⊎_elim, All}
use Rattle.std.specs.Prelude.{nat_eq, nat_lt}
use Rattle.std.specs.List.{slice_get, range_with_len}
use Rattle.std.proofs.lemmas.Bool.{false≢true, and_from, and_parts, cases_Bool, cond-true, cond-false, eq-eqb, eqb-true, false_from_ne_true, lt-ltb, ltb-true}
use Rattle.std.proofs.lemmas.List.Folds.{list_any_at}
use Rattle.std.proofs.lemmas.List.FromFn.{length-range_with_len, get_or-range_with_len}
use Rattle.std.proofs.lemmas.Option.{none-some, same_Some}
use Rattle.mv_base.specs.declared.number.NetId.{NetId}
use Rattle.mv_base.proofs.Lists.{found}
use Rattle.mv_cover.specs.Covers.{allowed}
use Rattle.mv_cover.specs.declared.cover.Cover.{Cover}
use Rattle.mv_cover.proofs.Local.{allowed-local}
use Rattle.mv_design.specs.declared.design.Decl.{Decl}
use Rattle.mv_design.specs.declared.table.FileTable.{FileTable}
use Rattle.mv_design.specs.Tables.{table_allows}
use Rattle.mv_design.specs.Values.{count_of}
use Rattle.mv_rows.specs.declared.column.Column.{Column}
use Rattle.mv_rows.specs.declared.table.FlatTable.{FlatTable}
use Rattle.mv_rows.specs.Cubes.{column_values, in_range}
use Rattle.mv_rows.specs.Covers.{IsFlatTable, IsTableCover, mark_value, MarkHas}
use Rattle.mv_rows.specs.Flat.{with_mark}
use Rattle.mv_joint.specs.declared.joint.JointTable.{JointTable}
use Rattle.mv_joint.specs.Meaning.{outputs_allow, with_value, choice_allows, FitJointOutputs, AreTableCovers, IsJointTable}
use Rattle.mv_joint.specs.Plain.{AreApart}
use Rattle.mv_net.specs.declared.parts.FlatNet.{FlatNet}
use Rattle.mv_resets.specs.NetModels.{HasLawfulValues}
use Rattle.mv_flat.specs.declared.covers.TableCovers.{TableCovers}
use Rattle.mv_flat.specs.declared.covers.TableCovers.TheVariants.{Single, Joint}
use Rattle.mv_flat.specs.Covers.{IsMadeTable, mark_of, outputs_of}
use Rattle.mv_flat.specs.Numbers.{columns_at, mark_at, choice_at}
use Rattle.mv_flat.specs.Places.{is_joint}
use Rattle.mv_flat.proofs.FormedCovers.{is_column, cover_above}
use Rattle.mv_flat.proofs.ReadNets.{count_in, same_at, outputs_same, read_columns, values_read, in_read, count_read, mark_read}
use Rattle.mv_flat.proofs.Covered.{IsCovered, covered, fit_outputs}
use Rattle.mv_flat.proofs.Shapes.{apart}
use Rattle.mv_flat.proofs.Singles.{single_output}
use Rattle.mv_flat.proofs.Slots.{IsTableAt}

-- ---- what the covers of a table mean

-- the choice net, if there is one, has one of its values, and its cover allows it
abbrev pub choice_holds : TableCovers → NetId → (ℕ → ℕ) → Bool
choice_holds (Single flat) choice at = true
choice_holds (Joint joint) choice at = nat_lt (at choice.0) joint.values && allowed joint.choice at (at choice.0)

-- so it is, and the covers of the outputs allow these values
pub record AllowOutputs (covers : TableCovers) (choice : NetId) (at : ℕ → ℕ) (outs : List ℕ) : Type 0 where
  pub chosen : choice_holds covers choice at ≡ true
  pub outputs : outputs_allow (outputs_of covers) at outs ≡ true

-- with this value of the choice net the covers do, whatever the values of nets that aren't the table's
pub record HasChoice (columns : List Column) (t : FileTable) (mark choice : NetId) (covers : TableCovers) (values outs : List ℕ) : Type 0 where
  pub value : ℕ
  pub allow : (at : ℕ → ℕ) → in_range at columns ≡ true → column_values at columns ≡ values → MarkHas (mark_of covers) mark at (mark_value t.rows values)
      → (is_joint t ≡ true → at choice.0 ≡ value) → AllowOutputs covers choice at outs

-- the covers together allow what the table allows, and the mark's cover allows its value alone
pub record IsMeant (columns : List Column) (t : FileTable) (mark choice : NetId) (covers : TableCovers) : Type 0 where
  pub down : (at : ℕ → ℕ) → in_range at columns ≡ true → MarkHas (mark_of covers) mark at (mark_value t.rows (column_values at columns)) → (outs : List ℕ)
      → AllowOutputs covers choice at outs → table_allows t.rows t.default (column_values at columns) outs ≡ true
  pub up : (at : ℕ → ℕ) → in_range at columns ≡ true → MarkHas (mark_of covers) mark at (mark_value t.rows (column_values at columns)) → (outs : List ℕ)
      → length outs ≡ length t.outputs → table_allows t.rows t.default (column_values at columns) outs ≡ true
      → HasChoice columns t mark choice covers (column_values at columns) outs
  pub marks : (m : Cover) → mark_of covers ≡ Some m → (at : ℕ → ℕ) → in_range at columns ≡ true → (v : ℕ)
      → allowed m at v ≡ nat_eq v (mark_value t.rows (column_values at columns))

-- ---- one output

single_down : (columns : List Column) (t : FileTable) (mark choice : NetId) (flat : FlatTable) → IsFlatTable columns t mark flat → (at : ℕ → ℕ)
    → in_range at columns ≡ true → MarkHas flat.mark mark at (mark_value t.rows (column_values at columns)) → (outs : List ℕ)
    → outputs_allow (flat.cover ∷ []) at outs ≡ true → table_allows t.rows t.default (column_values at columns) outs ≡ true
single_down columns t mark choice flat is at range has [] h = absurd (false≢true h)
single_down columns t mark choice flat is at range has (v ∷ []) h = sym (is.allows at range has v) ∙ (and_parts (allowed flat.cover at v) true h).0
single_down columns t mark choice flat is at range has (v ∷ w ∷ outs) h = absurd (false≢true (and_parts (allowed flat.cover at v) false h).1)

single_up : (columns : List Column) (t : FileTable) (mark choice : NetId) (flat : FlatTable) → IsFlatTable columns t mark flat → (values outs : List ℕ)
    → length outs ≡ 1 → table_allows t.rows t.default values outs ≡ true → HasChoice columns t mark choice (Single flat) values outs
single_up columns t mark choice flat is values [] one h = absurd (omega (arith, one))
single_up columns t mark choice flat is values (v ∷ w ∷ outs) one h = absurd (omega (arith, one))
single_up columns t mark choice flat is values (v ∷ []) one h = record {
  value = 0;
  allow = λ at range e has _.
      let there : MarkHas flat.mark mark at (mark_value t.rows (column_values at columns))
      = subst (λ (x : List ℕ). MarkHas flat.mark mark at (mark_value t.rows x)) (sym e) has in
      let gives : allowed flat.cover at v ≡ true = is.allows at range there v ∙ (ap (λ (x : List ℕ). table_allows t.rows t.default x (v ∷ [])) e ∙ h) in
      record { chosen = refl; outputs = and_from (allowed flat.cover at v) true gives refl };
}

single_meant : (columns : List Column) (t : FileTable) (mark choice : NetId) (flat : FlatTable) → length t.outputs ≡ 1 → IsFlatTable columns t mark flat
    → IsMeant columns t mark choice (Single flat)
single_meant columns t mark choice flat one is = record {
  down = λ at range has outs a. single_down columns t mark choice flat is at range has outs a.outputs;
  up = λ at range has outs long h. single_up columns t mark choice flat is (column_values at columns) outs (long ∙ one) h;
  marks = is.marks;
}

-- ---- several outputs

-- what is asked of a table of several outputs with its covers
record IsSeveral (columns : List Column) (t : FileTable) (mark choice : NetId) (joint : JointTable) : Type 0 where
  several : is_joint t ≡ true
  nets_apart : AreApart columns mark choice
  relation : IsJointTable columns t mark choice joint
  counts : List ℕ
  fit : FitJointOutputs columns counts t

value_here : (at : ℕ → ℕ) (n v : ℕ) → with_value at n v n ≡ v
value_here at n v = cond-true (nat_eq n n) v (at n) (eq-eqb n n refl)

-- the value that a net has already
same_value : (at : ℕ → ℕ) (n : ℕ) → with_value at n (at n) ≡ at
same_value at n = λ i m. each m i
  where
    each : (m : ℕ) → with_value at n (at n) m ≡ at m
    each m =
        ⊎_elim (λ (y : nat_eq m n ≡ true). cond-true (nat_eq m n) (at n) (at m) y ∙ ap at (sym (eqb-true m n y)))
        (λ (y : nat_eq m n ≡ false). cond-false (nat_eq m n) (at n) (at m) y) (cases_Bool (nat_eq m n))

-- a value of a net of no column changes no column
value_other : (at : ℕ → ℕ) (columns : List Column) (n v m : ℕ) → is_column columns n ≡ false → is_column columns m ≡ true → with_value at n v m ≡ at m
value_other at columns n v m out there =
    cond-false (nat_eq m n) v (at m) (false_from_ne_true (nat_eq m n) (λ y. false≢true (sym out ∙ (ap (is_column columns) (sym (eqb-true m n y)) ∙ there))))

joint_down : (columns : List Column) (t : FileTable) (mark choice : NetId) (joint : JointTable) → IsJointTable columns t mark choice joint → (at : ℕ → ℕ)
    → in_range at columns ≡ true → MarkHas joint.mark mark at (mark_value t.rows (column_values at columns)) → (outs : List ℕ)
    → AllowOutputs (Joint joint) choice at outs → table_allows t.rows t.default (column_values at columns) outs ≡ true
joint_down columns t mark choice joint is at range has outs a =
    let n : ℕ = choice.0 in
    let v : ℕ = at n in
    let p = and_parts (nat_lt v joint.values) (allowed joint.choice at v) a.chosen in
    let low : v < joint.values = ltb-true v joint.values p.0 in
    let size : length (range_with_len 0 joint.values) ≡ joint.values = length-range_with_len 0 joint.values in
    let there : get_or (range_with_len 0 joint.values) v 0 ≡ v = get_or-range_with_len 0 joint.values v 0 low ∙ (let z : 0 + v ≡ v = omega arith in z) in
    let own : choice_allows joint choice at outs v ≡ true =
    ap (λ (x : ℕ → ℕ). allowed joint.choice x v && outputs_allow joint.outputs x outs) (same_value at n)
    ∙ and_from (allowed joint.choice at v) (outputs_allow joint.outputs at outs) p.1 a.outputs in
    sym (is.allows at range has outs)
    ∙ list_any_at (choice_allows joint choice at outs) (range_with_len 0 joint.values) v 0 (omega (arith, low, size))
    (ap (choice_allows joint choice at outs) there ∙ own)

-- a number of a range is below its end
below_end : (a n k v : ℕ) → slice_get (range_with_len a n) k ≡ Some v → v < a + n
below_end a zero k v e = absurd (none-some v e)
below_end a (suc n) zero v e = let s = same_Some a v e in omega (arith, s)
below_end a (suc n) (suc k) v e = let r = below_end (a + 1) n k v e in omega (arith, r)

joint_up : (columns : List Column) (t : FileTable) (mark choice : NetId) (joint : JointTable) → IsSeveral columns t mark choice joint → (at : ℕ → ℕ)
    → in_range at columns ≡ true → MarkHas joint.mark mark at (mark_value t.rows (column_values at columns)) → (outs : List ℕ)
    → table_allows t.rows t.default (column_values at columns) outs ≡ true → HasChoice columns t mark choice (Joint joint) (column_values at columns) outs
joint_up columns t mark choice joint q at range has outs h =
    let f = found (choice_allows joint choice at outs) (range_with_len 0 joint.values) (q.relation.allows at range has outs ∙ h) in
    let low = below_end 0 joint.values f.place f.item f.at in
    record { value = f.item; allow = λ to r e mark_has chosen. allow f.item low f.passes to e mark_has (chosen q.several) }
  where
    read : List Column
    read = read_columns joint.mark columns mark

    own : ℕ → ℕ
    own = q.nets_apart.marked.count

    own_choice : List Column
    own_choice = record { net = choice; count = joint.values } ∷ []

    choice_formed : IsTableCover (count_in read own) joint.values joint.choice
    choice_formed =
        q.relation.formed (count_in read own) (count_read joint.mark columns mark own q.nets_apart.marked.counts)
        (mark_read joint.mark columns mark own q.nets_apart.marked.counts)

    outputs_formed : AreTableCovers (count_in own_choice (λ _. joint.values)) q.counts joint.outputs
    outputs_formed =
        q.relation.outputs_formed (count_in own_choice (λ _. joint.values))
        (cond-true (is_column own_choice choice.0) joint.values 0 (ap (λ b. b || false) (eq-eqb choice.0 choice.0 refl))) q.counts q.fit

    allow : (v : ℕ) → v < 0 + joint.values → choice_allows joint choice at outs v ≡ true → (to : ℕ → ℕ) → column_values to columns ≡ column_values at columns
        → MarkHas joint.mark mark to (mark_value t.rows (column_values at columns)) → to choice.0 ≡ v → AllowOutputs (Joint joint) choice to outs
    allow v low passes to e mark_has is =
        let with : ℕ → ℕ = with_value at choice.0 v in
        let p = and_parts (allowed joint.choice with v) (outputs_allow joint.outputs with outs) passes in
        let values : column_values to read ≡ column_values at read
        = values_read joint.mark columns mark to at (mark_value t.rows (column_values at columns)) e mark_has has in
        let chosen : allowed joint.choice to v ≡ allowed joint.choice with v =
        allowed-local joint.choice to with v (λ m r.
        let there = cover_above (is_column read) own joint.values joint.choice m choice_formed r in
        same_at to at read m values there
        ∙ sym (value_other at (with_mark columns mark) choice.0 v m q.nets_apart.chosen (in_read joint.mark columns mark m there))) in
        let here : to choice.0 ≡ with choice.0 = is ∙ sym (value_here at choice.0 v) in
        record {
          chosen =
              and_from (nat_lt (to choice.0) joint.values) (allowed joint.choice to (to choice.0)) (lt-ltb (to choice.0) joint.values (omega (arith, low, is)))
              (ap (allowed joint.choice to) is ∙ (chosen ∙ p.0));
          outputs = outputs_same own_choice (λ _. joint.values) q.counts joint.outputs to with outs outputs_formed (λ i. here i ∷ []) ∙ p.1;
        }

joint_meant : (columns : List Column) (t : FileTable) (mark choice : NetId) (joint : JointTable) → IsSeveral columns t mark choice joint
    → IsMeant columns t mark choice (Joint joint)
joint_meant columns t mark choice joint q = record {
  down = joint_down columns t mark choice joint q.relation;
  up = λ at range has outs _ h. joint_up columns t mark choice joint q at range has outs h;
  marks = q.relation.marks;
}

-- ---- a table at its place

-- the covers that stand there mean what the table does
pub meant : (ds : List Decl) (names : List (List ℕ)) (nets : List (Option FlatNet)) (t : FileTable) → All HasLawfulValues ds
    → (here : IsTableAt ds names nets t)
    → IsMeant (columns_at ds names t) t (mark_at names t) (choice_at names t) here.covers
meant ds names nets t proper here = by_covers here.covers here.are (covered ds names nets t proper here)
  where
    by_covers : (covers : TableCovers) → IsMadeTable (columns_at ds names t) t (mark_at names t) (choice_at names t) covers
        → IsCovered (columns_at ds names t) t (mark_at names t) (choice_at names t) covers
        → IsMeant (columns_at ds names t) t (mark_at names t) (choice_at names t) covers
    by_covers (Single flat) made is =
        single_meant (columns_at ds names t) t (mark_at names t) (choice_at names t) flat (single_output t made.0 here.placed.fits.some) is
    by_covers (Joint joint) made is =
        joint_meant (columns_at ds names t) t (mark_at names t) (choice_at names t) joint
        (record {
          several = made.0;
          nets_apart = apart ds names t proper here.placed (here.chosen made.0);
          relation = is;
          counts = map (count_of ds) t.outputs;
          fit = fit_outputs ds names t here.placed.fits;
        })
