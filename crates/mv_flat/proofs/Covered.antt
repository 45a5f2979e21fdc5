-- The covers that stand at the numbers of a table are covers of this table.
use Rattle.std.proofs.Common.{◌≡◌, ℕ, List, [], ◌∷◌, map, Option, ◌∙◌, ap, arith, All}
use Rattle.std.proofs.lemmas.List.{get_or-map, length-map}
use Rattle.std.proofs.lemmas.List.Elements.{All-weaker}
use Rattle.mv_base.specs.declared.number.NetId.{NetId}
use Rattle.mv_design.specs.declared.design.Decl.{Decl}
use Rattle.mv_design.specs.declared.table.Entry.{Entry}
use Rattle.mv_design.specs.declared.table.Entry.TheVariants.{Set, Same}
use Rattle.mv_design.specs.declared.table.FileTable.{FileTable}
use Rattle.mv_design.specs.declared.table.Row.{Row}
use Rattle.mv_design.specs.Proper.{IsFileRow, FitOutput as FitsNet, FitOutputs as FitEntries}
use Rattle.mv_design.specs.Values.{count_of}
use Rattle.mv_rows.specs.declared.column.Column.{Column}
use Rattle.mv_rows.specs.Covers.{FitOutput, IsFlatTable}
use Rattle.mv_rows.specs.Lines.{count_at}
use Rattle.mv_rows.proofs.Flat.{IsFlatTable_made}
use Rattle.mv_joint.specs.Meaning.{FitEach, FitJointOutputs, IsJointTable}
use Rattle.mv_joint.proofs.Whole.{IsJointTable_made}
use Rattle.mv_net.specs.declared.parts.FlatNet.{FlatNet}
use Rattle.mv_resets.specs.NetModels.{HasLawfulValues, IsNetTable}
use Rattle.mv_flat.specs.declared.covers.TableCovers.{TableCovers}
use Rattle.mv_flat.specs.declared.covers.TableCovers.TheVariants.{Single, Joint}
use Rattle.mv_flat.specs.Covers.{IsMadeTable}
use Rattle.mv_flat.specs.Numbers.{column_of, columns_at, mark_at, choice_at}
use Rattle.mv_flat.proofs.Shapes.{apart, joint_file, table_is}
use Rattle.mv_flat.proofs.Singles.{single_output}
use Rattle.mv_flat.proofs.Slots.{IsTableAt}

-- these are covers of the table: of one output, or of several
abbrev pub IsCovered : List Column → FileTable → NetId → NetId → TableCovers → Type 0
IsCovered columns t mark choice (Single flat) = IsFlatTable columns t mark flat
IsCovered columns t mark choice (Joint joint) = IsJointTable columns t mark choice joint

pub covered : (ds : List Decl) (names : List (List ℕ)) (nets : List (Option FlatNet)) (t : FileTable) → All HasLawfulValues ds
    → (here : IsTableAt ds names nets t)
    → IsCovered (columns_at ds names t) t (mark_at names t) (choice_at names t) here.covers
covered ds names nets t proper here = by_covers here.covers here.are
  where
    by_covers : (covers : TableCovers) → IsMadeTable (columns_at ds names t) t (mark_at names t) (choice_at names t) covers
        → IsCovered (columns_at ds names t) t (mark_at names t) (choice_at names t) covers
    by_covers (Single flat) made =
        let one = single_output t made.0 here.placed.fits.some in
        IsFlatTable_made (columns_at ds names t) t (mark_at names t) flat (table_is ds names t here.placed one) made.1
    by_covers (Joint joint) made =
        let a = apart ds names t proper here.placed (here.chosen made.0) in
        IsJointTable_made (columns_at ds names t) t (mark_at names t) (choice_at names t) joint a.inputs a.marked a.chosen
        (joint_file ds names t here.placed) made.1

-- ---- the entries of a table of a file

-- an entry says values of its output's net, which has as many
pub fit_entry : (ds : List Decl) (names ins : List (List ℕ)) (w : List ℕ) (e : Entry) → FitsNet ds ins w e
    → FitOutput (map (column_of ds names) ins) (count_of ds w) e
fit_entry ds names ins w (Set s) fit = fit
fit_entry ds names ins w (Same k) fit =
    let same : count_at (map (column_of ds names) ins) k ≡ count_of ds w =
    ap (λ (c : Column). c.count) (get_or-map (column_of ds names) ins k [] (record { net = record { 0 = 0 }; count = 0 }) fit.within) ∙ fit.counts in
    omega arith

fit_each : (ds : List Decl) (names ins os : List (List ℕ)) (entries : List Entry) → FitEntries ds ins os entries
    → FitEach (map (column_of ds names) ins) (map (count_of ds) os) entries
fit_each ds names ins [] [] fit = tt
fit_each ds names ins [] (e ∷ es) fit = absurd fit
fit_each ds names ins (w ∷ ws) [] fit = absurd fit
fit_each ds names ins (w ∷ ws) (e ∷ es) fit = (fit_entry ds names ins w e fit.0, fit_each ds names ins ws es fit.1)

-- the entries of a table say values of nets that have as many as the outputs
pub fit_outputs : (ds : List Decl) (names : List (List ℕ)) (t : FileTable) → IsNetTable ds t
    → FitJointOutputs (columns_at ds names t) (map (count_of ds) t.outputs) t
fit_outputs ds names t is = record {
  many = length-map t.outputs (count_of ds);
  rows = All-weaker (IsFileRow ds t) (λ (r : Row). FitEach (columns_at ds names t) (map (count_of ds) t.outputs) r.outs)
      (λ r row. fit_each ds names t.inputs t.outputs r.outs row.outs) t.rows is.rows;
  default = λ entries e. fit_each ds names t.inputs t.outputs entries (is.default entries e);
}
