-- What the covers of a table of several outputs mean, and when they are well formed.
use Rattle.std.specs.Prelude.{◌≡◌, ℕ, ◌<◌, ◌≤◌, Bool, true, false, ◌&&◌, nat_eq, Some, List, [], ◌∷◌, length, if◌then◌else◌, All}
use Rattle.std.specs.List.{list_any, range_with_len}
use Rattle.mv_base.specs.declared.limits.TheConstants.{MAX_VALUES}
use Rattle.mv_base.specs.declared.number.NetId.{NetId}
use Rattle.mv_cover.specs.Covers.{allowed}
use Rattle.mv_cover.specs.declared.cover.Cover.{Cover}
use Rattle.mv_design.specs.declared.table.Entry.{Entry}
use Rattle.mv_design.specs.declared.table.Row.{Row}
use Rattle.mv_design.specs.declared.table.FileTable.{FileTable}
use Rattle.mv_design.specs.Tables.{table_allows}
use Rattle.mv_rows.specs.declared.column.Column.{Column}
use Rattle.mv_rows.specs.Cubes.{column_values, in_range, CountBy}
use Rattle.mv_rows.specs.Covers.{FitOutput, IsTableCover, mark_value, MarkHas}
use Rattle.mv_joint.specs.declared.joint.JointTable.{JointTable}

-- each output's cover allows its value
abbrev pub outputs_allow : List Cover → (ℕ → ℕ) → List ℕ → Bool
outputs_allow [] at [] = true
outputs_allow [] at (_ ∷ _) = false
outputs_allow (_ ∷ _) at [] = false
outputs_allow (c ∷ cs) at (out ∷ outs) = allowed c at out && outputs_allow cs at outs

-- the values with v at net n
abbrev pub with_value : (ℕ → ℕ) → ℕ → ℕ → ℕ → ℕ
with_value at n v m = if nat_eq m n then v else at m

-- with the value v at the choice net, its cover allows v, and each output's cover allows its output
abbrev pub choice_allows : JointTable → NetId → (ℕ → ℕ) → List ℕ → ℕ → Bool
choice_allows joint choice at outs v = allowed joint.choice (with_value at choice.0 v) v
    && outputs_allow joint.outputs (with_value at choice.0 v) outs

-- this is so with some value of the choice net
abbrev pub some_choice : JointTable → NetId → (ℕ → ℕ) → List ℕ → Bool
some_choice joint choice at outs =
    list_any (choice_allows joint choice at outs) (range_with_len 0 joint.values)

-- each entry says values of its output net, which has so many
abbrev pub FitEach : List Column → List ℕ → List Entry → Type 0
FitEach columns [] [] = Unit {0}
FitEach columns [] (_ ∷ _) = ⊥
FitEach columns (_ ∷ _) [] = ⊥
FitEach columns (n ∷ ns) (e ∷ es) = FitOutput columns n e × FitEach columns ns es

-- the entries of each row, and those of the default, say values of output nets that have so many
pub record FitJointOutputs (columns : List Column) (counts : List ℕ) (t : FileTable) : Type 0 where
  pub many : length counts ≡ length t.outputs
  pub rows : All (λ (r : Row). FitEach columns counts r.outs) t.rows
  pub default : (entries : List Entry) → t.default ≡ Some entries → FitEach columns counts entries

-- well-formed covers of output nets that have so many values
abbrev pub AreTableCovers : (ℕ → ℕ) → List ℕ → List Cover → Type 0
AreTableCovers count [] [] = Unit {0}
AreTableCovers count [] (_ ∷ _) = ⊥
AreTableCovers count (_ ∷ _) [] = ⊥
AreTableCovers count (n ∷ ns) (c ∷ cs) = IsTableCover count n c × AreTableCovers count ns cs

-- the covers, with the mark at the value that the mark's cover gives, allow together what the table
-- allows
pub record IsJointTable (columns : List Column) (t : FileTable) (mark choice : NetId)
    (joint : JointTable) : Type 0 where
  pub some : 0 < joint.values
  pub few : joint.values ≤ MAX_VALUES
  pub allows : (at : ℕ → ℕ) → in_range at columns ≡ true
      → MarkHas joint.mark mark at (mark_value t.rows (column_values at columns)) → (outs : List ℕ)
      → some_choice joint choice at outs
      ≡ table_allows t.rows t.default (column_values at columns) outs
  pub marks : (m : Cover) → joint.mark ≡ Some m → (at : ℕ → ℕ) → in_range at columns ≡ true
      → (v : ℕ)
      → allowed m at v ≡ nat_eq v (mark_value t.rows (column_values at columns))
  pub formed : (count : ℕ → ℕ) → CountBy count columns → MarkHas joint.mark mark count 2
      → IsTableCover count joint.values joint.choice
  pub outputs_formed : (count : ℕ → ℕ) → count choice.0 ≡ joint.values → (counts : List ℕ)
      → FitJointOutputs columns counts t
      → AreTableCovers count counts joint.outputs
  pub mark_formed : (m : Cover) → joint.mark ≡ Some m → (count : ℕ → ℕ) → CountBy count columns
      → IsTableCover count 2 m
