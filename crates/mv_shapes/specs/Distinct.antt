-- A table of several outputs without its equal rows. For private functions.
use Rattle.std.specs.Prelude.{◌≡◌, ℕ, ◌+◌, Bool, true, ◌&&◌, List, ◌++◌, map}
use Rattle.std.proofs.Common.{ap, Decides}
use Rattle.std.specs.Cmp.{IsEquivalence, IsPartialEquivalence, partial_equiv_from_equiv, decided}
use Rattle.std.specs.Hash as fed
use Rattle.std.specs.Hash.{HashWrites}
use Rattle.std.proofs.lemmas.Bool.{and_parts, and_from}
use Rattle.mv_base.specs.declared.number.NetId.{NetId}
use Rattle.mv_base.specs.Firsts.{firsts_by}
use Rattle.mv_design.specs.declared.table.Entry.{Entry}
use Rattle.mv_design.specs.declared.table.Entry.TheVariants.{Set, Same}
use Rattle.mv_design.specs.declared.table.Row.{Row}
use Rattle.mv_design.specs.declared.table.FileTable.{FileTable}
use Rattle.mv_rows.specs.declared.column.Column.{Column}
use Rattle.mv_joint.specs.declared.joint.JointTable.{JointTable}
use Rattle.mv_joint.specs.declared.stop.CoversStop.{CoversStop}
use Rattle.mv_joint.specs.Joint.{IsMadeJoint, StopsCovers}
use Rattle.mv_joint.specs.OutRows.{same_outs, outs_fed, same_outs-Decides}
use Rattle.mv_joint.specs.Plain.{IsJointFile, is_joint_marked, set_of}
use Rattle.mv_shapes.specs.declared.distinct.RowKey.{RowKey}

-- a table of several outputs that can stand for another: whatever its columns are, it fits them where
-- the other does, gets a mark where the other does, and its covers are the other's
pub record StandsFor (one other : FileTable) : Type 0 where
  pub file : (columns : List Column) → IsJointFile columns other → IsJointFile columns one
  pub marked : (columns : List Column) → is_joint_marked columns one ≡ is_joint_marked columns other
  pub made : (columns : List Column) (mark choice : NetId) (joint : JointTable)
      → IsMadeJoint columns one mark choice joint → IsMadeJoint columns other mark choice joint
  pub stops : (columns : List Column) (mark choice : NetId) (most : ℕ) (stop : CoversStop)
      → StopsCovers columns one mark choice most stop → StopsCovers columns other mark choice most stop

-- ---- rows told apart by their keys

-- the place of the column that an entry names, counted from 1, and 0 for a set
abbrev pub place_of : Entry → ℕ
place_of (Set s) = 0
place_of (Same k) = k + 1

-- a row as lists of numbers, by which it is told from others
abbrev pub key_of : Row → RowKey
key_of r = record { ins = r.ins; sets = map set_of r.outs; places = map place_of r.outs }

-- the same numbers, one by one
abbrev pub key_eq : RowKey → RowKey → Bool
key_eq a b = same_outs a.ins b.ins && (same_outs a.sets b.sets && same_outs a.places b.places)

-- what a hash is fed with
abbrev pub key_fed : RowKey → HashWrites
key_fed a = outs_fed a.ins ++ (outs_fed a.sets ++ fed.slice fed.u64 a.places)

-- rows with the same sets and the same entries
abbrev pub same_rows : Row → Row → Bool
same_rows a b = key_eq (key_of a) (key_of b)

-- the rows without those that are equal to an earlier one
abbrev pub distinct_rows : List Row → List Row
distinct_rows rows = firsts_by same_rows rows

-- the test of equality decides it: the laws by which rows can be keys
pub key_eq-Decides : (a b : RowKey) → Decides (key_eq a b) (a ≡ b)
key_eq-Decides a b = (
  λ h. let p = and_parts (same_outs a.ins b.ins) (same_outs a.sets b.sets && same_outs a.places b.places) h in
      let q = and_parts (same_outs a.sets b.sets) (same_outs a.places b.places) p.1 in
      let x = (same_outs-Decides a.ins b.ins).0 p.0 in
      let y = (same_outs-Decides a.sets b.sets).0 q.0 in
      let z = (same_outs-Decides a.places b.places).0 q.1 in
      λ i. record { ins = x i; sets = y i; places = z i },
  λ e. and_from (same_outs a.ins b.ins) (same_outs a.sets b.sets && same_outs a.places b.places)
      ((same_outs-Decides a.ins b.ins).1 (ap (λ (k : RowKey). k.ins) e))
      (and_from (same_outs a.sets b.sets) (same_outs a.places b.places)
      ((same_outs-Decides a.sets b.sets).1 (ap (λ (k : RowKey). k.sets) e))
      ((same_outs-Decides a.places b.places).1 (ap (λ (k : RowKey). k.places) e))),
)

pub key_eq-equiv : IsEquivalence key_eq
key_eq-equiv = decided key_eq key_eq-Decides

pub key_eq-partial_equiv : IsPartialEquivalence key_eq
key_eq-partial_equiv = partial_equiv_from_equiv key_eq-equiv

-- equal rows feed a hash alike
pub key_fed-same : (a b : RowKey) → key_eq a b ≡ true → key_fed a ≡ key_fed b
key_fed-same a b h = ap key_fed ((key_eq-Decides a b).0 h)
