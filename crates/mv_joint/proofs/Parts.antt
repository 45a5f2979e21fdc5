-- The covers of a table of several outputs from those of its parts.
use Rattle.std.proofs.Common.{◌≡◌, ◌≤◌, ℕ, Option, Some, List, length, ◌∙◌, ap, subst, arith}
use Rattle.mv_base.specs.declared.limits.TheConstants.{MAX_VALUES, MAX_JOINT_ROWS}
use Rattle.mv_base.specs.declared.number.NetId.{NetId}
use Rattle.mv_cover.specs.declared.cover.Cover.{Cover}
use Rattle.mv_design.specs.declared.table.FileTable.{FileTable}
use Rattle.mv_rows.specs.declared.column.Column.{Column}
use Rattle.mv_rows.specs.declared.stop.RowStop.{RowStop}
use Rattle.mv_rows.specs.declared.stop.RowStop.TheVariants.{Many, Memory}
use Rattle.mv_rows.specs.Cubes.{AreColumns}
use Rattle.mv_rows.specs.Flat.{with_mark}
use Rattle.mv_rows.specs.Many.{StopsAt}
use Rattle.mv_rows.proofs.Existing.{table_there}
use Rattle.mv_joint.specs.declared.plain.SplitTable.{SplitTable}
use Rattle.mv_joint.specs.declared.joint.JointTable.{JointTable}
use Rattle.mv_joint.specs.Plain.{IsJointFile, plain_of, mark_of}
use Rattle.mv_joint.specs.Joint.{choice_count, choice_table, IsCoverOf, IsMarkOf, AreOutputs, IsMadeJoint, StopsMark, StopsMany}
use Rattle.mv_joint.specs.Gather.{AreChoices, choice_of}
use Rattle.mv_joint.proofs.Tables.{split_lawful, split_choice, split_unmarked}
use Rattle.mv_joint.proofs.JointMarked.{mark_table_of}
use Rattle.mv_joint.proofs.Unmarked.{cover_unmarked}

-- a table whose rows are split, how many values its choice net has, and the covers of its outputs
pub record HasOutputs (cs : List Column) (t : FileTable) (mark choice : NetId) (f : SplitTable) (count : ℕ) (outputs : List Cover) : Type 0 where
  pub columns : AreColumns cs
  pub with : AreColumns (with_mark cs mark)
  pub file : IsJointFile cs t
  pub choices : AreChoices (plain_of cs t mark) f
  pub few : length f.choices.keys ≤ MAX_JOINT_ROWS
  pub values : count ≡ choice_count f.choices.keys
  pub many : length outputs ≡ length t.outputs
  pub each : AreOutputs f.choices.keys mark choice 0 outputs

-- with the covers of the mark and of the choice net
abbrev pub joint_with : ℕ → List Cover → Option Cover → Cover → JointTable
joint_with values outputs marks chosen = record { values = values; choice = chosen; outputs = outputs; mark = marks }

pub joint_of : (cs : List Column) (t : FileTable) (mark choice : NetId) (f : SplitTable) (values : ℕ) (outputs : List Cover) (marks : Option Cover) (chosen : Cover)
    → HasOutputs cs t mark choice f values outputs → IsMarkOf cs mark (mark_of cs t) marks → IsCoverOf f.columns (choice_of f) mark chosen
    → IsMadeJoint cs t mark choice (joint_with values outputs marks chosen)
joint_of cs t mark choice f values outputs marks chosen h is_mark is_chosen =
    let p = plain_of cs t mark in
    let few : length f.choices.keys ≤ MAX_VALUES = omega (arith, h.few) in
    record {
      few = subst (λ ks. length ks ≤ MAX_VALUES) h.choices.choices few;
      values = h.values ∙ ap choice_count h.choices.choices;
      chosen = subst (λ ds. IsCoverOf ds (choice_table p) mark chosen) h.choices.columns
          (subst (λ x. IsCoverOf f.columns x mark chosen) (split_choice p f h.choices) is_chosen);
      many = h.many;
      each = subst (λ all. AreOutputs all mark choice 0 outputs) h.choices.choices h.each;
      marked = subst (λ m. IsMarkOf cs mark m marks) (mark_table_of cs t mark) is_mark;
    }

-- where the mark has too many lines, the choice net has a cover
pub marks_many : (cs : List Column) (t : FileTable) (mark choice : NetId) (f : SplitTable) (values : ℕ) (outputs : List Cover) (most : ℕ) (stop : RowStop)
    → HasOutputs cs t mark choice f values outputs → StopsMark cs t mark most stop → StopsMany cs t mark choice most stop
marks_many cs t mark choice f values outputs most Memory h stops = tt
marks_many cs t mark choice f values outputs most Many h stops =
    let is = split_lawful cs t mark f h.columns h.with h.file h.choices h.few in
    let un = split_unmarked mark f is in
    let there = table_there f.columns (choice_of f) mark is.columns is.with_mark un.table.rows in
    let chosen = cover_unmarked f.columns (choice_of f) mark there.flat is.columns un.table un.unmarked there.made in
    let more = stops.many in
    record {
      joint = joint_with values outputs (Some stops.cover) there.flat.cover;
      made = joint_of cs t mark choice f values outputs (Some stops.cover) there.flat.cover h stops.made chosen;
      many = omega arith;
    }

pub choice_many : (cs : List Column) (t : FileTable) (mark choice : NetId) (f : SplitTable) (values : ℕ) (outputs : List Cover) (marks : Option Cover) (most : ℕ)
    (stop : RowStop) → HasOutputs cs t mark choice f values outputs → IsMarkOf cs mark (mark_of cs t) marks → StopsAt f.columns (choice_of f) mark most stop
    → StopsMany cs t mark choice most stop
choice_many cs t mark choice f values outputs marks most Memory h is_mark stops = tt
choice_many cs t mark choice f values outputs marks most Many h is_mark stops =
    let is = split_lawful cs t mark f h.columns h.with h.file h.choices h.few in
    let un = split_unmarked mark f is in
    let chosen = cover_unmarked f.columns (choice_of f) mark stops.flat is.columns un.table un.unmarked stops.made in
    let more = stops.many in
    record {
      joint = joint_with values outputs marks stops.flat.cover;
      made = joint_of cs t mark choice f values outputs marks stops.flat.cover h is_mark chosen;
      many = omega arith;
    }
