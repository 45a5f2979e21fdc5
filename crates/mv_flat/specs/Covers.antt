-- The covers of a table: of its outputs, and of the nets that are made for it.
use Rattle.std.specs.Prelude.{◌≡◌, ℕ, ◌+◌, true, false, Option, Some, None, List, [], ◌∷◌, ◌++◌}
use Rattle.std.specs.List.{flat_map}
use Rattle.mv_base.specs.declared.limits.TheConstants.{MAX_JOINT_ROWS}
use Rattle.mv_base.specs.declared.number.NetId.{NetId}
use Rattle.mv_cover.specs.declared.cover.Cover.{Cover}
use Rattle.mv_cover.specs.declared.line.Line.{Line}
use Rattle.mv_design.specs.declared.table.FileTable.{FileTable}
use Rattle.mv_fault.specs.declared.flat.FlatFault.{FlatFault}
use Rattle.mv_fault.specs.declared.flat.FlatFault.TheVariants.{JointWide}
use Rattle.mv_rows.specs.declared.column.Column.{Column}
use Rattle.mv_rows.specs.Flat.{IsMade}
use Rattle.mv_joint.specs.Joint.{IsMadeJoint, IsWide}
use Rattle.mv_flat.specs.declared.covers.TableCovers.{TableCovers}
use Rattle.mv_flat.specs.declared.covers.TableCovers.TheVariants.{Single, Joint}
use Rattle.mv_flat.specs.Places.{is_joint}

-- the covers of a table over these columns: by the rules for tables of one output, or by those for
-- several
abbrev pub IsMadeTable : List Column → FileTable → NetId → NetId → TableCovers → Type 0
IsMadeTable columns t mark choice (Single flat) = (is_joint t ≡ false) × IsMade columns t mark flat
IsMadeTable columns t mark choice (Joint joint) = (is_joint t ≡ true)
    × IsMadeJoint columns t mark choice joint

-- a net that is made: how many values it has, and its cover
pub record MadeNet : Type 0 where
  pub values : ℕ
  pub cover : Cover

-- a mark as such a net, if there is one
abbrev pub made_mark : Option Cover → List MadeNet
made_mark None = []
made_mark (Some cover) = record { values = 2; cover = cover } ∷ []

-- the cover of a table's mark, if it has one
abbrev pub mark_of : TableCovers → Option Cover
mark_of (Single flat) = flat.mark
mark_of (Joint joint) = joint.mark

-- its choice net, if it has several outputs
abbrev pub choices_in : TableCovers → List MadeNet
choices_in (Single flat) = []
choices_in (Joint joint) = record { values = joint.values; cover = joint.choice } ∷ []

-- the nets that are made for a table: its mark, and its choice net
abbrev pub made_of : TableCovers → List MadeNet
made_of covers = made_mark (mark_of covers) ++ choices_in covers

-- the covers of a table's outputs, in order
abbrev pub outputs_of : TableCovers → List Cover
outputs_of (Single flat) = flat.cover ∷ []
outputs_of (Joint joint) = joint.outputs

-- the lines of all covers of a table
abbrev pub lines_of : TableCovers → List Line
lines_of covers = flat_map (λ (m : MadeNet). m.cover.lines) (made_of covers)
    ++ flat_map (λ (c : Cover). c.lines) (outputs_of covers)

-- a table of several outputs has more distinct rows of outputs than a net may have values, and this
-- is told of it
pub record IsTooWide (columns : List Column) (t : FileTable) (mark : NetId) (f : FlatFault)
    : Type 0 where
  pub joint : is_joint t ≡ true
  pub wide : IsWide columns t mark
  pub told : f ≡ JointWide (MAX_JOINT_ROWS + 1)
