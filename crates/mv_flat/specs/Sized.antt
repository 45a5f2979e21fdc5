-- The size of a network, table by table. For private functions.
use Rattle.std.specs.Prelude.{◌≡◌, ◌⊎◌, ℕ, ◌+◌, ◌≤◌, cond, Some, List, [], ◌∷◌, length, take}
use Rattle.mv_base.specs.declared.limits.TheConstants.{MAX_FLAT_NETS, MAX_FLAT_LINES, MAX_FLAT_LITERALS}
use Rattle.mv_cover.specs.Covers.{literal_count}
use Rattle.mv_design.specs.declared.design.FileModel.{FileModel}
use Rattle.mv_design.specs.declared.table.FileTable.{FileTable}
use Rattle.mv_fault.specs.declared.flat.FlatFault.{FlatFault}
use Rattle.mv_fault.specs.declared.flat.FlatFault.TheVariants.{Memory}
use Rattle.mv_rows.specs.declared.column.Column.{Column}
use Rattle.mv_flat.specs.declared.covers.TableCovers.{TableCovers}
use Rattle.mv_cover.specs.declared.line.Line.{Line}
use Rattle.mv_fault.specs.Tells.{first}
use Rattle.mv_rows.specs.declared.table.FlatTable.{FlatTable}
use Rattle.mv_joint.specs.declared.joint.JointTable.{JointTable}
use Rattle.mv_flat.specs.declared.covers.TableCovers.TheVariants.{Single, Joint}
use Rattle.mv_flat.specs.Covers.{MadeNet, made_of, lines_of, IsMadeTable, IsTooWide}
use Rattle.mv_flat.specs.Numbers.{mark_at, choice_at}
use Rattle.mv_flat.specs.Size.{gives_reset, size_of, size_faults, AreCovers, IsPastLimit}
use Rattle.mv_flat.specs.declared.size.Size.{Size}

-- a size that passes no limit
pub record IsWithinSize (s : Size) : Type 0 where
  pub nets : s.nets ≤ MAX_FLAT_NETS
  pub lines : s.lines ≤ MAX_FLAT_LINES
  pub literals : s.literals ≤ MAX_FLAT_LITERALS

-- the size with the lines of one cover more
abbrev pub with_lines : Size → List Line → Size
with_lines s ls =
    record { nets = s.nets; lines = s.lines + length ls; literals = s.literals + literal_count ls }

-- the size with one net more
abbrev pub with_net : Size → Size
with_net s = record { nets = s.nets + 1; lines = s.lines; literals = s.literals }

-- the size with nets that are made, and their covers
abbrev pub with_nets : Size → List MadeNet → Size
with_nets s [] = s
with_nets s (made ∷ more) = with_nets (with_lines (with_net s) made.cover.lines) more

-- the size with the covers of one more table
abbrev pub with_covers : Size → FileTable → TableCovers → Size
with_covers s t covers = record {
  nets = s.nets + cond (gives_reset t) 1 0 + length (made_of covers);
  lines = s.lines + length (lines_of covers);
  literals = s.literals + literal_count (lines_of covers);
}

-- the first tables of a model have covers, and pass no limit
pub record AreSized (nets : ℕ) (m : FileModel) (names : List (List ℕ)) (i : ℕ) (size : Size)
    : Type 0 where
  pub covers : List TableCovers
  pub are : AreCovers m.decls names (take i m.tables) covers
  pub is : size ≡ size_of nets (take i m.tables) covers
  pub within : IsWithinSize size

-- with these covers of one more table a limit is passed, and this is the first that is
pub record PassesSize (columns : List Column) (names : List (List ℕ)) (t : FileTable) (s : Size)
    (f : FlatFault) : Type 0 where
  pub covers : TableCovers
  pub made : IsMadeTable columns t (mark_at names t) (choice_at names t) covers
  pub told : first (size_faults (with_covers s t covers)) ≡ Some f

-- want of memory, a table that is too wide, or the limit that is passed with it
abbrev pub TellsCovers : List Column → List (List ℕ) → FileTable → Size → FlatFault → Type 0
TellsCovers columns names t s Memory = Unit {0}
TellsCovers columns names t s f = IsTooWide columns t (mark_at names t) f
    ⊎ PassesSize columns names t s f

-- want of memory, or the first limit that is passed with these covers of one output
abbrev pub TellsPast : Size → FileTable → FlatTable → FlatFault → Type 0
TellsPast s t flat Memory = Unit {0}
TellsPast s t flat f = first (size_faults (with_covers s t (Single flat))) ≡ Some f

-- want of memory, or the first limit that is passed with these covers of several outputs
abbrev pub TellsJoint : Size → FileTable → JointTable → FlatFault → Type 0
TellsJoint s t joint Memory = Unit {0}
TellsJoint s t joint f = first (size_faults (with_covers s t (Joint joint))) ≡ Some f

-- want of memory, or the limit that the network passes
abbrev pub TellsLimit : ℕ → FileModel → FlatFault → Type 0
TellsLimit nets m Memory = Unit {0}
TellsLimit nets m f = IsPastLimit nets m f
