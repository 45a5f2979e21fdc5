-- How large a network is, as far as the covers of its tables are made, and the limits that it
-- passes.
use Rattle.std.specs.Prelude.{◌≡◌, ◌⊎◌, ℕ, ◌+◌, Bool, false, ◌==◌, nat_lt, Some, List, [], ◌∷◌, ◌++◌, length, count_by}
use Rattle.std.specs.List.{flat_map}
use Rattle.mv_base.specs.declared.limits.TheConstants.{MAX_FLAT_NETS, MAX_FLAT_LINES, MAX_FLAT_LITERALS}
use Rattle.mv_cover.specs.Covers.{literal_count}
use Rattle.mv_design.specs.declared.design.Decl.{Decl}
use Rattle.mv_design.specs.declared.design.FileModel.{FileModel}
use Rattle.mv_design.specs.declared.table.FileTable.{FileTable}
use Rattle.mv_design.specs.Nets.{output_of}
use Rattle.mv_fault.specs.Tells.{when, first}
use Rattle.mv_fault.specs.declared.fault.Which.TheVariants.{Nets, FlatLines, FlatEntries}
use Rattle.mv_fault.specs.declared.flat.FlatFault.{FlatFault}
use Rattle.mv_fault.specs.declared.flat.FlatFault.TheVariants.{Limit}
use Rattle.mv_flat.specs.declared.covers.TableCovers.{TableCovers}
use Rattle.mv_flat.specs.Covers.{made_of, lines_of, IsMadeTable, IsTooWide}
use Rattle.mv_flat.specs.Numbers.{columns_at, mark_at, choice_at}
use Rattle.mv_flat.specs.Places.{net_places}
use Rattle.mv_flat.specs.declared.size.Size.{Size}

-- the name begins with a full stop, as that of a reset net does
abbrev pub has_stop : List ℕ → Bool
has_stop [] = false
has_stop (b ∷ bs) = b == 46

-- the table is that of a reset net
abbrev pub gives_reset : FileTable → Bool
gives_reset t = has_stop (output_of t)

-- the covers of tables over nets with these numbers, one after the other
abbrev pub AreCovers : List Decl → List (List ℕ) → List FileTable → List TableCovers → Type 0
AreCovers ds names [] [] = Unit {0}
AreCovers ds names [] (c ∷ all) = ⊥
AreCovers ds names (t ∷ ts) [] = ⊥
AreCovers ds names (t ∷ ts) (c ∷ all) =
    IsMadeTable (columns_at ds names t) t (mark_at names t) (choice_at names t) c
    × AreCovers ds names ts all

-- the size of a network where these tables have these covers: the nets of the file, all of them,
-- the reset nets among the tables' and the nets that are made for them; the lines of the covers;
-- and the literals of the lines
abbrev pub size_of : ℕ → List FileTable → List TableCovers → Size
size_of nets tables all = record {
  nets = nets + (count_by gives_reset tables + length (flat_map made_of all));
  lines = length (flat_map lines_of all);
  literals = literal_count (flat_map lines_of all);
}

-- the limits that a size passes, in the order in which they are told
abbrev pub size_faults : Size → List FlatFault
size_faults s =
    when (nat_lt MAX_FLAT_NETS s.nets) (Limit Nets (MAX_FLAT_NETS + 1))
    ++ (when (nat_lt MAX_FLAT_LINES s.lines) (Limit FlatLines (MAX_FLAT_LINES + 1))
    ++ when (nat_lt MAX_FLAT_LITERALS s.literals) (Limit FlatEntries (MAX_FLAT_LITERALS + 1)))

-- the network of so many nets of a file has this size where these of its model's tables have
-- covers. The model has a net for each reset value
pub record HasSize (nets : ℕ) (m : FileModel) (tables : List FileTable) (size : Size) : Type 0 where
  pub covers : List TableCovers
  pub are : AreCovers m.decls (net_places m) tables covers
  pub is : size ≡ size_of nets tables covers

-- the first of a model's tables have covers, and pass no limit
pub record PassesNone (nets : ℕ) (m : FileModel) (tables : List FileTable) : Type 0 where
  pub size : Size
  pub has : HasSize nets m tables size
  pub none : size_faults size ≡ []

-- the whole network passes no limit
abbrev pub FitsLimits : ℕ → FileModel → Type 0
FitsLimits nets m = PassesNone nets m m.tables

-- the first of a model's tables pass a limit, and this is the first that they do
pub record PassesLimit (nets : ℕ) (m : FileModel) (tables : List FileTable) (f : FlatFault)
    : Type 0 where
  pub size : Size
  pub has : HasSize nets m tables size
  pub told : first (size_faults size) ≡ Some f

-- some table is the first with which a limit is passed, and this is the first limit that is: that
-- on its rows of outputs, or one on the size of the network
pub record IsPastLimit (nets : ℕ) (m : FileModel) (f : FlatFault) : Type 0 where
  pub before : List FileTable
  pub table : FileTable
  pub after : List FileTable
  pub place : m.tables ≡ before ++ table ∷ after
  pub within : PassesNone nets m before
  pub told : IsTooWide (columns_at m.decls (net_places m) table) table
      (mark_at (net_places m) table) f ⊎ PassesLimit nets m (before ++ table ∷ []) f
