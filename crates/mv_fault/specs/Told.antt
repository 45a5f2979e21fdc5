-- The line that tells a fault: of lines, with the number of the line, or of a design, which names
-- no line.
use Rattle.std.specs.Prelude.{ℕ, List, [], ◌∷◌, ◌++◌, codes, decimal}
use Rattle.mv_fault.specs.declared.fault.Which.{Which}
use Rattle.mv_fault.specs.declared.fault.Which.TheVariants.{Values, Columns as TooManyColumns, TableLines, Models, Depth}
use Rattle.mv_fault.specs.declared.fault.Which.TheVariants.{Instances, Nets, NetName, FlatLines, FlatEntries}
use Rattle.mv_fault.specs.declared.fault.ParseFault.{ParseFault}
use Rattle.mv_fault.specs.declared.flat.FlatFault.{FlatFault}
use Rattle.mv_fault.specs.declared.flat.FlatFault.TheVariants.{NoSuchModel, Recursive, NoFormal, PortValues, PortOpen, NameClash}
use Rattle.mv_fault.specs.declared.flat.FlatFault.TheVariants.{DrivenTwice, Undriven, Cycle, ResetReadsLatch, ResetTwice, NoLatch}
use Rattle.mv_fault.specs.declared.flat.FlatFault.TheVariants.{JointWide, Limit as FlatLimit, Memory as NoFlatMemory}
use Rattle.mv_fault.specs.declared.fault.ParseFault.TheVariants.{UnknownCommand, OutsideModel, NoEnd, Missing, Extra}
use Rattle.mv_fault.specs.declared.fault.ParseFault.TheVariants.{BadCount, ValueNames, Redeclared, Columns, UnknownValue, BadEqual}
use Rattle.mv_fault.specs.declared.fault.ParseFault.TheVariants.{DefaultTwice, ModelTwice, RootFault, Repeated, NoModel}
use Rattle.mv_fault.specs.declared.fault.ParseFault.TheVariants.{Limit, BadName, NoTable, LatchValues, Memory}

-- the name of a limit
abbrev pub which_name : Which → List ℕ
which_name Values = codes "Values"
which_name TooManyColumns = codes "Columns"
which_name TableLines = codes "TableLines"
which_name Models = codes "Models"
which_name Depth = codes "Depth"
which_name Instances = codes "Instances"
which_name Nets = codes "Nets"
which_name NetName = codes "NetName"
which_name FlatLines = codes "FlatLines"
which_name FlatEntries = codes "FlatEntries"

-- what the line of a fault of a network begins with: its number and name
abbrev pub fault_name : List ℕ → List ℕ
fault_name name = codes "# fault network " ++ name

-- what the line of a fault of lines begins with: the number of the line too
unfoldable pub head : List ℕ → ℕ → List ℕ
head name line = fault_name name ++ (codes " line " ++ decimal line)

-- words up to the end of a line, each behind a blank
abbrev pub tail : List (List ℕ) → List ℕ
tail [] = 10 ∷ []
tail (w ∷ ws) = (32 ∷ w) ++ tail ws

-- a fault of this number and name, at this line, with these words
unfoldable pub told : List ℕ → ℕ → List (List ℕ) → List ℕ
told name line words = head name line ++ tail words

-- the line of each fault. (Want of memory is none: no lines have it.)
abbrev pub parse_line : ParseFault → List ℕ
parse_line (UnknownCommand line word) = told (codes "5 UnknownCommand") line (word ∷ [])
parse_line (OutsideModel line) = told (codes "6 OutsideModel") line []
parse_line (NoEnd line) = told (codes "7 NoEnd") line []
parse_line (Missing line word) = told (codes "8 Missing") line (word ∷ [])
parse_line (Extra line word) = told (codes "9 Extra") line (word ∷ [])
parse_line (BadCount line word) = told (codes "10 BadCount") line (word ∷ [])
parse_line (ValueNames line wanted got) =
    told (codes "11 ValueNames") line (decimal wanted ∷ decimal got ∷ [])
parse_line (Redeclared line name) = told (codes "12 Redeclared") line (name ∷ [])
parse_line (Columns line wanted got) =
    told (codes "13 Columns") line (decimal wanted ∷ decimal got ∷ [])
parse_line (UnknownValue line word) = told (codes "14 UnknownValue") line (word ∷ [])
parse_line (BadEqual line name) = told (codes "15 BadEqual") line (name ∷ [])
parse_line (DefaultTwice line) = told (codes "16 DefaultTwice") line []
parse_line (ModelTwice line name) = told (codes "17 ModelTwice") line (name ∷ [])
parse_line (RootFault line name) = told (codes "18 RootFault") line (name ∷ [])
parse_line (Repeated line name) = told (codes "19 Repeated") line (name ∷ [])
parse_line (NoModel line) = told (codes "20 NoModel") line []
parse_line (Limit line which number) =
    told (codes "21 Limit") line (which_name which ∷ decimal number ∷ [])
parse_line (BadName line name) = told (codes "36 BadName") line (name ∷ [])
parse_line (NoTable line) = told (codes "37 NoTable") line []
parse_line (LatchValues line input output) =
    told (codes "38 LatchValues") line (input ∷ output ∷ [])
parse_line Memory = codes "# fault memory\n"

-- ---- faults of a design

-- a fault of this number and name, with these words
unfoldable pub flat_told : List ℕ → List (List ℕ) → List ℕ
flat_told name words = fault_name name ++ tail words

-- the line of each fault of a design. (Want of memory is none: no design has it.)
abbrev pub flat_line : FlatFault → List ℕ
flat_line (NoSuchModel model) = flat_told (codes "22 NoSuchModel") (model ∷ [])
flat_line (Recursive model) = flat_told (codes "23 Recursive") (model ∷ [])
flat_line (NoFormal formal) = flat_told (codes "24 NoFormal") (formal ∷ [])
flat_line (PortValues formal actual) = flat_told (codes "25 PortValues") (formal ∷ actual ∷ [])
flat_line (PortOpen formal) = flat_told (codes "26 PortOpen") (formal ∷ [])
flat_line (NameClash net) = flat_told (codes "27 NameClash") (net ∷ [])
flat_line (DrivenTwice net) = flat_told (codes "28 DrivenTwice") (net ∷ [])
flat_line (Undriven net) = flat_told (codes "29 Undriven") (net ∷ [])
flat_line (Cycle net) = flat_told (codes "30 Cycle") (net ∷ [])
flat_line (ResetReadsLatch latch reached) =
    flat_told (codes "31 ResetReadsLatch") (latch ∷ reached ∷ [])
flat_line (ResetTwice latch) = flat_told (codes "32 ResetTwice") (latch ∷ [])
flat_line (NoLatch net) = flat_told (codes "33 NoLatch") (net ∷ [])
flat_line (JointWide number) = flat_told (codes "34 JointWide") (decimal number ∷ [])
flat_line (FlatLimit which number) =
    flat_told (codes "35 Limit") (which_name which ∷ decimal number ∷ [])
flat_line NoFlatMemory = codes "# fault memory\n"
