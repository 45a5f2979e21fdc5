-- The line of a latch: `.latch IN OUT`, and behind it nothing, INIT, TYPE CONTROL or TYPE CONTROL
-- INIT. The number of words behind OUT says what they are.
use Rattle.std.specs.Prelude.{ℕ, not, nat_lt, List, [], ◌∷◌, ◌++◌, length, codes, drop, Option, Some, None, is_none, unwrap_or, if◌then◌else◌}
use Rattle.mv_base.specs.Names.{same_word, among}
use Rattle.mv_base.specs.Set.{one}
use Rattle.mv_lex.specs.declared.lines.LexLine.{LexLine}
use Rattle.mv_design.specs.declared.table.FileTable.{FileTable}
use Rattle.mv_design.specs.declared.table.Entry.TheVariants.{Set}
use Rattle.mv_fault.specs.declared.fault.ParseFault.TheVariants.{Missing, Extra}
use Rattle.mv_fault.specs.Tells.{when}
use Rattle.mv_decl.specs.Line.{net_name_faults}
use Rattle.mv_line.specs.Words.{behind_first, first_of}
use Rattle.mv_blif_line.specs.declared.fault.BlifFault.{BlifFault}
use Rattle.mv_blif_line.specs.declared.fault.BlifFault.TheVariants.{Line, BadLatch}
use Rattle.mv_latch.specs.declared.latch.LatchKind.{LatchKind}
use Rattle.mv_latch.specs.declared.latch.LatchKind.TheVariants.{Fe, Re, Ah, Al, As}
use Rattle.mv_latch.specs.declared.latch.BlifLatch.{BlifLatch}
use Rattle.mv_blif_line.specs.Faults.{shared}

-- the kind of latch that a TYPE says
unfoldable pub kind_of : List ℕ → Option LatchKind
kind_of w =
    if same_word w (codes "fe") then Some Fe
    else if same_word w (codes "re") then Some Re
    else if same_word w (codes "ah") then Some Ah
    else if same_word w (codes "al") then Some Al
    else if same_word w (codes "as") then Some As
    else None

-- the number that an INIT says
unfoldable pub init_of : List ℕ → Option ℕ
init_of w =
    if same_word w (codes "0") then Some 0
    else if same_word w (codes "1") then Some 1
    else if same_word w (codes "2") then Some 2
    else if same_word w (codes "3") then Some 3
    else None

-- ---- faults

-- a TYPE that is none
unfoldable pub kind_faults : ℕ → List ℕ → List BlifFault
kind_faults n w = when (is_none (kind_of w)) (BadLatch n w)

-- an INIT that is none
unfoldable pub init_faults : ℕ → List ℕ → List BlifFault
init_faults n w = when (is_none (init_of w)) (BadLatch n w)

-- the words behind OUT. (CONTROL is checked at the end of the model.)
unfoldable pub settings_faults : ℕ → List ℕ → List (List ℕ) → List BlifFault
settings_faults n word [] = []
settings_faults n word (init ∷ []) = init_faults n init
settings_faults n word (kind ∷ control ∷ []) = kind_faults n kind
settings_faults n word (kind ∷ control ∷ init ∷ words) =
    kind_faults n kind ++ init_faults n init ++ when (nat_lt 0 (length words)) (Line (Extra n word))

-- a lawful name of a net
unfoldable pub net_faults : ℕ → List ℕ → List BlifFault
net_faults n w = shared (net_name_faults n w)

-- all words behind `.latch`
unfoldable pub latch_line_faults : ℕ → List ℕ → List (List ℕ) → List BlifFault
latch_line_faults n word [] = Line (Missing n word) ∷ []
latch_line_faults n word (input ∷ []) = net_faults n input ++ Line (Missing n word) ∷ []
latch_line_faults n word (input ∷ output ∷ words) =
    net_faults n input ++ net_faults n output ++ settings_faults n word words

-- ---- what the line says

-- CONTROL, unless it is NIL
unfoldable pub control_of : List ℕ → Option (List ℕ)
control_of w = if same_word w (codes "NIL") then None else Some w

-- INIT, where the line has one: 3 says that the latch begins with any value
unfoldable pub init_said : List ℕ → ℕ
init_said w = unwrap_or (init_of w) 3

-- what the words behind OUT say: without an INIT it is 3
unfoldable pub settings_of : List (List ℕ) → BlifLatch
settings_of [] = record { kind = None; control = None; init = 3 }
settings_of (init ∷ []) = record { kind = None; control = None; init = init_said init }
settings_of (kind ∷ control ∷ []) =
    record { kind = kind_of kind; control = control_of control; init = 3 }
settings_of (kind ∷ control ∷ init ∷ words) =
    record { kind = kind_of kind; control = control_of control; init = init_said init }

-- TYPE, CONTROL and INIT of a latch's line
abbrev pub settings_at : LexLine → BlifLatch
settings_at l = settings_of (drop 2 (behind_first l))

-- CONTROL is one of these inputs of the model
abbrev pub control_faults : ℕ → List (List ℕ) → Option (List ℕ) → List BlifFault
control_faults n inputs None = []
control_faults n inputs (Some w) = when (not (among w inputs)) (BadLatch n w)

-- a reset table that gives a net this one value
abbrev pub constant_reset : ℕ → List ℕ → ℕ → FileTable
constant_reset n net value = record {
  line = n;
  inputs = [];
  outputs = net ∷ [];
  rows = record { ins = []; outs = Set (one value) ∷ [] } ∷ [];
  default = None;
}

-- the reset table of a latch's line, which it has where its INIT is 0 or 1
unfoldable pub resets_at : LexLine → List FileTable
resets_at l =
    if nat_lt (settings_at l).init 2
    then constant_reset l.number (first_of (drop 1 (behind_first l))) (settings_at l).init ∷ []
    else []
