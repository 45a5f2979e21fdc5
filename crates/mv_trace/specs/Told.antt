-- The line that tells a fault of a run file.
use Rattle.std.specs.Prelude.{ℕ, List, [], ◌∷◌, ◌++◌, codes, decimal}
use Rattle.mv_fault.specs.Told.{tail}
use Rattle.mv_trace.specs.declared.fault.TraceFault.{TraceFault}
use Rattle.mv_trace.specs.declared.fault.TraceFault.TheVariants.{Steps, Columns}
use Rattle.mv_trace.specs.declared.fault.TraceFault.TheVariants.{UnknownValue, Memory}

-- what the line of a fault begins with: the number of the run file's line, and the fault's name
unfoldable pub head : ℕ → List ℕ → List ℕ
head line name = (codes "# fault trace " ++ decimal line) ++ 32 ∷ name

-- a fault of this name at this line, with these words
unfoldable pub trace_line : ℕ → List ℕ → List (List ℕ) → List ℕ
trace_line line name words = head line name ++ tail words

-- the line of each fault. (Want of memory is none: no lines have it.)
abbrev pub fault_line : TraceFault → List ℕ
fault_line (Steps line) = trace_line line (codes "Steps") []
fault_line (Columns line want got) =
    trace_line line (codes "Columns") (decimal want ∷ decimal got ∷ [])
fault_line (UnknownValue line word) = trace_line line (codes "UnknownValue") (word ∷ [])
fault_line Memory = codes "# fault memory\n"
