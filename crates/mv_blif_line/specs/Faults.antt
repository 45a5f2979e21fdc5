-- Lists of the faults of BLIF lines, in the order in which they can be told.
use Rattle.std.specs.Prelude.{List, map, Result}
use Rattle.mv_fault.specs.declared.fault.ParseFault.{ParseFault}
use Rattle.mv_fault.specs.declared.fault.ParseFault.TheVariants.{Memory as no_memory}
use Rattle.mv_fault.specs.Tells.{TellsFirst}
use Rattle.mv_blif_line.specs.declared.fault.BlifFault.{BlifFault}
use Rattle.mv_blif_line.specs.declared.fault.BlifFault.TheVariants.{Line, Memory}

-- a fault that a line of BLIF-MV can have too; want of memory is one of neither
abbrev pub shared_fault : ParseFault → BlifFault
shared_fault no_memory = Memory
shared_fault fault = Line fault

-- faults that a line of BLIF-MV can have too
abbrev pub shared : List ParseFault → List BlifFault
shared faults = map Line faults

-- a reader of lines with these faults
abbrev pub Tells : {T : Type 0} → Result T BlifFault → List BlifFault → Type 0
Tells result faults = TellsFirst Memory result faults
