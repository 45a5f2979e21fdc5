-- What one command of a script does to a network.
use Rattle.std.specs.Prelude.{Bool, true, false, List, Result}
use Rattle.mv_choose.specs.Choices.{DeterminizesAll, DeterminizesSome}
use Rattle.mv_collapse.specs.Collapses.{CollapsesNet}
use Rattle.mv_eliminate.specs.Eliminates.{Eliminates, EliminatesAll}
use Rattle.mv_encode.specs.Encodes.{EncodesAll, EncodesSome}
use Rattle.mv_entry.specs.declared.note.Command.{Command}
use Rattle.mv_entry.specs.declared.note.Command.TheVariants.{Drop, Sweep, Eliminate, Collapse, Kernel, Cube, Simplify, Merge, Default, Determinize, Encode, Fill}
use Rattle.mv_entry.specs.Entries.{Entry}
use Rattle.mv_entry.specs.Tallies.{Journaled}
use Rattle.mv_extract.specs.Extracts.{KernelsAll, KernelsSome, CubesAll, CubesSome}
use Rattle.mv_merge.specs.Merges.{MergesAll, MergesSome}
use Rattle.mv_net.specs.declared.parts.NetParts.{NetParts}
use Rattle.mv_pass.specs.declared.stop.Stop.{Stop}
use Rattle.mv_pass.specs.Courses.{Course, Perhaps}
use Rattle.mv_pass.specs.Going.{Does, Begun}
use Rattle.mv_pass.specs.Passing.{Passes}
use Rattle.mv_rules.specs.declared.terms.Terms.{Terms}
use Rattle.mv_simplify.specs.Simplifies.{SimplifiesAll, SimplifiesSome}
use Rattle.mv_sweep.specs.Drops.{DropsAll, DropsSome}
use Rattle.mv_fill.specs.Fills.{FillsAll, FillsTables}
use Rattle.mv_sweep.specs.Sweeps.{SweepsAll, SweepsSome}
use Rattle.mv_values.specs.Defaults.{DefaultsAll, DefaultsSome}

-- the steps of a whole command: a course from the old network to the new one
abbrev pub WholeOf : Terms → Command → NetParts → List Entry → NetParts → Type 0
WholeOf terms Drop old steps new = DropsAll terms.free old steps new
WholeOf terms Sweep old steps new = SweepsAll terms.free old steps new
WholeOf terms Eliminate old steps new = EliminatesAll terms.free old steps new
WholeOf terms (Collapse name) old steps new = CollapsesNet terms.free name old steps new
WholeOf terms Kernel old steps new = KernelsAll terms.free old steps new
WholeOf terms Cube old steps new = CubesAll terms.free old steps new
WholeOf terms (Simplify down up) old steps new = SimplifiesAll terms down up old steps new
WholeOf terms Merge old steps new = MergesAll terms.free old steps new
WholeOf terms Default old steps new = DefaultsAll old steps new
WholeOf terms Determinize old steps new = DeterminizesAll old steps new
WholeOf terms Encode old steps new = EncodesAll old steps new
WholeOf terms Fill old steps new = FillsAll terms.free old steps new

-- the steps of a command that has come a part of its way
abbrev pub PartOf : Terms → Command → NetParts → List Entry → NetParts → Type 0
PartOf terms Drop old steps new = DropsSome terms.free old steps new
PartOf terms Sweep old steps new = SweepsSome terms.free old steps new
PartOf terms Eliminate old steps new = Eliminates terms.free old steps new
PartOf terms (Collapse name) old steps new = Perhaps (CollapsesNet terms.free name) old steps new
PartOf terms Kernel old steps new = KernelsSome terms.free old steps new
PartOf terms Cube old steps new = CubesSome terms.free old steps new
PartOf terms (Simplify down up) old steps new = SimplifiesSome terms down up old steps new
PartOf terms Merge old steps new = MergesSome terms.free old steps new
PartOf terms Default old steps new = DefaultsSome old steps new
PartOf terms Determinize old steps new = DeterminizesSome old steps new
PartOf terms Encode old steps new = EncodesSome old steps new
PartOf terms Fill old steps new = FillsTables terms.free old steps new

-- a whole command, with its entries
abbrev pub DoesCommand : Terms → Command → Course
DoesCommand terms c = Does (WholeOf terms c) c

-- a command that stops, with the entries that came
abbrev pub BegunCommand : Terms → Command → Course
BegunCommand terms c = Begun (WholeOf terms c) (PartOf terms c) c

-- how a command answers
abbrev pub PassesCommand : Terms → Command → NetParts → NetParts → Journaled → Journaled
    → Result (Unit {0}) Stop → Type 0
PassesCommand terms c old new journal journal' result =
    Passes terms.free (DoesCommand terms c) (BegunCommand terms c) old new journal journal' result

-- a command that never leaves more literals than there were: any but `determinize` and `encode`
abbrev pub leaves_no_more : Command → Bool
leaves_no_more Determinize = false
leaves_no_more Encode = false
leaves_no_more _ = true
