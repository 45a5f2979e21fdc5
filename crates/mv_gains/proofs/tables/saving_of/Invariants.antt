use Rattle.std.proofs.Common.{◌≤◌, take}
use Rattle.mv_gains.specs.Tables.{IsPartsSaving, literals_of}
use Rattle.mv_gains.proofs.tables.saving_of.Given as goal

abbrev pub invariant-loop-part : goal.invariant-loop-part
invariant-loop-part l = record {
  sum : IsPartsSaving l.divisor (take l.part-index l.parts) l.total;
  few : l.total ≤ literals_of (take l.part-index l.parts);
}
