use Rattle.std.proofs.Common.{◌≡◌, length}
use Rattle.mv_gains.specs.Answers.{AreAnswers}
use Rattle.mv_gains.specs.Renewing.{AreSameTables}
use Rattle.mv_gains.proofs.cube_gains.grown.Given as goal

abbrev pub invariant-loop-number : goal.invariant-loop-number
invariant-loop-number l = record {
  answers : AreAnswers l.kept.tables.items l.kept.answers;
  long : length l.kept.tables.items ≡ l._number;
  same : AreSameTables l.initial.kept.tables.items l.kept.tables.items;
}
