use Rattle.std.proofs.Common.{◌≡◌}
use Rattle.indexmap.specs.IndexMap.{keys}
use Rattle.mv_meets.specs.Search.{IsFound}
use Rattle.mv_gains.specs.Answers.{all_cubes, AreAnswers}
use Rattle.mv_gains.proofs.Answered.{AreDone}
use Rattle.mv_gains.proofs.cube_gains.searched.Given as goal

abbrev pub invariant-loop-place : goal.invariant-loop-place
invariant-loop-place l = record {
  tables : l.kept.tables.items ≡ l.fn.kept.tables.items;
  answers : AreAnswers l.kept.tables.items l.kept.answers;
  symbols : keys l.kept.answers.known ≡ keys l.fn.kept.answers.known;
  found : IsFound (all_cubes l.fn.kept.tables.items) l.best;
  done : AreDone (all_cubes l.fn.kept.tables.items) (keys l.fn.kept.answers.known) l.best l.place;
}
