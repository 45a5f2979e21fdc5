use Rattle.std.proofs.Common.{◌≡◌, length, drop}
use Rattle.mv_gains.specs.Answers.{AreAnswers}
use Rattle.mv_gains.specs.Gains.{AreTablesBut, cubes_at}
use Rattle.mv_gains.proofs.cube_gains.put_tables.Given as goal

abbrev pub invariant-loop-n : goal.invariant-loop-n
invariant-loop-n l = record {
  answers : AreAnswers l.kept.tables.items l.kept.answers;
  long : length l.kept.tables.items ≡ length l.net.nets;
  others : AreTablesBut cubes_at (drop l.n-index l.waiting) l.net.nets l.kept.tables.items;
}
