use Rattle.std.proofs.Common.{All, take}
use Rattle.std.specs.Option.{MatchOption}
use Rattle.mv_gains.specs.Best.{IsBestOf, SavesNothing}
use Rattle.mv_gains.proofs.best.best_place.Given as goal

abbrev pub invariant-loop-place : goal.invariant-loop-place
invariant-loop-place l = MatchOption l.best (All (SavesNothing l.tables) (take l.place l.candidates)) (IsBestOf l.tables l.candidates (take l.place l.candidates))
