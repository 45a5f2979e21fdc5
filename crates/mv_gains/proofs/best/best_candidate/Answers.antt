use Rattle.std.proofs.Common.{All}
use Rattle.std.proofs.lemmas.Result.{IfOk-weaker}
use Rattle.std.specs.Option.{MatchOption}
use Rattle.mv_gains.specs.Candidates.{IsCubeCandidate, IsBest, NoneSaves}
use Rattle.mv_gains.specs.Best.{SavesNothing, IsChosen}
use Rattle.mv_gains.proofs.Kept.{all_lines_formed}
use Rattle.mv_gains.proofs.Ending.{cubes_divide, cubes_all, found_is}
use Rattle.mv_gains.proofs.best.best_candidate.Goals as goal

pub best_of-requires : goal.best_of-requires
best_of-requires c = cubes_divide c.args.net.now.nets c.in_ok-candidates.candidates.items (all_lines_formed c.args.net.now c.well_formed-2.ensures) c.in_ok-candidates.ensures

pub returns : goal.returns
returns c =
    let nets = c.args.net.now.nets in
    let list = c.in_ok-candidates.candidates.items in
    let tables = c.in_ok-tables.tables in
    IfOk-weaker c.best_of.result (λ b. MatchOption b (All (SavesNothing tables) list) (IsChosen tables list)) (λ b. MatchOption b (NoneSaves IsCubeCandidate nets) (IsBest IsCubeCandidate nets)) (λ b h.
    found_is IsCubeCandidate nets tables list c.in_ok-tables.ensures (cubes_all nets list c.in_ok-candidates.ensures) b h) c.best_of.ensures
