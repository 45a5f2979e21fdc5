use Rattle.std.proofs.Common.{List, sym, subst}
use Rattle.mv_cover.specs.Literal.{Lit}
use Rattle.mv_meets.specs.Meets.{IsAnswer}
use Rattle.mv_gains.specs.Candidates.{IsBest, IsCubeCandidate}
use Rattle.mv_gains.proofs.Kept.{all_lines_formed}
use Rattle.mv_gains.proofs.Shares.{best_meet, cubes, no_meet}
use Rattle.mv_gains.proofs.best.best_cube.Goals as goal

pub returns-in_ok-alone-in-Best : goal.returns-in_ok-alone-in-Best
returns-in_ok-alone-in-Best c =
    let nets = c.args.net.now.nets in
    let formed = all_lines_formed c.args.net.now c.well_formed-2.ensures in
    let is = subst (IsAnswer (cubes nets formed)) c.in-Best.is c.in_ok-answer.ensures in
    subst (λ (d : List (List Lit)). IsBest IsCubeCandidate nets d) (sym c.in_ok-alone-in-Best.ensures) (best_meet nets formed c.in-Best.cube is)

pub returns-in-NoneSaves : goal.returns-in-NoneSaves
returns-in-NoneSaves c =
    let nets = c.args.net.now.nets in
    let formed = all_lines_formed c.args.net.now c.well_formed-2.ensures in
    let none = subst (IsAnswer (cubes nets formed)) c.in-NoneSaves.is c.in_ok-answer.ensures in
    no_meet nets formed none
