use Rattle.std.proofs.Common.{◌∙◌, Option, List, ap, sym, subst}
use Rattle.mv_cover.specs.Literal.{Lit}
use Rattle.mv_meets.specs.Meets.{IsBestMeet, NoMeetSaves}
use Rattle.mv_meets.specs.declared.found.Found.{Found}
use Rattle.mv_meets.specs.declared.search.Sought.TheVariants.{Ended}
use Rattle.mv_gains.specs.Answers.{all_cubes, IsBestIn}
use Rattle.mv_gains.specs.Candidates.{IsBest, IsCubeCandidate}
use Rattle.mv_gains.proofs.Gathering.{flat_is}
use Rattle.mv_gains.proofs.Kept.{all_lines_formed}
use Rattle.mv_gains.proofs.Shares.{best_meet, no_meet}
use Rattle.mv_gains.proofs.cube_gains.best_in.Goals as goal

pub returns-in_ok-alone-in-Ended-Some-clause-best : goal.returns-in_ok-alone-in-Ended-Some-clause-best
returns-in_ok-alone-in-Ended-Some-clause-best c =
    let nets = c.args.net.now.nets in
    let tables = c.args.kept.now.tables.items in
    let found = c.in-Ended-Some.found in
    let formed = all_lines_formed c.args.net.now c.well_formed-2.ensures in
    let is = subst (λ (o : Option Found). IsBestIn (all_cubes tables) (Ended o)) c.in-Ended-Some.field-0-is (subst (IsBestIn (all_cubes tables)) c.in-Ended-Some.is c.in_ok-sought.ensures.found) in
    let meet = subst (λ (cs : List (List Lit)). IsBestMeet cs found.cube) (ap all_cubes c.requires.tables ∙ flat_is nets) is in
    subst (λ (d : List (List Lit)). IsBest IsCubeCandidate nets d) (sym c.in_ok-alone-in-Ended-Some.ensures) (best_meet nets formed found.cube meet)

pub returns-in-Ended-None-clause-best : goal.returns-in-Ended-None-clause-best
returns-in-Ended-None-clause-best c =
    let nets = c.args.net.now.nets in
    let tables = c.args.kept.now.tables.items in
    let formed = all_lines_formed c.args.net.now c.well_formed-2.ensures in
    let is = subst (λ (o : Option Found). IsBestIn (all_cubes tables) (Ended o)) c.in-Ended-None.field-0-is (subst (IsBestIn (all_cubes tables)) c.in-Ended-None.is c.in_ok-sought.ensures.found) in
    no_meet nets formed (subst NoMeetSaves (ap all_cubes c.requires.tables ∙ flat_is nets) is)
