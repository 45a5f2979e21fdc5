use Rattle.std.proofs.Common.{Option, subst}
use Rattle.std.specs.Option.{MatchOption}
use Rattle.mv_cover.specs.Literal.{Lit}
use Rattle.mv_gains.specs.Answers.{IsSettled, IsSymbolAt}
use Rattle.mv_gains.proofs.Answered.{settles_known}
use Rattle.mv_gains.proofs.cube_gains.settled.Goals as goal

pub returns-in-None-clause-found : goal.returns-in-None-clause-found
returns-in-None-clause-found c =
    let kept = c.args.kept.now in
    let known = subst (λ (o : Option Lit). MatchOption o (IsSettled kept.answers c.args.place c.args.best) (IsSymbolAt kept.answers c.args.place)) c.in-None.is c.in_ok-waiting.ensures in
    settles_known kept.tables.items kept.answers c.args.place c.args.best c.requires.found known c.requires.answers
