use Rattle.std.proofs.Common.{◌+◌, List, Option, All, take, sym, subst}
use Rattle.std.specs.Option.{MatchOption}
use Rattle.mv_cover.specs.Literal.{Lit}
use Rattle.mv_gains.specs.declared.best.Best.{Best}
use Rattle.mv_gains.specs.Best.{IsOnlySaved, IsBestOf, SavesNothing}
use Rattle.mv_gains.proofs.Choosing.{best_more}
use Rattle.mv_gains.proofs.best.best_place.Goals as goal

pub loop-place-preserved : goal.loop-place-preserved
loop-place-preserved c =
    let tables = c.args.tables.now in
    let list = c.args.candidates.now in
    let saved = subst (λ (d : List (List Lit)). IsOnlySaved tables d c.in_ok-saved.saved) c.as_slice.ensures c.in_ok-saved.ensures in
    subst
    (λ (b : Option Best). MatchOption b (All (SavesNothing tables) (take (c.loop-place.place + 1) list)) (IsBestOf tables list (take (c.loop-place.place + 1) list)))
    (sym c.better-best.ensures)
    (best_more tables list c.loop-place.place c.index-candidates-place.result c.in_ok-saved.saved c.loop-place-test.true c.index-candidates-place.is saved c.loop-place.best c.loop-place.invariant)
