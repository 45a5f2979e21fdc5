use Rattle.std.proofs.Common.{◌<◌, List, length, All, Contains, sym, subst}
use Rattle.mv_cover.specs.Literal.{Lit}
use Rattle.mv_gains.specs.Known.{AreHeld}
use Rattle.mv_gains.proofs.Refreshing.{first_is}
use Rattle.mv_gains.proofs.worth.refresh.Goals as goal

pub rarest-key-requires-clause-held : goal.rarest-key-requires-clause-held
rarest-key-requires-clause-held c =
    let first = c.index-divisor-0.result in
    let divisor = c.args.candidate.now.kernel.cubes in
    let long : 0 < length c.as_slice-divisor.result.now = subst (λ (cs : List (List Lit)). 0 < length cs) (sym c.as_slice-divisor.ensures) c.requires.divisor.some in
    let there : Contains divisor first = subst (λ (cs : List (List Lit)). Contains cs first) c.as_slice-divisor.ensures (0, long, sym c.index-divisor-0.is) in
    subst (λ (ls : List Lit). All (AreHeld c.args.net.now.nets) ls) (sym c.lits.ensures.lits) (first_is c.args.net.now divisor first c.well_formed-2.ensures c.requires.divisor there).held
