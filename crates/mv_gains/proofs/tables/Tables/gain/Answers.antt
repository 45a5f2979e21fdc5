use Rattle.std.proofs.Common.{◌<◌, List, length, All, Contains, sym, subst}
use Rattle.std.proofs.lemmas.Result.{IfOk-weaker}
use Rattle.std.proofs.lemmas.List.Elements.{All-contains}
use Rattle.mv_cover.specs.Literal.{Lit}
use Rattle.mv_divide.specs.declared.part.Part.{Part}
use Rattle.mv_gains.specs.Holders.{AreHolders, places_in}
use Rattle.mv_gains.specs.Tables.{IsReady, HasLiteral, IsGainAt, IsOnlyGain}
use Rattle.mv_gains.proofs.Kept.{gain_is}
use Rattle.mv_gains.proofs.tables.Tables.gain.Goals as goal

pub returns : goal.returns
returns c =
    let tables = c.args.self.now in
    let first = c.index-divisor-0.result in
    let l = c.index-lits-0.result in
    let there : Contains c.args.divisor.now first = (0, c.requires.some, sym c.index-divisor-0.is) in
    let long : 0 < length c.lits.result.now =
    subst (λ (q : List Lit). 0 < length q) (sym c.lits.ensures.lits) (All-contains (λ (q : List Lit). 0 < length q) c.args.divisor.now first c.requires.literals there) in
    let has : Contains first l = subst (λ (q : List Lit). Contains q l) c.lits.ensures.lits (0, long, sym c.index-lits-0.is) in
    let ready : All IsReady tables = subst (λ (ts : List (List Part)). All IsReady ts) c.self.view_is c.self.invariant.ready in
    let held : AreHolders (HasLiteral l) tables (places_in c.self.inside.holders l) =
    subst (λ (ts : List (List Part)). AreHolders (HasLiteral l) ts (places_in c.self.inside.holders l)) c.self.view_is (c.self.invariant.held l) in
    IfOk-weaker c.gain_at.result (λ g. IsGainAt tables c.places_of.result.now c.args.divisor.now g) (λ g. IsOnlyGain tables c.args.divisor.now g) (λ g sum.
    gain_is tables c.args.divisor.now c.places_of.result.now first l g ready (subst (AreHolders (HasLiteral l) tables) (sym c.places_of.ensures) held) c.requires there has sum) c.gain_at.ensures
