-- Where the new fanins stand below the net, nothing moves; else the labels between them are shared anew.
use Rattle.std.proofs.Common.{◌≡◌, ◌≤◌, ◌<◌, ℕ, [], ◌∷◌, length, sym, subst, arith}
use Rattle.std.proofs.lemmas.List.{get_or_read}
use Rattle.std.proofs.lemmas.Map.Keys.{ge_from_not_lt}
use Rattle.mv_dag.specs.declared.way.Way.TheVariants.{Up, Down}
use Rattle.mv_dag.specs.Ordered.{at, IsOrdered}
use Rattle.mv_dag.specs.Searches.{leads_to, IsReach}
use Rattle.mv_dag.proofs.Compared.{less_from}
use Rattle.mv_dag.proofs.Small.{are_small}
use Rattle.mv_dag.proofs.Behind.{stay_behind, are_behind}
use Rattle.mv_dag.proofs.moves.put_behind.Goals as goal

pub share-requires-clause-above : goal.share-requires-clause-above
share-requires-clause-above c = are_small (length c.args.labels.now) c.in_ok-above.above.keys c.in_ok-above.ensures.small

pub share-requires-clause-below : goal.share-requires-clause-below
share-requires-clause-below c = are_small (length c.args.labels.now) c.in_ok-below.below.keys c.in_ok-below.ensures.small

pub returns-then-lt : goal.returns-then-lt
returns-then-lt c =
    let labels = c.args.labels.now in
    let o : IsOrdered c.args.fanins.now labels = c.requires.ordered in
    let long = o.long in
    let low : c.index-labels-net.result ≡ at labels c.args.net.0 = get_or_read labels c.args.net.0 c.index-labels-net.result (omega arith) c.index-labels-net.is 0 in
    let less : c.greatest-high.result < c.index-labels-net.result = less_from _ _ (sym c.if-lt.ensures) in
    let b = stay_behind c.args.fanins.now labels c.args.net.0 c.args.new.now c.greatest-high.result c.new.result.items c.new.ensures.items o c.requires.net (omega arith) c.greatest-high.ensures in
    record { ok = b.ok; still = b.still; was = b.was; err = tt }

pub returns : goal.returns
returns c =
    let fanins = c.args.fanins.now in
    let labels = c.args.labels.now in
    let new = c.args.new.now in
    let net = c.args.net in
    let high = c.greatest-high.result in
    let above = c.in_ok-above.above.keys in
    let below = c.in_ok-below.below.keys in
    let o : IsOrdered fanins labels = c.requires.ordered in
    let long = o.long in
    let low : c.index-labels-net.result ≡ at labels net.0 = get_or_read labels net.0 c.index-labels-net.result (omega arith) c.index-labels-net.is 0 in
    let wide : c.index-labels-net.result ≤ high = ge_from_not_lt _ _ (sym c.if-lt.ensures) in
    let up = subst (λ (k : ℕ). IsReach (leads_to Up fanins) labels new k high above) low c.in_ok-above.ensures in
    let down = subst (λ (k : ℕ). IsReach (leads_to Down fanins) labels (net ∷ []) k high below) low c.in_ok-below.ensures in
    let b = are_behind fanins labels new above below net high c.in_ok-moves.moves.items o c.requires.free up down c.in_ok-moves.ensures.entries c.requires.net (omega arith) c.greatest-high.ensures in
    record {
      ok = rw c.in_ok-moves.ensures.labels b.ok;
      still = rw c.in_ok-moves.ensures.labels b.still;
      was = rw c.in_ok-moves.ensures.labels b.was;
      err = tt;
    }
