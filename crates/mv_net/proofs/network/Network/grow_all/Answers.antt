-- Each turn takes the steps of one length more, until there is none.
use Rattle.std.proofs.Common.{ℕ, suc, arith, sym, subst}
use Rattle.mv_net.specs.Searching.{IsSearch}
use Rattle.mv_net.proofs.Reaching.{search_first, search_next, search_ends}
use Rattle.mv_net.proofs.network.Network.grow_all.Goals as goal

pub loop-start-init : goal.loop-start-init
loop-start-init c = (0, search_first c.args.self.now.nets c.args.way c.args.found.now.keys c.requires)

pub spread-requires : goal.spread-requires
spread-requires c = c.loop-start.invariant.1.held

pub loop-start-preserved : goal.loop-start-preserved
loop-start-preserved c =
    let i = c.loop-start.invariant in
    let P : ℕ → Type 0 = λ start. IsSearch c.args.self.now.nets c.args.way c.args.found.now.keys (suc i.0) start c.spread.new.found.keys in
    (suc i.0, subst P (sym c.len-end.ensures.len) (search_next c.args.self.now.nets c.args.way c.args.found.now.keys i.0 c.loop-start.start c.loop-start.found.keys c.spread.new.found.keys i.1 c.in_ok-spread.ensures))

pub returns : goal.returns
returns c = search_ends c.args.self.now.nets c.args.way c.args.found.now.keys c.loop-start.invariant.0 c.loop-start.start c.loop-start.found.keys c.loop-start.invariant.1 (omega (arith, c.len.ensures.len))
