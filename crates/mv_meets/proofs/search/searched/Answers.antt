use Rattle.std.proofs.Common.{[], All, sym, subst}
use Rattle.std.proofs.lemmas.List.Elements.{All-nil, All-cons}
use Rattle.mv_meets.specs.Search.{IsNode}
use Rattle.mv_meets.proofs.Visiting.{open_begun, open_popped}
use Rattle.mv_meets.proofs.search.searched.Goals as goal

pub loop-visited-init : goal.loop-visited-init
loop-visited-init c = record {
  nodes = subst (All (IsNode c.args.cubes.now)) (sym c.in_ok-search.ensures.waiting) (All-cons (IsNode c.args.cubes.now) c.args.start [] c.requires.node (All-nil (IsNode c.args.cubes.now)));
  seen = open_begun c.args.cubes.now c.args.start c.args.given.now c.in_ok-search.search.waiting.items c.in_ok-search.search.found c.in_ok-search.ensures.waiting c.in_ok-search.ensures.found;
}

pub loop-visited-preserved : goal.loop-visited-preserved
loop-visited-preserved c =
    let still =
    open_popped c.args.cubes.now c.args.start c.args.given.now c.loop-visited.search.waiting.items c.pop.new.self.items c.in-Some.node c.loop-visited.search.found c.in-Some.ensures.items c.loop-visited.invariant.seen in
    record { nodes = c.in_ok-search-2.ensures.nodes; seen = c.in_ok-search-2.ensures.stays c.args.start still }
