use Rattle.std.proofs.Common.{ℕ, ◌≡◌, ◌∙◌, ◌<◌, ◌≤◌, false, Option, length, All, sym, subst}
use Rattle.mv_meets.specs.Meets.{at}
use Rattle.mv_meets.specs.Search.{can_win, leading, Saves, Spreads}
use Rattle.mv_meets.specs.declared.found.Found.{Found}
use Rattle.mv_meets.proofs.Looking.{leading_saves}
use Rattle.mv_meets.proofs.Places.{holding_below}
use Rattle.mv_meets.proofs.Visiting.{open_lost, open_spread}
use Rattle.mv_meets.proofs.search.visit.Goals as goal

pub longest-longest-requires : goal.longest-longest-requires
longest-longest-requires c =
    subst (All (λ (p : ℕ). p < length c.args.cubes.now)) (sym c.as_slice-places.ensures.value) (holding_below c.args.cubes.now c.args.node.now.cube c.args.node.now.places.items c.requires.node.places)

pub returns-then-not-can_win : goal.returns-then-not-can_win
returns-then-not-can_win c =
    let node = c.args.node.now in
    let given = c.args.given.now in
    let found = c.args.search.found in
    let lost : can_win (leading given found) (length node.places.items) c.longest-longest.result ≡ false =
    (λ j. can_win (sym c.leading-best.ensures j) (length (sym c.as_slice-places.ensures.value j)) c.longest-longest.result) ∙ sym c.if-not-can_win.ensures in
    record {
      nodes = c.requires.waiting;
      stays = λ start o. open_lost c.args.cubes.now start given node c.args.search.waiting.items found c.longest-longest.result c.requires.node
          (subst (All (λ (p : ℕ). length (at c.args.cubes.now p) ≤ c.longest-longest.result)) c.as_slice-places.ensures.value c.longest-longest.ensures.longest) lost o;
    }

pub spread-requires-clause-best : goal.spread-requires-clause-best
spread-requires-clause-best c =
    subst Saves (sym c.leading-best-2.ensures) (leading_saves c.args.cubes.now c.args.given.now c.in_ok-found.found c.requires.given c.in_ok-found.ensures.found)

pub returns : goal.returns
returns c =
    let node = c.args.node.now in
    let given = c.args.given.now in
    let found = c.in_ok-found.found in
    let short : All (λ (p : ℕ). length (at c.args.cubes.now p) ≤ c.longest-longest.result) node.places.items =
    subst (All (λ (p : ℕ). length (at c.args.cubes.now p) ≤ c.longest-longest.result)) c.as_slice-places.ensures.value c.longest-longest.ensures.longest in
    let spread =
    subst (λ (b : Option Found). Spreads c.args.cubes.now node b c.longest-longest.result (λ l. Unit {0}) c.args.search.waiting.items c.in_ok-waiting.waiting.items) c.leading-best-2.ensures c.in_ok-waiting.ensures in
    record {
      nodes = spread.nodes;
      stays = λ start o. open_spread c.args.cubes.now start given node c.args.search.waiting.items c.in_ok-waiting.waiting.items c.args.search.found found c.longest-longest.result c.requires.formed c.requires.node short
          c.in_ok-found.ensures spread o;
    }
