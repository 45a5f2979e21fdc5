use Rattle.std.proofs.Common.{rules, ◌≡◌, ◌∙◌, ℕ, ◌<◌, true, false, List, [], ◌∷◌, Bor, length, map, All, Contains, sym, subst}
use Rattle.std.proofs.lemmas.List.{map-append}
use Rattle.std.proofs.lemmas.Map.Iter.{iter_end}
use Rattle.indexmap.specs.IndexMap.{keys}
use Rattle.mv_cover.specs.Literal.{Lit}
use Rattle.mv_meets.specs.Groups.{AreGroups, places_in}
use Rattle.mv_meets.specs.Search.{can_win, Spreads}
use Rattle.mv_meets.proofs.Looking.{wins_some}
use Rattle.mv_meets.proofs.Places.{holding_below}
use Rattle.mv_meets.proofs.Spreading.{spread_all, spread_child, spread_formed, spread_past}
use Rattle.mv_meets.proofs.children.spread.Goals as goal

pub grouped-requires : goal.grouped-requires
grouped-requires c =
    subst (All (λ (p : ℕ). p < length c.args.cubes.now)) (sym c.as_slice.ensures.value) (holding_below c.args.cubes.now c.args.node.now.cube c.args.node.now.places.items c.requires.node.places)

pub with_symbol-requires : goal.with_symbol-requires
with_symbol-requires c =
    let node = c.args.node.now in
    let groups = c.in_ok-groups.groups in
    let are : AreGroups c.args.cubes.now node.low node.places.items (places_in groups) = subst (λ ps. AreGroups c.args.cubes.now node.low ps (places_in groups)) c.as_slice.ensures.value c.in_ok-groups.ensures in
    let some : 0 < length (places_in groups c.in-Some.literal.now) =
    wins_some c.args.cubes.now c.args.best.now (length (places_in groups c.in-Some.literal.now)) c.args.longest c.requires.best
    (subst (λ (ps : List ℕ). can_win c.args.best.now (length ps) c.args.longest ≡ true) c.places_of-places.ensures (sym c.if-can_win.ensures)) in
    spread_formed c.args.cubes.now c.requires.formed node c.requires.node groups are c.args.best.now c.args.longest c.in-Some.literal.now some

pub loop-literal-preserved-in_ok-push : goal.loop-literal-preserved-in_ok-push
loop-literal-preserved-in_ok-push c =
    let node = c.args.node.now in
    let groups = c.in_ok-groups.groups in
    let are : AreGroups c.args.cubes.now node.low node.places.items (places_in groups) = subst (λ ps. AreGroups c.args.cubes.now node.low ps (places_in groups)) c.as_slice.ensures.value c.in_ok-groups.ensures in
    let some : 0 < length (places_in groups c.in-Some.literal.now) =
    wins_some c.args.cubes.now c.args.best.now (length (places_in groups c.in-Some.literal.now)) c.args.longest c.requires.best
    (subst (λ (ps : List ℕ). can_win c.args.best.now (length ps) c.args.longest ≡ true) c.places_of-places.ensures (sym c.if-can_win.ensures)) in
    let shown : List Lit = map (λ (x : Bor Lit). x.now) c.loop-literal.yielded in
    subst (λ (ls : List Lit). Spreads c.args.cubes.now node c.args.best.now c.args.longest (Contains ls) c.args.waiting.items c.push.new.self.items)
    (sym (map-append (λ (x : Bor Lit). x.now) c.loop-literal.yielded (c.in-Some.literal ∷ [])))
    (spread_child c.args.cubes.now c.requires.formed node c.requires.node groups are c.args.best.now c.args.longest shown c.in-Some.literal.now c.args.waiting.items c.loop-literal.waiting.items c.push.new.self.items
    c.in_ok-with_symbol.field-0 some c.in_ok-with_symbol.ensures.cube (c.in_ok-with_symbol.ensures.places ∙ c.places_of-places.ensures) c.in_ok-with_symbol.ensures.low c.in_ok-push.ensures.items c.loop-literal.invariant)

pub loop-literal-preserved : goal.loop-literal-preserved
loop-literal-preserved c =
    let node = c.args.node.now in
    let groups = c.in_ok-groups.groups in
    let are : AreGroups c.args.cubes.now node.low node.places.items (places_in groups) = subst (λ ps. AreGroups c.args.cubes.now node.low ps (places_in groups)) c.as_slice.ensures.value c.in_ok-groups.ensures in
    let lost : can_win c.args.best.now (length (places_in groups c.in-Some.literal.now)) c.args.longest ≡ false =
    subst (λ (ps : List ℕ). can_win c.args.best.now (length ps) c.args.longest ≡ false) c.places_of-places.ensures (sym c.if-can_win.ensures) in
    let shown : List Lit = map (λ (x : Bor Lit). x.now) c.loop-literal.yielded in
    subst (λ (ls : List Lit). Spreads c.args.cubes.now node c.args.best.now c.args.longest (Contains ls) c.args.waiting.items c.loop-literal.waiting.items)
    (sym (map-append (λ (x : Bor Lit). x.now) c.loop-literal.yielded (c.in-Some.literal ∷ [])))
    (spread_past c.args.cubes.now c.requires.formed node c.requires.node groups are c.args.best.now c.args.longest shown c.in-Some.literal.now c.args.waiting.items c.loop-literal.waiting.items lost c.loop-literal.invariant)

pub returns : goal.returns
returns c =
    let node = c.args.node.now in
    let groups = c.in_ok-groups.groups in
    let are : AreGroups c.args.cubes.now node.low node.places.items (places_in groups) = subst (λ ps. AreGroups c.args.cubes.now node.low ps (places_in groups)) c.as_slice.ensures.value c.in_ok-groups.ensures in
    let all : map (λ (x : Bor Lit). x.now) c.loop-literal.yielded ≡ keys groups.places = search (rules, iter_end) in
    spread_all c.args.cubes.now c.requires.formed node c.requires.node groups are c.args.best.now c.args.longest (map (λ (x : Bor Lit). x.now) c.loop-literal.yielded) c.args.waiting.items c.loop-literal.waiting.items c.requires.best all c.loop-literal.invariant
