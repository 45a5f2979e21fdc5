-- Nodes with one symbol more, by the places of the cubes that have each literal.
use Rattle.std.proofs.Common.{◌≡◌, ◌∙◌, ℕ, ◌+◌, ◌<◌, ◌≤◌, Bool, true, false, Option, Some, None, List, [], ◌∷◌, ◌++◌, length, filter, get_or, All, Contains, inl, inr, refl, sym, ap, subst, arith}
use Rattle.std.proofs.lemmas.Bool.{cases_lt}
use Rattle.std.proofs.lemmas.List.Elements.{All-contains, Contains-get_or}
use Rattle.std.proofs.lemmas.Map.Views.{Contains-keys_from_lookup}
use Rattle.std.specs.Option.{unwrap_or}
use Rattle.std.specs.Prelude.{IsSome}
use Rattle.indexmap.specs.IndexMap.{get, keys}
use Rattle.mv_cover.specs.Literal.{Lit}
use Rattle.mv_cover.specs.Cubes.{IsCube}
use Rattle.mv_cover.specs.Equal.{lit_eq}
use Rattle.mv_cover.specs.Keys.{lit_eq-Decides}
use Rattle.mv_kernels.specs.Symbols.{has_symbol}
use Rattle.mv_kernels.proofs.Lists.{Contains-from_filter}
use Rattle.mv_meets.specs.Groups.{AreGroups, places_in}
use Rattle.mv_meets.specs.Meets.{at, count}
use Rattle.mv_meets.specs.Search.{can_win, IsNode, Saves, Spreads}
use Rattle.mv_meets.specs.declared.found.Found.{Found}
use Rattle.mv_meets.specs.declared.groups.Groups.{Groups}
use Rattle.mv_meets.specs.declared.nodes.Node.{Node}
use Rattle.mv_meets.proofs.Covering.{child_formed, child_node}
use Rattle.mv_meets.proofs.Looking.{wins_some}
use Rattle.mv_meets.proofs.Places.{holding_below, holding_count, holding_more}
use Rattle.mv_meets.proofs.Visiting.{spreads_all, spreads_more, spreads_past}

-- a literal that some cube has is one of those that were noted
has_key : (groups : Groups) (l : Lit) → 0 < length (places_in groups l) → Contains (keys groups.places) l
has_key groups l has = Contains-keys_from_lookup {eq = lit_eq} (λ a b e. (lit_eq-Decides a b).0 e) l groups.places.entries (some (get lit_eq groups.places l) has)
  where
    some : (o : Option (List ℕ)) → 0 < length (unwrap_or o []) → IsSome o
    some None h = absurd (omega arith)
    some (Some ps) h = refl

module _ (cubes : List (List Lit)) (formed : All IsCube cubes) (node : Node) (is : IsNode cubes node) (groups : Groups) (are : AreGroups cubes node.low node.places.items (places_in groups)) (best : Option Found) (longest : ℕ) where
  places_count : (l : Lit) → node.low ≤ l.net.0 → length (places_in groups l) ≡ count (node.cube ++ l ∷ []) cubes
  places_count l high =
      ap length (are.each l high) ∙ holding_count cubes (node.cube ++ l ∷ []) (filter (λ p. has_symbol (at cubes p) l) node.places.items) (holding_more cubes node.cube l node.places.items is.places)

  high_from : (l : Lit) → 0 < length (places_in groups l) → node.low ≤ l.net.0
  high_from l some =
      elim (cases_lt l.net.0 node.low) [
        | inl less ↦ let none : length (places_in groups l) ≡ 0 = ap length (are.below l less) in absurd (omega (arith, none, some))
        | inr high ↦ omega (arith, high)
      ]

  -- the node's symbols and one that a cube has besides are a cube
  pub spread_formed : (l : Lit) → 0 < length (places_in groups l) → IsCube (node.cube ++ l ∷ [])
  spread_formed l some =
      let high = high_from l some in
      let has : ℕ → Bool = λ p. has_symbol (at cubes p) l in
      let p = get_or (places_in groups l) 0 0 in
      let there = Contains-from_filter has node.places.items p (subst (λ ps. Contains ps p) (are.each l high) (Contains-get_or (places_in groups l) 0 0 some)) in
      child_formed cubes formed node is l p (All-contains (λ q. q < length cubes) node.places.items p (holding_below cubes node.cube node.places.items is.places) there.0) there.1 high

  -- a node comes for the next literal
  pub spread_child : (ls : List Lit) (l : Lit) (old mid new : List Node) (child : Node) → 0 < length (places_in groups l) → child.cube ≡ node.cube ++ l ∷ [] → child.places.items ≡ places_in groups l → child.low ≡ l.net.0 + 1
      → new ≡ mid ++ child ∷ [] → Spreads cubes node best longest (Contains ls) old mid → Spreads cubes node best longest (Contains (ls ++ l ∷ [])) old new
  spread_child ls l old mid new child some cube_is places_are low_is pushed a =
      let high = high_from l some in
      let child_is = child_node cubes formed node is l child (spread_formed l some) high cube_is low_is (places_are ∙ are.each l high) in
      subst (Spreads cubes node best longest (Contains (ls ++ l ∷ [])) old) (sym pushed) (spreads_more cubes node best longest ls l old mid child child_is cube_is low_is a)

  -- or none, since what has it can't win
  pub spread_past : (ls : List Lit) (l : Lit) (old new : List Node) → can_win best (length (places_in groups l)) longest ≡ false
      → Spreads cubes node best longest (Contains ls) old new → Spreads cubes node best longest (Contains (ls ++ l ∷ [])) old new
  spread_past ls l old new lost a = spreads_past cubes node best longest ls l old new (λ high. subst (λ n. can_win best n longest ≡ false) (places_count l high) lost) a

  pub spread_all : (ls : List Lit) (old new : List Node) → Saves best → ls ≡ keys groups.places → Spreads cubes node best longest (Contains ls) old new → Spreads cubes node best longest (λ l. Unit {0}) old new
  spread_all ls old new found all a =
      spreads_all cubes node best longest ls old new (λ l high wins.
      let as_many : can_win best (length (places_in groups l)) longest ≡ true = subst (λ n. can_win best n longest ≡ true) (sym (places_count l high)) wins in
      subst (λ ks. Contains ks l) (sym all) (has_key groups l (wins_some cubes best (length (places_in groups l)) longest found as_many))) a
