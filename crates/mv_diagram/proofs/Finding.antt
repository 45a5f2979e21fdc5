-- The nodes that a diagram reaches.
use Rattle.std.proofs.Common.{◌≡◌, ℕ, zero, suc, ◌+◌, ◌<◌, ◌≤◌, ◌==◌, ◌^◌, Bool, true, false, List, [], ◌∷◌, length, get_or, nat_lt, option_and_then, Option, Some, None, All, is_some, refl, sym, ap, subst, ◌∙◌, inl, inr, true≢false, arith}
use Rattle.std.specs.Option.{option_map_or}
use Rattle.std.proofs.Math.ListN.{set}
use Rattle.std.proofs.lemmas.Bool.{cases_eq, lt-ltb, ltb-true}
use Rattle.std.proofs.lemmas.List.{get_or-set_same, get_or-set_other}
use Rattle.std.proofs.lemmas.Option.{none-some, same_Some, option_and_then_some}
use Rattle.mv_pool.specs.Places.{item_at}
use Rattle.mv_pool.specs.Walks.{mark}
use Rattle.mv_pool.specs.Reached.{AreListed, IsReached}
use Rattle.mv_pool.specs.declared.pool.Id.{Id}
use Rattle.mv_diagram.specs.declared.node.Dd.{Dd}
use Rattle.mv_diagram.specs.declared.node.Node.{Node}
use Rattle.mv_diagram.specs.Diagrams.{Reaches}
use Rattle.mv_diagram.specs.Found.{AreFound, ArePlaced, AreSeen, AreTested}
use Rattle.mv_diagram.specs.Links.{place_of}
use Rattle.mv_diagram.specs.Sets.{Point, has_diagram, holds, node_at, with_value}
use Rattle.mv_diagram.specs.Sound.{first, IsReduced}
use Rattle.mv_diagram.proofs.Following.{ended, holds_end, holds_node, if_same, node_is, steps, yes-later, no-later}
use Rattle.mv_diagram.proofs.Canonical.{ends}
use Rattle.mv_diagram.proofs.Growing.{held_low, no_node}
use Rattle.mv_diagram.proofs.Points.{value_elsewhere}
use Rattle.mv_diagram.proofs.Reclaiming.{closed_placed, held_place, link_of, placed_is}

-- the diagrams of a node that is reached are reached, and so is the root
pub reaches_root : (ns : List (Option Node)) (a : Dd) → Reaches ns (a ∷ []) a.0
reaches_root ns a set zero_in one_in all step = all 0 a (omega arith)

pub reaches_children : (ns : List (Option Node)) (a : Dd) (d : ℕ) (n : Node) → Reaches ns (a ∷ []) d → node_at ns d ≡ Some n → Reaches ns (a ∷ []) n.yes.0 × Reaches ns (a ∷ []) n.no.0
reaches_children ns a d n reached e = (λ set zero_in one_in all step. (step d n (reached set zero_in one_in all step) e).0, λ set zero_in one_in all step. (step d n (reached set zero_in one_in all step) e).1)

-- the place of a held diagram has a node
pub root_held : (ns : List (Option Node)) (a : Dd) (root : Id) → place_of a.0 ≡ Some root → has_diagram ns a.0 ≡ true → All (λ (id : Id). is_some (item_at ns id.0) ≡ true) (root ∷ [])
root_held ns a root at held k d less = only k d less
  where
    only : (k : ℕ) (d : Id) → k < 1 → is_some (item_at ns (get_or (root ∷ []) k d).0) ≡ true
    only zero d less = held_place ns a.0 root held at
    only (suc k) d less = absurd (omega arith)

-- the place of a diagram, or none
in_place : (ℕ → Bool) → ℕ → Bool
in_place set d = option_map_or (λ (i : Id). set i.0) (place_of d) true

in_place_some : (set : ℕ → Bool) (d : ℕ) (id : Id) → place_of d ≡ Some id → in_place set d ≡ set id.0
unfolding in_place
in_place_some set d id at = ap (λ o. option_map_or (λ (i : Id). set i.0) o true) at

in_place_closed : (set : ℕ → Bool) (d : ℕ) → ((id : Id) → place_of d ≡ Some id → set id.0 ≡ true) → in_place set d ≡ true
unfolding in_place
in_place_closed set d each = by_place (place_of d) refl
  where
    by_place : (o : Option Id) → place_of d ≡ o → in_place set d ≡ true
    by_place None e = ap (λ o. option_map_or (λ (i : Id). set i.0) o true) e
    by_place (Some id) e = in_place_some set d id e ∙ each id e

module _ (ns : List (Option Node)) (a : Dd) (root : Id) (at : place_of a.0 ≡ Some root) where
  -- what a walk along links reaches is what the diagram reaches
  reaches_placed : length ns < 2 ^ 32 → (n : ℕ) → IsReached link_of ns (root ∷ []) n → Reaches ns (a ∷ []) (n + 2)
  reaches_placed small n reached set zero_in one_in all step = reached (λ p. set (p + 2)) (λ k d less. only k d less) (closed_placed ns small set step)
    where
      only : (k : ℕ) (d : Id) → k < 1 → set ((get_or (root ∷ []) k d).0 + 2) ≡ true
      only zero d less = ap set (sym (placed_is a.0 root at)) ∙ all 0 a (omega arith)
      only (suc k) d less = absurd (omega arith)

  placed_reached : (d : ℕ) (id : Id) → Reaches ns (a ∷ []) d → place_of d ≡ Some id → IsReached link_of ns (root ∷ []) id.0
  unfolding in_place
  placed_reached d id reached there set all closed = sym (in_place_some set d id there) ∙ reached (in_place set) refl refl (λ k e less. only k e less) step
    where
      only : (k : ℕ) (e : Dd) → k < 1 → in_place set (get_or (a ∷ []) k e).0 ≡ true
      only zero e less = in_place_some set a.0 root at ∙ all 0 root (omega arith)
      only (suc k) e less = absurd (omega arith)

      step : (c : ℕ) (n : Node) → in_place set c ≡ true → node_at ns c ≡ Some n → (in_place set n.yes.0 ≡ true) × (in_place set n.no.0 ≡ true)
      step c n in_c e = option_and_then_some (λ (i : Id). item_at ns i.0) (place_of c) n e (λ i here item.
          let in_set = sym (in_place_some set c i here) ∙ in_c in
          (in_place_closed set n.yes.0 (λ j is. closed.each i.0 0 n j in_set item (omega arith) is), in_place_closed set n.no.0 (λ j is. closed.each i.0 1 n j in_set item (omega arith) is)))

  pub found_listed : length ns < 2 ^ 32 → (listed : List ℕ) → AreListed link_of ns (root ∷ []) listed → AreFound ns a listed
  found_listed small listed are = record {
    reached = λ k less. reaches_placed small (get_or listed k 0) (are.reached k less);
    all = λ d id reached there. are.all id.0 (placed_reached d id reached there);
    size = record {
      marks = are.marks;
      marked = λ d id there. (λ h. subst (Reaches ns (a ∷ [])) (sym (placed_is d id there)) (reaches_placed small id.0 ((are.marked id.0).0 h)), λ reached. (are.marked id.0).1 (placed_reached d id reached there));
      count = are.count;
    };
  }

-- zero and one have no nodes
pub found_none : (ns : List (Option Node)) (a : Dd) → has_diagram ns a.0 ≡ true → place_of a.0 ≡ None → AreFound ns a []
found_none ns a held none = record {
  reached = λ k less. absurd (omega arith);
  all = λ d id reached there. absurd (never d id reached there);
  size = record { marks = []; marked = λ d id there. (λ h. absurd (true≢false (sym h)), λ reached. absurd (never d id reached there)); count = refl };
}
  where
    low : a.0 < 2
    low = ends ns a.0 held (ap (option_and_then (λ (i : Id). item_at ns i.0)) none)

    only : (k : ℕ) (e : Dd) → k < 1 → nat_lt (get_or (a ∷ []) k e).0 2 ≡ true
    only zero e less = lt-ltb a.0 2 low
    only (suc k) e less = absurd (omega arith)

    never : (d : ℕ) (id : Id) → Reaches ns (a ∷ []) d → place_of d ≡ Some id → ⊥
    never d id reached there =
        let small = ltb-true d 2 (reached (λ e. nat_lt e 2) refl refl (λ k e less. only k e less) (λ c n in_c e. absurd (none-some n (sym (no_node ns c (ltb-true c 2 in_c)) ∙ e)))) in
        let at = placed_is d id there in
        absurd (omega arith)

module _ (counts : List ℕ) (ns : List (Option Node)) (s : IsReduced counts ns) (a : Dd) (held : has_diagram ns a.0 ≡ true) where
  -- what is reached is held
  pub reaches_held : (d : ℕ) → Reaches ns (a ∷ []) d → has_diagram ns d ≡ true
  reaches_held d reached = reached (has_diagram ns) (held_low ns 0 (omega arith)) (held_low ns 1 (omega arith)) (λ k e less. at_only k e less) (λ c n hc e. let is = node_is counts ns s c n e in (is.yes_held, is.no_held))
    where
      at_only : (k : ℕ) (e : Dd) → k < 1 → has_diagram ns (get_or (a ∷ []) k e).0 ≡ true
      at_only zero e less = held
      at_only (suc k) e less = absurd (omega arith)

  -- a diagram whose nodes don't test a variable ignores it
  untested_ignored : (k v d : ℕ) → steps counts ≤ first counts ns d + k → Reaches ns (a ∷ []) d → ((c : ℕ) (n : Node) → Reaches ns (a ∷ []) c → node_at ns c ≡ Some n → n.test.var ≡ v → ⊥)
      → (p : Point) (value : ℕ) → holds counts ns d (with_value p v value) ≡ holds counts ns d p
  untested_ignored zero v d enough reached none p value = let no-node = ended counts ns s d (omega arith) in holds_end counts ns d (with_value p v value) no-node ∙ sym (holds_end counts ns d p no-node)
  untested_ignored (suc k) v d enough reached none p value = by_node (node_at ns d) refl (λ c later rc. untested_ignored k v c (omega arith) rc none p value)
    where
      by_node : (o : Option Node) → node_at ns d ≡ o → ((c : ℕ) → first counts ns d < first counts ns c → Reaches ns (a ∷ []) c → holds counts ns c (with_value p v value) ≡ holds counts ns c p) → holds counts ns d (with_value p v value) ≡ holds counts ns d p
      by_node None e below = holds_end counts ns d (with_value p v value) e ∙ sym (holds_end counts ns d p e)
      by_node (Some n) e below =
          let both = reaches_children ns a d n reached e in
          holds_node counts ns s d n (with_value p v value) e
          ∙ if_same _ _ _ _ _ _ (ap (λ x. x == n.test.value) (value_elsewhere p v value n.test.var (none d n reached e))) (below n.yes.0 (yes-later counts ns s d n e) both.0) (below n.no.0 (no-later counts ns s d n e) both.1)
          ∙ sym (holds_node counts ns s d n p e)

  -- the variables that the nodes of a diagram test
  pub tested_all : (cap reclaims : ℕ) (found : List ℕ) (seen : List Bool) → AreFound ns a found → AreSeen ns found (length found) seen → AreTested (record { counts = counts; nodes = ns; cap = cap; reclaims = reclaims }) a seen
  tested_all cap reclaims found seen are is = record {
    tests = λ v h. let t = is.tests v h in record { d = get_or found t.0 0 + 2; node = t.1; reached = are.reached t.0 t.2; at = t.3; tests = t.4 };
    ignores = λ v h. record { each = λ p value. untested_ignored (steps counts) v a.0 (omega arith) (reaches_root ns a) (λ c n rc e t. untested found seen are is v h c n rc e t) p value };
  }
    where
      untested : (found : List ℕ) (seen : List Bool) → AreFound ns a found → AreSeen ns found (length found) seen → (v : ℕ) → mark seen v ≡ false → (c : ℕ) (n : Node) → Reaches ns (a ∷ []) c → node_at ns c ≡ Some n → n.test.var ≡ v → ⊥
      untested found seen are is v h c n rc e t = option_and_then_some (λ (i : Id). item_at ns i.0) (place_of c) n e (λ id at there.
          let place = are.all c id rc at in
          let here : node_at ns (get_or found place.0 0 + 2) ≡ Some n = ap (λ x. node_at ns (x + 2)) place.2 ∙ ap (node_at ns) (sym (placed_is c id at)) ∙ e in
          true≢false (sym (is.all place.0 n place.1 here) ∙ ap (mark seen) t ∙ h))

-- the places that are found are those of nodes
pub placed_all : (counts : List ℕ) (ns : List (Option Node)) → IsReduced counts ns → (a : Dd) → has_diagram ns a.0 ≡ true → (found : List ℕ) → AreFound ns a found → ArePlaced ns found
placed_all counts ns s a held found are = record { each = λ k less. reaches_held counts ns s a held (get_or found k 0 + 2) (are.reached k less) }

-- no variable is marked at first
pub seen_none : (ns : List (Option Node)) (found : List ℕ) (seen : List Bool) → ((v : ℕ) → mark seen v ≡ false) → AreSeen ns found 0 seen
seen_none ns found seen none = record { tests = λ v h. absurd (true≢false (sym h ∙ none v)); all = λ k n less e. absurd (omega arith) }

-- the variable of a node more is marked
pub seen_more : (ns : List (Option Node)) (found : List ℕ) (k : ℕ) (n : Node) (seen : List Bool) → AreSeen ns found k seen → node_at ns (get_or found k 0 + 2) ≡ Some n → n.test.var < length seen → AreSeen ns found (k + 1) (set seen n.test.var true)
seen_more ns found k n seen are e inside = record {
  tests = λ v h. elim (cases_eq v n.test.var) [
    | inl same ↦ (k, n, omega arith, e, sym same)
    | inr other ↦ let t = are.tests v (sym (get_or-set_other seen n.test.var v true false other) ∙ h) in (t.0, t.1, omega (arith, t.2), t.3, t.4)
  ];
  all = λ j m less f. elim (cases_eq m.test.var n.test.var) [
    | inl same ↦ ap (mark (set seen n.test.var true)) same ∙ get_or-set_same seen n.test.var true false inside
    | inr other ↦ get_or-set_other seen n.test.var m.test.var true false other ∙ elim (cases_eq j k) [
      | inl here ↦ absurd (other (ap (λ (x : Node). x.test.var) (same_Some m n (sym f ∙ ap (λ x. node_at ns (get_or found x 0 + 2)) here ∙ e))))
      | inr before ↦ are.all j m (omega arith) f
    ]
  ];
}

-- a place without a node marks none
pub seen_skip : (ns : List (Option Node)) (found : List ℕ) (k : ℕ) (seen : List Bool) → AreSeen ns found k seen → node_at ns (get_or found k 0 + 2) ≡ None → AreSeen ns found (k + 1) seen
seen_skip ns found k seen are none = record {
  tests = λ v h. let t = are.tests v h in (t.0, t.1, omega (arith, t.2), t.3, t.4);
  all = λ j m less f. elim (cases_eq j k) [
    | inl here ↦ absurd (none-some m (sym none ∙ sym (ap (λ x. node_at ns (get_or found x 0 + 2)) here) ∙ f))
    | inr before ↦ are.all j m (omega arith) f
  ];
}
