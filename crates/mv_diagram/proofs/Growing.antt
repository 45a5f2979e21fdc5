-- Held diagrams as nodes are added.
use Rattle.std.proofs.Common.{◌≡◌, ℕ, zero, suc, ◌+◌, ◌-◌, ◌*◌, ◌<◌, ◌≤◌, ◌||◌, ◌^◌, ◌&&◌, ◌⊎◌, Bool, true, false, List, [], ◌∷◌, length, Option, Some, None, is_some, nat_lt, option_and_then, if◌then◌else◌, refl, sym, ap, subst, ◌∙◌, inl, inr, true≢false, arith}
use Rattle.std.specs.Option.{option_map_or}
use Rattle.std.proofs.lemmas.Bool.{cases_eq, cases_lt, lt-leb, lt-ltb}
use Rattle.std.proofs.lemmas.List.{get_or_past, length-append}
use Rattle.mv_pool.proofs.Positions.{passes_within}
use Rattle.std.proofs.lemmas.Option.{none-some, same_Some, option_and_then_some}
use Rattle.mv_base.specs.declared.limits.TheConstants.{MAX_VALUES}
use Rattle.mv_pool.specs.Places.{item_at, least_free, with_item}
use Rattle.mv_pool.specs.declared.pool.Id.{Id}
use Rattle.mv_pool.proofs.Placing.{item_at-with, item_at-with_other, free_there, least-le, with_item-push}
use Rattle.mv_diagram.specs.declared.node.Node.{Node}
use Rattle.mv_diagram.specs.Links.{place_of}
use Rattle.mv_diagram.specs.Sets.{Point, with_value, greatest, node_at, has_diagram, holds, holds_within}
use Rattle.mv_diagram.specs.Sound.{order, first, IsNode, IsReduced, Ascends}
use Rattle.mv_diagram.specs.Works.{Grows, IsAbsent}
use Rattle.mv_diagram.proofs.Following.{if_same, node_is, within-node, within-end, node_placed}
use Rattle.mv_diagram.proofs.Canonical.{ends}

-- zero and one have no node
pub no_node : (ns : List (Option Node)) (d : ℕ) → d < 2 → node_at ns d ≡ None
no_node ns d low = ap (λ b. option_and_then (λ (id : Id). item_at ns id.0) (if b && nat_lt (d - 2) (2 ^ 32) then Some (record { 0 = d - 2 }) else None)) (lt-leb 2 d low)

pub held_low : (ns : List (Option Node)) (d : ℕ) → d < 2 → has_diagram ns d ≡ true
held_low ns d low = ap (λ b. b || is_some (node_at ns d)) (lt-ltb d 2 low)

pub held_node : (ns : List (Option Node)) (d : ℕ) (n : Node) → node_at ns d ≡ Some n → has_diagram ns d ≡ true
held_node ns d n e = or_from (nat_lt d 2) (is_some (node_at ns d)) (ap is_some e)
  where
    or_from : (x y : Bool) → y ≡ true → (x || y) ≡ true
    or_from true y h = refl
    or_from false y h = h

-- the children of each node are held
pub record IsClosed (ns : List (Option Node)) : Type 0 where
  pub yes : (d : ℕ) (n : Node) → node_at ns d ≡ Some n → has_diagram ns n.yes.0 ≡ true
  pub no : (d : ℕ) (n : Node) → node_at ns d ≡ Some n → has_diagram ns n.no.0 ≡ true

closed_sound : (counts : List ℕ) (ns : List (Option Node)) → IsReduced counts ns → IsClosed ns
closed_sound counts ns s = record { yes = λ d n e. (node_is counts ns s d n e).yes_held; no = λ d n e. (node_is counts ns s d n e).no_held }

module _ (counts : List ℕ) (old new : List (Option Node)) (g : Grows old new) where
  -- the node of a held diagram stays
  pub node_stays : (d : ℕ) → has_diagram old d ≡ true → node_at new d ≡ node_at old d
  node_stays d held = by (node_at old d) refl
    where
      by : (o : Option Node) → node_at old d ≡ o → node_at new d ≡ node_at old d
      by None e = no_node new d (ends old d held e) ∙ sym e
      by (Some n) e = option_and_then_some (λ (id : Id). item_at old id.0) (place_of d) n e
          (λ id at there. ap (option_and_then (λ (id : Id). item_at new id.0)) at ∙ g.keeps id.0 n there ∙ sym e)

  pub held_stays : (d : ℕ) → has_diagram old d ≡ true → has_diagram new d ≡ true
  held_stays d held = ap (λ o. nat_lt d 2 || is_some o) (node_stays d held) ∙ held

  pub first_stays : (d : ℕ) → has_diagram old d ≡ true → first counts new d ≡ first counts old d
  first_stays d held = ap (λ o. option_map_or (λ (n : Node). order n.test.var n.test.value) o (length counts * MAX_VALUES)) (node_stays d held)

  module _ (closed : IsClosed old) where
    within_stays : (k d : ℕ) (p : Point) → has_diagram old d ≡ true → holds_within k new d p ≡ holds_within k old d p
    within_stays zero d p held = refl
    within_stays (suc k) d p held = by (node_at old d) refl (λ c h. within_stays k c p h)
      where
        by : (o : Option Node) → node_at old d ≡ o → ((c : ℕ) → has_diagram old c ≡ true → holds_within k new c p ≡ holds_within k old c p) → holds_within (suc k) new d p ≡ holds_within (suc k) old d p
        by None e below = within-end counts new (suc k) d p (node_stays d held ∙ e) ∙ sym (within-end counts old (suc k) d p e)
        by (Some n) e below =
            within-node counts new k d n p (node_stays d held ∙ e) ∙ if_same _ _ _ _ _ _ refl (below n.yes.0 (closed.yes d n e)) (below n.no.0 (closed.no d n e)) ∙ sym (within-node counts old k d n p e)

    -- and so does its set
    pub set_stays : (d : ℕ) (p : Point) → has_diagram old d ≡ true → holds counts new d p ≡ holds counts old d p
    unfolding holds
    set_stays d p held = within_stays (length counts * MAX_VALUES) d p held

  module _ (s : IsReduced counts old) where
    pub holds_stays : (d : ℕ) (p : Point) → has_diagram old d ≡ true → holds counts new d p ≡ holds counts old d p
    holds_stays d p held = set_stays (closed_sound counts old s) d p held

    -- a node that is right stays so
    pub IsNode-stays : (n : Node) → IsNode counts old n → IsNode counts new n
    IsNode-stays n is = record {
      test = is.test;
      yes_held = held_stays n.yes.0 is.yes_held;
      no_held = held_stays n.no.0 is.no_held;
      yes_later = rw (first_stays n.yes.0 is.yes_held) is.yes_later;
      no_later = rw (first_stays n.no.0 is.no_held) is.no_later;
      reduced = λ same. is.reduced (record { each = λ p range. sym (holds_stays n.yes.0 p is.yes_held) ∙ same.each p range ∙ holds_stays n.no.0 (with_value p n.test.var (greatest counts n.test.var)) is.no_held });
    }

pub Grows-same : (ns : List (Option Node)) → Grows ns ns
Grows-same ns = record { keeps = λ place n e. e }

pub Grows-more : (a b c : List (Option Node)) → Grows a b → Grows b c → Grows a c
Grows-more a b c g h = record { keeps = λ place n e. h.keeps place n (g.keeps place n e) }

-- no place is gone
pub longer_with : (ns : List (Option Node)) (n : Node) → length ns ≤ length (with_item ns n)
longer_with [] n = omega arith
longer_with (None ∷ ns) n = omega arith
longer_with (Some m ∷ ns) n = let rest = longer_with ns n in omega arith

-- a node at the least free place
pub Grows-with : (ns : List (Option Node)) (n : Node) → Grows ns (with_item ns n)
Grows-with ns n = record { keeps = λ place m e. item_at-with_other ns n place (λ same. none-some m (sym (free_there ns) ∙ ap (item_at ns) (sym same) ∙ e)) ∙ e }

module _ (counts : List ℕ) (ns : List (Option Node)) (n : Node) (s : IsReduced counts ns) (is : IsNode counts ns n) (fresh : IsAbsent ns n) where
  pub each_with : (place : ℕ) (m : Node) → item_at (with_item ns n) place ≡ Some m → ((place ≡ least_free ns) × (n ≡ m)) ⊎ (item_at ns place ≡ Some m)
  each_with place m e = elim (cases_eq place (least_free ns)) [
    | inl same ↦ inl (same, same_Some n m (sym (item_at-with ns n) ∙ ap (item_at (with_item ns n)) (sym same) ∙ e))
    | inr other ↦ inr (sym (item_at-with_other ns n place other) ∙ e)
  ]

  -- a new node that is right
  pub IsReduced-with : IsReduced counts (with_item ns n)
  IsReduced-with = record { values = s.values; nodes = nodes; distinct = distinct }
    where
      nodes : (place : ℕ) (m : Node) → item_at (with_item ns n) place ≡ Some m → IsNode counts (with_item ns n) m
      nodes place m e = elim (each_with place m e) [
        | inl here ↦ subst (IsNode counts (with_item ns n)) here.1 (IsNode-stays counts ns (with_item ns n) (Grows-with ns n) s n is)
        | inr old ↦ IsNode-stays counts ns (with_item ns n) (Grows-with ns n) s m (s.nodes place m old)
      ]

      distinct : (i j : ℕ) (m : Node) → item_at (with_item ns n) i ≡ Some m → item_at (with_item ns n) j ≡ Some m → i ≡ j
      distinct i j m e f = elim (each_with i m e) [
        | inl here ↦ elim (each_with j m f) [
          | inl there ↦ here.0 ∙ sym there.0
          | inr old ↦ absurd (fresh.nowhere j (old ∙ ap (λ x. Some x) (sym here.1)))
        ]
        | inr old ↦ elim (each_with j m f) [
          | inl there ↦ absurd (fresh.nowhere i (old ∙ ap (λ x. Some x) (sym there.1)))
          | inr too ↦ s.distinct i j m old too
        ]
      ]

-- fewer nodes, whose children are among them
pub record Fewer (ns fewer : List (Option Node)) : Type 0 where
  pub grows : Grows fewer ns
  pub closed : (place : ℕ) (n : Node) → item_at fewer place ≡ Some n → (has_diagram fewer n.yes.0 ≡ true) × (has_diagram fewer n.no.0 ≡ true)

module _ (counts : List ℕ) (ns fewer : List (Option Node)) (s : IsReduced counts ns) (f : Fewer ns fewer) where
  closed_fewer : IsClosed fewer
  closed_fewer = record {
    yes = λ d n e. let at = node_placed counts fewer d n e in (f.closed at.0 n at.1).0;
    no = λ d n e. let at = node_placed counts fewer d n e in (f.closed at.0 n at.1).1;
  }

  -- what is held keeps its set
  pub set_fewer : (d : ℕ) (p : Point) → has_diagram fewer d ≡ true → holds counts fewer d p ≡ holds counts ns d p
  set_fewer d p held = sym (set_stays counts fewer ns f.grows closed_fewer d p held)

  -- they are sound
  pub IsReduced-fewer : IsReduced counts fewer
  IsReduced-fewer = record {
    values = s.values;
    nodes = nodes;
    distinct = λ i j n e g. s.distinct i j n (f.grows.keeps i n e) (f.grows.keeps j n g);
  }
    where
      nodes : (place : ℕ) (n : Node) → item_at fewer place ≡ Some n → IsNode counts fewer n
      nodes place n e =
          let is = s.nodes place n (f.grows.keeps place n e) in
          let yes = (f.closed place n e).0 in
          let no' = (f.closed place n e).1 in
          record {
            test = is.test;
            yes_held = yes;
            no_held = no';
            yes_later = rw (← first_stays counts fewer ns f.grows n.yes.0 yes) is.yes_later;
            no_later = rw (← first_stays counts fewer ns f.grows n.no.0 no') is.no_later;
            reduced = λ same. is.reduced (record {
              each = λ p range.
                  sym (set_fewer n.yes.0 p yes) ∙ same.each p range ∙ set_fewer n.no.0 (with_value p n.test.var (greatest counts n.test.var)) no';
            });
          }

-- the place of a held child
pub child_placed : (ns : List (Option Node)) (d : ℕ) → has_diagram ns d ≡ true → d < length ns + 2
child_placed ns d held = by (node_at ns d) refl
  where
    by : (o : Option Node) → node_at ns d ≡ o → d < length ns + 2
    by None e = let low = ends ns d held e in omega arith
    by (Some n) e = let at = node_placed [] ns d n e in let within = passes_within is_some refl ns at.0 (ap is_some at.1) in omega (arith, at.2)

-- a node behind nodes that ascend
pub Ascends-with : (counts : List ℕ) (ns : List (Option Node)) (n : Node) → IsNode counts ns n → Ascends ns → Ascends (with_item ns n)
Ascends-with counts ns n is up = record { filled = filled; earlier = earlier }
  where
    last : length ns ≤ least_free ns
    last = elim (cases_lt (least_free ns) (length ns)) [
      | inl less ↦ absurd (true≢false (sym (up.filled (least_free ns) less) ∙ ap is_some (free_there ns)))
      | inr more ↦ more
    ]

    most : least_free ns ≤ length ns
    most = least-le ns (length ns) (get_or_past ns (length ns) None (omega arith))

    filled : (place : ℕ) → place < length (with_item ns n) → is_some (item_at (with_item ns n) place) ≡ true
    filled place within = elim (cases_eq place (least_free ns)) [
      | inl same ↦ ap (λ k. is_some (item_at (with_item ns n) k)) same ∙ ap is_some (item_at-with ns n)
      | inr other ↦
          let high = most in
          let low = last in
          let long = ap length (with_item-push ns n last) ∙ length-append ns (Some n ∷ []) in
          ap is_some (item_at-with_other ns n place other) ∙ up.filled place (omega arith)
    ]

    earlier : (place : ℕ) (m : Node) → item_at (with_item ns n) place ≡ Some m → (m.yes.0 < place + 2) × (m.no.0 < place + 2)
    earlier place m e = elim (cases_eq place (least_free ns)) [
      | inl same ↦
          let it = same_Some n m (sym (item_at-with ns n) ∙ ap (item_at (with_item ns n)) (sym same) ∙ e) in
          let high = most in
          let low = last in
          let yes = child_placed ns n.yes.0 is.yes_held in
          let no' = child_placed ns n.no.0 is.no_held in
          let y = ap (λ (x : Node). x.yes.0) it in
          let x = ap (λ (x : Node). x.no.0) it in
          (omega arith, omega arith)
      | inr other ↦ up.earlier place m (sym (item_at-with_other ns n place other) ∙ e)
    ]
