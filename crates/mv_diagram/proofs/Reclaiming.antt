-- Fewer nodes: those before a mark, and those that roots reach.
use Rattle.std.proofs.Common.{◌≡◌, ℕ, ◌+◌, ◌-◌, ◌<◌, ◌==◌, ◌&&◌, ◌||◌, ◌^◌, Bool, true, false, List, length, take, Option, Some, None, All, is_some, nat_le, nat_lt, option_and_then, get_or, if◌then◌else◌, refl, sym, ap, ◌∙◌, inl, inr, true≢false, arith, length-take}
use Rattle.std.proofs.lemmas.Bool.{cases_eq, cases_lt}
use Rattle.std.proofs.lemmas.Bool.Decides.{nat_tests}
use Rattle.std.proofs.lemmas.Option.{none-some, same_Some, option_and_then_some}
use Rattle.std.proofs.lemmas.List.Elements.{All-get_or, All-from_get_or}
use Rattle.mv_pool.specs.declared.pool.Id.{Id}
use Rattle.mv_pool.specs.Places.{item_at}
use Rattle.mv_pool.specs.Reached.{IsClosed, IsReached, LinksAreHeld, IsReclaimed}
use Rattle.mv_pool.proofs.Keeping.{item_at-take, item_at-take_past}
use Rattle.mv_pool.proofs.Positions.{passes_within}
use Rattle.mv_diagram.specs.declared.node.Dd.{Dd}
use Rattle.mv_diagram.specs.declared.node.Node.{Node}
use Rattle.mv_diagram.specs.Links.{place_of}
use Rattle.mv_diagram.specs.Sets.{node_at, has_diagram}
use Rattle.mv_diagram.specs.Sound.{Ascends, IsReduced}
use Rattle.mv_diagram.specs.Works.{Grows}
use Rattle.mv_diagram.specs.Roots.{AreGathered}
use Rattle.mv_diagram.specs.Diagrams.{Reaches}
use Rattle.mv_diagram.proofs.Canonical.{ends}
use Rattle.mv_diagram.proofs.Growing.{Fewer, held_low}
use Rattle.mv_diagram.proofs.Making.{place_made}

-- a number is made from its place
pub placed_is : (d : ℕ) (id : Id) → place_of d ≡ Some id → d ≡ id.0 + 2
placed_is d id e = by (nat_le 2 d && nat_lt (d - 2) (2 ^ 32)) refl
  where
    at : (b : Bool) → (nat_le 2 d && nat_lt (d - 2) (2 ^ 32)) ≡ b → place_of d ≡ (if b then Some (record { 0 = d - 2 }) else None)
    at b t = ap (λ b. if b then Some (record { 0 = d - 2 }) else None) t

    by : (b : Bool) → (nat_le 2 d && nat_lt (d - 2) (2 ^ 32)) ≡ b → d ≡ id.0 + 2
    by false t = absurd (none-some id (sym (at false t) ∙ e))
    by true t = let same = ap (λ (i : Id). i.0) (same_Some (record { 0 = d - 2 }) id (sym (at true t) ∙ e)) in grind (arith, nat_tests, t, same)

module _ (ns : List (Option Node)) where
  pub node_there : (d : ℕ) (id : Id) → place_of d ≡ Some id → node_at ns d ≡ item_at ns id.0
  node_there d id e = ap (option_and_then (λ (i : Id). item_at ns i.0)) e

  -- the place of a held diagram has a node
  pub held_place : (d : ℕ) (id : Id) → has_diagram ns d ≡ true → place_of d ≡ Some id → is_some (item_at ns id.0) ≡ true
  held_place d id held e = by (node_at ns d) refl
    where
      by : (o : Option Node) → node_at ns d ≡ o → is_some (item_at ns id.0) ≡ true
      by None n = let low = ends ns d held n in let at = placed_is d id e in absurd (omega arith)
      by (Some m) n = ap is_some (sym (node_there d id e) ∙ n)

  -- a held diagram is zero or one, or has a place
  pub held_by : {P : Type 0} (d : ℕ) → has_diagram ns d ≡ true → (d < 2 → P) → ((id : Id) → place_of d ≡ Some id → is_some (item_at ns id.0) ≡ true → P) → P
  held_by {P} d held low there = by (place_of d) refl
    where
      by : (o : Option Id) → place_of d ≡ o → P
      by None e = low (ends ns d held (ap (option_and_then (λ (i : Id). item_at ns i.0)) e))
      by (Some id) e = there id e (held_place d id held e)

  -- a place with a node makes a diagram held
  pub held_from : (d : ℕ) (id : Id) → place_of d ≡ Some id → is_some (item_at ns id.0) ≡ true → has_diagram ns d ≡ true
  held_from d id e some = or_right (nat_lt d 2) (is_some (node_at ns d)) (ap is_some (node_there d id e) ∙ some)
    where
      or_right : (x y : Bool) → y ≡ true → (x || y) ≡ true
      or_right true y h = refl
      or_right false y h = h

-- the item of a place that has one
pub item_some : (ns : List (Option Node)) (place : ℕ) → is_some (item_at ns place) ≡ true → (n : Node) × (item_at ns place ≡ Some n)
item_some ns place h = by (item_at ns place) refl h
  where
    by : (o : Option Node) → item_at ns place ≡ o → is_some (item_at ns place) ≡ true → (n : Node) × (item_at ns place ≡ Some n)
    by None e some = absurd (true≢false (sym some ∙ ap is_some e))
    by (Some n) e some = (n, e)

module _ (counts : List ℕ) (ns : List (Option Node)) (s : IsReduced counts ns) (up : Ascends ns) (m : ℕ) where
  before : (place : ℕ) (n : Node) → item_at (take m ns) place ≡ Some n → place < m
  before place n e = elim (cases_lt place m) [ inl less ↦ less | inr more ↦ absurd (none-some n (sym (item_at-take_past ns m place more) ∙ e)) ]

  grows_take : Grows (take m ns) ns
  grows_take = record { keeps = λ place n e. sym (item_at-take ns m place (before place n e)) ∙ e }

  -- an earlier diagram is held still
  pub held_take : (d : ℕ) → has_diagram ns d ≡ true → d < m + 2 → has_diagram (take m ns) d ≡ true
  held_take d held less = held_by ns d held (held_low (take m ns) d)
      (λ id at some. let is = placed_is d id at in held_from (take m ns) d id at (ap is_some (item_at-take ns m id.0 (omega arith)) ∙ some))

  pub fewer_take : Fewer ns (take m ns)
  fewer_take = record {
    grows = grows_take;
    closed = λ place n e.
        let less = before place n e in
        let there = grows_take.keeps place n e in
        let is = s.nodes place n there in
        let earlier = up.earlier place n there in
        let y = earlier.0 in
        let x = earlier.1 in
        (held_take n.yes.0 is.yes_held (omega arith), held_take n.no.0 is.no_held (omega arith));
  }

  pub ascends_take : Ascends (take m ns)
  ascends_take = record {
    filled = λ place within. let long = length-take m ns in ap is_some (item_at-take ns m place (omega arith)) ∙ up.filled place (omega arith);
    earlier = λ place n e. up.earlier place n (grows_take.keeps place n e);
  }

-- the links of nodes
abbrev pub link_of : Node → ℕ → Option Id
link_of n k = place_of (if k == 0 then n.yes.0 else n.no.0)

-- a set of diagrams that has those of each node is closed as a set of places
pub closed_placed : (ns : List (Option Node)) → length ns < 2 ^ 32 → (set : ℕ → Bool) → ((c : ℕ) (n : Node) → set c ≡ true → node_at ns c ≡ Some n → (set n.yes.0 ≡ true) × (set n.no.0 ≡ true)) → IsClosed link_of ns (λ p. set (p + 2))
closed_placed ns small set step = record { each = λ n k item id in_set there less is. by (k == 0) n item id in_set there is }
  where
    side : (b : Bool) (item : Node) → set item.yes.0 ≡ true → set item.no.0 ≡ true → set (if b then item.yes.0 else item.no.0) ≡ true
    side true item y x = y
    side false item y x = x

    by : (b : Bool) (n : ℕ) (item : Node) (id : Id) → set (n + 2) ≡ true → item_at ns n ≡ Some item → place_of (if b then item.yes.0 else item.no.0) ≡ Some id → set (id.0 + 2) ≡ true
    by b n item id in_set there is =
        let within = passes_within is_some refl ns n (ap is_some there) in
        let here = node_there ns (n + 2) (record { 0 = n }) (place_made n (n + 2) (omega arith) refl) ∙ there in
        let both = step (n + 2) item in_set here in
        ap set (sym (placed_is _ id is)) ∙ side b item both.0 both.1

module _ (counts : List ℕ) (ns : List (Option Node)) (s : IsReduced counts ns) where
  pub links_held : LinksAreHeld link_of ns
  links_held = record { each = λ n k item id there low is. by (k == 0) n item id there is }
    where
      by : (b : Bool) (n : ℕ) (item : Node) (id : Id) → item_at ns n ≡ Some item → place_of (if b then item.yes.0 else item.no.0) ≡ Some id → is_some (item_at ns id.0) ≡ true
      by true n item id there is = held_place ns item.yes.0 id (s.nodes n item there).yes_held is
      by false n item id there is = held_place ns item.no.0 id (s.nodes n item there).no_held is

  module _ (roots : List Dd) (ids : List Id) (gathered : AreGathered roots ids (length roots)) (held : All (λ (root : Dd). has_diagram ns root.0 ≡ true) roots) where
    pub roots_held : All (λ (id : Id). is_some (item_at ns id.0) ≡ true) ids
    roots_held = gathered.inside (λ n. is_some (item_at ns n)) (λ k id e less is. held_place ns (get_or roots k e).0 id (All-get_or (λ (root : Dd). has_diagram ns root.0 ≡ true) roots k e less held) is)

    module _ (new : List (Option Node)) (r : IsReclaimed link_of ns ids new) (small : length new < 2 ^ 32) where
      reached_there : (place : ℕ) (n : Node) → item_at new place ≡ Some n → item_at ns place ≡ Some n
      reached_there place n e = sym (r.kept place (r.freed place (ap is_some e))) ∙ e

      child_there : (place k : ℕ) (n : Node) (c : ℕ) → k < 2 → c ≡ (if k == 0 then n.yes.0 else n.no.0) → item_at new place ≡ Some n → has_diagram ns c ≡ true → has_diagram new c ≡ true
      child_there place k n c low is e hc = held_by ns c hc (held_low new c) (λ id at some.
          let reached : IsReached link_of ns ids id.0 = λ set all closed.
          closed.each place k n id (r.freed place (ap is_some e) set all closed) (reached_there place n e) low (ap place_of (sym is) ∙ at) in
          held_from new c id at (ap is_some (r.kept id.0 reached) ∙ some))

      pub fewer_reclaimed : Fewer ns new
      fewer_reclaimed = record {
        grows = record { keeps = reached_there };
        closed = λ place n e.
            let is = s.nodes place n (reached_there place n e) in
            (child_there place 0 n n.yes.0 (omega arith) refl e is.yes_held, child_there place 1 n n.no.0 (omega arith) refl e is.no_held);
      }

      pub reclaimed_kept : (d : ℕ) → Reaches ns roots d → has_diagram new d ≡ true
      reclaimed_kept d reaches = reaches (has_diagram new) (held_low new 0 (omega arith)) (held_low new 1 (omega arith))
          (All-from_get_or (λ (root : Dd). has_diagram new root.0 ≡ true) roots (record { 0 = 0 }) (λ k less.
          let root : Dd = get_or roots k (record { 0 = 0 }) in
          held_by ns root.0 (All-get_or (λ (root : Dd). has_diagram ns root.0 ≡ true) roots k (record { 0 = 0 }) less held) (held_low new root.0)
          (λ id at some.
          let reached : IsReached link_of ns ids id.0 = λ set all closed. gathered.all set all k id (record { 0 = 0 }) less at in
          held_from new root.0 id at (ap is_some (r.kept id.0 reached) ∙ some))))
          (λ c n hc e. option_and_then_some (λ (i : Id). item_at ns i.0) (place_of c) n e (λ id at there.
          let have = item_some new id.0 (held_place new c id hc at) in
          let same = same_Some n have.0 (sym there ∙ reached_there id.0 have.0 have.1) in
          fewer_reclaimed.closed id.0 n (have.1 ∙ ap (λ x. Some x) (sym same))))

      pub reclaimed_only : (d : ℕ) → has_diagram new d ≡ true → Reaches ns roots d
      reclaimed_only d hd set zero_in one_in all step = held_by new d hd low (λ id at some.
          rw (placed_is d id at) (r.freed id.0 some (λ p. set (p + 2)) in_ids (closed_placed ns (omega (arith, r.long)) set step)))
        where
          low : d < 2 → set d ≡ true
          low less = elim (cases_eq d 0) [ inl same ↦ ap set same ∙ zero_in | inr other ↦ let one : d ≡ 1 = omega arith in ap set one ∙ one_in ]

          in_ids : All (λ (id : Id). set (id.0 + 2) ≡ true) ids
          in_ids = gathered.inside (λ p. set (p + 2)) (λ k id e less is. ap set (sym (placed_is (get_or roots k e).0 id is)) ∙ All-get_or (λ (root : Dd). set root.0 ≡ true) roots k e less all)
