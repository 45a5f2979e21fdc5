-- A node for a test and two diagrams: where it stands already, where it is added, and where there is no room for it.
use Rattle.std.proofs.Common.{◌≡◌, ℕ, ◌+◌, ◌-◌, ◌^◌, ◌<◌, ◌≤◌, ◌==◌, Bool, true, List, length, Option, Some, None, Result, Ok, Err, IfSome, option_and_then, nat_le, nat_lt, if◌then◌else◌, refl, sym, ap, ◌∙◌, inl, inr, true≢false, arith}
use Rattle.std.proofs.lemmas.Bool.{cases_lt, cases_order, eq-eqb, ne_eqb, and_from, le-leb, lt-ltb}
use Rattle.std.proofs.lemmas.List.Quantifiers.{position-Some}
use Rattle.mv_pool.specs.Places.{Contents, item_at, stands, held_in, least_free, with_item}
use Rattle.mv_pool.specs.Places.{place_of as place_of_item}
use Rattle.mv_pool.specs.declared.pool.Id.{Id}
use Rattle.mv_pool.specs.declared.pool.Full.{Full}
use Rattle.mv_pool.proofs.Placing.{item_at-with}
use Rattle.mv_pool.proofs.Positions.{fails_each}
use Rattle.mv_diagram.specs.declared.node.Dd.{Dd}
use Rattle.mv_diagram.specs.declared.node.Node.{Node}
use Rattle.mv_diagram.specs.declared.node.Test.{Test}
use Rattle.mv_diagram.specs.Links.{place_of}
use Rattle.mv_diagram.specs.Sets.{Point, SameSet, with_value, greatest, node_at, has_diagram, holds}
use Rattle.mv_diagram.specs.Sound.{order, first, IsTest, IsNode, IsReduced, Ascends}
use Rattle.mv_diagram.specs.Works.{Grows, IsLacking, IsAbsent, HasPut}
use Rattle.mv_diagram.proofs.Following.{if_same, holds_node, node_is, node_placed}
use Rattle.mv_diagram.proofs.Points.{beside, InRange-with, InRange-beside, greatest_lt, holds_both, holds_beside, holds_yes, holds_no_beside, holds_later, value_there, value-lt_greatest, beside_fails}
use Rattle.mv_diagram.proofs.Canonical.{same_number, node_is_made, test_here}
use Rattle.mv_diagram.proofs.Growing.{Grows-same, Grows-with, longer_with, IsReduced-with, Ascends-with, holds_stays}
use Rattle.mv_diagram.proofs.Lacking.{Reads, Reads-diagram, first_reads}

module _ (counts : List ℕ) (ns : List (Option Node)) (s : IsReduced counts ns) (n : Node) (q : Dd) (test : IsTest counts n.test)
    (yes_held : has_diagram ns n.yes.0 ≡ true) (no_held : has_diagram ns n.no.0 ≡ true)
    (yes_later : order (n.test.var + 1) 0 ≤ first counts ns n.yes.0) (no_later : order n.test.var n.test.value < first counts ns n.no.0)
    (q_held : has_diagram ns q.0 ≡ true) (rest : (p : Point) → holds counts ns q.0 p ≡ holds counts ns n.no.0 (with_value p n.test.var (greatest counts n.test.var)))
    (apart : q.0 ≡ n.yes.0 → ⊥) where
  -- the node is right
  pub IsNode-made : IsNode counts ns n
  IsNode-made = record {
    test = test;
    yes_held = yes_held;
    no_held = no_held;
    yes_later = yes_later;
    no_later = no_later;
    reduced = λ same. apart (sym (same_number counts ns s n.yes.0 q.0 yes_held q_held (record { each = λ p range. same.each p range ∙ sym (rest p) })));
  }

  -- the set that it would have
  abbrev pub set : Point → Bool
  set p = if p n.test.var == n.test.value then holds counts ns n.yes.0 p else holds counts ns n.no.0 p

  set_yes : (p : Point) → p n.test.var ≡ n.test.value → set p ≡ holds counts ns n.yes.0 p
  set_yes p e = ap (λ b. if b then holds counts ns n.yes.0 p else holds counts ns n.no.0 p) (eq-eqb _ _ e)

  set_no : (p : Point) → (p n.test.var ≡ n.test.value → ⊥) → set p ≡ holds counts ns n.no.0 p
  set_no p ne = ap (λ b. if b then holds counts ns n.yes.0 p else holds counts ns n.no.0 p) (ne_eqb _ _ ne)

  pub set_reads : Reads counts (order n.test.var n.test.value) set
  set_reads = record {
    each = λ p q agree.
        let low = test.value in
        let few = s.values.few n.test.var test.variable in
        if_same _ _ _ _ _ _ (agree.each n.test test (omega arith))
        ((Reads-diagram counts ns s n.yes.0 (order n.test.var n.test.value) (omega arith)).each p q agree)
        ((Reads-diagram counts ns s n.no.0 (order n.test.var n.test.value) (omega arith)).each p q agree);
  }

  module _ (d : ℕ) (held : has_diagram ns d ≡ true) (same : SameSet counts (λ p. holds counts ns d p) set) where
    -- a diagram with that set has the test first
    earlier : order n.test.var n.test.value < first counts ns d → ⊥
    earlier less = IsNode-made.reduced (record {
      each = λ p range.
          let more = test.value in
          let yes = with_value p n.test.var n.test.value in
          let no = with_value p n.test.var (greatest counts n.test.var) in
          let below = value-lt_greatest counts n.test test in
          let there = value_there p n.test.var (greatest counts n.test.var) n.test.var refl in
          sym (holds_later counts ns s n.yes.0 p n.test.var n.test.value yes_later)
          ∙ sym (set_yes yes (value_there p n.test.var n.test.value n.test.var refl))
          ∙ sym (same.each yes (InRange-with counts p n.test.var n.test.value range (omega arith)))
          ∙ holds_both counts ns s d p n.test.var n.test.value less
          ∙ same.each no (InRange-with counts p n.test.var (greatest counts n.test.var) range (greatest_lt counts n.test test))
          ∙ set_no no (λ at. absurd (omega arith));
    })

    here : order n.test.var n.test.value ≡ first counts ns d
    here =
        let low = test.value in
        let few = s.values.few n.test.var test.variable in
        let inside = test.variable in
        let least = first_reads counts ns s d (order n.test.var n.test.value) set (omega arith) same set_reads in
        elim (cases_order (order n.test.var n.test.value) (first counts ns d)) [
          | inl level ↦ level
          | inr other ↦ elim other [ inl less ↦ absurd (earlier less) | inr more ↦ absurd (omega arith) ]
        ]

    module _ (m : Node) (e : node_at ns d ≡ Some m) (tests : m.test ≡ n.test) where
      yes_same : m.yes.0 ≡ n.yes.0
      yes_same = same_number counts ns s m.yes.0 n.yes.0 (node_is counts ns s d m e).yes_held yes_held (record {
        each = λ p range.
            let yes = with_value p n.test.var n.test.value in
            let more = test.value in
            holds_yes counts ns s d m p e
            ∙ ap (λ (t : Test). holds counts ns d (with_value p t.var t.value)) tests
            ∙ same.each yes (InRange-with counts p n.test.var n.test.value range (omega arith))
            ∙ set_yes yes (value_there p n.test.var n.test.value n.test.var refl)
            ∙ holds_later counts ns s n.yes.0 p n.test.var n.test.value yes_later;
      })

      no_same : m.no.0 ≡ n.no.0
      no_same = same_number counts ns s m.no.0 n.no.0 (node_is counts ns s d m e).no_held no_held (record {
        each = λ p range.
            holds_no_beside counts ns s d m p e
            ∙ ap (λ (t : Test). holds counts ns d (beside counts t p)) tests
            ∙ same.each (beside counts n.test p) (InRange-beside counts n.test test p range)
            ∙ set_no (beside counts n.test p) (beside_fails counts ns s n.test p test)
            ∙ holds_beside counts ns s n.no.0 n.test p no_later;
      })

    -- and so it is the node
    pub is_made : node_at ns d ≡ Some n
    is_made =
        let at = test_here counts ns s d n.test test here in
        at.1 ∙ ap (λ x. Some x) (node_is_made at.0 n at.2 (yes_same at.0 at.1 at.2) (no_same at.0 at.1 at.2))

  -- where the node stands nowhere, no diagram has its set
  pub lacking_made : IsAbsent ns n → IsLacking counts ns set
  lacking_made absent = record { none = λ d held same. let at = node_placed counts ns d n (is_made d held same) in absent.nowhere at.0 at.1 }

module _ (counts : List ℕ) (old new : Contents Node) (n : Node) (d : ℕ) (s : IsReduced counts old.places) (is : IsNode counts old.places n) (put : HasPut old new n d) where
  -- the nodes with this one are sound
  pub put_adds : Grows old.places new.places × IsReduced counts new.places
  put_adds = elim put.change [
    | inl same ↦ (rw same (Grows-same old.places), rw same s)
    | inr added ↦ (rw added.0 (Grows-with old.places n), rw added.0 (IsReduced-with counts old.places n s is added.1))
  ]

  pub put_ascends : Ascends old.places → Ascends new.places
  put_ascends up = elim put.change [
    | inl same ↦ rw same up
    | inr added ↦ rw added.0 (Ascends-with counts old.places n is up)
  ]

  pub put_longer : length old.places ≤ length new.places
  put_longer = elim put.change [
    | inl same ↦ rw same (omega arith)
    | inr added ↦ rw added.0 (longer_with old.places n)
  ]

  -- and its diagram has the set that the node says
  pub put_set : (p : Point) → holds counts new.places d p ≡ (if p n.test.var == n.test.value then holds counts old.places n.yes.0 p else holds counts old.places n.no.0 p)
  put_set p =
      holds_node counts new.places put_adds.1 d n p put.there
      ∙ if_same _ _ _ _ _ _ refl (holds_stays counts old.places new.places put_adds.0 s n.yes.0 p is.yes_held) (holds_stays counts old.places new.places put_adds.0 s n.no.0 p is.no_held)

-- the place of a number that is made from it
pub place_made : (k d : ℕ) → d < 2 ^ 32 + 2 → d ≡ k + 2 → place_of d ≡ Some (record { 0 = k })
place_made k d small e = rw (and_from (nat_le 2 d) (nat_lt (d - 2) (2 ^ 32)) (le-leb 2 d (omega arith)) (lt-ltb (d - 2) (2 ^ 32) (omega arith))) (ap (λ x. Some (record { 0 = x })) (omega arith))

abbrev made : Id → Result Id Full
made id = Ok id

apart : (id : Id) (stop : Full) → made id ≡ Err stop → ⊥
apart id stop e = cc

module _ (eq : Node → Node → Bool) (exact : (n m : Node) → eq n m ≡ true → n ≡ m) (whole : (n : Node) → eq n n ≡ true) where
  -- a node that is found stands there
  found_there : (ns : List (Option Node)) (n : Node) (place : ℕ) → place_of_item eq n ns ≡ Some place → item_at ns place ≡ Some n
  found_there ns n place e = by (item_at ns place) refl (position-Some (stands eq n) ns place None e).1
    where
      by : (o : Option Node) → item_at ns place ≡ o → stands eq n (item_at ns place) ≡ true → item_at ns place ≡ Some n
      by None at there = absurd (true≢false (sym there ∙ ap (stands eq n) at))
      by (Some m) at there = at ∙ ap (λ x. Some x) (sym (exact n m (sym (ap (stands eq n) at) ∙ there)))

  -- a node that isn't found stands nowhere
  not_found : (ns : List (Option Node)) (n : Node) → place_of_item eq n ns ≡ None → IsAbsent ns n
  not_found ns n none = record { nowhere = λ place at. true≢false (sym (whole n) ∙ sym (ap (stands eq n) at) ∙ fails_each (stands eq n) refl ns none place) }

  module _ (old new : Contents Node) (n : Node) (result : Result Id Full)
      (held : IfSome (place_of_item eq n old.places) (λ k. (result ≡ Ok (record { 0 = k })) × (new ≡ old)))
      (fresh : place_of_item eq n old.places ≡ None → held_in old.places < old.cap → (result ≡ Ok (record { 0 = least_free old.places })) × (new ≡ record { places = with_item old.places n; cap = old.cap }))
      (full : place_of_item eq n old.places ≡ None → old.cap ≤ held_in old.places → (result ≡ Err (record {})) × (new ≡ old)) where
    -- what a put gives
    pub put_gives : (id : Id) (d : ℕ) → result ≡ Ok id → d < 2 ^ 32 + 2 → d ≡ id.0 + 2 → HasPut old new n d
    put_gives id d is small at = by (place_of_item eq n old.places) refl held
      where
        same_id : (k : ℕ) → result ≡ Ok (record { 0 = k }) → k ≡ id.0
        same_id k e = let both : made (record { 0 = k }) ≡ made id = sym e ∙ is in cc

        here : (k : ℕ) → k ≡ id.0 → item_at new.places k ≡ Some n → node_at new.places d ≡ Some n
        here k e there = ap (option_and_then (λ (i : Id). item_at new.places i.0)) (place_made id.0 d small at) ∙ ap (item_at new.places) (sym e) ∙ there

        by : (o : Option ℕ) → place_of_item eq n old.places ≡ o → IfSome o (λ k. (result ≡ Ok (record { 0 = k })) × (new ≡ old)) → HasPut old new n d
        by (Some k) e h = record {
          there = here k (same_id k h.0) (ap (λ (c : Contents Node). item_at c.places k) h.1 ∙ found_there old.places n k e);
          cap = ap (λ (c : Contents Node). c.cap) h.1;
          change = inl (ap (λ (c : Contents Node). c.places) h.1);
        }
        by None e h = elim (cases_lt (held_in old.places) old.cap) [
          | inl room ↦ let f = fresh e room in record {
            there = here (least_free old.places) (same_id (least_free old.places) f.0) (ap (λ (c : Contents Node). item_at c.places (least_free old.places)) f.1 ∙ item_at-with old.places n);
            cap = ap (λ (c : Contents Node). c.cap) f.1;
            change = inr (ap (λ (c : Contents Node). c.places) f.1, not_found old.places n e);
          }
          | inr more ↦ let f = full e more in absurd (apart id (record {}) (sym is ∙ f.0))
        ]

    -- and what no room for it means
    pub put_fails : (e : Full) → result ≡ Err e → (new ≡ old) × IsAbsent old.places n × (old.cap ≤ held_in old.places)
    put_fails stop is = by (place_of_item eq n old.places) refl held
      where
        by : (o : Option ℕ) → place_of_item eq n old.places ≡ o → IfSome o (λ k. (result ≡ Ok (record { 0 = k })) × (new ≡ old)) → (new ≡ old) × IsAbsent old.places n × (old.cap ≤ held_in old.places)
        by (Some k) e h = absurd (apart (record { 0 = k }) stop (sym h.0 ∙ is))
        by None e h = elim (cases_lt (held_in old.places) old.cap) [
          | inl room ↦ absurd (apart (record { 0 = least_free old.places }) stop (sym (fresh e room).0 ∙ is))
          | inr more ↦ let f = full e more in (f.1, not_found old.places n e, more)
        ]
