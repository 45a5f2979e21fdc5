-- Whether a point is in a set, node by node, and on what it depends.
use Rattle.std.proofs.Common.{◌≡◌, ℕ, zero, suc, ◌+◌, ◌-◌, ◌*◌, ◌^◌, ◌<◌, ◌≤◌, ◌==◌, ◌&&◌, Bool, true, false, List, length, Option, Some, None, nat_le, nat_lt, option_and_then, if◌then◌else◌, refl, sym, ap, ◌∙◌, arith}
use Rattle.std.specs.Option.{option_map_or}
use Rattle.std.proofs.lemmas.Bool.Decides.{nat_tests}
use Rattle.std.proofs.lemmas.Option.{none-some}
use Rattle.mv_base.specs.declared.limits.TheConstants.{MAX_VALUES}
use Rattle.mv_pool.specs.Places.{item_at}
use Rattle.mv_diagram.specs.declared.node.Node.{Node}
use Rattle.mv_diagram.specs.declared.node.Test.{Test}
use Rattle.mv_pool.specs.declared.pool.Id.{Id}
use Rattle.mv_diagram.specs.Sets.{Point, node_at, holds, holds_within}
use Rattle.mv_diagram.specs.Sound.{order, first, IsTest, IsNode, IsReduced}

-- how many steps are enough for all tests
abbrev pub steps : List ℕ → ℕ
steps counts = length counts * MAX_VALUES

pub if_same : (b c : Bool) (x y u v : Bool) → b ≡ c → x ≡ u → y ≡ v → (if b then x else y) ≡ (if c then u else v)
if_same b c x y u v e f g = cc

-- two points that answer all tests from one on alike
pub record Agree (counts : List ℕ) (from : ℕ) (p q : Point) : Type 0 where
  pub each : (t : Test) → IsTest counts t → from ≤ order t.var t.value → (p t.var == t.value) ≡ (q t.var == t.value)

module _ (counts : List ℕ) (ns : List (Option Node)) where
  pub within-node : (k d : ℕ) (n : Node) (p : Point) → node_at ns d ≡ Some n
      → holds_within (suc k) ns d p ≡ (if p n.test.var == n.test.value then holds_within k ns n.yes.0 p else holds_within k ns n.no.0 p)
  within-node k d n p e =
      ap (λ o. option_map_or (λ (m : Node). if p m.test.var == m.test.value then holds_within k ns m.yes.0 p else holds_within k ns m.no.0 p) o (d == 1)) e

  pub within-end : (k d : ℕ) (p : Point) → node_at ns d ≡ None → holds_within k ns d p ≡ (d == 1)
  within-end zero d p e = refl
  within-end (suc k) d p e =
      ap (λ o. option_map_or (λ (m : Node). if p m.test.var == m.test.value then holds_within k ns m.yes.0 p else holds_within k ns m.no.0 p) o (d == 1)) e

  pub first-node : (d : ℕ) (n : Node) → node_at ns d ≡ Some n → first counts ns d ≡ order n.test.var n.test.value
  first-node d n e = ap (λ o. option_map_or (λ (m : Node). order m.test.var m.test.value) o (length counts * MAX_VALUES)) e

  pub first-end : (d : ℕ) → node_at ns d ≡ None → first counts ns d ≡ length counts * MAX_VALUES
  first-end d e = ap (λ o. option_map_or (λ (m : Node). order m.test.var m.test.value) o (length counts * MAX_VALUES)) e

  -- a diagram with a node has that node at a place
  pub node_placed : (d : ℕ) (n : Node) → node_at ns d ≡ Some n → (place : ℕ) × (item_at ns place ≡ Some n) × (d ≡ place + 2)
  node_placed d n e = by (nat_le 2 d && nat_lt (d - 2) (2 ^ 32)) refl
    where
      at : (b : Bool) → (nat_le 2 d && nat_lt (d - 2) (2 ^ 32)) ≡ b → node_at ns d ≡ option_and_then (λ (id : Id). item_at ns id.0) (if b then Some (record { 0 = d - 2 }) else None)
      at b t = ap (λ b. option_and_then (λ (id : Id). item_at ns id.0) (if b then Some (record { 0 = d - 2 }) else None)) t

      by : (b : Bool) → (nat_le 2 d && nat_lt (d - 2) (2 ^ 32)) ≡ b → (place : ℕ) × (item_at ns place ≡ Some n) × (d ≡ place + 2)
      by false t = absurd (none-some n (sym (at false t) ∙ e))
      by true t = (d - 2, sym (at true t) ∙ e, grind (arith, nat_tests, t))

  module _ (s : IsReduced counts ns) where
    pub node_is : (d : ℕ) (n : Node) → node_at ns d ≡ Some n → IsNode counts ns n
    node_is d n e = let placed = node_placed d n e in s.nodes placed.0 n placed.1

    -- a test stands before the end
    pub order-lt : (t : Test) → IsTest counts t → order t.var t.value < length counts * MAX_VALUES
    order-lt t is = let few = s.values.few t.var is.variable in let below = is.value in let within = is.variable in omega arith

    pub first-le : (d : ℕ) → first counts ns d ≤ length counts * MAX_VALUES
    first-le d = by (node_at ns d) refl
      where
        by : (o : Option Node) → node_at ns d ≡ o → first counts ns d ≤ length counts * MAX_VALUES
        by None e = let there = first-end d e in omega arith
        by (Some n) e = let there = first-node d n e in let before = order-lt n.test (node_is d n e).test in omega arith

    -- a diagram without tests has no node
    pub ended : (d : ℕ) → steps counts ≤ first counts ns d → node_at ns d ≡ None
    ended d h = by (node_at ns d) refl
      where
        by : (o : Option Node) → node_at ns d ≡ o → node_at ns d ≡ None
        by None e = e
        by (Some n) e = let there = first-node d n e in let before = order-lt n.test (node_is d n e).test in absurd (omega arith)

    -- the tests of the children come later
    pub yes-later : (d : ℕ) (n : Node) → node_at ns d ≡ Some n → first counts ns d < first counts ns n.yes.0
    yes-later d n e =
        let there = first-node d n e in
        let is = node_is d n e in
        let low = is.test.value in
        let few = s.values.few n.test.var is.test.variable in
        let later = is.yes_later in
        omega arith

    pub no-later : (d : ℕ) (n : Node) → node_at ns d ≡ Some n → first counts ns d < first counts ns n.no.0
    no-later d n e = let there = first-node d n e in let later = (node_is d n e).no_later in omega arith

    -- steps enough give one answer
    stable : (k j d : ℕ) (p : Point) → steps counts ≤ first counts ns d + k → steps counts ≤ first counts ns d + j → holds_within k ns d p ≡ holds_within j ns d p
    stable zero j d p enough plenty = let e = ended d (omega arith) in within-end zero d p e ∙ sym (within-end j d p e)
    stable (suc k) zero d p enough plenty = let e = ended d (omega arith) in within-end (suc k) d p e ∙ sym (within-end zero d p e)
    stable (suc k) (suc j) d p enough plenty = by (node_at ns d) refl (λ c more. stable k j c p (omega arith) (omega arith))
      where
        by : (o : Option Node) → node_at ns d ≡ o → ((c : ℕ) → first counts ns d < first counts ns c → holds_within k ns c p ≡ holds_within j ns c p) → holds_within (suc k) ns d p ≡ holds_within (suc j) ns d p
        by None e below = within-end (suc k) d p e ∙ sym (within-end (suc j) d p e)
        by (Some n) e below = within-node k d n p e ∙ if_same _ _ _ _ _ _ refl (below n.yes.0 (yes-later d n e)) (below n.no.0 (no-later d n e)) ∙ sym (within-node j d n p e)

    -- at a node the test decides
    pub holds_node : (d : ℕ) (n : Node) (p : Point) → node_at ns d ≡ Some n
        → holds counts ns d p ≡ (if p n.test.var == n.test.value then holds counts ns n.yes.0 p else holds counts ns n.no.0 p)
    unfolding holds
    holds_node d n p e = stable (steps counts) (suc (steps counts)) d p (omega arith) (omega arith) ∙ within-node (steps counts) d n p e

  -- without a node there is no test
  pub holds_end : (d : ℕ) (p : Point) → node_at ns d ≡ None → holds counts ns d p ≡ (d == 1)
  unfolding holds
  holds_end d p e = within-end (steps counts) d p e

  module _ (s : IsReduced counts ns) (p q : Point) where
    -- points that answer the tests of a diagram alike are both in its set or both not
    same_points : (k d from : ℕ) → steps counts ≤ first counts ns d + k → from ≤ first counts ns d → Agree counts from p q → holds counts ns d p ≡ holds counts ns d q
    same_points zero d from enough later agree = let e = ended s d (omega arith) in holds_end d p e ∙ sym (holds_end d q e)
    same_points (suc k) d from enough later agree = by (node_at ns d) refl (λ c more. same_points k c from (omega arith) (omega arith) agree)
      where
        by : (o : Option Node) → node_at ns d ≡ o → ((c : ℕ) → first counts ns d < first counts ns c → holds counts ns c p ≡ holds counts ns c q) → holds counts ns d p ≡ holds counts ns d q
        by None e below = holds_end d p e ∙ sym (holds_end d q e)
        by (Some n) e below =
            let there = first-node d n e in
            let alike = agree.each n.test (node_is s d n e).test (omega arith) in
            holds_node s d n p e ∙ if_same _ _ _ _ _ _ alike (below n.yes.0 (yes-later s d n e)) (below n.no.0 (no-later s d n e)) ∙ sym (holds_node s d n q e)

    pub holds_agree : (d from : ℕ) → from ≤ first counts ns d → Agree counts from p q → holds counts ns d p ≡ holds counts ns d q
    holds_agree d from later agree = same_points (steps counts) d from (omega arith) later agree

-- points with equal values answer alike
pub Agree-equal : (counts : List ℕ) (from : ℕ) (p q : Point) → ((v : ℕ) → p v ≡ q v) → Agree counts from p q
Agree-equal counts from p q same = record { each = λ t is later. ap (λ x. x == t.value) (same t.var) }
