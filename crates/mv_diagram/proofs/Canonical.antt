-- Held diagrams with the same points have the same number.
use Rattle.std.proofs.Common.{◌≡◌, ℕ, zero, suc, ◌+◌, ◌<◌, ◌≤◌, ◌==◌, ◌&&◌, ◌⊎◌, Bool, true, false, List, Option, Some, None, is_some, nat_lt, refl, sym, ap, ◌∙◌, inl, inr, true≢false, arith}
use Rattle.std.proofs.lemmas.Bool.{cases_order, eqb-true, or_cases, ltb-true, eq-eqb, and_parts, and_from}
use Rattle.std.proofs.lemmas.Bool.Decides.{nat_tests}
use Rattle.mv_diagram.specs.declared.node.Node.{Node}
use Rattle.mv_diagram.specs.declared.node.Test.{Test}
use Rattle.mv_diagram.specs.Sets.{Point, InRange, SameSet, with_value, greatest, node_at, has_diagram, holds}
use Rattle.mv_diagram.specs.Sound.{order, first, IsTest, AreCounts, IsReduced}
use Rattle.mv_diagram.proofs.Following.{steps, holds_end, ended, node_is, node_placed, first-node, first-end, first-le, order-lt, yes-later, no-later}
use Rattle.mv_diagram.proofs.Points.{beside, InRange-with, InRange-beside, greatest_lt, holds_both, holds_yes, holds_no, holds_no_beside, value_there, value-lt_greatest}

-- a held diagram without a node is zero or one
pub ends : (ns : List (Option Node)) (d : ℕ) → has_diagram ns d ≡ true → node_at ns d ≡ None → d < 2
ends ns d held e = elim (or_cases (nat_lt d 2) (is_some (node_at ns d)) held) [
  | inl low ↦ ltb-true d 2 low
  | inr some ↦ absurd (gone (node_at ns d) e some)
]
  where
    gone : (o : Option Node) → o ≡ None → is_some o ≡ true → ⊥
    gone None e h = cc
    gone (Some n) e h = cc

-- there is a point
unfoldable pub nowhere : Point
nowhere v = 0

InRange-nowhere : (counts : List ℕ) → AreCounts counts → InRange counts nowhere
unfolding nowhere
InRange-nowhere counts are = record { below = λ v within. are.some v within }

pub SameSet-sym : (counts : List ℕ) (a b : Point → Bool) → SameSet counts a b → SameSet counts b a
SameSet-sym counts a b same = record { each = λ p range. sym (same.each p range) }

-- tests at the same place of the order are the same
pub same_test : (counts : List ℕ) (t u : Test) → AreCounts counts → IsTest counts t → IsTest counts u → order t.var t.value ≡ order u.var u.value → (t.var ≡ u.var) × (t.value ≡ u.value)
same_test counts t u are it iu e =
    let low = it.value in
    let few = are.few t.var it.variable in
    let low' = iu.value in
    let few' = are.few u.var iu.variable in
    let vars : t.var ≡ u.var = omega arith in
    (vars, omega arith)

pub test_is : (t u : Test) → t.var ≡ u.var → t.value ≡ u.value → t ≡ u
test_is t u e f = let make : ℕ → ℕ → Test = λ v x. record { var = v; value = x } in ap (λ v. make v t.value) e ∙ ap (make u.var) f

-- what the test of two tests tells
pub test_from : (t u : Test) → ((t.var == u.var) && (t.value == u.value)) ≡ true → t ≡ u
test_from t u e = let parts = and_parts (t.var == u.var) (t.value == u.value) e in test_is t u (eqb-true t.var u.var parts.0) (eqb-true t.value u.value parts.1)

test_apart : (t u : Test) → t.var ≡ u.var → t.value ≡ u.value → ((t.var == u.var) && (t.value == u.value)) ≡ false → ⊥
test_apart t u e f differ = true≢false (sym (and_from (t.var == u.var) (t.value == u.value) (eq-eqb t.var u.var e) (eq-eqb t.value u.value f)) ∙ differ)

pub node_is_made : (n m : Node) → n.test ≡ m.test → n.yes.0 ≡ m.yes.0 → n.no.0 ≡ m.no.0 → n ≡ m
node_is_made n m e f g =
    let make : Test → ℕ → ℕ → Node = λ t y x. record { test = t; yes = record { 0 = y }; no = record { 0 = x } } in
    ap (λ t. make t n.yes.0 n.no.0) e ∙ ap (λ y. make m.test y n.no.0) f ∙ ap (make m.test m.yes.0) g

module _ (counts : List ℕ) (ns : List (Option Node)) (s : IsReduced counts ns) where
  abbrev pub set_of : ℕ → Point → Bool
  set_of d p = holds counts ns d p

  -- a diagram tells the value of its first test from the greatest
  pub tells : (d : ℕ) (n : Node) → node_at ns d ≡ Some n
      → ((p : Point) → InRange counts p → holds counts ns d (with_value p n.test.var n.test.value) ≡ holds counts ns d (with_value p n.test.var (greatest counts n.test.var))) → ⊥
  tells d n e alike =
      let is = node_is counts ns s d n e in
      is.reduced (record {
        each = λ p range.
            holds_yes counts ns s d n p e ∙ alike p range ∙ sym (holds_no counts ns s d n (with_value p n.test.var (greatest counts n.test.var)) e (fails p is.test));
      })
    where
      fails : (p : Point) → IsTest counts n.test → with_value p n.test.var (greatest counts n.test.var) n.test.var ≡ n.test.value → ⊥
      fails p is at = let there = value_there p n.test.var (greatest counts n.test.var) n.test.var refl in let below = value-lt_greatest counts n.test is in absurd (omega arith)

  -- so no diagram of later tests has the same points
  earlier : (a b : ℕ) → SameSet counts (set_of a) (set_of b) → first counts ns a < first counts ns b → ⊥
  earlier a b same less = by (node_at ns a) refl
    where
      by : (o : Option Node) → node_at ns a ≡ o → ⊥
      by None e = let there = first-end counts ns a e in let most = first-le counts ns s b in absurd (omega arith)
      by (Some n) e =
          let there = first-node counts ns a n e in
          let is = node_is counts ns s a n e in
          let more = is.test.value in
          tells a n e (λ p range.
          same.each _ (InRange-with counts p n.test.var n.test.value range (omega arith))
          ∙ holds_both counts ns s b p n.test.var n.test.value (omega arith)
          ∙ sym (same.each _ (InRange-with counts p n.test.var (greatest counts n.test.var) range (greatest_lt counts n.test is.test))))

  uneven : (a b : ℕ) → SameSet counts (set_of a) (set_of b) → (first counts ns a < first counts ns b) ⊎ (first counts ns b < first counts ns a) → ⊥
  uneven a b same apart = elim apart [
    | inl less ↦ earlier a b same less
    | inr more ↦ earlier b a (SameSet-sym counts (set_of a) (set_of b) same) more
  ]

  -- a first test that isn't this one comes later
  pub test_before : (d : ℕ) (n : Node) (t : Test) → node_at ns d ≡ Some n → IsTest counts t → ((n.test.var == t.var) && (n.test.value == t.value)) ≡ false
      → order t.var t.value ≤ first counts ns d → order t.var t.value < first counts ns d
  test_before d n t e is apart later = elim (cases_order (order t.var t.value) (first counts ns d)) [
    | inl level ↦
        let parts = same_test counts n.test t s.values (node_is counts ns s d n e).test is (sym (first-node counts ns d n e) ∙ sym level) in
        absurd (test_apart n.test t parts.0 parts.1 apart)
    | inr other ↦ elim other [ inl less ↦ less | inr more ↦ absurd (omega arith) ]
  ]

  -- a diagram whose first test stands where this one does has it
  pub test_here : (d : ℕ) (t : Test) → IsTest counts t → order t.var t.value ≡ first counts ns d → (n : Node) × (node_at ns d ≡ Some n) × (n.test ≡ t)
  test_here d t is level = by (node_at ns d) refl
    where
      by : (o : Option Node) → node_at ns d ≡ o → (n : Node) × (node_at ns d ≡ Some n) × (n.test ≡ t)
      by None e = let there = first-end counts ns d e in let before = order-lt counts ns s t is in absurd (omega arith)
      by (Some n) e =
          let parts = same_test counts n.test t s.values (node_is counts ns s d n e).test is (sym (first-node counts ns d n e) ∙ sym level) in
          (n, e, test_is n.test t parts.0 parts.1)

  -- zero and one have different points
  same_end : (a b : ℕ) → has_diagram ns a ≡ true → has_diagram ns b ≡ true → node_at ns a ≡ None → node_at ns b ≡ None → SameSet counts (set_of a) (set_of b) → a ≡ b
  same_end a b ha hb ea eb same =
      let la = ends ns a ha ea in
      let lb = ends ns b hb eb in
      let e : (a == 1) ≡ (b == 1) = sym (holds_end counts ns a nowhere ea) ∙ same.each nowhere (InRange-nowhere counts s.values) ∙ holds_end counts ns b nowhere eb in
      grind (arith, nat_tests)

  module _ (a b : ℕ) (n m : Node) (ea : node_at ns a ≡ Some n) (eb : node_at ns b ≡ Some m) (same : SameSet counts (set_of a) (set_of b)) (tests : n.test ≡ m.test) where
    same_yes : SameSet counts (set_of n.yes.0) (set_of m.yes.0)
    same_yes = let is = node_is counts ns s a n ea in let more = is.test.value in record {
      each = λ p range.
          holds_yes counts ns s a n p ea
          ∙ same.each _ (InRange-with counts p n.test.var n.test.value range (omega arith))
          ∙ ap (λ (t : Test). holds counts ns b (with_value p t.var t.value)) tests
          ∙ sym (holds_yes counts ns s b m p eb);
    }

    same_no : SameSet counts (set_of n.no.0) (set_of m.no.0)
    same_no = let is = node_is counts ns s a n ea in record {
      each = λ p range.
          holds_no_beside counts ns s a n p ea
          ∙ same.each _ (InRange-beside counts n.test is.test p range)
          ∙ ap (λ (t : Test). holds counts ns b (beside counts t p)) tests
          ∙ sym (holds_no_beside counts ns s b m p eb);
    }

  -- one node stands at one place
  one_place : (a b : ℕ) (n : Node) → node_at ns a ≡ Some n → node_at ns b ≡ Some n → a ≡ b
  one_place a b n ea eb =
      let pa = node_placed counts ns a n ea in
      let pb = node_placed counts ns b n eb in
      let e = s.distinct pa.0 pb.0 n pa.1 pb.1 in
      omega (arith, pa.2, pb.2)

  -- the theorem, by the tests that are left
  same_within : (k a b : ℕ) → steps counts ≤ first counts ns a + k → has_diagram ns a ≡ true → has_diagram ns b ≡ true → SameSet counts (set_of a) (set_of b) → a ≡ b
  same_within zero a b enough ha hb same = elim (cases_order (first counts ns a) (first counts ns b)) [
    | inl level ↦ same_end a b ha hb (ended counts ns s a (omega arith)) (ended counts ns s b (omega arith)) same
    | inr apart ↦ absurd (uneven a b same apart)
  ]
  same_within (suc k) a b enough ha hb same = elim (cases_order (first counts ns a) (first counts ns b)) [
    | inl level ↦ by (node_at ns a) (node_at ns b) refl refl level (λ c d more hc hd alike. same_within k c d (omega arith) hc hd alike)
    | inr apart ↦ absurd (uneven a b same apart)
  ]
    where
      by : (o q : Option Node) → node_at ns a ≡ o → node_at ns b ≡ q → first counts ns a ≡ first counts ns b
          → ((c d : ℕ) → first counts ns a < first counts ns c → has_diagram ns c ≡ true → has_diagram ns d ≡ true → SameSet counts (set_of c) (set_of d) → c ≡ d) → a ≡ b
      by None None ea eb level below = same_end a b ha hb ea eb same
      by None (Some m) ea eb level below =
          let end = first-end counts ns a ea in let there = first-node counts ns b m eb in let before = order-lt counts ns s m.test (node_is counts ns s b m eb).test in absurd (omega arith)
      by (Some n) None ea eb level below =
          let end = first-end counts ns b eb in let there = first-node counts ns a n ea in let before = order-lt counts ns s n.test (node_is counts ns s a n ea).test in absurd (omega arith)
      by (Some n) (Some m) ea eb level below =
          let in' = node_is counts ns s a n ea in
          let im = node_is counts ns s b m eb in
          let parts = same_test counts n.test m.test s.values in'.test im.test (sym (first-node counts ns a n ea) ∙ level ∙ first-node counts ns b m eb) in
          let tests = test_is n.test m.test parts.0 parts.1 in
          let yes = below n.yes.0 m.yes.0 (yes-later counts ns s a n ea) in'.yes_held im.yes_held (same_yes a b n m ea eb same tests) in
          let no = below n.no.0 m.no.0 (no-later counts ns s a n ea) in'.no_held im.no_held (same_no a b n m ea eb same tests) in
          one_place a b n ea (eb ∙ ap (λ x. Some x) (sym (node_is_made n m tests yes no)))

  -- held diagrams with the same points have the same number
  pub same_number : (a b : ℕ) → has_diagram ns a ≡ true → has_diagram ns b ≡ true → SameSet counts (set_of a) (set_of b) → a ≡ b
  same_number a b ha hb same = same_within (steps counts) a b (omega arith) ha hb same
