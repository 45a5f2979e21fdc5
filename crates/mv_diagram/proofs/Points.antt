-- A point with another value of one variable, and what a diagram says of it.
use Rattle.std.proofs.Common.{◌≡◌, ℕ, ◌+◌, ◌<◌, ◌≤◌, ◌==◌, Bool, true, false, List, Option, Some, None, slice_index, if◌then◌else◌, refl, sym, ap, subst, ◌∙◌, inl, inr, arith}
use Rattle.std.proofs.lemmas.Bool.{cases_eq, cases_order, eq-eqb, ne_eqb}
use Rattle.mv_diagram.specs.declared.node.Node.{Node}
use Rattle.mv_diagram.specs.declared.node.Test.{Test}
use Rattle.mv_diagram.specs.Sets.{Point, InRange, with_value, greatest, node_at, has_diagram, holds}
use Rattle.mv_diagram.specs.Sound.{order, first, IsTest, IsReduced}
use Rattle.mv_diagram.specs.First.{IsSplit}
use Rattle.mv_diagram.proofs.Following.{Agree, holds_agree, holds_node, node_is, first-node, first-end, order-lt}

-- the value there, and the values elsewhere
pub value_there : (p : Point) (var value v : ℕ) → v ≡ var → with_value p var value v ≡ value
value_there p var value v e = ap (λ b. if b then value else p v) (eq-eqb v var e)

pub value_elsewhere : (p : Point) (var value v : ℕ) → (v ≡ var → ⊥) → with_value p var value v ≡ p v
value_elsewhere p var value v ne = ap (λ b. if b then value else p v) (ne_eqb v var ne)

-- a value of the variable keeps a point in range
pub InRange-with : (counts : List ℕ) (p : Point) (var value : ℕ) → InRange counts p → value < slice_index counts var → InRange counts (with_value p var value)
InRange-with counts p var value range below = record {
  below = λ v within. elim (cases_eq v var) [
    | inl same ↦ let is = value_there p var value v same in let there = ap (slice_index counts) same in omega arith
    | inr other ↦ let is = value_elsewhere p var value v other in let there = range.below v within in omega arith
  ];
}

-- the point with the greatest value in place of the one tested
unfoldable pub beside : List ℕ → Test → Point → Point
beside counts t p = if p t.var == t.value then with_value p t.var (greatest counts t.var) else p

pub beside_there : (counts : List ℕ) (t : Test) (p : Point) → p t.var ≡ t.value → beside counts t p ≡ with_value p t.var (greatest counts t.var)
unfolding beside
beside_there counts t p e = ap (λ b. if b then with_value p t.var (greatest counts t.var) else p) (eq-eqb (p t.var) t.value e)

pub beside_elsewhere : (counts : List ℕ) (t : Test) (p : Point) → (p t.var ≡ t.value → ⊥) → beside counts t p ≡ p
unfolding beside
beside_elsewhere counts t p ne = ap (λ b. if b then with_value p t.var (greatest counts t.var) else p) (ne_eqb (p t.var) t.value ne)

module _ (counts : List ℕ) (t : Test) (is : IsTest counts t) where
  pub greatest_lt : greatest counts t.var < slice_index counts t.var
  greatest_lt = let more = is.value in omega arith

  pub value-lt_greatest : t.value < greatest counts t.var
  value-lt_greatest = let more = is.value in omega arith

  pub InRange-beside : (p : Point) → InRange counts p → InRange counts (beside counts t p)
  InRange-beside p range = elim (cases_eq (p t.var) t.value) [
    | inl same ↦ rw (beside_there counts t p same) (InRange-with counts p t.var (greatest counts t.var) range greatest_lt)
    | inr other ↦ rw (beside_elsewhere counts t p other) range
  ]

module _ (counts : List ℕ) (ns : List (Option Node)) (s : IsReduced counts ns) where
  -- later tests don't see the variable
  pub Agree-later : (p : Point) (var value : ℕ) → Agree counts (order (var + 1) 0) (with_value p var value) p
  Agree-later p var value = record {
    each = λ t is later.
        let low = is.value in
        let few = s.values.few t.var is.variable in
        let apart : t.var ≡ var → ⊥ = λ same. absurd (omega arith) in
        ap (λ v. v == t.value) (value_elsewhere p var value t.var apart);
  }

  -- tests behind one of a variable don't tell its value from the greatest
  pub Agree-past : (p : Point) (var value : ℕ) → p var ≡ value → Agree counts (order var value + 1) p (with_value p var (greatest counts var))
  Agree-past p var value at = record {
    each = λ t is later. elim (cases_eq t.var var) [
      | inl same ↦
          let low = is.value in
          let few = s.values.few t.var is.variable in
          let there = value_there p var (greatest counts var) t.var same in
          let here = ap p same in
          let count = ap (slice_index counts) same in
          let before : p t.var ≡ t.value → ⊥ = λ e. absurd (omega arith) in
          let below : with_value p var (greatest counts var) t.var ≡ t.value → ⊥ = λ e. absurd (omega arith) in
          ne_eqb _ _ before ∙ sym (ne_eqb _ _ below)
      | inr other ↦ ap (λ v. v == t.value) (sym (value_elsewhere p var (greatest counts var) t.var other))
    ];
  }

  -- the same of two points with any value before
  pub Agree-both : (p : Point) (var value : ℕ) → Agree counts (order var value + 1) (with_value p var value) (with_value p var (greatest counts var))
  Agree-both p var value = record {
    each = λ t is later. elim (cases_eq t.var var) [
      | inl same ↦
          let low = is.value in
          let few = s.values.few t.var is.variable in
          let there = value_there p var (greatest counts var) t.var same in
          let here = value_there p var value t.var same in
          let count = ap (slice_index counts) same in
          let before : with_value p var value t.var ≡ t.value → ⊥ = λ e. absurd (omega arith) in
          let below : with_value p var (greatest counts var) t.var ≡ t.value → ⊥ = λ e. absurd (omega arith) in
          ne_eqb _ _ before ∙ sym (ne_eqb _ _ below)
      | inr other ↦ ap (λ v. v == t.value) (value_elsewhere p var value t.var other ∙ sym (value_elsewhere p var (greatest counts var) t.var other))
    ];
  }

  -- a diagram of later variables doesn't see this one
  pub holds_later : (d : ℕ) (p : Point) (var value : ℕ) → order (var + 1) 0 ≤ first counts ns d → holds counts ns d (with_value p var value) ≡ holds counts ns d p
  holds_later d p var value later = holds_agree counts ns s (with_value p var value) p d _ later (Agree-later p var value)

  -- a diagram of later tests takes a value for the greatest
  pub holds_past : (d : ℕ) (p : Point) (var value : ℕ) → order var value < first counts ns d → p var ≡ value → holds counts ns d p ≡ holds counts ns d (with_value p var (greatest counts var))
  holds_past d p var value later at = holds_agree counts ns s p (with_value p var (greatest counts var)) d (order var value + 1) (omega arith) (Agree-past p var value at)

  pub holds_both : (d : ℕ) (p : Point) (var value : ℕ) → order var value < first counts ns d → holds counts ns d (with_value p var value) ≡ holds counts ns d (with_value p var (greatest counts var))
  holds_both d p var value later = holds_agree counts ns s (with_value p var value) (with_value p var (greatest counts var)) d (order var value + 1) (omega arith) (Agree-both p var value)

  -- a diagram behind a test doesn't see whether it says yes
  pub holds_beside : (d : ℕ) (t : Test) (p : Point) → order t.var t.value < first counts ns d → holds counts ns d (beside counts t p) ≡ holds counts ns d p
  holds_beside d t p later = elim (cases_eq (p t.var) t.value) [
    | inl same ↦ ap (holds counts ns d) (beside_there counts t p same) ∙ sym (holds_past d p t.var t.value later same)
    | inr other ↦ ap (holds counts ns d) (beside_elsewhere counts t p other)
  ]

  -- the child for yes, and the one for no, by the points of the diagram
  pub holds_yes : (d : ℕ) (n : Node) (p : Point) → node_at ns d ≡ Some n → holds counts ns n.yes.0 p ≡ holds counts ns d (with_value p n.test.var n.test.value)
  holds_yes d n p e =
      let q = with_value p n.test.var n.test.value in
      let there : q n.test.var ≡ n.test.value = value_there p n.test.var n.test.value n.test.var refl in
      let is = node_is counts ns s d n e in
      sym (holds_later n.yes.0 p n.test.var n.test.value is.yes_later) ∙ sym (holds_node counts ns s d n q e ∙ ap (λ b. if b then holds counts ns n.yes.0 q else holds counts ns n.no.0 q) (eq-eqb _ _ there))

  pub holds_no : (d : ℕ) (n : Node) (q : Point) → node_at ns d ≡ Some n → (q n.test.var ≡ n.test.value → ⊥) → holds counts ns n.no.0 q ≡ holds counts ns d q
  holds_no d n q e ne = sym (holds_node counts ns s d n q e ∙ ap (λ b. if b then holds counts ns n.yes.0 q else holds counts ns n.no.0 q) (ne_eqb _ _ ne))

  pub beside_fails : (t : Test) (p : Point) → IsTest counts t → beside counts t p t.var ≡ t.value → ⊥
  beside_fails t p is at = elim (cases_eq (p t.var) t.value) [
    | inl same ↦
        let there = ap (λ (q : Point). q t.var) (beside_there counts t p same) in
        let value = value_there p t.var (greatest counts t.var) t.var refl in
        let below = value-lt_greatest counts t is in
        absurd (omega arith)
    | inr other ↦ other (sym (ap (λ (q : Point). q t.var) (beside_elsewhere counts t p other)) ∙ at)
  ]

  pub holds_no_beside : (d : ℕ) (n : Node) (p : Point) → node_at ns d ≡ Some n → holds counts ns n.no.0 p ≡ holds counts ns d (beside counts n.test p)
  holds_no_beside d n p e =
      let is = node_is counts ns s d n e in
      sym (holds_beside n.no.0 n.test p is.no_later) ∙ holds_no d n (beside counts n.test p) e (beside_fails n.test p is.test)

  -- where all tests of a variable say no, a test of it passes on
  pub rest_next : (d : ℕ) (n : Node) (p : Point) → node_at ns d ≡ Some n → holds counts ns n.no.0 (with_value p n.test.var (greatest counts n.test.var)) ≡ holds counts ns d (with_value p n.test.var (greatest counts n.test.var))
  rest_next d n p e =
      let is = (node_is counts ns s d n e).test in
      let there = value_there p n.test.var (greatest counts n.test.var) n.test.var refl in
      let below = value-lt_greatest counts n.test is in
      holds_no d n (with_value p n.test.var (greatest counts n.test.var)) e (λ at. absurd (omega arith))

  -- a first test of another variable is one of a later variable
  pub rest_later : (d var : ℕ) (n : Node) → node_at ns d ≡ Some n → (n.test.var ≡ var → ⊥) → order var 0 ≤ first counts ns d → order (var + 1) 0 ≤ first counts ns d
  rest_later d var n e apart later =
      let is = (node_is counts ns s d n e).test in
      let low = is.value in
      let few = s.values.few n.test.var is.variable in
      let there = first-node counts ns d n e in
      elim (cases_order n.test.var var) [
        | inl same ↦ absurd (apart same)
        | inr other ↦ elim other [ inl less ↦ absurd (omega arith) | inr more ↦ omega arith ]
      ]

  -- what is left of a diagram at a test that it has first
  pub split_here : (d : ℕ) (n : Node) (t : Test) → node_at ns d ≡ Some n → n.test ≡ t → IsSplit counts ns d t n.yes.0 n.no.0
  split_here d n t e same = subst (λ (u : Test). IsSplit counts ns d u n.yes.0 n.no.0) same (record {
    yes_held = (node_is counts ns s d n e).yes_held;
    no_held = (node_is counts ns s d n e).no_held;
    yes_later = (node_is counts ns s d n e).yes_later;
    no_later = (node_is counts ns s d n e).no_later;
    set = λ p. holds_node counts ns s d n p e;
  })

  -- where it has none
  pub split_end : (d : ℕ) (t : Test) → IsTest counts t → has_diagram ns d ≡ true → node_at ns d ≡ None → IsSplit counts ns d t d d
  split_end d t is held e =
      let end = first-end counts ns d e in
      let inside = is.variable in
      let before = order-lt counts ns s t is in
      record { yes_held = held; no_held = held; yes_later = omega arith; no_later = omega arith; set = λ p. same (p t.var == t.value) (holds counts ns d p) }
    where
      same : (b x : Bool) → x ≡ (if b then x else x)
      same true x = refl
      same false x = refl

  -- and at an earlier test
  pub split_before : (d r : ℕ) (t : Test) (p : Point) → order t.var t.value < first counts ns d → holds counts ns r p ≡ holds counts ns d (with_value p t.var (greatest counts t.var))
      → holds counts ns d p ≡ (if p t.var == t.value then holds counts ns r p else holds counts ns d p)
  split_before d r t p later rest = elim (cases_eq (p t.var) t.value) [
    | inl same ↦ holds_past d p t.var t.value later same ∙ sym rest ∙ sym (ap (λ b. if b then holds counts ns r p else holds counts ns d p) (eq-eqb (p t.var) t.value same))
    | inr other ↦ sym (ap (λ b. if b then holds counts ns r p else holds counts ns d p) (ne_eqb (p t.var) t.value other))
  ]
