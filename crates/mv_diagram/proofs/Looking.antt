-- The points of diagrams as lists of values.
use Rattle.std.proofs.Common.{◌≡◌, ℕ, ◌<◌, ◌==◌, Bool, true, false, not, List, length, Option, Some, None, if◌then◌else◌, sym, ap, ◌∙◌, inl, inr, arith}
use Rattle.std.specs.Bool.{OnTrue, OnFalse}
use Rattle.std.proofs.Math.ListN.{set}
use Rattle.std.proofs.lemmas.Bool.{cases_eq, eq-eqb, eqb-true, eqb-false, not-true, not-false}
use Rattle.std.proofs.lemmas.List.{get_or-set_same, get_or-set_other}
use Rattle.mv_base.specs.declared.number.Value.{Value}
use Rattle.mv_diagram.specs.declared.node.Node.{Node}
use Rattle.mv_diagram.specs.Sets.{Point, with_value, greatest, node_at, holds}
use Rattle.mv_diagram.specs.Sound.{IsReduced}
use Rattle.mv_diagram.specs.Diagrams.{point_of}
use Rattle.mv_diagram.proofs.Following.{Agree-equal, holds_agree, holds_end, holds_node, node_is}
use Rattle.mv_diagram.proofs.Points.{value_there, value_elsewhere, holds_yes, holds_no, holds_past, rest_next}
use Rattle.mv_diagram.proofs.Growing.{no_node}

-- a value that is set
pub point-set : (ps : List Value) (var value v : ℕ) → var < length ps → point_of (set ps var (record { 0 = value })) v ≡ with_value (point_of ps) var value v
point-set ps var value v within = elim (cases_eq v var) [
  | inl same ↦ ap (point_of (set ps var (record { 0 = value }))) same ∙ ap (λ (x : Value). x.0) (get_or-set_same ps var (record { 0 = value }) (record { 0 = 0 }) within) ∙ sym (value_there (point_of ps) var value v same)
  | inr other ↦ ap (λ (x : Value). x.0) (get_or-set_other ps var v (record { 0 = value }) (record { 0 = 0 }) other) ∙ sym (value_elsewhere (point_of ps) var value v other)
]

-- a number by the test that it isn't zero
pub not_zero : (n : ℕ) → true ≡ not (n == 0) → n ≡ 0 → ⊥
not_zero n e = eqb-false n 0 (not-true (n == 0) (sym e))

pub is_zero : (n : ℕ) → false ≡ not (n == 0) → n ≡ 0
is_zero n e = eqb-true n 0 (not-false (n == 0) (sym e))

-- what holds where one of two answers is ruled out
pub on_true : (r : Bool) (P Q : Type 0) → OnTrue r P → OnFalse r Q → (Q → ⊥) → P
on_true true P Q p q never = p
on_true false P Q p q never = absurd (never q)

module _ (counts : List ℕ) (ns : List (Option Node)) (s : IsReduced counts ns) where
  -- zero and one by their answer
  pub end_some : (d : ℕ) (p : Point) (r : Bool) → node_at ns d ≡ None → r ≡ (d == 1) → OnTrue r (holds counts ns d p ≡ true)
  end_some d p true none is = holds_end counts ns d p none ∙ sym is
  end_some d p false none is = tt

  -- a test says yes, or no
  pub step_yes : (d : ℕ) (n : Node) (p : Point) → node_at ns d ≡ Some n → p n.test.var ≡ n.test.value → holds counts ns d p ≡ holds counts ns n.yes.0 p
  step_yes d n p e at = holds_node counts ns s d n p e ∙ ap (λ b. if b then holds counts ns n.yes.0 p else holds counts ns n.no.0 p) (eq-eqb _ _ at)

  pub step_no : (d : ℕ) (n : Node) (p : Point) → node_at ns d ≡ Some n → (p n.test.var ≡ n.test.value → ⊥) → holds counts ns d p ≡ holds counts ns n.no.0 p
  step_no d n p e apart = sym (holds_no counts ns s d n p e apart)

  -- the children of a node aren't both zero
  pub some_child : (d : ℕ) (n : Node) → node_at ns d ≡ Some n → n.yes.0 ≡ 0 → n.no.0 ≡ 0 → ⊥
  some_child d n e y x = (node_is counts ns s d n e).reduced (record { each = λ p range. empty n.yes.0 p y ∙ sym (empty n.no.0 (with_value p n.test.var (greatest counts n.test.var)) x) })
    where
      empty : (c : ℕ) (p : Point) → c ≡ 0 → holds counts ns c p ≡ false
      empty c p zero = ap (λ c. holds counts ns c p) zero ∙ holds_end counts ns 0 p (no_node ns 0 (omega arith))

  holds-set : (d : ℕ) (ps : List Value) (var value : ℕ) → var < length ps → holds counts ns d (point_of (set ps var (record { 0 = value }))) ≡ holds counts ns d (with_value (point_of ps) var value)
  holds-set d ps var value within =
      holds_agree counts ns s _ _ d 0 (omega arith) (Agree-equal counts 0 (point_of (set ps var (record { 0 = value }))) (with_value (point_of ps) var value) (λ v. point-set ps var value v within))

  module _ (d : ℕ) (n : Node) (ps : List Value) (e : node_at ns d ≡ Some n) (within : n.test.var < length ps) where
    -- a point of the child for yes, with the value that the test asks for
    pub picked_yes : holds counts ns n.yes.0 (point_of ps) ≡ true → holds counts ns d (point_of (set ps n.test.var (record { 0 = n.test.value }))) ≡ true
    picked_yes there = holds-set d ps n.test.var n.test.value within ∙ sym (holds_yes counts ns s d n (point_of ps) e) ∙ there

    -- a point of the child for no, with the greatest value in place of the one that the test asks for
    pub picked_no : holds counts ns n.no.0 (point_of ps) ≡ true → point_of ps n.test.var ≡ n.test.value → (most : ℕ) → most ≡ greatest counts n.test.var
        → holds counts ns d (point_of (set ps n.test.var (record { 0 = most }))) ≡ true
    picked_no there at most is =
        holds-set d ps n.test.var most within
        ∙ ap (λ x. holds counts ns d (with_value (point_of ps) n.test.var x)) is
        ∙ sym (rest_next counts ns s d n (point_of ps) e)
        ∙ sym (holds_past counts ns s n.no.0 (point_of ps) n.test.var n.test.value (node_is counts ns s d n e).no_later at)
        ∙ there
