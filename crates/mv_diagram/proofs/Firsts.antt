-- The first test of two diagrams.
use Rattle.std.proofs.Common.{◌≡◌, ℕ, ◌<◌, List, Option, Some, None, sym, ap, subst, ◌∙◌, inl, inr, arith}
use Rattle.mv_base.specs.declared.limits.TheConstants.{MAX_VALUES}
use Rattle.mv_diagram.specs.declared.node.Node.{Node}
use Rattle.mv_diagram.specs.declared.node.Test.{Test}
use Rattle.mv_diagram.specs.Sets.{node_at}
use Rattle.mv_diagram.specs.Sound.{order, IsTest, IsReduced}
use Rattle.mv_diagram.specs.First.{IsEarlier, IsFirstTest}
use Rattle.mv_diagram.proofs.Following.{node_is, first-node, first-end, order-lt}

module _ (counts : List ℕ) (ns : List (Option Node)) (s : IsReduced counts ns) where
  pub value_small : (d : ℕ) (n : Node) → node_at ns d ≡ Some n → n.test.value < MAX_VALUES
  value_small d n e = let is = (node_is counts ns s d n e).test in let low = is.value in let few = s.values.few n.test.var is.variable in omega arith

  pub first_both : (a b : ℕ) (n m : Node) (t : Test) → node_at ns a ≡ Some n → node_at ns b ≡ Some m → IsEarlier n.test m.test t → IsFirstTest counts ns a b t
  first_both a b n m t ea eb is =
      let there = first-node counts ns a n ea in
      let here = first-node counts ns b m eb in
      record {
        test = elim is.one [
          | inl same ↦ subst (IsTest counts) (sym same) (node_is counts ns s a n ea).test
          | inr same ↦ subst (IsTest counts) (sym same) (node_is counts ns s b m eb).test
        ];
        left = let low = is.left in omega arith;
        right = let low = is.right in omega arith;
        one = elim is.one [
          | inl same ↦ inl (ap (λ (u : Test). order u.var u.value) same ∙ sym there)
          | inr same ↦ inr (ap (λ (u : Test). order u.var u.value) same ∙ sym here)
        ];
      }

  pub first_left : (a b : ℕ) (n : Node) → node_at ns a ≡ Some n → node_at ns b ≡ None → IsFirstTest counts ns a b n.test
  first_left a b n ea eb =
      let there = first-node counts ns a n ea in
      let end = first-end counts ns b eb in
      let before = order-lt counts ns s n.test (node_is counts ns s a n ea).test in
      record { test = (node_is counts ns s a n ea).test; left = omega arith; right = omega arith; one = inl (sym there) }

  pub first_right : (a b : ℕ) (m : Node) → node_at ns a ≡ None → node_at ns b ≡ Some m → IsFirstTest counts ns a b m.test
  first_right a b m ea eb =
      let here = first-node counts ns b m eb in
      let end = first-end counts ns a ea in
      let before = order-lt counts ns s m.test (node_is counts ns s b m eb).test in
      record { test = (node_is counts ns s b m eb).test; left = omega arith; right = omega arith; one = inr (sym here) }
