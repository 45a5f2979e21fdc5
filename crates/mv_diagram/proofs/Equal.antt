-- What the test of two nodes tells.
use Rattle.std.proofs.Common.{◌≡◌, ◌==◌, ◌&&◌, true, refl}
use Rattle.std.proofs.lemmas.Bool.{and_parts, and_from, eqb-true, eq-eqb}
use Rattle.mv_diagram.specs.declared.node.Node.{Node}
use Rattle.mv_diagram.specs.contracts.node.NodePartialEq.TheImpl.{eq-value}
use Rattle.mv_diagram.proofs.Canonical.{test_from, node_is_made}

pub node_from : (n m : Node) → eq-value.it n m ≡ true → n ≡ m
node_from n m e =
    let both = and_parts ((n.test.var == m.test.var) && (n.test.value == m.test.value)) ((n.yes.0 == m.yes.0) && (n.no.0 == m.no.0)) e in
    let children = and_parts (n.yes.0 == m.yes.0) (n.no.0 == m.no.0) both.1 in
    node_is_made n m (test_from n.test m.test both.0) (eqb-true n.yes.0 m.yes.0 children.0) (eqb-true n.no.0 m.no.0 children.1)

pub node_whole : (n : Node) → eq-value.it n n ≡ true
node_whole n =
    and_from ((n.test.var == n.test.var) && (n.test.value == n.test.value)) ((n.yes.0 == n.yes.0) && (n.no.0 == n.no.0))
    (and_from (n.test.var == n.test.var) (n.test.value == n.test.value) (eq-eqb n.test.var n.test.var refl) (eq-eqb n.test.value n.test.value refl))
    (and_from (n.yes.0 == n.yes.0) (n.no.0 == n.no.0) (eq-eqb n.yes.0 n.yes.0 refl) (eq-eqb n.no.0 n.no.0 refl))
