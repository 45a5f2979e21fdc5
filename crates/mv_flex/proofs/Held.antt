-- The numbers of values of held nets.
use Rattle.std.proofs.Common.{◌≡◌, ℕ, true, ◌<◌, ◌≤◌, List, [], ◌∷◌, All, refl, sym, subst}
use Rattle.std.proofs.lemmas.Bool.{or_left, or_right, eq-eqb}
use Rattle.std.proofs.lemmas.List.Elements.{All-nil, All-cons}
use Rattle.std.specs.Prelude.{nat_eq}
use Rattle.mv_base.specs.declared.limits.TheConstants.{MAX_VALUES}
use Rattle.mv_base.specs.declared.number.NetId.{NetId}
use Rattle.mv_graph.specs.Nets.{has_id}
use Rattle.mv_net.specs.declared.parts.NetParts.{NetParts}
use Rattle.mv_net.specs.Nets.{slot, values_in}
use Rattle.mv_net.specs.Formed.{WellFormed}
use Rattle.mv_net.specs.Searching.{AreHeld}
use Rattle.mv_net.proofs.Known.{values_some, values_few}
use Rattle.mv_flex.specs.Spaces.{ways, IsCounted}
use Rattle.mv_flex.specs.Plans.{counts_of, IsSpace}

-- the first of the nets is one of them
pub has_head : (n : NetId) (ns : List NetId) → has_id (n ∷ ns) n.0 ≡ true
has_head n ns = or_left (nat_eq n.0 n.0) (has_id ns n.0) (eq-eqb n.0 n.0 refl)

pub held_behind : (net : NetParts) (n : NetId) (ns : List NetId) → AreHeld net.nets (n ∷ ns) → AreHeld net.nets ns
held_behind net n ns held = record { each = λ m h. held.each m (or_right (nat_eq n.0 m) (has_id ns m) h) }

all_some : (net : NetParts) (ns : List NetId) → WellFormed net → AreHeld net.nets ns → All (λ c. 0 < c) (counts_of net.nets ns)
all_some net [] formed held = All-nil (λ c. 0 < c)
all_some net (n ∷ ns) formed held =
    All-cons (λ c. 0 < c) (values_in (slot net.nets n.0)) (counts_of net.nets ns) (values_some net n.0 formed (held.each n.0 (has_head n ns))) (all_some net ns formed (held_behind net n ns held))

all_few : (net : NetParts) (ns : List NetId) → WellFormed net → All (λ c. c ≤ MAX_VALUES) (counts_of net.nets ns)
all_few net [] formed = All-nil (λ c. c ≤ MAX_VALUES)
all_few net (n ∷ ns) formed = All-cons (λ c. c ≤ MAX_VALUES) (values_in (slot net.nets n.0)) (counts_of net.nets ns) (values_few net n.0 formed) (all_few net ns formed)

pub counts_some : (net : NetParts) (ns : List NetId) (cs : List ℕ) → WellFormed net → AreHeld net.nets ns → cs ≡ counts_of net.nets ns → All (λ c. 0 < c) cs
counts_some net ns cs formed held e = subst (λ l. All (λ c. 0 < c) l) (sym e) (all_some net ns formed held)

pub is_counted : (net : NetParts) (ns : List NetId) (cs : List ℕ) (size : ℕ) → WellFormed net → AreHeld net.nets ns → cs ≡ counts_of net.nets ns → size ≡ ways cs → IsCounted cs size
is_counted net ns cs size formed held e all = record { some = counts_some net ns cs formed held e; few = subst (λ l. All (λ c. c ≤ MAX_VALUES) l) (sym e) (all_few net ns formed); all = all }

pub is_space : (net : NetParts) (ns : List NetId) (cs : List ℕ) (size : ℕ) → WellFormed net → AreHeld net.nets ns → cs ≡ counts_of net.nets ns → size ≡ ways cs → IsSpace net.nets ns (record { nets = ns; counts = cs; size = size })
is_space net ns cs size formed held e all = record { list = refl; counts = e; counted = is_counted net ns cs size formed held e all }
