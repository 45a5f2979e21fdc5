-- Nets that come one behind the other: with them the network is well formed and, where each always has a choice, means what it
-- meant.
use Rattle.std.proofs.Common.{◌≡◌, List, [], ◌∷◌, ◌++◌, length, map, Option, Some, sym, subst, append-nil, append_assoc, arith}
use Rattle.mv_base.specs.Meaning.{SameMeaning}
use Rattle.mv_base.proofs.Meanings.{SameMeaning-refl, SameMeaning-then}
use Rattle.mv_net.specs.declared.change.NewNet.{NewNet}
use Rattle.mv_net.specs.declared.parts.Kind.TheVariants.{Table}
use Rattle.mv_net.specs.declared.parts.FlatNet.{FlatNet}
use Rattle.mv_net.specs.declared.parts.NetParts.{NetParts}
use Rattle.mv_net.specs.Allowed.{of_net}
use Rattle.mv_net.specs.Changes.{made_net, with_nets}
use Rattle.mv_net.specs.Formed.{WellFormed}
use Rattle.mv_meaning.specs.Rewriting.{IsNewNet}
use Rattle.mv_meaning.proofs.Adding.{IsWritten-added, written_formed}
use Rattle.mv_coding.proofs.Choices.{HasChoice, come_means}

-- the net that comes
abbrev pub came : NewNet → FlatNet
came m = record { name = m.name; values = m.values; value_names = []; kind = Table; table = Some m.table }

-- each is a new net over those before it
abbrev pub AreNewNets : List (Option FlatNet) → List NewNet → Type 0
AreNewNets nets [] = Unit {0}
AreNewNets nets (m ∷ ms) = IsNewNet nets (came m) × AreNewNets (nets ++ made_net m ∷ []) ms

-- each has a choice when it has come
abbrev pub HaveChoices : List (Option FlatNet) → List NewNet → Type 0
HaveChoices nets [] = Unit {0}
HaveChoices nets (m ∷ ms) = HasChoice (nets ++ made_net m ∷ []) (length nets) × HaveChoices (nets ++ made_net m ∷ []) ms

-- the network with so many nets more
abbrev pub grown : NetParts → List NewNet → NetParts
grown net ms = with_nets net (net.nets ++ map made_net ms)

-- the first comes, and then the others
grown-none : (net : NetParts) → grown net [] ≡ net
unfolding with_nets
grown-none net = λ i. record net { nets = append-nil net.nets i }

grown-more : (net : NetParts) (m : NewNet) (ms : List NewNet) → grown (with_nets net (net.nets ++ made_net m ∷ [])) ms ≡ grown net (m ∷ ms)
unfolding with_nets
grown-more net m ms = λ i. record net { nets = append_assoc net.nets (made_net m ∷ []) (map made_net ms) i }

pub grown_formed : (net : NetParts) (ms : List NewNet) → WellFormed net → AreNewNets net.nets ms → WellFormed (grown net ms)
unfolding with_nets
grown_formed net [] formed new = subst WellFormed (sym (grown-none net)) formed
grown_formed net (m ∷ ms) formed new =
    subst WellFormed (grown-more net m ms)
    (grown_formed (with_nets net (net.nets ++ made_net m ∷ [])) ms
    (written_formed net (length net.nets) (came m) (net.nets ++ made_net m ∷ []) formed (omega arith) new.0 (IsWritten-added net.nets (made_net m))) new.1)

pub grown_means : (net : NetParts) (ms : List NewNet) → WellFormed net → AreNewNets net.nets ms → HaveChoices net.nets ms → SameMeaning (of_net (grown net ms)) (of_net net)
unfolding with_nets
grown_means net [] formed new choices = subst (λ (g : NetParts). SameMeaning (of_net g) (of_net net)) (sym (grown-none net)) (SameMeaning-refl (of_net net))
grown_means net (m ∷ ms) formed new choices =
    let first : NetParts = with_nets net (net.nets ++ made_net m ∷ []) in
    let written = IsWritten-added net.nets (made_net m) in
    subst (λ (g : NetParts). SameMeaning (of_net g) (of_net net)) (grown-more net m ms)
    (SameMeaning-then (of_net (grown first ms)) (of_net first) (of_net net)
    (grown_means first ms (written_formed net (length net.nets) (came m) (net.nets ++ made_net m ∷ []) formed (omega arith) new.0 written) new.1 choices.1)
    (come_means net (length net.nets) (came m) (net.nets ++ made_net m ∷ []) formed (omega arith) new.0 choices.0 written))
