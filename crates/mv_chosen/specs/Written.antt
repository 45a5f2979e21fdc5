-- The nets of a network written with one value for each point: each table says one, and a reset
-- table the value that its latch begins with.
use Rattle.std.specs.Prelude.{◌≡◌, ℕ, ◌+◌, Bool, false, nat_eq, Option, Some, None, List, [], ◌∷◌, length, slice_get, if◌then◌else◌}
use Rattle.std.specs.Option.{option_map}
use Rattle.mv_base.specs.Set.{one}
use Rattle.mv_base.specs.declared.number.NetId.{NetId}
use Rattle.mv_cover.specs.declared.cover.Cover.{Cover}
use Rattle.mv_net.specs.declared.parts.FlatLatch.{FlatLatch}
use Rattle.mv_net.specs.declared.parts.FlatNet.{FlatNet}
use Rattle.mv_net.specs.declared.parts.NetParts.{NetParts}
use Rattle.mv_net.specs.Allowed.{of_net}
use Rattle.mv_net.specs.Index.{is_reset}
use Rattle.mv_chosen.specs.Binary.{binary_choice}
use Rattle.mv_chosen.specs.Chosen.{AlwaysResets}

-- the table that says this value
abbrev pub constant : ℕ → Cover
constant value = record { lines = []; default = Some (one value) }

-- n is this reset net
abbrev pub is_reset_of : Option NetId → ℕ → Bool
is_reset_of None n = false
is_reset_of (Some m) n = nat_eq m.0 n

-- the first value of the latch whose reset net is n, where each latch has one of these values
abbrev pub first_value : List FlatLatch → List ℕ → ℕ → ℕ
first_value (l ∷ ls) (v ∷ vs) n = if is_reset_of l.reset n then v else first_value ls vs n
first_value _ _ n = 0

-- the table of a net, whose number is n
abbrev pub written_table : List FlatLatch → List ℕ → ℕ → FlatNet → Option Cover
written_table ls vs n f =
    if is_reset (Some f.kind)
    then option_map (λ (c : Cover). constant (first_value ls vs n)) f.table
    else option_map binary_choice f.table

-- the net with this table
abbrev pub written_net : List FlatLatch → List ℕ → ℕ → Option FlatNet → Option FlatNet
written_net ls vs n None = None
written_net ls vs n (Some f) = Some (record f { table = written_table ls vs n f })

-- these nets, of which the first has the number n
abbrev pub written_from : List FlatLatch → List ℕ → ℕ → List (Option FlatNet)
    → List (Option FlatNet)
written_from ls vs n [] = []
written_from ls vs n (f ∷ fs) = written_net ls vs n f ∷ written_from ls vs (n + 1) fs

-- the nets of a network, whose latches have these first values
unfoldable pub written_nets : NetParts → List ℕ → List (Option FlatNet)
written_nets net vs = written_from net.latches vs 0 net.nets

-- each latch has one of these values, and the network always resets it to that, if it has a reset
-- net
pub record AreFirstValues (net : NetParts) (vs : List ℕ) : Type 0 where
  pub long : length vs ≡ length net.latches
  pub always : (place v : ℕ) (l : FlatLatch) (n : NetId) → slice_get net.latches place ≡ Some l
      → l.reset ≡ Some n → slice_get vs place ≡ Some v → AlwaysResets (of_net net) place v
