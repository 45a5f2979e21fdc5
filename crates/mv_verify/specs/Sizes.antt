-- How large two networks are to who compares them.
use Rattle.std.specs.Prelude.{ℕ, ◌+◌, ◌-◌, ◌*◌, max, Option, Some, None, List, [], ◌∷◌}
use Rattle.mv_net.specs.declared.parts.Kind.{Kind}
use Rattle.mv_net.specs.declared.parts.Kind.TheVariants.{Input, Latch, Table, Reset}
use Rattle.mv_net.specs.declared.parts.FlatNet.{FlatNet}
use Rattle.mv_net.specs.declared.parts.NetParts.{NetParts}
use Rattle.mv_net.specs.Nets.{values_in}
use Rattle.mv_net.specs.Window.{ways_in}

-- in how many ways all these nets can have values
abbrev pub points_in : List (Option FlatNet) → ℕ
points_in [] = 1
points_in (f ∷ fs) = ways_in f * points_in fs

-- the points of two networks: those of the one that has more
unfoldable pub points_of : NetParts → NetParts → ℕ
points_of a b = max (points_in a.nets) (points_in b.nets)

-- the values of all these nets, of each one less
abbrev pub levels_in : List (Option FlatNet) → ℕ
levels_in [] = 0
levels_in (f ∷ fs) = (values_in f - 1) + levels_in fs

-- the values of a net, one less, and none where they are given: of an input and of a latch output
abbrev pub own_levels : ℕ → Kind → ℕ
own_levels values Input = 0
own_levels values Latch = 0
own_levels values Table = values - 1
own_levels values Reset = values - 1

abbrev pub own_levels_at : Option FlatNet → ℕ
own_levels_at None = 0
own_levels_at (Some f) = own_levels f.values f.kind

-- the values of all these nets that aren't given, of each one less
abbrev pub own_levels_in : List (Option FlatNet) → ℕ
own_levels_in [] = 0
own_levels_in (f ∷ fs) = own_levels_at f + own_levels_in fs

-- the levels of two networks, in which inputs and latch outputs are counted once
unfoldable pub levels_of : NetParts → NetParts → ℕ
levels_of a b = levels_in a.nets + own_levels_in b.nets
