-- Nets by number: the place of each among names.
use Rattle.std.specs.Prelude.{ℕ, unwrap_or, List, map}
use Rattle.mv_base.specs.Names.{place_of}
use Rattle.mv_base.specs.declared.number.NetId.{NetId}

-- the number of a net: its place among these names
unfoldable pub number_in : List (List ℕ) → List ℕ → ℕ
number_in names net = unwrap_or (place_of net names) 0

-- the net with this name, by its number
abbrev pub net_in : List (List ℕ) → List ℕ → NetId
net_in names net = record { 0 = number_in names net }

-- these nets, by their numbers
abbrev pub numbers_in : List (List ℕ) → List (List ℕ) → List NetId
numbers_in names nets = map (net_in names) nets
