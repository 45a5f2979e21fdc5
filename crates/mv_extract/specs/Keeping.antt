-- What private functions alone cite: what is kept from one step to the next.
use Rattle.std.specs.Prelude.{◌≡◌, ◌≤◌, ℕ, false, Option, List, [], length, map, slice_index_or}
use Rattle.mv_base.specs.declared.number.NetId.{NetId}
use Rattle.mv_gains.specs.Gains.{covers_at, cubes_at}
use Rattle.mv_net.specs.declared.parts.FlatNet.{FlatNet}
use Rattle.mv_net.specs.Nets.{slot, net_reads}
use Rattle.mv_extract.specs.declared.kind.Divisors.{Divisors}
use Rattle.mv_extract.specs.declared.kind.Divisors.TheVariants as kinds
use Rattle.mv_extract.specs.declared.kind.Search.{Search}
use Rattle.mv_extract.specs.declared.kind.Search.TheVariants as kept

-- what is kept is of these nets
abbrev pub IsSearch : Divisors → List (Option FlatNet) → Search → Type 0
IsSearch kinds.Kernels nets (kept.Kernels gains) = gains ≡ map covers_at nets
IsSearch kinds.Kernels nets (kept.Cubes gains) = ⊥
IsSearch kinds.Cubes nets (kept.Kernels gains) = ⊥
IsSearch kinds.Cubes nets (kept.Cubes gains) = gains ≡ map cubes_at nets

-- of the tables of these nets only those of d and of the nets that read it changed or came
pub record AreBehind {X : Type 0} (kept_of : Option FlatNet → List X) (nets : List (Option FlatNet))
    (d : NetId) (tables : List (List X)) : Type 0 where
  pub more : length tables ≤ length nets
  pub others : (n : ℕ) → (n ≡ d.0 → ⊥) → net_reads (slot nets n) d.0 ≡ false
      → kept_of (slot nets n) ≡ slice_index_or tables n []

-- what is kept is of the nets before d came and tables were divided by it
abbrev pub IsBehind : Divisors → List (Option FlatNet) → NetId → Search → Type 0
IsBehind kinds.Kernels nets d (kept.Kernels gains) = AreBehind covers_at nets d gains
IsBehind kinds.Kernels nets d (kept.Cubes gains) = ⊥
IsBehind kinds.Cubes nets d (kept.Kernels gains) = ⊥
IsBehind kinds.Cubes nets d (kept.Cubes gains) = AreBehind cubes_at nets d gains
