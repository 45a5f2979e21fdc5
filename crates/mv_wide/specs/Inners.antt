-- Nets of a window in lists, and their variables. What private functions alone cite.
use Rattle.std.specs.Prelude.{◌≡◌, ◌<◌, ◌||◌, ℕ, Bool, not, nat_eq, Option, List, map, filter, slice_index, slice_index_or}
use Rattle.std.specs.List.{list_any}
use Rattle.mv_base.specs.declared.number.NetId.{NetId}
use Rattle.mv_factors.specs.declared.inner.Inner.{Inner}
use Rattle.mv_graph.specs.Nets.{has_id}
use Rattle.mv_net.specs.declared.parts.FlatNet.{FlatNet}
use Rattle.mv_net.specs.Nets.{slot, values_in, reads_in}

-- the net is one of these tables, or one of them reads it
abbrev pub touches : List (Option FlatNet) → List NetId → ℕ → Bool
touches nets tables m =
    list_any (λ (t : NetId). reads_in nets t.0 m || nat_eq t.0 m) tables

-- the numbers of values of these nets
abbrev pub counts_of : List (Option FlatNet) → List NetId → List ℕ
counts_of nets ns = map (λ (m : NetId). values_in (slot nets m.0)) ns

-- each of the first of these nets has its place as its variable
pub record AreNumbered (vars : List ℕ) (ns : List NetId) (count : ℕ) : Type 0 where
  pub each : (k : ℕ) (d : NetId) → k < count → slice_index vars (slice_index_or ns k d).0 ≡ k

-- the variables of a list
abbrev pub inner_vars : List Inner → List ℕ
inner_vars inner = map (λ (i : Inner). i.var) inner

-- those of the nets of a list that aren't in another
abbrev pub vars_beside : List ℕ → List NetId → List NetId → List ℕ
vars_beside vars keep ns = map (λ (m : NetId). slice_index vars m.0)
    (filter (λ (m : NetId). not (has_id keep m.0)) ns)
