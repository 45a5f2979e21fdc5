-- What is looked up in a network: fanins and readers, the nets that are seen, and names.
use Rattle.std.specs.Prelude.{◌≡◌, ℕ, Bool, true, false, ◌||◌, nat_eq, is_some, Option, Some, None, List, [], length, map}
use Rattle.std.specs.List.{list_any, flat_map}
use Rattle.mv_base.specs.declared.number.NetId.{NetId}
use Rattle.mv_graph.specs.Nets.{has_id, row, IsAscending}
use Rattle.mv_cover.specs.Literal.{Lit}
use Rattle.mv_cover.specs.declared.line.Line.{Line}
use Rattle.mv_net.specs.declared.parts.Kind.{Kind}
use Rattle.mv_net.specs.declared.parts.Kind.TheVariants.{Input, Latch, Table, Reset}
use Rattle.mv_net.specs.declared.parts.FlatNet.{FlatNet}
use Rattle.mv_net.specs.declared.parts.FlatLatch.{FlatLatch}
use Rattle.mv_net.specs.declared.parts.NetParts.{NetParts}
use Rattle.mv_net.specs.Nets.{slot, net_reads}

-- the number is held
abbrev pub is_held : List (Option FlatNet) → ℕ → Bool
is_held nets n = is_some (slot nets n)

-- what drives a net
abbrev pub kind_in : Option FlatNet → Option Kind
kind_in None = None
kind_in (Some f) = Some f.kind

-- the value names of a net
abbrev pub value_names_in : Option FlatNet → List (List ℕ)
value_names_in None = []
value_names_in (Some f) = f.value_names

-- one list for each number: the nets that its net reads
pub record AreFanins (nets : List (Option FlatNet)) (rows : List (List NetId)) : Type 0 where
  pub long : length rows ≡ length nets
  pub each : (n : ℕ) → IsAscending (λ m. net_reads (slot nets n) m) (row rows n)

-- the net is a reset net
abbrev pub is_reset : Option Kind → Bool
is_reset None = false
is_reset (Some Input) = false
is_reset (Some Latch) = false
is_reset (Some Table) = false
is_reset (Some Reset) = true

-- the net is the input of one of these latches
abbrev pub is_latch_input : List FlatLatch → ℕ → Bool
is_latch_input latches n = list_any (λ (l : FlatLatch). nat_eq l.input.0 n) latches

-- the net is seen: an output of the root, the input of a latch, or a reset net
unfoldable pub is_seen : NetParts → ℕ → Bool
is_seen net n = has_id net.outputs n || is_latch_input net.latches n
    || is_reset (kind_in (slot net.nets n))

-- the net at the number is held and has this name
pub record HasName (nets : List (Option FlatNet)) (n : ℕ) (name : List ℕ) : Type 0 where
  pub net : FlatNet
  pub held : slot nets n ≡ Some net
  pub is : net.name ≡ name

-- ---- what private functions alone cite

-- the nets of all literals, in order
abbrev pub line_nets : List Line → List NetId
line_nets ls = flat_map (λ (l : Line). map (λ (m : Lit). m.net) l.cube) ls
