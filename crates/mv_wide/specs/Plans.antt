-- The plan of a window's variables. What private functions alone cite.
use Rattle.std.specs.Prelude.{◌≡◌, ◌<◌, ◌&&◌, ◌||◌, ℕ, Bool, true, not, nat_eq, Option, List, length, slice_index, slice_index_or, All}
use Rattle.mv_base.specs.declared.number.NetId.{NetId}
use Rattle.mv_factors.specs.declared.inner.Inner.{Inner}
use Rattle.mv_factors.specs.Leaving.{is_inner}
use Rattle.mv_graph.specs.Nets.{has_id}
use Rattle.mv_net.specs.declared.parts.FlatNet.{FlatNet}
use Rattle.mv_net.specs.declared.window.Window.{Window}
use Rattle.mv_net.specs.Nets.{reads_in}
use Rattle.mv_wide.specs.declared.frame.Frame.{Frame}
use Rattle.mv_wide.specs.declared.plan.Plan.{Plan}
use Rattle.mv_wide.specs.Windows.{IsVarOf, is_inside}

-- the net is a table of the window and none of its outputs
abbrev pub is_hidden : Window → ℕ → Bool
is_hidden w m = has_id w.tables m && not (has_id w.outputs m)

-- the net is one of the window, and neither n nor read by n
abbrev pub is_beside : List (Option FlatNet) → Window → ℕ → ℕ → Bool
is_beside nets w n m = is_inside w m && not (reads_in nets n m || nat_eq n m)

-- the variables that pass the one test are those of the nets that pass the other
pub record AreVarsOf (test : ℕ → Bool) (vars : List ℕ) (among : ℕ → Bool) : Type 0 where
  pub only : (v : ℕ) → among v ≡ true → IsVarOf test vars v
  pub all : (m : ℕ) → test m ≡ true → among (slice_index vars m) ≡ true

-- n is the table at the place, and the plan has the variables that are eliminated
pub record IsPlan (nets : List (Option FlatNet)) (w : Window) (n : ℕ) (f : Frame) (p : Plan)
    : Type 0 where
  pub inside : p.place < length w.tables
  pub here : (d : NetId) → (slice_index_or w.tables p.place d).0 ≡ n
  pub hidden : AreVarsOf (is_hidden w) f.vars.items (is_inner p.hidden.items)
  pub hidden_low : All (λ (i : Inner). i.var < length f.counts.items) p.hidden.items
  pub beside : AreVarsOf (is_beside nets w n) f.vars.items (is_inner p.beside.items)
  pub beside_low : All (λ (i : Inner). i.var < length f.counts.items) p.beside.items
