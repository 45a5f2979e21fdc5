-- Variables for the nets of a window.
use Rattle.std.specs.Prelude.{◌≡◌, ◌<◌, ◌||◌, ℕ, Bool, true, Option, Some, List, length, slice_index}
use Rattle.mv_diagram.specs.Sound.{AreCounts}
use Rattle.mv_graph.specs.Nets.{has_id}
use Rattle.mv_net.specs.declared.parts.FlatNet.{FlatNet}
use Rattle.mv_net.specs.declared.window.Window.{Window}
use Rattle.mv_net.specs.Nets.{slot, table_in, reads_in}
use Rattle.mv_relation.specs.Relations.{HasVar}
use Rattle.mv_wide.specs.declared.frame.Frame.{Frame}

-- the net is a table or an input of the window
abbrev pub is_inside : Window → ℕ → Bool
is_inside w m = has_id w.tables m || has_id w.inputs m

-- the variable is that of a net that passes the test
pub record IsVarOf (test : ℕ → Bool) (vars : List ℕ) (v : ℕ) : Type 0 where
  pub net : ℕ
  pub passes : test net ≡ true
  pub is : slice_index vars net ≡ v

-- the list has a variable for each net of the window, for no two of them the same, and there are no
-- others
pub record AreWindowVars (nets : List (Option FlatNet)) (w : Window) (counts vars : List ℕ)
    : Type 0 where
  pub each : (m : ℕ) → is_inside w m ≡ true → HasVar nets counts vars m
  pub apart : (m k : ℕ) → is_inside w m ≡ true → is_inside w k ≡ true
      → slice_index vars m ≡ slice_index vars k → m ≡ k
  pub all : (v : ℕ) → v < length counts → IsVarOf (is_inside w) vars v

-- the frame has the variables of a window, and n with its table and the nets that it reads
pub record IsFrameOf (nets : List (Option FlatNet)) (w : Window) (n : ℕ) (f : Frame) : Type 0 where
  pub vars : AreWindowVars nets w f.counts.items f.vars.items
  pub values : AreCounts f.counts.items
  pub own : f.own ≡ slice_index f.vars.items n
  pub fanins : (m : ℕ) → has_id f.fanins.items m ≡ reads_in nets n m
  pub table : table_in (slot nets n) ≡ Some f.table
