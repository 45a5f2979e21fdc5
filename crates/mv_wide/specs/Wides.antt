-- Flexibilities as sets of points of a window's variables.
use Rattle.std.specs.Prelude.{◌≡◌, ◌<◌, ◌≤◌, ℕ, true, Option, List, length}
use Rattle.mv_cover.specs.Covers.{cover_reads}
use Rattle.mv_diagram.specs.Diagrams.{Contents}
use Rattle.mv_diagram.specs.Sound.{AreCounts}
use Rattle.mv_factors.specs.Families.{Family, set_at}
use Rattle.mv_flex.specs.declared.stop.FlexStop.{FlexStop}
use Rattle.mv_flex.specs.declared.stop.FlexStop.TheVariants.{Window as too_many_points, Nodes, Memory}
use Rattle.mv_flex.specs.Flex.{IsWindowOf}
use Rattle.mv_graph.specs.Nets.{has_id}
use Rattle.mv_net.specs.declared.parts.FlatNet.{FlatNet}
use Rattle.mv_net.specs.declared.parts.NetParts.{NetParts}
use Rattle.mv_net.specs.declared.window.Window.{Window}
use Rattle.mv_net.specs.Formed.{WellFormed}
use Rattle.mv_pool.specs.Places.{held_in}
use Rattle.mv_relation.specs.declared.stop.RelationStop.{RelationStop}
use Rattle.mv_relation.specs.declared.stop.RelationStop.TheVariants.{Nodes as no_room, Memory as no_memory}
use Rattle.mv_relation.specs.Relations.{AreApart}
use Rattle.mv_wide.specs.declared.frame.Frame.{Frame}
use Rattle.mv_wide.specs.Outsides.{IsOutside}
use Rattle.mv_wide.specs.Windows.{AreWindowVars, IsFrameOf}

-- the sets of points, of which the first is that of the pairs outside, and the nets as variables
pub record Wide : Type 0 where
  pub family : Family
  pub frame : Frame

-- f is the flexibility of the net n in the window w: its first set is that of the pairs outside
pub record IsWide (net : NetParts) (w : Window) (n : ℕ) (f : Wide) : Type 0 where
  pub formed : WellFormed net
  pub window : IsWindowOf net n w
  pub frame : IsFrameOf net.nets w n f.frame
  pub outside : IsOutside net.nets w n f.frame.counts.items f.frame.vars.items
      (λ p. set_at f.family 0 p)

-- a pool of diagrams over variables of the window's nets holds so many nodes
pub record HoldsNodes (nets : List (Option FlatNet)) (w : Window) (cap : ℕ) : Type 0 where
  pub contents : Contents
  pub vars : List ℕ
  pub are : AreWindowVars nets w contents.counts vars
  pub full : cap ≤ held_in contents.nodes

-- why there is no flexibility of a net in the window, or why something isn't decided by one
abbrev pub IsWideStop : List (Option FlatNet) → Window → ℕ → FlexStop → Type 0
IsWideStop nets w cap (too_many_points levels) = ⊥
IsWideStop nets w cap (Nodes told) = (told ≡ cap) × HoldsNodes nets w cap
IsWideStop nets w cap Memory = Unit {0}

-- ---- what private functions alone cite

-- the variables have values, each fanin has one of its own, and the table reads fanins alone
pub record IsFramed (frame : Frame) : Type 0 where
  pub values : AreCounts frame.counts.items
  pub own : frame.own < length frame.counts.items
  pub apart
      : AreApart frame.counts.items frame.vars.items frame.own (has_id frame.fanins.items)
  pub old : (m : ℕ) → cover_reads frame.table m ≡ true → has_id frame.fanins.items m ≡ true

-- there is a first set and room for some more, and the variables are those of the diagrams
pub record IsReady (f : Family) (frame : Frame) : Type 0 where
  pub first : 0 < length f.list
  pub room : 5 ≤ f.room
  pub counts : f.contents.counts ≡ frame.counts.items
  pub framed : IsFramed frame

-- why there is no set of pairs outside
abbrev pub IsStopIn : List (Option FlatNet) → Window → ℕ → RelationStop → Type 0
IsStopIn nets w cap (no_room stop) = (stop.cap ≡ cap) × HoldsNodes nets w cap
IsStopIn nets w cap no_memory = Unit {0}

-- the one stop says the same as the other
abbrev pub StopsAs : RelationStop → FlexStop → Type 0
StopsAs (no_room stop) told = told ≡ FlexStop.Nodes stop.cap
StopsAs no_memory told = told ≡ FlexStop.Memory
