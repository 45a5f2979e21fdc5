-- The flexibility of a net in a window: which values it may have where its fanins have given
-- values.
use Rattle.std.specs.Prelude.{◌≡◌, ℕ, Bool, ◌-◌, ◌<◌, ◌^◌, ◌++◌, min, true, not, nat_eq, Option, List}
use Rattle.std.specs.List.{filter}
use Rattle.mv_base.specs.Set.{has}
use Rattle.mv_base.specs.declared.limits.TheConstants.{MAX_WINDOW_POINTS}
use Rattle.mv_cover.specs.Literal.{Lit}
use Rattle.mv_cover.specs.declared.line.Line.{Line}
use Rattle.mv_cover.specs.declared.cover.Cover.{Cover}
use Rattle.mv_cover.specs.Cubes.{matches}
use Rattle.mv_cover.specs.Covers.{allowed}
use Rattle.mv_graph.specs.Nets.{has_id}
use Rattle.mv_net.specs.declared.parts.FlatNet.{FlatNet}
use Rattle.mv_net.specs.declared.parts.NetParts.{NetParts}
use Rattle.mv_net.specs.declared.window.Window.{Window}
use Rattle.mv_net.specs.Nets.{slot, values_in, reads_in}
use Rattle.mv_net.specs.Allowed.{net_allows}
use Rattle.mv_net.specs.Total.{AllowsValue}
use Rattle.mv_net.specs.Window.{IsWindow, ways_of, levels_of}
use Rattle.mv_flex.specs.declared.stop.FlexStop.{FlexStop}
use Rattle.mv_flex.specs.declared.stop.FlexStop.TheVariants.{Window as too_many_points, Nodes, Memory}
use Rattle.mv_flex.specs.declared.verdict.Verdict.{Verdict}
use Rattle.mv_flex.specs.declared.verdict.Verdict.TheVariants.{Outside, Lost, Lawful}

-- ---- the flexibility

-- the assignment gives each input of the window one of its values, and agrees with each table of
-- the window
pub record AgreesInside (nets : List (Option FlatNet)) (w : Window) (at : ℕ → ℕ) : Type 0 where
  pub inputs : (m : ℕ) → has_id w.inputs m ≡ true → at m < values_in (slot nets m)
  pub tables : (m : ℕ) → has_id w.tables m ≡ true → net_allows (slot nets m) at (at m) ≡ true

-- it gives each input of the window, and n, one of their values, and agrees with each table of the
-- window but n's
pub record AgreesBeside (nets : List (Option FlatNet)) (w : Window) (n : ℕ) (at : ℕ → ℕ)
    : Type 0 where
  pub inputs : (m : ℕ) → has_id w.inputs m ≡ true → at m < values_in (slot nets m)
  pub here : at n < values_in (slot nets n)
  pub tables : (m : ℕ) → (m ≡ n → ⊥) → has_id w.tables m ≡ true
      → net_allows (slot nets m) at (at m) ≡ true

-- some assignment agrees with each table of the window, and is this one at the window's inputs and
-- outputs
pub record HasReplacement (nets : List (Option FlatNet)) (w : Window) (at : ℕ → ℕ) : Type 0 where
  pub given : ℕ → ℕ
  pub agrees : AgreesInside nets w given
  pub inputs : (m : ℕ) → has_id w.inputs m ≡ true → given m ≡ at m
  pub outputs : (m : ℕ) → has_id w.outputs m ≡ true → given m ≡ at m

-- the assignment gives each fanin of n one of its values
pub record IsFaninPoint (nets : List (Option FlatNet)) (n : ℕ) (at : ℕ → ℕ) : Type 0 where
  pub fanins : (m : ℕ) → reads_in nets n m ≡ true → at m < values_in (slot nets m)

-- values of n's fanins, which are those of the assignment, and a value of n
pub record IsPair (nets : List (Option FlatNet)) (n : ℕ) (at : ℕ → ℕ) (v : ℕ) : Type 0 where
  pub point : IsFaninPoint nets n at
  pub value : v < values_in (slot nets n)

-- the pair is in the flexibility: each assignment with these values at the fanins and at n that
-- agrees with every table of the window but n's has a replacement that agrees with n's too
pub record InFlex (nets : List (Option FlatNet)) (w : Window) (n : ℕ) (at : ℕ → ℕ) (v : ℕ)
    : Type 0 where
  pub pair : IsPair nets n at v
  pub replaced : (x : ℕ → ℕ) → AgreesBeside nets w n x
      → ((m : ℕ) → reads_in nets n m ≡ true → x m ≡ at m) → x n ≡ v → HasReplacement nets w x

-- ---- lines and covers

-- each point of the line's cube is in the flexibility with each value of its output
pub record LineInFlex (nets : List (Option FlatNet)) (w : Window) (n : ℕ) (l : Line) : Type 0 where
  pub each : (at : ℕ → ℕ) (v : ℕ) → IsPair nets n at v → matches at l.cube ≡ true
      → has l.out v ≡ true → InFlex nets w n at v

-- the literals of the cube but those on m
abbrev pub literals_beside : ℕ → List Lit → List Lit
literals_beside m cube = filter (λ (l : Lit). not (nat_eq l.net.0 m)) cube

-- each point of the line, its literals on m left out, at which m has the value u is in the
-- flexibility with each value of the line's output
pub record LineInFlexWith (nets : List (Option FlatNet)) (w : Window) (n : ℕ) (l : Line) (m u : ℕ)
    : Type 0 where
  pub each : (at : ℕ → ℕ) (v : ℕ) → IsPair nets n at v → at m ≡ u
      → matches at (literals_beside m l.cube) ≡ true → has l.out v ≡ true → InFlex nets w n at v

-- each pair that the cover allows is in the flexibility
pub record CoverInFlex (nets : List (Option FlatNet)) (w : Window) (n : ℕ) (c : Cover)
    : Type 0 where
  pub each : (at : ℕ → ℕ) (v : ℕ) → IsPair nets n at v → allowed c at v ≡ true
      → InFlex nets w n at v

-- at each point of n's fanins at which the old cover allows some value the new one does
pub record KeepsChoice (nets : List (Option FlatNet)) (n : ℕ) (old new : Cover) : Type 0 where
  pub each : (at : ℕ → ℕ) → IsFaninPoint nets n at → AllowsValue old at → AllowsValue new at

-- what the cube or cover reads are fanins of n
pub record IsOverFanins (nets : List (Option FlatNet)) (n : ℕ) (reads : ℕ → Bool) : Type 0 where
  pub fanins : (m : ℕ) → reads m ≡ true → reads_in nets n m ≡ true

-- what is said of a new cover for n in place of the old one: the first that holds
abbrev pub IsVerdict : List (Option FlatNet) → Window → ℕ → Cover → Cover → Verdict → Type 0
IsVerdict nets w n old new Outside = CoverInFlex nets w n new → ⊥
IsVerdict nets w n old new Lost = CoverInFlex nets w n new × (KeepsChoice nets n old new → ⊥)
IsVerdict nets w n old new Lawful = CoverInFlex nets w n new × KeepsChoice nets n old new

-- ---- when there is none

-- w is the window around n for some numbers of steps
pub record IsWindowOf (net : NetParts) (n : ℕ) (w : Window) : Type 0 where
  pub down : ℕ
  pub up : ℕ
  pub is : IsWindow net n down up w

-- the window has more points than are gone through
pub record TooWide (net : NetParts) (w : Window) : Type 0 where
  pub points : MAX_WINDOW_POINTS < ways_of net.nets (w.tables ++ w.inputs)

-- the pool of this many nodes is full: there is no pool yet, and so it never is
abbrev pub NodesCause : NetParts → Window → ℕ → Type 0
NodesCause net w budget = ⊥

-- why there is no flexibility of a net in the window
abbrev pub IsFlexStop : NetParts → Window → ℕ → FlexStop → Type 0
IsFlexStop net w budget (too_many_points levels) = TooWide net w
    × (levels ≡ min (levels_of net.nets (w.tables ++ w.inputs)) (2 ^ 64 - 1))
IsFlexStop net w budget (Nodes cap) = NodesCause net w budget × (cap ≡ budget)
IsFlexStop net w budget Memory = TooWide net w → ⊥

-- why something isn't decided by a flexibility in the window
abbrev pub IsLaterStop : NetParts → Window → ℕ → FlexStop → Type 0
IsLaterStop net w budget (too_many_points levels) = ⊥
IsLaterStop net w budget (Nodes cap) = NodesCause net w budget × (cap ≡ budget)
IsLaterStop net w budget Memory = Unit {0}
