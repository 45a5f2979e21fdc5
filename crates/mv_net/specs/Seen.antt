-- How the nets that are seen are marked.
use Rattle.std.specs.Prelude.{◌≡◌, ℕ, ◌<◌, Bool, true, ◌||◌, List, length}
use Rattle.mv_net.specs.declared.parts.NetParts.{NetParts}
use Rattle.mv_graph.specs.Nets.{has_id}
use Rattle.mv_graph.specs.Marks.{is_marked}
use Rattle.mv_net.specs.Index.{is_latch_input, is_seen}

-- each number is marked where its net is seen; past the last mark none is
pub record AreSeen (net : NetParts) (marks : List Bool) : Type 0 where
  pub each : (n : ℕ) → is_marked marks n ≡ is_seen net n

-- ---- what private functions alone cite

-- the numbers that pass the test were marked besides
pub record AlsoMarked (old : List Bool) (test : ℕ → Bool) (new : List Bool) : Type 0 where
  pub long : length new ≡ length old
  pub each : (n : ℕ) → is_marked new n ≡ (test n || is_marked old n)

-- the outputs and the latch inputs are numbers of the network
pub record SeenAreHeld (net : NetParts) : Type 0 where
  pub outputs : (n : ℕ) → has_id net.outputs n ≡ true → n < length net.nets
  pub inputs : (n : ℕ) → is_latch_input net.latches n ≡ true → n < length net.nets
