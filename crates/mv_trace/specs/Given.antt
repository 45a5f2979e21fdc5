-- The values that a step of a run gives to nets: the step is allowed where an assignment that
-- agrees with the network has them.
use Rattle.std.specs.Prelude.{◌≡◌, ℕ, zero, suc, ◌+◌, ◌<◌, Option, Some, None, List, [], ◌∷◌}
use Rattle.std.specs.Prelude.{◌++◌, IsTrue, map, slice_get}
use Rattle.std.specs.List.{All, AllZip, zip}
use Rattle.mv_base.specs.declared.number.NetId.{NetId}
use Rattle.mv_net.specs.declared.parts.FlatNet.{FlatNet}
use Rattle.mv_net.specs.declared.parts.FlatLatch.{FlatLatch}
use Rattle.mv_net.specs.declared.parts.NetParts.{NetParts}
use Rattle.mv_net.specs.Nets.{slot, values_in}
use Rattle.mv_net.specs.Index.{is_held}
use Rattle.mv_net.specs.Formed.{latch_outputs}
use Rattle.mv_net.specs.Allowed.{Agrees}
use Rattle.mv_trace.specs.declared.run.RunStep.{RunStep}

-- the value is one of the net's
abbrev pub IsValueOf : List (Option FlatNet) → NetId → ℕ → Type 0
IsValueOf nets n v = v < values_in (slot nets n.0)

-- a step has a value of each input, of each latch output and of each output, and no more
pub record IsStepOf (net : NetParts) (step : RunStep) : Type 0 where
  pub inputs : AllZip (IsValueOf net.nets) net.inputs step.inputs
  pub latches : AllZip (IsValueOf net.nets) (latch_outputs net.latches) step.latches
  pub outputs : AllZip (IsValueOf net.nets) net.outputs step.outputs

-- the values of a step, each with the number of its net
abbrev pub column_values : NetParts → RunStep → List (ℕ × ℕ)
column_values net s =
    zip (map (λ (n : NetId). n.0) net.inputs) s.inputs
    ++ (zip (map (λ (l : FlatLatch). l.output.0) net.latches) s.latches
    ++ zip (map (λ (n : NetId). n.0) net.outputs) s.outputs)

-- the value of a reset net, if there is one
abbrev pub reset_value : Option NetId → ℕ → List (ℕ × ℕ)
reset_value None v = []
reset_value (Some n) v = (n.0, v) ∷ []

-- the values of latches at their reset nets
abbrev pub reset_values : List FlatLatch → List ℕ → List (ℕ × ℕ)
reset_values [] vs = []
reset_values (l ∷ ls) [] = []
reset_values (l ∷ ls) (v ∷ vs) = reset_value l.reset v ++ reset_values ls vs

-- at the first step the latches have their reset values
abbrev pub first_values : NetParts → ℕ → RunStep → List (ℕ × ℕ)
first_values net zero s = reset_values net.latches s.latches
first_values net (suc k) s = []

-- the values that are given by step k itself, if there is one
abbrev pub own_values : NetParts → ℕ → Option RunStep → List (ℕ × ℕ)
own_values net k None = []
own_values net k (Some s) = column_values net s ++ first_values net k s

-- the latch values of the step behind it, if there is one, at the latch inputs
abbrev pub next_values : NetParts → Option RunStep → List (ℕ × ℕ)
next_values net None = []
next_values net (Some s) = zip (map (λ (l : FlatLatch). l.input.0) net.latches) s.latches

-- the values that are given for step k of a run
unfoldable pub given_values : NetParts → List RunStep → ℕ → List (ℕ × ℕ)
given_values net run k = own_values net k (slice_get run k)
    ++ next_values net (slice_get run (k + 1))

-- the value is given to a net that is held, and is one of the net's
pub record IsGiven (nets : List (Option FlatNet)) (p : ℕ × ℕ) : Type 0 where
  pub held : IsTrue (is_held nets p.0)
  pub below : p.1 < values_in (slot nets p.0)

-- the assignment agrees with the network and has the given values
pub record Shows (net : NetParts) (given : List (ℕ × ℕ)) (at : ℕ → ℕ) : Type 0 where
  pub agrees : Agrees net.nets at
  pub has : All (λ (p : ℕ × ℕ). at p.0 ≡ p.1) given

-- some assignment does
pub record IsShown (net : NetParts) (given : List (ℕ × ℕ)) : Type 0 where
  pub at : ℕ → ℕ
  pub shows : Shows net given at
