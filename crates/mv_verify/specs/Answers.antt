-- What is answered of two networks b and a: that b refines a, or the evidence that it doesn't.
use Rattle.std.specs.Prelude.{◌≡◌, ℕ, ◌<◌, Bool, false, IsTrue, List, length}
use Rattle.std.specs.List.{AllZip}
use Rattle.mv_base.specs.Meaning.{Port, LatchPort, Interface as Seen, Meaning, AllowsSome, Refines}
use Rattle.mv_verify.specs.declared.answer.Point.{Point}
use Rattle.mv_verify.specs.declared.answer.Choice.{Choice}
use Rattle.mv_verify.specs.declared.answer.Answer.{Answer}
use Rattle.mv_verify.specs.declared.answer.Answer.TheVariants.{Yes, Interface, Extra, Lost}

-- the value is one of an input's or output's, or of a latch's
abbrev pub IsPortValue : Port → ℕ → Type 0
IsPortValue q v = v < length q.values

abbrev pub IsLatchValue : LatchPort → ℕ → Type 0
IsLatchValue l v = v < length l.values

-- these are a value of each input, latch output, output, latch input and reset, and no more
pub record AreValues (m : Seen) (i s o n r : List ℕ) : Type 0 where
  pub inputs : AllZip IsPortValue m.inputs i
  pub states : AllZip IsLatchValue m.latches s
  pub outputs : AllZip IsPortValue m.outputs o
  pub next : AllZip IsLatchValue m.latches n
  pub resets : AllZip IsLatchValue m.latches r

-- a latch without a reset table has the reset value 0
abbrev pub IsBareZero : LatchPort → ℕ → Type 0
IsBareZero l v = l.has_reset ≡ false → v ≡ 0

-- the two look alike, and b allows a choice at a point where a doesn't. Where free, a allows some
-- choice at the point
pub record IsExtra (free : Bool) (b a : Meaning) (p : Point) (c : Choice) : Type 0 where
  pub same : b.interface ≡ a.interface
  pub some : IsTrue free → AllowsSome a p.inputs p.latches
  pub given : b.allows p.inputs p.latches c.outputs c.next c.resets
  pub refused : a.allows p.inputs p.latches c.outputs c.next c.resets → ⊥
  pub bare : AllZip IsBareZero b.interface.latches c.resets

-- b allows some choice at each point where a does
pub record LosesNothing (b a : Meaning) : Type 0 where
  pub some : (i s : List ℕ) → AllowsSome a i s → AllowsSome b i s

-- the two look alike, and a allows some choice at a point where b allows none
pub record IsLost (b a : Meaning) (p : Point) : Type 0 where
  pub same : b.interface ≡ a.interface
  pub some : AllowsSome a p.inputs p.latches
  pub none : AllowsSome b p.inputs p.latches → ⊥

-- the answer is right
abbrev pub IsAnswer : Bool → Meaning → Meaning → Answer → Type 0
IsAnswer free b a Yes = Refines free b a
IsAnswer free b a Interface = b.interface ≡ a.interface → ⊥
IsAnswer free b a (Extra p c) = IsExtra free b a p c
IsAnswer free b a (Lost p) = IsLost b a p
