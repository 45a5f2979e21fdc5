-- What a design or a network means to who uses it, and when one may take the place of another.
use Rattle.std.specs.Prelude.{◌≡◌, ℕ, Bool, IsTrue, List}

-- an input or output of the root: its name, and its values as a file spells them, in order
pub record Port : Type 0 where
  pub name : List ℕ
  pub values : List (List ℕ)

-- a latch: the name and the values of its output net, and whether a reset table is given
pub record LatchPort : Type 0 where
  pub name : List ℕ
  pub values : List (List ℕ)
  pub has_reset : Bool

-- what can be seen from outside: inputs and outputs in order, and the latches in unfolding order
pub record Interface : Type 0 where
  pub inputs : List Port
  pub outputs : List Port
  pub latches : List LatchPort

-- an interface, and the joint choices: `allows i s o n r` says that under input values i and latch
-- values s the outputs may be o, the latch inputs n and the reset values r, all together
pub record Meaning : Type 1 where
  pub interface : Interface
  pub allows : List ℕ → List ℕ → List ℕ → List ℕ → List ℕ → Type 0

-- some joint choice is allowed under input values i and latch values s
pub record AllowsSome (m : Meaning) (i s : List ℕ) : Type 0 where
  pub o : List ℕ
  pub n : List ℕ
  pub r : List ℕ
  pub allowed : m.allows i s o n r

-- b looks like a, and allows nothing that a does not; where free, this is asked only under values
-- where a allows some choice
pub record Narrows (free : Bool) (b a : Meaning) : Type 0 where
  pub same : b.interface ≡ a.interface
  pub only : (i s o n r : List ℕ) → (IsTrue free → AllowsSome a i s) → b.allows i s o n r
      → a.allows i s o n r

-- b may take the place of a: it looks like a, allows nothing that a does not (where free, under
-- values where a allows some choice), and something wherever a does
pub record Refines (free : Bool) (b a : Meaning) : Type 0 where
  pub narrows : Narrows free b a
  pub some : (i s : List ℕ) → AllowsSome a i s → AllowsSome b i s

-- b and a look alike and allow the same
pub record SameMeaning (b a : Meaning) : Type 0 where
  pub same : b.interface ≡ a.interface
  pub only : (i s o n r : List ℕ) → b.allows i s o n r → a.allows i s o n r
  pub all : (i s o n r : List ℕ) → a.allows i s o n r → b.allows i s o n r
