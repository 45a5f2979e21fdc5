-- What private functions alone cite: what is known of the kernels of the tables, while the tables
-- change.
use Rattle.std.specs.Prelude.{◌≡◌, ◌<◌, ◌≤◌, ◌-◌, ◌^◌, ◌⊎◌, ℕ, IsTrue, Option, List, map, slice_index_or}
use Rattle.mv_base.specs.declared.number.NetId.{NetId}
use Rattle.mv_cover.specs.Literal.{Lit}
use Rattle.mv_net.specs.declared.parts.FlatNet.{FlatNet}
use Rattle.mv_net.specs.Index.{is_held}
use Rattle.mv_divide.specs.declared.part.Part.{Part}
use Rattle.mv_kernels.specs.declared.kernel.Kernel.{Kernel}
use Rattle.mv_gains.specs.declared.kernels.Candidate.{Candidate}
use Rattle.mv_gains.specs.Best.{IsSaved}
use Rattle.mv_gains.specs.Grown.{IsOneOf}
use Rattle.mv_gains.specs.Tables.{IsDivisor}

-- ---- nets on which there are literals

-- the literal is on the net
abbrev pub IsLiteralOn : Lit → ℕ → Type 0
IsLiteralOn l m = l.net.0 ≡ m

-- the cube has a literal on the net
abbrev pub IsCubeOn : List Lit → ℕ → Type 0
IsCubeOn cube m = IsOneOf IsLiteralOn cube m

-- some cube has a literal on the net
abbrev pub IsOn : List (List Lit) → ℕ → Type 0
IsOn cubes m = IsOneOf IsCubeOn cubes m

-- some cover has a literal on the net
abbrev pub ArePartsOn : List Part → ℕ → Type 0
ArePartsOn parts m = IsOneOf (λ (p : Part). IsOn p.cover) parts m

-- the literal's net is held
abbrev pub AreHeld : List (Option FlatNet) → Lit → Type 0
AreHeld nets l = IsTrue (is_held nets l.net.0)

-- the nets as numbers
abbrev pub numbers : List NetId → List ℕ
numbers nets = map (λ (n : NetId). n.0) nets

-- ---- marks

-- when a table that reads the net last changed: for a net that isn't listed, after all else
abbrev pub stamp_at : List ℕ → ℕ → ℕ
stamp_at changed m = slice_index_or changed m (2 ^ 64 - 1)

-- each such net is marked as changed now, and each other one as before or now
pub record IsMarked (now : ℕ) (On : ℕ → Type 0) (old new : List ℕ) : Type 0 where
  pub each : (m : ℕ) → (stamp_at new m ≡ stamp_at old m) ⊎ (now ≤ stamp_at new m)
  pub all : (m : ℕ) → On m → now ≤ stamp_at new m

-- ---- what is known

-- the candidate saves what it says, and its divisor has a literal on its net
pub record IsKnown (tables : List (List Part)) (c : Candidate) : Type 0 where
  pub divisor : IsDivisor c.kernel.cubes
  pub on : IsOn c.kernel.cubes c.key.0
  pub saved : IsSaved tables c.kernel.cubes c.saved

-- that is so unless a table that reads its net changed since
pub record IsRight (tables : List (List Part)) (changed : List ℕ) (now : ℕ) (c : Candidate)
    : Type 0 where
  pub past : c.seen ≤ now
  pub known : stamp_at changed c.key.0 < c.seen → IsKnown tables c

-- what was right stays so
pub record StaysRight (now : ℕ) (old : List (List Part)) (before : List ℕ) (new : List (List Part))
    (after : List ℕ) : Type 0 where
  pub each : (c : Candidate) → IsRight old before now c → IsRight new after now c

-- what a candidate is apart from what is known of it
pub record Standing : Type 0 where
  pub kernel : Kernel
  pub table : NetId

abbrev pub standing : Candidate → Standing
standing c = record { kernel = c.kernel; table = c.table }
