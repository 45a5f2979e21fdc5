-- What the checks of the rules ask, and the order in which they fail.
use Rattle.std.specs.Prelude.{◌≡◌, ◌⊎◌, ℕ, ◌+◌, ◌<◌, ◌≤◌, true, false, is_some, Option, Result, MatchResult, List, length, All}
use Rattle.mv_base.specs.Names.{is_net_name, names_differ}
use Rattle.mv_base.specs.declared.limits.TheConstants.{MAX_NETS, MAX_WORD_BYTES}
use Rattle.mv_entry.specs.declared.fault.RuleFault.{RuleFault}
use Rattle.mv_entry.specs.declared.fault.RuleFault.TheVariants.{NoNet}
use Rattle.mv_entry.specs.declared.fault.RuleFault.TheVariants.{Memory as out_of_memory}
use Rattle.mv_net.specs.declared.parts.FlatNet.{FlatNet}
use Rattle.mv_net.specs.declared.parts.NetParts.{NetParts}
use Rattle.mv_net.specs.Nets.{slot, table_in, reads_in}
use Rattle.mv_net.specs.Index.{HasName, is_seen}

-- the net with this name has a table
pub record IsTabled (nets : List (Option FlatNet)) (name : List ℕ) (n : ℕ) : Type 0 where
  pub named : HasName nets n name
  pub table : is_some (table_in (slot nets n)) ≡ true

-- nobody outside sees the net
pub record IsUnseen (net : NetParts) (n : ℕ) : Type 0 where
  pub unseen : is_seen net n ≡ false

-- no net reads it
pub record IsUnread (nets : List (Option FlatNet)) (n : ℕ) : Type 0 where
  pub unread : (m : ℕ) → reads_in nets m n ≡ false

-- some net reads it
pub record IsRead (nets : List (Option FlatNet)) (n : ℕ) : Type 0 where
  pub reader : ℕ
  pub reads : reads_in nets reader n ≡ true

-- a name for a new net: lawful, no longer than a word, and no net's
pub record IsNewName (nets : List (Option FlatNet)) (name : List ℕ) : Type 0 where
  pub lawful : is_net_name name ≡ true
  pub short : length name ≤ MAX_WORD_BYTES
  pub free : (n : ℕ) → HasName nets n name → ⊥

-- names for new nets: no two of them are equal
pub record AreNewNames (nets : List (Option FlatNet)) (names : List (List ℕ)) : Type 0 where
  pub each : All (IsNewName nets) names
  pub differ : names_differ names ≡ true

-- one number more may be used
pub record HasRoom (nets : List (Option FlatNet)) : Type 0 where
  pub room : length nets < MAX_NETS

-- so many numbers more may be used
pub record HasRoomFor (nets : List (Option FlatNet)) (count : ℕ) : Type 0 where
  pub room : length nets + count ≤ MAX_NETS

-- what a rule answers: what satisfies the claim, or want of memory, or the fault of its first check
-- that fails
abbrev pub Answers : {T : Type 0} → Result T RuleFault → (T → Type 0) → (RuleFault → Type 0)
    → Type 0
Answers result Claim Fault = MatchResult result Claim (λ f. (f ≡ out_of_memory) ⊎ Fault f)

-- ---- the order of the checks

-- what is left of a row behind its last check: nothing fails
abbrev pub Passed : RuleFault → Type 0
Passed f = ⊥

-- a check and those behind it: it fails, with this fault, or it holds and one of those behind it
-- fails
abbrev pub Unless : Type 0 → RuleFault → (RuleFault → Type 0) → RuleFault → Type 0
Unless Holds fault Rest f = ((Holds → ⊥) × (f ≡ fault)) ⊎ (Holds × Rest f)

-- the net that a rule is about, and the checks behind: there is none, or it is n and one of the
-- checks of n fails
abbrev pub With : (ℕ → Type 0) → (ℕ → RuleFault → Type 0) → RuleFault → Type 0
With IsIt Rest f = (((n : ℕ) → IsIt n → ⊥) × (f ≡ NoNet)) ⊎ ((n : ℕ) × IsIt n × Rest n f)
