-- What is known of the tables of readers and of bits.
use Rattle.std.specs.Prelude.{◌≡◌, ◌↔◌, ◌⊎◌, ℕ, ◌+◌, ◌<◌, ◌≤◌, ◌^◌, true, false, nat_eq, List, length, slice_index}
use Rattle.mv_base.specs.declared.limits.TheConstants.{MAX_CODE_BITS, MAX_NETS}
use Rattle.mv_cover.specs.declared.cover.Cover.{Cover}
use Rattle.mv_cover.specs.Covers.{allowed, cover_reads}
use Rattle.mv_cover.specs.Covering.{changed}
use Rattle.mv_entry.specs.declared.rule.Code.{Code}
use Rattle.mv_codes.specs.declared.coding.Coding.{Coding}
use Rattle.mv_codes.specs.Codes.{bit_number, bit_of}
use Rattle.mv_codes.specs.CodeCubes.{AreBits}
use Rattle.mv_codes.specs.Tables.{value_at}

-- there is a value for each code, and numbers for the bits
pub record IsCoding (coding : Coding) : Type 0 where
  pub whole : length coding.values ≡ 2 ^ coding.bits
  pub few : coding.bits ≤ MAX_CODE_BITS
  pub low : coding.first.0 ≤ MAX_NETS

-- the new cover allows what the old one does where the net has the value that the bits count as
pub record AllowsCoded (coding : Coding) (old new : Cover) : Type 0 where
  pub same : (at : ℕ → ℕ) → AreBits at coding.first.0 coding.bits → (v : ℕ)
      → allowed new at v ≡ allowed old (changed coding.net.0 (value_at coding at) at) v

-- m is one of the nets of the bits
abbrev pub IsBitNet : Coding → ℕ → Type 0
IsBitNet coding m = (coding.first.0 ≤ m) × (m < coding.first.0 + coding.bits)

-- the new cover reads what the old one does, but the net, and bits
pub record ReadsCoded (coding : Coding) (old new : Cover) : Type 0 where
  pub only : (m : ℕ) → cover_reads new m ≡ true
      → ((cover_reads old m ≡ true) × (nat_eq m coding.net.0 ≡ false)) ⊎ IsBitNet coding m

-- the new counts are the old ones on all nets but the net, and two on the bits
pub record AreCodedCounts (coding : Coding) (old new : List ℕ) : Type 0 where
  pub others : (m : ℕ) → nat_eq m coding.net.0 ≡ false → 0 < slice_index old m
      → slice_index new m ≡ slice_index old m
  pub bits : (m : ℕ) → IsBitNet coding m → slice_index new m ≡ 2

-- the new cover allows the bits at place k of the codes of the values that the old one allows
pub record AllowsBits (codes : List Code) (k : ℕ) (old new : Cover) : Type 0 where
  pub bits : (at : ℕ → ℕ) (b : ℕ)
      → (allowed new at b ≡ true)
      ↔ ((v : ℕ) × (v < length codes) × (allowed old at v ≡ true)
      × (bit_number (bit_of codes k v) ≡ b))
