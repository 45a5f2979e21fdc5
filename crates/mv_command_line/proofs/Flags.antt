-- The options without a value, and how often each is given.
use Rattle.std.proofs.Common.{◌≡◌, ℕ, suc, ◌+◌, false, Option, codes}
use Rattle.std.specs.Str.{bytes_eq}
use Rattle.clap.specs.Walk.{Text}
use Rattle.mv_command_line.specs.CommandLine.{Parts, Sort, blifs, frees, with_blif, with_free}

pub data Flag : Type 0 where
  free : Flag
  blif : Flag

abbrev pub name_of : Flag → Text
name_of free = codes "free"
name_of blif = codes "blif"

-- the sort of the word that is the flag, and what it makes of the parts behind it
abbrev pub flag_sort : Flag → Sort
flag_sort free = frees
flag_sort blif = blifs

abbrev pub with_flag : Flag → Option Parts → Option Parts
with_flag free parts = with_free parts
with_flag blif parts = with_blif parts

-- how many words are each of them
pub record Flags : Type 0 where
  pub frees : ℕ
  pub blifs : ℕ

abbrev pub no_flags : Flags
no_flags = record { frees = 0; blifs = 0 }

abbrev pub flags_of : Parts → Flags
flags_of p = record { frees = p.frees; blifs = p.blifs }

abbrev pub count : Flag → Flags → ℕ
count free n = n.frees
count blif n = n.blifs

-- one more, and those of both
abbrev pub more : Flag → Flags → Flags
more free n = record n { frees = suc n.frees }
more blif n = record n { blifs = suc n.blifs }

abbrev pub both : Flags → Flags → Flags
both n m = record { frees = n.frees + m.frees; blifs = n.blifs + m.blifs }

-- a name that is neither is no flag's
pub no_name : (name : Text) → bytes_eq (codes "free") name ≡ false → bytes_eq (codes "blif") name ≡ false → (f : Flag) → bytes_eq (name_of f) name ≡ false
no_name name n m free = n
no_name name n m blif = m
