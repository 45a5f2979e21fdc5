-- What the tables of a net's readers, and the tables of the bits, are once the net's values are
-- encoded.
use Rattle.std.specs.Prelude.{ℕ, zero, suc, Bool, true, false, nat_eq, Option, Some, None, List, [], ◌∷◌, map, length, slice_index, if◌then◌else◌}
use Rattle.std.specs.Bool.{beq}
use Rattle.std.specs.List.{flat_map}
use Rattle.mv_base.specs.Set.{empty, one, join, meet}
use Rattle.mv_cover.specs.Literal.{Lit}
use Rattle.mv_cover.specs.declared.line.Line.{Line}
use Rattle.mv_cover.specs.declared.cover.Cover.{Cover}
use Rattle.mv_cover.specs.Meets.{literal_at, met}
use Rattle.mv_cover.specs.Cofactors.{cube_without}
use Rattle.mv_cover.specs.Complement.{lines_for}
use Rattle.mv_cover.specs.Absorb.{absorbed}
use Rattle.mv_entry.specs.declared.rule.Code.{Code}
use Rattle.mv_codes.specs.declared.coding.Coding.{Coding}
use Rattle.mv_codes.specs.declared.bits.Split.{Split}
use Rattle.mv_codes.specs.Codes.{bit_of, bits_in, code_values}
use Rattle.mv_codes.specs.CodeCubes.{marks_of, code_cubes, number_at}

-- the coding of the net n by these codes, whose bits are nets from `first` on
unfoldable pub coding_of : ℕ → ℕ → List Code → Coding
coding_of n first codes =
    record {
      net = record { 0 = n };
      first = record { 0 = first };
      bits = bits_in codes;
      values = code_values codes (bits_in codes);
    }

-- the value that the bits of the coding count as
abbrev pub value_at : Coding → (ℕ → ℕ) → ℕ
value_at coding at = slice_index coding.values (number_at at coding.first.0 coding.bits)

-- ---- a reader's table

-- the cubes of all codes that count as a value of the set
abbrev pub set_cubes : Coding → ℕ → List (List Lit)
set_cubes coding set = code_cubes coding.bits coding.first.0 (marks_of coding.values set)

-- the line, where nothing is asked of the net; else one line for each code cube of what is asked
abbrev pub line_by : Coding → Line → Option ℕ → List Line
line_by coding l None = l ∷ []
line_by coding l (Some set) =
    lines_for l.out (flat_map (met (cube_without coding.net.0 l.cube)) (set_cubes coding set))

-- what a reader's line becomes
unfoldable pub line_coded : Coding → Line → List Line
line_coded coding l = line_by coding l (literal_at l.cube coding.net.0)

-- the reader's table, absorbed
unfoldable pub reader_coded : Coding → Cover → Cover
reader_coded coding c =
    absorbed (record { lines = flat_map (line_coded coding) c.lines; default = c.default })

-- ---- the table of a bit

-- those of the values below n whose codes have this bit at place k
abbrev pub values_with : List Code → ℕ → Bool → ℕ → ℕ
values_with codes k bit zero = empty
values_with codes k bit (suc n) =
    if beq (bit_of codes k n) bit then join (values_with codes k bit n) (one n)
    else values_with codes k bit n

-- the values whose codes have 0 at place k, and those whose codes have 1 there
unfoldable pub split_of : List Code → ℕ → Split
split_of codes k =
    record {
      zeros = values_with codes k false (length codes);
      ones = values_with codes k true (length codes);
    }

-- the set of the bit alone, if the two sets meet
abbrev pub bit_if_meet : ℕ → ℕ → ℕ → ℕ
bit_if_meet bit a b = if nat_eq (meet a b) empty then empty else one bit

-- the bits of the set's values
unfoldable pub bit_image : Split → ℕ → ℕ
bit_image split set = join (bit_if_meet 0 set split.zeros) (bit_if_meet 1 set split.ones)

-- the line with the bits of its values
abbrev pub line_bit : Split → Line → Line
line_bit split l = record { cube = l.cube; out = bit_image split l.out }

-- the bits of the values of the default, if there is one
abbrev pub default_bit : Split → Option ℕ → Option ℕ
default_bit split None = None
default_bit split (Some out) = Some (bit_image split out)

-- the table of the bit at place k: the net's table with the bits of its values
unfoldable pub bit_table : List Code → ℕ → Cover → Cover
bit_table codes k c =
    record {
      lines = map (line_bit (split_of codes k)) c.lines;
      default = default_bit (split_of codes k) c.default;
    }
