-- Marks of lines, as sets of bits, which private functions alone cite: a line that lies in another
-- has all marks of that one.
use Rattle.std.specs.Prelude.{◌≡◌, ℕ, zero, suc, ◌+◌, ◌-◌, ◌*◌, ◌/◌, ◌%◌, ◌^◌, ◌≤◌, ◌<◌, Bool, false, ◌&&◌, ◌||◌, nat_eq, bit_and, count_ones, List, [], ◌∷◌, get_or, if◌then◌else◌}
use Rattle.mv_base.specs.Set.{has, empty, one, full, meet, join, minus}
use Rattle.mv_cover.specs.Literal.{Lit}
use Rattle.mv_cover.specs.declared.line.Line.{Line}
use Rattle.mv_cover.specs.declared.marks.Marks.{Marks}

-- ---- marks for nets of few values

-- the bit at the place, unless a value is there
unfoldable pub mark : Bool → ℕ → ℕ
mark there place = if there then empty else one place

-- which of the values 1 and 0 the set hasn't
unfoldable pub set_marks : ℕ → ℕ → ℕ
set_marks set place = join (mark (has set 1) place) (mark (has set 0) (place + 1))

-- the value of a set that has no other
abbrev pub alone : ℕ → ℕ
alone set = count_ones (set - 1)

-- the bit of a set's value, if it has one alone, and all bits for the set without values
unfoldable pub alone_mark : ℕ → ℕ → ℕ
alone_mark set place = if nat_eq set empty then full 64
    else if nat_eq set (one (alone set)) then one ((place + alone set) % 62) else empty

-- where the marks of a net begin
unfoldable pub net_place : ℕ → ℕ
net_place n = 2 * (n % 31)

-- the marks of a literal's set
unfoldable pub narrow_marks : ℕ → ℕ → ℕ
narrow_marks set n = join (set_marks set (net_place n)) (alone_mark set (net_place n))

-- ---- marks for nets of many values

-- the set, with its values from k on brought down by k
unfoldable pub folded : ℕ → ℕ → ℕ
folded k set = join (meet set (full k)) (set / 2 ^ k)

-- the remainders by 8 of the values of a set, whose values are below 8 * 2 ^ k
unfoldable pub remainders : ℕ → ℕ → ℕ
remainders zero set = set
remainders (suc k) set = remainders k (folded (8 * 2 ^ k) set)

-- the remainders by 8 of the set's values, and beside them its values from 8 to 15
unfoldable pub digest : ℕ → ℕ
digest set = join (remainders 7 set) (minus (meet set (full 16)) (full 8))

-- where the marks of a net of many values begin
unfoldable pub window : ℕ → ℕ
window n = 16 * (n % 4)

-- which of the eight remainders none of the set's values has, and which values from 8 to 15 it
-- hasn't
unfoldable pub wide_marks : ℕ → ℕ → ℕ
wide_marks set n = minus (full 16) (digest set) * 2 ^ window n

-- ---- marks of lines

-- the marks of all literals
abbrev pub cube_marks : (ℕ → ℕ → ℕ) → List Lit → ℕ
cube_marks marks [] = empty
cube_marks marks (l ∷ ls) = join (marks l.set l.net.0) (cube_marks marks ls)

-- those of few values, with those of the output, and those of many
unfoldable pub line_marks : Line → Marks
line_marks l =
    record {
      narrow = join (cube_marks narrow_marks l.cube) (set_marks l.out 62);
      wide = cube_marks wide_marks l.cube;
    }

-- each bit of one is one of the other
abbrev pub bits_among : ℕ → ℕ → Bool
bits_among a b = nat_eq (bit_and a b) a

-- each mark of one is one of the other
unfoldable pub are_among : Marks → Marks → Bool
are_among a b = bits_among a.narrow b.narrow && bits_among a.wide b.wide

-- all marks of one are marks of the other
unfoldable pub are_close : Marks → Marks → Bool
are_close a b = are_among a b || are_among b a

-- no marks
abbrev pub no_marks : Marks
no_marks = record { narrow = 0; wide = 0 }

-- none of the marks at these places are close to those
pub record AreFar (own : Marks) (marks : List Marks) (from to : ℕ) : Type 0 where
  pub each : (k : ℕ) → from ≤ k → k < to → are_close own (get_or marks k no_marks) ≡ false
