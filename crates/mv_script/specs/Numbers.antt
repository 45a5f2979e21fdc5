-- The numbers of a script.
use Rattle.std.specs.Prelude.{ℕ, ◌+◌, ◌-◌, ◌*◌, ◌^◌, Bool, ◌&&◌, ◌||◌, if◌then◌else◌, nat_lt, nat_le, Result, Ok, Err, List, [], ◌∷◌, length}
use Rattle.std.specs.List.{list_all}
use Rattle.mv_script.specs.declared.fault.FaultKind.{FaultKind}
use Rattle.mv_script.specs.declared.fault.FaultKind.TheVariants.{Missing, NumberRange}

-- a digit
abbrev pub is_digit : ℕ → Bool
is_digit b = nat_le 48 b && nat_le b 57

-- a number is a word of digits only
abbrev pub is_number : List ℕ → Bool
is_number w = nat_lt 0 (length w) && list_all is_digit w

-- the number that digits say: each counts as often as its place says
abbrev pub number_said : List ℕ → ℕ
number_said [] = 0
number_said (b ∷ bs) = (b - 48) * 10 ^ length bs + number_said bs

-- the number that a word says, which has to be one from the first to the second
unfoldable pub number_from : ℕ → ℕ → List ℕ → Result ℕ FaultKind
number_from least most w =
    if is_number w then
    (if nat_lt (number_said w) least || nat_lt most (number_said w) then Err NumberRange
    else Ok (number_said w))
    else Err Missing
