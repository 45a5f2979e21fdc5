-- A word in brackets, and a word alone.
use Rattle.std.proofs.Common.{◌≡◌, ◌∙◌, ℕ, ◌-◌, ◌≤◌, true, false, Some, None, List, [], ◌∷◌, length, refl, arith}
use Rattle.std.specs.List.{slice_split}
use Rattle.std.specs.Prelude.{slice_range}
use Rattle.std.proofs.lemmas.Bool.Decides.{nat_tests}
use Rattle.mv_base.specs.Set.{one}
use Rattle.mv_step.specs.Sets.{is_comma, value_said, values_said, is_in_brackets, set_said}
use Rattle.mv_step.proofs.Unions.{values-alone, values-none}

-- there are two brackets
pub two_bytes : (w : List ℕ) → is_in_brackets w ≡ true → 2 ≤ length w
two_bytes [] y = cc
two_bytes (b ∷ []) y = grind (arith, nat_tests)
two_bytes (a ∷ b ∷ w) y = omega arith

pub set-bracketed : (w : List ℕ) → is_in_brackets w ≡ true → set_said w ≡ values_said (slice_split is_comma (slice_range w 1 (length w - 1)))
unfolding set_said
set-bracketed w y = rw y refl

pub set-word : (w : List ℕ) → is_in_brackets w ≡ false → set_said w ≡ values_said (w ∷ [])
unfolding set_said
set-word w n = rw n refl

pub set-alone : (w : List ℕ) (v : ℕ) → is_in_brackets w ≡ false → value_said w ≡ Some v → set_said w ≡ Some (one v)
set-alone w v n e = set-word w n ∙ values-alone w v e

pub set-refused : (w : List ℕ) → is_in_brackets w ≡ false → value_said w ≡ None → set_said w ≡ None
set-refused w n e = set-word w n ∙ values-none w e

pub ruleset bracketed = (two_bytes, set-bracketed, set-alone, set-refused)
