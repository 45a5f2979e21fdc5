-- The steps that printed entries are read back as.
use Rattle.std.specs.Prelude.{ℕ, ◌+◌, List, [], ◌∷◌, length}
use Rattle.mv_entry.specs.Entries.{Entry, Applied, Noted, rule_lines}
use Rattle.mv_step.specs.declared.step.Step.{Step}

-- the rules of the entries, each with the number of its first line, where the first line of all has
-- this number. A note takes a line, and is no step
abbrev pub steps_told : ℕ → List Entry → List Step
steps_told number [] = []
steps_told number (Applied rule ∷ entries) = record { line = number; rule = rule }
    ∷ steps_told (number + length (rule_lines rule)) entries
steps_told number (Noted note ∷ entries) = steps_told (number + 1) entries
