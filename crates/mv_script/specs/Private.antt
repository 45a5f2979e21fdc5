-- What private functions alone cite.
use Rattle.std.specs.Prelude.{ℕ, ◌+◌, min, List, map}
use Rattle.mv_base.specs.declared.limits.TheConstants.{MAX_SCRIPT_COMMANDS}

-- the numbers, where one more than the most commands that a script may have stands for all larger
-- ones
abbrev pub all_capped : List ℕ → List ℕ
all_capped counts = map (λ n. min n (MAX_SCRIPT_COMMANDS + 1)) counts
