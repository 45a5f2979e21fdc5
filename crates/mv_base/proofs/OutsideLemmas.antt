-- Counts of faults, as users of files and sinks cite them.
use Rattle.std.proofs.Common.{ℕ, ◌≤◌, arith}
use Rattle.mv_base.specs.Outside.{Rose}

pub Rose-earlier : (first before now : ℕ) → first ≤ before → Rose before now → Rose first now
Rose-earlier first before now earlier rose = omega arith
