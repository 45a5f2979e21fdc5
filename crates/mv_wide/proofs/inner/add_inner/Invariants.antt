use Rattle.std.proofs.Common.{◌≡◌, ◌++◌, take}
use Rattle.mv_wide.specs.Inners.{inner_vars, vars_beside}
use Rattle.mv_wide.proofs.inner.add_inner.Given as goal

abbrev pub invariant-loop-place : goal.invariant-loop-place
invariant-loop-place l = inner_vars l.inner.items ≡ inner_vars l.fn.inner.items ++ vars_beside l.vars l.keep (take l.place-counter l.nets)
