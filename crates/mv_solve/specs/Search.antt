-- What is seen of a solver.
use Rattle.std.specs.Prelude.{ℕ, List}
use Rattle.mv_base.specs.declared.number.NetId.{NetId}
use Rattle.mv_solve.specs.declared.asked.Asked.{Asked}

-- the order in which nets take values; by number what is asked of each, and its value
pub record Search : Type 0 where
  pub order : List NetId
  pub asked : List Asked
  pub values : List ℕ
