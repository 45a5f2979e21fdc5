-- The results of operations on the sets of a list.
use Rattle.std.specs.Prelude.{◌&&◌, ◌||◌, Bool, not}
use Rattle.mv_factors.specs.declared.factors.Operation.{Operation}
use Rattle.mv_factors.specs.declared.factors.Operation.TheVariants.{Meet, Union, Complement}

-- whether a point is in the result, by whether it is in the two sets
abbrev pub result_of : Operation → Bool → Bool → Bool
result_of Meet x y = x && y
result_of Union x y = x || y
result_of Complement x y = not x
