use Rattle.std.proofs.Common.{◌≡◌, ◌<◌, ◌++◌, take, map, true}
use Rattle.mv_acyclic.specs.Columns.{driven_columns}
use Rattle.mv_acyclic.specs.Glance.{inputs_known}
use Rattle.mv_acyclic.proofs.columns.add_known.Given as goal

abbrev pub invariant-loop-output : goal.invariant-loop-output
invariant-loop-output l =
    (l.columns ≡ l.fn.columns ++ map (driven_columns l.numbers l.table) (take l._output-index l._output-items))
    × (0 < l._output-index → inputs_known l.numbers l.table ≡ true)
