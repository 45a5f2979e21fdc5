use Rattle.std.proofs.Common.{◌≡◌, ◌≤◌, take, All}
use Rattle.mv_base.specs.declared.limits.TheConstants.{MAX_VALUES as most_values}
use Rattle.mv_flat.specs.Gathered.{counts_of}
use Rattle.mv_flat.proofs.values.counts_of.Given as goal

abbrev pub invariant-loop-net : goal.invariant-loop-net
invariant-loop-net l = record {
  counts : l.counts.items ≡ counts_of l.decls (take l.net-index l.nets);
  few : All (λ n. n ≤ most_values) l.counts.items;
}
