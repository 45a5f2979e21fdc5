-- The values so far with which there is a point.
use Rattle.std.proofs.Common.{◌≡◌, Some}
use Rattle.mv_cover.specs.Covers.{cube_reads}
use Rattle.mv_factors.specs.Families.{set_at}
use Rattle.mv_wide.specs.Choosing.{AreListed, in_line}
use Rattle.mv_wide.proofs.Hitting.{AreHit}
use Rattle.mv_wide.proofs.lines.values_hit.Given as goal

abbrev pub invariant-loop-value : goal.invariant-loop-value
invariant-loop-value l = record {
  same : l.factors ≡ l.fn.factors;
  hit : AreListed l.frame.counts.items l.frame.vars.items (cube_reads l.line.cube)
      → AreHit l.frame.counts.items (λ p. set_at l.fn.factors 0 p) (in_line (Some l.fanin) l.frame.vars.items l.frame.own l.line) l.var l.hit l.value;
}
