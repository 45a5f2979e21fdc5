-- The literals that a collapse leaves, as they are told by the composites of the net's readers.
use Rattle.std.proofs.Common.{◌≡◌, ℕ, ◌+◌, List, ap, arith}
use Rattle.std.specs.List.{sum_by}
use Rattle.mv_base.specs.declared.number.NetId.{NetId}
use Rattle.mv_composite.specs.declared.inner.Inner.{Inner}
use Rattle.mv_entry.specs.declared.rule.Rule.TheVariants.{Collapse}
use Rattle.mv_graph.specs.Nets.{IsAscending}
use Rattle.mv_net.specs.declared.parts.NetParts.{NetParts}
use Rattle.mv_net.specs.Behind.{literals_at}
use Rattle.mv_net.specs.Formed.{WellFormed}
use Rattle.mv_net.specs.Nets.{literals_in, reads_in}
use Rattle.mv_plans.specs.Checks.{IsTabled}
use Rattle.mv_plans.specs.Collapsing.{IsInnerOf}
use Rattle.mv_plans.specs.Composites.{composite_count}
use Rattle.mv_plans.proofs.CompositeLiterals.{collapse_leaves, collapsed_literals}
use Rattle.mv_rules.specs.Applies.{LeavesLiterals}

-- so the rule leaves so many, which `literals_after` answers
pub left_counted : (net : NetParts) (name : List ℕ) (inner : Inner) (readers : List NetId) (count : ℕ) → WellFormed net → IsTabled net.nets name inner.net.0 → IsInnerOf net.nets inner
    → IsAscending (λ m. reads_in net.nets m inner.net.0) readers → LeavesLiterals (Collapse name) net count
    → count + (literals_at net.nets inner.net + sum_by (literals_at net.nets) readers) ≡ literals_in net.nets + sum_by (λ (r : NetId). composite_count net.nets inner r.0) readers
left_counted net name inner readers count formed tabled known is left =
    omega (
      arith,
      left.counted,
      ap (λ (p : NetParts). literals_in p.nets) (collapse_leaves net left.new name inner formed tabled known left.applies),
      collapsed_literals net inner readers formed known is,
    )
