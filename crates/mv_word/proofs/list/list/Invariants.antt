use Rattle.std.proofs.Common.{◌≡◌, ◌≤◌, ◌-◌, ◌+◌, ◌==◌, length, drop}
use Rattle.std.specs.List.{slice_split}
use Rattle.mv_base.specs.Set.{empty}
use Rattle.mv_word.specs.Entries.{items_of}
use Rattle.mv_word.proofs.list.list.Given as goal

abbrev pub invariant-items : goal.invariant-items
invariant-items l = record {
  within : l.from ≤ length l.bytes;
  items : items_of l.values empty (slice_split (λ b. b == 44) l.bytes) ≡ items_of l.values l.set (slice_split (λ b. b == 44) (drop l.from l.bytes));
}

abbrev pub decreases-items : goal.decreases-items
decreases-items l = length l.bytes + 1 - l.from
