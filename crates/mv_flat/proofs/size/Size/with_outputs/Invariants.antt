use Rattle.std.proofs.Common.{◌≡◌, ◌+◌, ◌*◌, ◌≤◌, ◌^◌, take}
use Rattle.std.specs.List.{flat_map}
use Rattle.mv_cover.specs.declared.cover.Cover.{Cover}
use Rattle.mv_flat.specs.Sized.{with_lines}
use Rattle.mv_flat.proofs.size.Size.with_outputs.Given as goal

abbrev pub invariant-loop-cover : goal.invariant-loop-cover
invariant-loop-cover l =
    record {
      size : l.size ≡ with_lines l.fn.self (flat_map (λ (c : Cover). c.lines) (take l.cover-index l.covers));
      lines : l.size.lines ≤ l.fn.self.lines + 2 ^ 64 * l.cover-index;
      literals : l.size.literals ≤ l.fn.self.literals + 2 ^ 96 * l.cover-index;
    }
