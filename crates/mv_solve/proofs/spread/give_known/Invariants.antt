use Rattle.std.proofs.Common.{◌≡◌, ◌<◌, ℕ, true, length}
use Rattle.std.specs.Prelude.{slice_index}
use Rattle.mv_solve.specs.Asked.{takes, asked_of}
use Rattle.mv_solve.specs.Known.{is_only}
use Rattle.mv_solve.proofs.spread.give_known.Given as goal

abbrev pub invariant-loop-number : goal.invariant-loop-number
invariant-loop-number l = record {
  long : length l.values ≡ length l.initial.values;
  given : (m : ℕ) → m < l.number → is_only (asked_of l.known m) ≡ true → takes (asked_of l.known m) (slice_index l.values m) ≡ true;
}
