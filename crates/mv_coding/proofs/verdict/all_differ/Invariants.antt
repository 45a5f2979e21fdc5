use Rattle.std.proofs.Common.{◌≡◌, length}
use Rattle.mv_codes.specs.Codes.{codes_differ}
use Rattle.mv_coding.proofs.verdict.all_differ.Given as goal

abbrev pub invariant-looking : goal.invariant-looking
invariant-looking l = codes_differ l.rest ≡ codes_differ l.fn.codes

abbrev pub decreases-looking : goal.decreases-looking
decreases-looking l = length l.rest
