use Rattle.std.proofs.Common.{◌≡◌, map, take, All}
use Rattle.mv_gains.specs.declared.kernels.Candidate.{Candidate}
use Rattle.mv_gains.specs.Candidates.{IsDivisorFor}
use Rattle.mv_gains.specs.Known.{IsKnown, IsRight, standing}
use Rattle.mv_gains.proofs.worth.refresh_all.Given as goal

abbrev pub invariant-loop-candidate : goal.invariant-loop-candidate
invariant-loop-candidate l = record {
  same : map standing l.candidates ≡ map standing l.fn.candidates;
  divisors : All (λ (c : Candidate). IsDivisorFor l.net.nets c.kernel.cubes) l.candidates;
  right : All (IsRight l.covers l.changed l.now) l.candidates;
  known : All (IsKnown l.covers) (take l.candidate-index l.candidates);
}
