use Rattle.std.proofs.Common.{◌<◌, ◌≤◌, List, length, get_or, All, sym, subst, arith}
use Rattle.std.proofs.lemmas.List.{get_or_default, take_all}
use Rattle.std.proofs.lemmas.List.Elements.{All-get_or, All-set}
use Rattle.mv_kernels.specs.declared.kernel.Kernel.{Kernel}
use Rattle.mv_gains.specs.declared.kernels.Candidate.{Candidate}
use Rattle.mv_gains.specs.Candidates.{IsDivisorFor}
use Rattle.mv_gains.specs.Known.{IsKnown, IsRight}
use Rattle.mv_gains.proofs.Refreshing.{known_more, standing_more}
use Rattle.mv_gains.proofs.worth.refresh_all.Goals as goal

pub returns-in_err-refresh-clause-same : goal.returns-in_err-refresh-clause-same
returns-in_err-refresh-clause-same c =
    let low : c.loop-candidate.candidate-index < length c.loop-candidate.candidates = omega (arith, c.loop-candidate-test.true, c.loop-candidate.auto.candidates) in
    let old = get_or c.loop-candidate.candidates c.loop-candidate.candidate-index c.candidate-item.result in
    standing_more c.args.candidates.now c.loop-candidate.candidates c.loop-candidate.candidate-index old c.refresh.new.candidate low
    (get_or_default c.loop-candidate.candidates c.loop-candidate.candidate-index c.candidate-item.result old low) c.refresh.ensures.kernel c.refresh.ensures.table c.loop-candidate.invariant.same

pub loop-candidate-preserved : goal.loop-candidate-preserved
loop-candidate-preserved c =
    let nets = c.args.net.now.nets in
    let list = c.loop-candidate.candidates in
    let i = c.loop-candidate.candidate-index in
    let low : i < length list = omega (arith, c.loop-candidate-test.true, c.loop-candidate.auto.candidates) in
    let old = get_or list i c.candidate-item.result in
    let new = c.refresh.new.candidate in
    let Divides : Candidate → Type 0 = λ x. IsDivisorFor nets x.kernel.cubes in
    let was : Divides old = All-get_or Divides list i c.candidate-item.result low c.loop-candidate.invariant.divisors in
    record {
      same = standing_more c.args.candidates.now list i old new low (get_or_default list i c.candidate-item.result old low) c.refresh.ensures.kernel c.refresh.ensures.table c.loop-candidate.invariant.same;
      divisors = All-set Divides list i new (subst (λ (k : Kernel). IsDivisorFor nets k.cubes) (sym c.refresh.ensures.kernel) was) c.loop-candidate.invariant.divisors;
      right = All-set (IsRight c.args.covers.now c.args.changed.now c.args.now) list i new c.refresh.ensures.right c.loop-candidate.invariant.right;
      known = known_more c.args.covers.now list i new low c.loop-candidate.invariant.known c.in_ok-refresh.ensures.known;
    }

pub returns-clause-known : goal.returns-clause-known
returns-clause-known c =
    let past : length c.loop-candidate.candidates ≤ c.loop-candidate.candidate-index = omega (arith, c.loop-candidate-test.false, c.loop-candidate.auto.candidates) in
    subst (λ (cs : List Candidate). All (IsKnown c.args.covers.now) cs) (take_all c.loop-candidate.candidate-index c.loop-candidate.candidates past) c.loop-candidate.invariant.known
