-- A piece more was read, or nothing was left.
use Rattle.std.proofs.Common.{◌∙◌, ℕ, arith}
use Rattle.std.proofs.lemmas.List.{length-take}
use Rattle.mv_files.proofs.FileReads.{stay_passed, come_more, read_ended}
use Rattle.mv_files.proofs.read.read_on.Goals as goal

pub loop-turn-preserved : goal.loop-turn-preserved
loop-turn-preserved g c =
    let got = rw c.in-Ok-true.field-0-test at c.in-Ok-true.ensures.got in
    let come = come_more _ _ _ _ _ _ _ _ c.loop-turn.invariant.come got (omega (arith, length-take {A = ℕ})) in
    record {
      come = come;
      stay = stay_passed _ _ _ come.passed (omega arith);
      starts = c.in-Ok-true.ensures.starts ∙ c.loop-turn.invariant.starts;
    }

pub returns-in-Ok-false-clause-ok : goal.returns-in-Ok-false-clause-ok
returns-in-Ok-false-clause-ok g c =
    let got = rw c.in-Ok-false.field-0-test at c.in-Ok-false.ensures.got in
    read_ended _ _ _ _ _ _ _ _ c.loop-turn.invariant.come got (omega (arith, length-take {A = ℕ}))
