-- A fault of the bytes, or of their lines: want of memory is told apart.
use Rattle.std.proofs.Common.{◌≡◌, Some, rules, ⊎_elim}
use Rattle.mv_lex.specs.declared.fault.LexFault.TheVariants.{Memory as short_bytes}
use Rattle.mv_base.specs.declared.limits.TheConstants.{MAX_CERTIFICATE_BYTES}
use Rattle.mv_files.specs.LexedFiles.{HasFault}
use Rattle.mv_step.specs.declared.fault.StepFault.TheVariants.{Memory as short_steps}
use Rattle.mv_step.specs.Certificates.{fault_of}
use Rattle.mv_check.proofs.Takes.{bytes_refused, lines_refused}
use Rattle.mv_check.proofs.take.take_certificate.Goals as goal

pub returns-in-Err-Lex-clause-stops : goal.returns-in-Err-Lex-clause-stops
returns-in-Err-Lex-clause-stops g c =
    let stopped = rw c.in-Err-Lex.field-0-is at c.in-Err-Lex.ensures.stopped in
    ⊎_elim
    (λ (memory : c.in-Err-Lex.fault ≡ short_bytes). absurd (search rules))
    (λ (h : HasFault (g.F.Files.state c.args.files.now) c.args.name.now MAX_CERTIFICATE_BYTES c.in-Err-Lex.fault). bytes_refused _ _ _ h)
    stopped

pub returns-clause-stops : goal.returns-clause-stops
returns-clause-stops g c =
    let told = c.in-Err.ensures.fault in
    ⊎_elim
    (λ (memory : c.in-Err.fault ≡ short_steps). absurd (search rules))
    (λ (h : fault_of c.in-Ok.lines ≡ Some c.in-Err.fault). lines_refused _ _ _ _ _ c.in-Ok.ensures.lexed h)
    told
