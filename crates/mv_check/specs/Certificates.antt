-- The certificate that a run takes, or refuses.
use Rattle.std.specs.Prelude.{◌≡◌, ℕ, Some, None, List}
use Rattle.mv_base.specs.declared.limits.TheConstants.{MAX_CERTIFICATE_BYTES}
use Rattle.mv_lex.specs.Lines.{lines_of, lex_fault}
use Rattle.mv_step.specs.declared.step.Step.{Step}
use Rattle.mv_step.specs.Certificates.{fault_of}
use Rattle.mv_cert.specs.Certificates.{IsCertificate, steps_in}
use Rattle.mv_task.specs.Sources.{File}
use Rattle.mv_task.specs.Stages.{Stage}
use Rattle.mv_check.specs.declared.fault.CertificateFault.{CertificateFault}
use Rattle.mv_check.specs.declared.fault.CertificateFault.TheVariants.{Lex, Step as step_fault}
use Rattle.mv_check.specs.Tellings.{text_line}

-- the bytes are no certificate, for this fault
abbrev pub RefusesText : List ℕ → CertificateFault → Type 0
RefusesText bytes (Lex f) = lex_fault MAX_CERTIFICATE_BYTES bytes ≡ Some f
RefusesText bytes (step_fault f) = (lex_fault MAX_CERTIFICATE_BYTES bytes ≡ None)
    × (fault_of (lines_of bytes) ≡ Some f)

-- and the fault has this line
pub record TellsText (bytes line : List ℕ) : Type 0 where
  pub fault : CertificateFault
  pub refuses : RefusesText bytes fault
  pub is : line ≡ text_line fault

-- the bytes are a certificate of these steps
pub record SaysSteps (bytes : List ℕ) (steps : List Step) : Type 0 where
  pub accepted : IsCertificate bytes
  pub are : steps ≡ steps_in bytes

-- the stage of the named certificate
abbrev pub certificate_stage : List ℕ → Stage
certificate_stage name =
    record { from = File name; Accepts = IsCertificate; Faults = TellsText; refusal = 7 }
