-- The certificate, read and judged.
use Rattle.std.proofs.Common.{◌≡◌, ◌∙◌, ℕ, List, Some, None, refl, sym, ap}
use Rattle.mv_base.specs.Outside.{Stored}
use Rattle.mv_base.specs.declared.limits.TheConstants.{MAX_CERTIFICATE_BYTES}
use Rattle.mv_lex.specs.declared.fault.LexFault.{LexFault}
use Rattle.mv_lex.specs.declared.lines.LexLine.{LexLine}
use Rattle.mv_files.specs.FileReading.{Stay, BeganOne}
use Rattle.mv_files.specs.LexedFiles.{WasLexed, HasFault}
use Rattle.mv_step.specs.declared.fault.StepFault.{StepFault}
use Rattle.mv_step.specs.declared.step.Step.{Step}
use Rattle.mv_step.specs.Certificates.{fault_of, steps_of}
use Rattle.mv_cert.specs.Certificates.{IsCertificate}
use Rattle.mv_task.specs.Sources.{File, IsContent}
use Rattle.mv_task.specs.Stops.{Gives, RefusesFor, WasBegun}
use Rattle.mv_task.proofs.Contents.{whole_content}
use Rattle.mv_check.specs.declared.fault.CertificateFault.{CertificateFault}
use Rattle.mv_check.specs.declared.fault.CertificateFault.TheVariants.{Lex, Step as step_fault}
use Rattle.mv_check.specs.Certificates.{RefusesText, SaysSteps, certificate_stage}
use Rattle.mv_check.specs.Tellings.{text_line}

-- bytes that are refused for a fault are no certificate
refused_none : (content : List ℕ) (f : CertificateFault) → RefusesText content f → IsCertificate content → ⊥
refused_none content (Lex f) r c = let none = c.lexed in cc
refused_none content (step_fault f) r c = let some = r.1 in let none = c.form in cc

module _ (name : List ℕ) (old : Stored) where
  faulty : (content : List ℕ) (f : CertificateFault) → IsContent (File name) old content → RefusesText content f → RefusesFor text_line (certificate_stage name) old f
  faulty content f is r =
      record { faulty = record { content = content; is = is; refused = refused_none content f r; fault = record { fault = f; refuses = r; is = refl } } }

  pub bytes_refused : (f : LexFault) → HasFault old name MAX_CERTIFICATE_BYTES f → RefusesFor text_line (certificate_stage name) old (Lex f)
  bytes_refused f h = faulty h.content (Lex f) h.named h.fault_is

  pub lines_refused : (new : Stored) (lines : List LexLine) (f : StepFault) → WasLexed old new name MAX_CERTIFICATE_BYTES lines → fault_of lines ≡ Some f → RefusesFor text_line (certificate_stage name) old (step_fault f)
  lines_refused new lines f w e =
      faulty w.content (step_fault f) (whole_content (File name) old new w.content w.read) (w.lexed, ap fault_of (sym w.lines_are) ∙ e)

  pub lines_taken : (new : Stored) (lines : List LexLine) (steps : List Step) → WasLexed old new name MAX_CERTIFICATE_BYTES lines → fault_of lines ≡ None → steps ≡ steps_of lines → Gives SaysSteps (certificate_stage name) old new steps
  lines_taken new lines steps w e is =
      let accepted : IsCertificate w.content = record { lexed = w.lexed; form = ap fault_of (sym w.lines_are) ∙ e } in
      record { content = w.content; read = w.read; accepted = accepted; said = record { accepted = accepted; are = is ∙ ap steps_of w.lines_are } }

  pub certificate_begun : (new : Stored) → Stay old new → BeganOne old new → WasBegun (certificate_stage name) old new
  certificate_begun new stay began = record { stay = stay; begun = began }

pub ruleset takes_certificate = (bytes_refused, lines_refused, lines_taken, certificate_begun)
