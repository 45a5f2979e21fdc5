-- Certificates: which bytes are one, and what it leads to.
use Rattle.std.specs.Prelude.{◌≡◌, ℕ, Bool, None, List}
use Rattle.mv_base.specs.declared.limits.TheConstants.{MAX_CERTIFICATE_BYTES}
use Rattle.mv_lex.specs.Lines.{lines_of, lex_fault}
use Rattle.mv_net.specs.declared.parts.NetParts.{NetParts}
use Rattle.mv_rules.specs.Replaying.{Replays}
use Rattle.mv_step.specs.declared.step.Step.{Step}
use Rattle.mv_step.specs.Certificates.{fault_of, steps_of}
use Rattle.mv_cert.specs.Replay.{rules_in}

-- the bytes are a certificate: neither they nor their lines have a fault
pub record IsCertificate (bytes : List ℕ) : Type 0 where
  pub lexed : lex_fault MAX_CERTIFICATE_BYTES bytes ≡ None
  pub form : fault_of (lines_of bytes) ≡ None

-- the steps of a certificate
abbrev pub steps_in : List ℕ → List Step
steps_in bytes = steps_of (lines_of bytes)

-- the bytes are a certificate whose rules apply in turn, and lead from the first network to the
-- other
pub record Certifies (free : Bool) (bytes : List ℕ) (first net : NetParts) : Type 0 where
  pub accepted : IsCertificate bytes
  pub replays : Replays free (rules_in (steps_in bytes)) first net
