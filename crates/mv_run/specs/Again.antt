-- A check of what an earlier run noted, and certificates that a check refuses.
use Rattle.std.specs.Prelude.{◌≡◌, ◌⊎◌, ℕ, ◌≤◌, Bool, List, ◌++◌, Some, length}
use Rattle.mv_base.specs.Outside.{Held, Stored, Written, Gained, file_named}
use Rattle.mv_base.specs.declared.limits.TheConstants.{MAX_CERTIFICATE_BYTES}
use Rattle.mv_blif_read.specs.declared.network.FileNetwork.{FileNetwork}
use Rattle.mv_entry.specs.declared.fault.RuleFault.{RuleFault}
use Rattle.mv_format.specs.Formats.{Format, network_stage}
use Rattle.mv_net.specs.declared.parts.NetParts.{NetParts}
use Rattle.mv_cert.specs.Certificates.{Certifies, steps_in}
use Rattle.mv_cert.specs.Replay.{FailsAt}
use Rattle.mv_check.specs.Certificates.{certificate_stage}
use Rattle.mv_command_line.specs.CommandLine.{Files}
use Rattle.mv_task.specs.Sources.{File}
use Rattle.mv_task.specs.Stages.{IsRefused, Takes}

-- the same options and network file, with a certificate in the place of the script
abbrev pub checking : Files → List ℕ → Files
checking f certificate = record f { other = certificate }

-- the files of a later run, which tell of themselves as those of an earlier one did, have the same
-- network file, and by the name of a certificate what the notes of the earlier run gained, which
-- isn't longer than a certificate may be
pub record HoldsNoted (net certificate : List ℕ) (earlier later : Stored) (notes notes' : Written)
    : Type 0 where
  pub before : Held
  pub told : earlier.held ≡ Some before
  pub now : Held
  pub tell : later.held ≡ Some now
  pub network : file_named net now.files ≡ file_named net before.files
  pub had : List ℕ
  pub noted : List ℕ
  pub first : notes.told ≡ Some had
  pub gained : notes'.told ≡ Some (had ++ noted)
  pub named : file_named certificate now.files ≡ Some noted
  pub short : length noted ≤ MAX_CERTIFICATE_BYTES

-- two runs wrote the same text
pub record WriteSame (out out' again again' : Written) : Type 0 where
  pub text : List ℕ
  pub first : Gained out out' text
  pub second : Gained again again' text

-- the files hold a network file of this format that is accepted and a certificate that is one
pub record HoldsBoth (format : Format) (net certificate : List ℕ) (files : Stored) : Type 0 where
  pub text : List ℕ
  pub network : Takes (network_stage format (File net)) files text
  pub bytes : List ℕ
  pub rules : Takes (certificate_stage certificate) files bytes

-- and behind some first rules of it, which apply in turn, beginning with the network, one doesn't
pub record HoldsFailing (format : Format) (free : Bool) (net certificate : List ℕ)
    (files : Stored) : Type 0 where
  pub both : HoldsBoth format net certificate files
  pub first : FileNetwork
  pub says : format.IsNet both.text first
  pub last : NetParts
  pub line : ℕ
  pub fault : RuleFault
  pub fails : FailsAt free (steps_in both.bytes) first.net last line fault

-- or its rules apply in turn, beginning with any network of the file
pub record HoldsReplay (format : Format) (free : Bool) (net certificate : List ℕ)
    (files : Stored) : Type 0 where
  pub both : HoldsBoth format net certificate files
  pub leads : (first : FileNetwork) → format.IsNet both.text first
      → (last : NetParts) × Certifies free both.bytes first.net last

-- the certificate is refused: its text, or a rule of it
abbrev pub HoldsRefused : Format → Bool → List ℕ → List ℕ → Stored → Type 0
HoldsRefused format free net certificate files =
    IsRefused (certificate_stage certificate) files
    ⊎ HoldsFailing format free net certificate files
