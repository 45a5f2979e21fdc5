-- What is put to the notes where a whole script ran.
use Rattle.std.specs.Prelude.{ℕ, ◌≤◌, Bool, List, ◌++◌, length}
use Rattle.mv_base.specs.declared.limits.TheConstants.{MAX_CERTIFICATE_BYTES}
use Rattle.mv_cert.specs.Certificates.{Certifies}
use Rattle.mv_entry.specs.declared.note.Note.TheVariants.{Done}
use Rattle.mv_entry.specs.Entries.{Entry, Noted, entry_text, print}
use Rattle.mv_net.specs.declared.parts.NetParts.{NetParts}
use Rattle.mv_net.specs.Nets.{literals_in}

-- the entries of the script, and the line that it is done, with the literals before and after
abbrev pub all_notes : List Entry → NetParts → NetParts → List ℕ
all_notes entries first net = print entries
    ++ entry_text (Noted (Done (literals_in first.nets) (literals_in net.nets)))

-- they are a certificate of what the script did, where they aren't longer than one may be
abbrev pub IsCertificateOf : Bool → List Entry → NetParts → NetParts → Type 0
IsCertificateOf free entries first net =
    length (all_notes entries first net) ≤ MAX_CERTIFICATE_BYTES
    → Certifies free (all_notes entries first net) first net
