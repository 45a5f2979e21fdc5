-- The headline of a run.
use Rattle.std.specs.Prelude.{◌≡◌, ℕ, Bool, Option, Some, None, List, ◌++◌}
use Rattle.mv_base.specs.Outside.{Stored, Written, Gained}
use Rattle.mv_cert.specs.Certificates.{steps_in}
use Rattle.mv_cert.specs.Replay.{rules_in}
use Rattle.mv_command_line.specs.CommandLine.{Asked, opt, check, work, trace}
use Rattle.mv_entry.specs.declared.rule.Rule.{Rule}
use Rattle.mv_entry.specs.Entries.{Entry, print, rules_of}
use Rattle.mv_format.specs.Formats.{Format, Replaces}
use Rattle.mv_net.specs.declared.parts.NetParts.{NetParts}
use Rattle.mv_task.specs.Ends.{Outside}
use Rattle.mv_task.specs.Sources.{File, IsContent, IsReadWhole}
use Rattle.mv_run.specs.Doing.{format_by}

-- the rules are those among the entries that the notes gained
pub record AreNoted (old new : Written) (rules : List Rule) : Type 0 where
  pub entries : List Entry
  pub behind : List ℕ
  pub gained : Gained old new (print entries ++ behind)
  pub are : rules ≡ rules_of entries

-- the rules are those of the certificate of this name
pub record AreCertified (name : List ℕ) (files : Stored) (rules : List Rule) : Type 0 where
  pub certificate : List ℕ
  pub is : IsContent (File name) files certificate
  pub are : rules ≡ rules_in (steps_in certificate)

-- the named network file, of this format, was read to its end; and what was written reads back as
-- a design that takes the place of the one that was read, as such rules leave it
pub record IsReplaced (format : Format) (free : Bool) (name : List ℕ)
    (AreRules : List Rule → Type 0) (old new : Outside) : Type 0 where
  pub content : List ℕ
  pub read : IsReadWhole (File name) old.files new.files content
  pub written : List ℕ
  pub gained : Gained old.sinks.out new.sinks.out written
  pub rules : List Rule
  pub are : AreRules rules
  pub first : NetParts
  pub replaces : Replaces format free rules first content written

-- so it is with a task that reads a network file and writes one
abbrev pub ReplacesFile : Option Asked → Outside → Outside → Type 0
ReplacesFile (Some (opt f)) old new =
    IsReplaced (format_by f.blif) f.free f.net (AreNoted old.sinks.notes new.sinks.notes) old new
ReplacesFile (Some (check f)) old new =
    IsReplaced (format_by f.blif) f.free f.net (AreCertified f.other old.files) old new
ReplacesFile (Some (work d)) old new = Unit {0}
ReplacesFile (Some (trace n)) old new = Unit {0}
ReplacesFile None old new = Unit {0}
