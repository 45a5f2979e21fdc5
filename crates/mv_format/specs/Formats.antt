-- Formats of network files.
use Rattle.std.specs.Prelude.{◌≡◌, Bool, true, List, ℕ}
use Rattle.std.specs.List.{list_all}
use Rattle.mv_base.specs.Meaning.{Meaning, Refines, SameMeaning}
use Rattle.mv_blif_read.specs.declared.network.FileNetwork.{FileNetwork}
use Rattle.mv_design.specs.declared.design.Design.{Design}
use Rattle.mv_entry.specs.declared.rule.Rule.{Rule}
use Rattle.mv_flat.specs.Flat.{IsFlat}
use Rattle.mv_net.specs.declared.parts.NetParts.{NetParts}
use Rattle.mv_net.specs.Formed.{WellFormed}
use Rattle.mv_rules.specs.Applies.{keeps_choices}
use Rattle.mv_rules.specs.Replaying.{Replays}
use Rattle.mv_task.specs.Sources.{Source}
use Rattle.mv_task.specs.Stages.{Stage}
use Rattle.mv_unfold.specs.Sound.{IsSound, of_sound}

-- a format: which bytes are accepted, and the lines that tell the fault of others; the network that
-- they say, with what they say of its latches; the sound design as which they read; the text of
-- such a network; and what a text that is written has of the one that was read besides what is
-- meant
pub record Format : Type 1 where
  pub Accepts : List ℕ → Type 0
  pub Faults : List ℕ → List ℕ → Type 0
  pub IsNet : List ℕ → FileNetwork → Type 0
  pub Reads : List ℕ → Design → Type 0
  pub sound : (bytes : List ℕ) (d : Design) → Reads bytes d → IsSound d
  pub text : FileNetwork → List ℕ
  pub Besides : List ℕ → List ℕ → Type 0

-- the stage of a network
abbrev pub network_stage : Format → Source → Stage
network_stage format source =
    record { from = source; Accepts = format.Accepts; Faults = format.Faults; refusal = 2 }

-- what a file says, with the network that rules left in the place of the file's
abbrev pub left_of : FileNetwork → NetParts → FileNetwork
left_of first net = record { net = net; latches = first.latches }

-- what these rules left may take the place of what was there: where free, it may give values under
-- which that one allows nothing any meaning. Where each of them leaves each choice as it was, and
-- so where there is none, the two mean the same
pub record TakesPlace (free : Bool) (rules : List Rule) (left old : Meaning) : Type 0 where
  pub refines : Refines free left old
  pub same : list_all keeps_choices rules ≡ true → SameMeaning left old

-- bytes that were written read back as a design that takes the place of the one as which those read
-- that were read, as these rules leave it; and of that one this is the network
pub record Replaces (format : Format) (free : Bool) (rules : List Rule) (first : NetParts)
    (read written : List ℕ) : Type 0 where
  pub old : Design
  pub reads : format.Reads read old
  pub flat : IsFlat first old
  pub new : Design
  pub back : format.Reads written new
  pub takes : TakesPlace free rules (of_sound new (format.sound written new back))
      (of_sound old (format.sound read old reads))
  pub besides : format.Besides read written

-- the text of the network that these rules left replaces whatever text said the first network
abbrev pub LeavesPlace : Format → Bool → List Rule → FileNetwork → NetParts → Type 0
LeavesPlace format free rules first net = (text : List ℕ) → format.IsNet text first
    → Replaces format free rules first.net text (format.text (left_of first net))

-- what each format has to keep. A network that a text says is well formed; the text is accepted,
-- and says no other network; and what rules left, applied in turn, replaces what was there
pub record IsLawful (format : Format) : Type 0 where
  pub formed : (text : List ℕ) (f : FileNetwork) → format.IsNet text f → WellFormed f.net
  pub accepted : (text : List ℕ) (f : FileNetwork) → format.IsNet text f → format.Accepts text
  pub only : (text : List ℕ) (one other : FileNetwork) → format.IsNet text one
      → format.IsNet text other → one ≡ other
  pub replaces : (free : Bool) (rules : List Rule) (first : FileNetwork) (net : NetParts)
      → Replays free rules first.net net → LeavesPlace format free rules first net
