-- What the command `collapse NET` does to a network.
use Rattle.std.specs.Prelude.{◌≡◌, ℕ, ◌<◌, ◌≤◌, Bool, List, [], ◌∷◌}
use Rattle.mv_entry.specs.declared.rule.Rule.TheVariants.{Collapse}
use Rattle.mv_entry.specs.declared.fault.RuleFault.TheVariants.{NoNet, Visible, Unread as unread_net, Shared as shared_net, Wide}
use Rattle.mv_entry.specs.declared.note.Note.TheVariants.{Dropped}
use Rattle.mv_entry.specs.declared.note.Why.{Why}
use Rattle.mv_entry.specs.declared.note.Why.TheVariants.{Literals, Lines, Shared, Seen, Absent, Unread}
use Rattle.mv_entry.specs.Entries.{Entry, Applied, Noted}
use Rattle.mv_net.specs.declared.parts.NetParts.{NetParts}
use Rattle.mv_net.specs.Nets.{literals_in}
use Rattle.mv_rules.specs.Applies.{Applies, LeavesLiterals}
use Rattle.mv_plans.specs.Collapsing.{Collapses, FailsCollapse}

-- the net with this name can go into its readers, and the literals are no more then
pub record CollapsesFreely (net : NetParts) (name : List ℕ) : Type 0 where
  pub new : NetParts
  pub applies : Collapses net name new
  pub no_more : literals_in new.nets ≤ literals_in net.nets

-- it can, but the literals would rise from the one number to the other
pub record RaisesLiterals (net : NetParts) (name : List ℕ) (before after : ℕ) : Type 0 where
  pub now : before ≡ literals_in net.nets
  pub leaves : LeavesLiterals (Collapse name) net after
  pub rises : before < after

-- why the net with this name stays: there is no such net with a table; or it is seen, isn't read,
-- has several readers and may have one of several values, or has a composite that is too wide,
-- which the rule asks in this order; or the literals would rise
abbrev pub StaysFor : NetParts → List ℕ → Why → Type 0
StaysFor net name Absent = FailsCollapse net name NoNet
StaysFor net name Seen = FailsCollapse net name Visible
StaysFor net name Unread = FailsCollapse net name unread_net
StaysFor net name Shared = FailsCollapse net name shared_net
StaysFor net name Lines = FailsCollapse net name Wide
StaysFor net name (Literals before after) = RaisesLiterals net name before after
StaysFor net name _ = ⊥

-- `collapse NET` is one step: the net goes into its readers, with no more literals then, or it is
-- noted why it stays
pub data CollapsesNet (free : Bool) (name : List ℕ) (old : NetParts) (entries : List Entry)
    (new : NetParts) : Type 0 where
  Collapsed : CollapsesFreely old name → Applies free (Collapse name) old new
      → entries ≡ Applied (Collapse name) ∷ [] → CollapsesNet free name old entries new
  Remains : (why : Why) → StaysFor old name why → entries ≡ Noted (Dropped why name) ∷ []
      → new ≡ old → CollapsesNet free name old entries new
