-- On the way through `collapse NET`: why the net stays. For private functions.
use Rattle.std.specs.Prelude.{Option, Some, None}
use Rattle.mv_entry.specs.declared.fault.RuleFault.{RuleFault}
use Rattle.mv_entry.specs.declared.fault.RuleFault.TheVariants.{NoNet, Visible, Unread as unread_net, Shared as shared_net, Wide}
use Rattle.mv_entry.specs.declared.note.Why.{Why}
use Rattle.mv_entry.specs.declared.note.Why.TheVariants.{Lines, Shared, Seen, Absent, Unread}

-- the note of a check of the rule `collapse` that fails; no other check is one of its
abbrev pub why_for : RuleFault → Option Why
why_for NoNet = Some Absent
why_for Visible = Some Seen
why_for unread_net = Some Unread
why_for shared_net = Some Shared
why_for Wide = Some Lines
why_for _ = None
