-- The commands of scripts.
use Rattle.std.specs.Prelude.{◌≤◌, nat_le, Bool, true, false, ◌&&◌, ◌||◌}
use Rattle.mv_base.specs.declared.limits.TheConstants.{MAX_WINDOW_STEPS}
use Rattle.mv_entry.specs.declared.note.Command.{Command}
use Rattle.mv_entry.specs.declared.note.Command.TheVariants.{Collapse, Simplify}
use Rattle.mv_entry.specs.declared.note.Note.TheVariants.{Begin}
use Rattle.mv_entry.specs.Entries.{Noted, HasVisibleNames, is_visible_name}
use Rattle.mv_script.specs.Scripts.{Items, End, Do, Repeat, Better}

-- each command in items passes the test
abbrev pub all_commands : (Command → Bool) → Items → Bool
all_commands is End = true
all_commands is (Do command rest) = is command && all_commands is rest
all_commands is (Repeat times inside rest) = all_commands is inside && all_commands is rest
all_commands is (Better inside rest) = all_commands is inside && all_commands is rest

-- there is a command in items
abbrev pub has_command : Items → Bool
has_command End = false
has_command (Do command rest) = true
has_command (Repeat times inside rest) = has_command inside || has_command rest
has_command (Better inside rest) = has_command inside || has_command rest

-- ---- names and numbers

-- a command as scripts say it: its name, if it has one, has at least one byte and can be seen, and
-- a window that it names goes no more steps than one may
abbrev pub is_lawful : Command → Bool
is_lawful (Collapse net) = is_visible_name net
is_lawful (Simplify down up) = nat_le down MAX_WINDOW_STEPS && nat_le up MAX_WINDOW_STEPS
is_lawful _ = true

-- all commands in items are such
abbrev pub are_lawful : Items → Bool
are_lawful items = all_commands is_lawful items

-- a window that the command names goes no more steps than one may
abbrev pub HasFewSteps : Command → Type 0
HasFewSteps (Simplify down up) = (down ≤ MAX_WINDOW_STEPS) × (up ≤ MAX_WINDOW_STEPS)
HasFewSteps _ = Unit {0}

-- a command as it runs: the note that it begins can be printed, and its window may be asked for
pub record IsCommand (command : Command) : Type 0 where
  pub names : HasVisibleNames (Noted (Begin command))
  pub steps : HasFewSteps command
