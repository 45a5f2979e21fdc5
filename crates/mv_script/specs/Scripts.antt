-- Scripts: lists of items, of which some have a script inside.
use Rattle.std.specs.Prelude.{ℕ, ◌+◌, ◌*◌, max, nat_lt, if◌then◌else◌, Option, Some, None, List, [], ◌∷◌}
use Rattle.mv_base.specs.declared.limits.TheConstants.{MAX_SCRIPT_COMMANDS}
use Rattle.mv_entry.specs.declared.note.Command.{Command}
use Rattle.mv_script.specs.declared.script.Script.{Script, End as no_more, Do', Repeat', Better'}

-- the items of a script, the first one before the others
pub data Items : Type 0 where
  End : Items
  Do : (command : Command) → (rest : Items) → Items
  Repeat : (times : ℕ) → (inside : Items) → (rest : Items) → Items
  Better : (inside : Items) → (rest : Items) → Items

-- the items of a script, wherever they stand in memory
abbrev pub items_of : Script → Items
items_of no_more = End
items_of (Do' command p rest) = Do command (items_of rest)
items_of (Repeat' times p inside q rest) = Repeat times (items_of inside) (items_of rest)
items_of (Better' p inside q rest) = Better (items_of inside) (items_of rest)

-- the commands unfolded: what `repeat` holds counts as often as it runs
abbrev pub commands_in : Items → ℕ
commands_in End = 0
commands_in (Do command rest) = 1 + commands_in rest
commands_in (Repeat times inside rest) = times * commands_in inside + commands_in rest
commands_in (Better inside rest) = commands_in inside + commands_in rest

-- how many braces are open at one place, at most
abbrev pub deepest : Items → ℕ
deepest End = 0
deepest (Do command rest) = deepest rest
deepest (Repeat times inside rest) = max (1 + deepest inside) (deepest rest)
deepest (Better inside rest) = max (1 + deepest inside) (deepest rest)

-- the commands of each item that stands in no braces
abbrev pub item_counts : Items → List ℕ
item_counts End = []
item_counts (Do command rest) = 1 ∷ item_counts rest
item_counts (Repeat times inside rest) = (times * commands_in inside) ∷ item_counts rest
item_counts (Better inside rest) = commands_in inside ∷ item_counts rest

-- the place that stands beside the number with which these, and so many before them, first pass the
-- limit
abbrev pub passing : ℕ → List ℕ → List ℕ → Option ℕ
passing n [] places = None
passing n (c ∷ cs) [] = None
passing n (c ∷ cs) (p ∷ ps) = if nat_lt MAX_SCRIPT_COMMANDS (n + c) then Some p
    else passing (n + c) cs ps
