-- How the nets of a model are gathered, command by command.
use Rattle.std.specs.Prelude.{ℕ, List, [], ◌∷◌, ◌++◌, if◌then◌else◌}
use Rattle.mv_base.specs.Names.{among}
use Rattle.mv_design.specs.Nets.{Naming}

-- names with one more behind them, if it isn't one of them
abbrev pub with_name : List (List ℕ) → List ℕ → List (List ℕ)
with_name names w = if among w names then names else names ++ w ∷ []

-- names with those of others behind them that they lack, each once, where it first stands
abbrev pub with_names : List (List ℕ) → List (List ℕ) → List (List ℕ)
with_names names [] = names
with_names names (w ∷ ws) = with_names (with_name names w) ws

-- names with those of commands
abbrev pub with_named : List (List ℕ) → List Naming → List (List ℕ)
with_named names [] = names
with_named names (n ∷ ns) = with_named (with_names names n.nets) ns
