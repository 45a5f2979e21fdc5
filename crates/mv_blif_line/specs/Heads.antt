-- The faults of lines that begin or end a model, name its ports or begin a table.
use Rattle.std.specs.Prelude.{ℕ, Bool, not, ◌==◌, nat_lt, List, [], ◌∷◌, ◌++◌, length}
use Rattle.mv_base.specs.Names.{is_model_name}
use Rattle.mv_fault.specs.declared.fault.ParseFault.TheVariants.{Missing, Extra, BadName}
use Rattle.mv_fault.specs.Tells.{when}
use Rattle.mv_table.specs.Columns.{names_faults}
use Rattle.mv_line.specs.Ports.{port_faults}
use Rattle.mv_blif_line.specs.declared.fault.BlifFault.{BlifFault}
use Rattle.mv_blif_line.specs.declared.fault.BlifFault.TheVariants.{Line, SecondModel}
use Rattle.mv_blif_line.specs.Faults.{shared}

-- `.model NAME`: exactly one word, and no line before begins a model
unfoldable pub model_faults : ℕ → List ℕ → Bool → List (List ℕ) → List BlifFault
model_faults n word begun [] = Line (Missing n word) ∷ []
model_faults n word begun (w ∷ words) =
    when (not (is_model_name w)) (Line (BadName n w)) ++ when begun (SecondModel n w)
    ++ when (nat_lt 0 (length words)) (Line (Extra n word))

-- `.inputs NAMES` and `.outputs NAMES`, behind those that stand there already
abbrev pub ports_faults : ℕ → List (List ℕ) → List (List ℕ) → List BlifFault
ports_faults n earlier words = shared (port_faults n earlier words)

-- `.names IN.. OUT`: at least one name, each of them a column
unfoldable pub columns_faults : ℕ → List ℕ → List (List ℕ) → List BlifFault
columns_faults n word words = shared (names_faults n 0 words)
    ++ when (length words == 0) (Line (Missing n word))

-- `.end`: no further word
unfoldable pub end_faults : ℕ → List ℕ → List (List ℕ) → List BlifFault
end_faults n word words = when (nat_lt 0 (length words)) (Line (Extra n word))
