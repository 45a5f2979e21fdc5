-- The faults of a line that names inputs or outputs.
use Rattle.std.specs.Prelude.{ℕ, not, List, [], ◌∷◌, ◌++◌}
use Rattle.mv_base.specs.Names.{among, is_net_name}
use Rattle.mv_fault.specs.declared.fault.ParseFault.{ParseFault}
use Rattle.mv_fault.specs.declared.fault.ParseFault.TheVariants.{Repeated, BadName}
use Rattle.mv_fault.specs.Tells.{when}

-- `.inputs NAMES` and `.outputs NAMES`, behind those that stand there already
abbrev pub port_faults : ℕ → List (List ℕ) → List (List ℕ) → List ParseFault
port_faults n earlier [] = []
port_faults n earlier (w ∷ words) =
    when (not (is_net_name w)) (BadName n w) ++ when (among w earlier) (Repeated n w)
    ++ port_faults n (earlier ++ w ∷ []) words
