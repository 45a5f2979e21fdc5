-- Lines without a fault.
use Rattle.std.proofs.Common.{◌≡◌, true, false, List, [], ◌∷◌, ◌++◌, refl, ⊎_elim}
use Rattle.std.specs.Prelude.{map}
use Rattle.std.proofs.lemmas.Bool.{cases_Bool}
use Rattle.mv_lex.specs.declared.lines.LexLine.{LexLine}
use Rattle.mv_fault.proofs.Nothing.{left-nothing, right-nothing}
use Rattle.mv_blif_line.specs.declared.command.Command.{Command}
use Rattle.mv_blif_line.specs.declared.command.Command.TheVariants.{Model, Unknown}
use Rattle.mv_blif_line.specs.Commands.{command_at}
use Rattle.mv_blif.specs.declared.known.Known.{Known}
use Rattle.mv_blif.specs.Known.{known}
use Rattle.mv_blif.specs.Grammar.{outside_faults, is_open, inside_faults, line_faults, faults_behind}

-- nothing comes of nothing alone
pub map-nothing : {X Y : Type 0} (f : X → Y) (xs : List X) → map f xs ≡ [] → xs ≡ []
map-nothing f [] e = refl
map-nothing f (x ∷ xs) e = cc

-- a line outside the model has a fault
pub outside-none : (c : Command) (l : LexLine) → outside_faults c l ≡ [] → ⊥
outside-none Unknown l none = cc
outside-none _ l none = cc

-- a line without one has none within the model
pub inside-none : (c : Command) (k : Known) (ls : List LexLine) (l : LexLine) → line_faults c k ls l ≡ [] → inside_faults c k ls l ≡ []
unfolding line_faults
inside-none Model k ls l none = refl
inside-none c k ls l none =
    ⊎_elim
    (λ (y : is_open k ≡ true). rw y at none)
    (λ (n : is_open k ≡ false). absurd (outside-none c l (rw n at none)))
    (cases_Bool (is_open k))

-- the first of these lines, and those behind it
pub here-none : (before : List LexLine) (l : LexLine) (ls : List LexLine) → faults_behind before (l ∷ ls) ≡ []
    → inside_faults (command_at l) (known before) before l ≡ []
here-none before l ls none =
    inside-none (command_at l) (known before) before l (left-nothing (line_faults (command_at l) (known before) before l) (faults_behind (before ++ l ∷ []) ls) none)

pub behind-none : (before : List LexLine) (l : LexLine) (ls : List LexLine) → faults_behind before (l ∷ ls) ≡ []
    → faults_behind (before ++ l ∷ []) ls ≡ []
behind-none before l ls none =
    right-nothing (line_faults (command_at l) (known before) before l) (faults_behind (before ++ l ∷ []) ls) none
