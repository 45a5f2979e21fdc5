-- The ports and the name of a model whose lines have no fault.
use Rattle.std.proofs.Common.{◌≡◌, ℕ, Bool, true, false, not, List, [], ◌∷◌, ◌++◌, length, append_assoc, refl, sym, subst}
use Rattle.std.specs.Prelude.{nat_lt}
use Rattle.std.proofs.lemmas.Bool.{not-false}
use Rattle.std.proofs.lemmas.List.{append-nil}
use Rattle.mv_base.specs.Names.{is_net_name, is_model_name}
use Rattle.mv_lex.specs.declared.lines.LexLine.{LexLine}
use Rattle.mv_fault.specs.declared.fault.ParseFault.TheVariants.{BadName, Extra}
use Rattle.mv_fault.specs.Tells.{when}
use Rattle.mv_fault.proofs.Nothing.{left-nothing, when-nothing}
use Rattle.mv_parse_laws.proofs.Names.{IsNames, no-names}
use Rattle.mv_parse_laws.proofs.Ports.{ports-named}
use Rattle.mv_line.specs.Ports.{port_faults}
use Rattle.mv_line.specs.Words.{behind_first, first_of, first_word}
use Rattle.mv_blif_line.specs.declared.command.Command.{Command}
use Rattle.mv_blif_line.specs.declared.command.Command.TheVariants.{Model, Inputs, Outputs}
use Rattle.mv_blif_line.specs.declared.fault.BlifFault.{BlifFault}
use Rattle.mv_blif_line.specs.declared.fault.BlifFault.TheVariants.{Line, SecondModel}
use Rattle.mv_blif_line.specs.Commands.{command_at}
use Rattle.mv_blif_line.specs.Faults.{shared}
use Rattle.mv_blif_line.specs.Heads.{model_faults}
use Rattle.mv_blif.specs.declared.known.Known.{Known}
use Rattle.mv_blif.specs.Known.{known}
use Rattle.mv_blif.specs.Grammar.{inside_faults, line_faults, faults_behind}
use Rattle.mv_blif.specs.Steps.{line_step}
use Rattle.mv_blif.proofs.Knowns.{known-push}
use Rattle.mv_blif_laws.proofs.Faultless.{map-nothing, outside-none, here-none, behind-none}

-- the ports that are known are lawful names, all different
pub record HasPorts (k : Known) : Type 0 where
  pub inputs : IsNames is_net_name k.inputs
  pub outputs : IsNames is_net_name k.outputs

more-named : (n : ℕ) (earlier words : List (List ℕ)) → shared (port_faults n earlier words) ≡ [] → IsNames is_net_name earlier → IsNames is_net_name (earlier ++ words)
more-named n earlier words none h = ports-named n earlier words (map-nothing Line (port_faults n earlier words) none) h

ports-step : (c : Command) (k : Known) (before : List LexLine) (l : LexLine) → HasPorts k → inside_faults c k before l ≡ [] → HasPorts (line_step c l k)
ports-step Inputs k before l h none = record { inputs = more-named l.number k.inputs (behind_first l) none h.inputs; outputs = h.outputs }
ports-step Outputs k before l h none = record { inputs = h.inputs; outputs = more-named l.number k.outputs (behind_first l) none h.outputs }
ports-step _ k before l h none = record { inputs = h.inputs; outputs = h.outputs }

pub ports-fit : (before ls : List LexLine) → HasPorts (known before) → faults_behind before ls ≡ [] → HasPorts (known (before ++ ls))
ports-fit before [] h none = let P : List LexLine → Type 0 = λ ls. HasPorts (known ls) in subst P (sym (append-nil before)) h
ports-fit before (l ∷ ls) h none =
    let P : List LexLine → Type 0 = λ xs. HasPorts (known xs) in
    let step = ports-step (command_at l) (known before) before l h (here-none before l ls none) in
    subst P (append_assoc before (l ∷ []) ls)
    (ports-fit (before ++ l ∷ []) ls (subst HasPorts (sym (known-push before l)) step) (behind-none before l ls none))

pub no-ports : HasPorts (known [])
unfolding known
no-ports = record { inputs = no-names is_net_name; outputs = no-names is_net_name }

-- ---- the name

name-lawful : (n : ℕ) (word : List ℕ) (begun : Bool) (words : List (List ℕ)) → model_faults n word begun words ≡ [] → is_model_name (first_of words) ≡ true
unfolding model_faults
name-lawful n word begun [] none = cc
name-lawful n word begun (w ∷ words) none =
    let bad : List BlifFault = when (not (is_model_name w)) (Line (BadName n w)) in
    let second : List BlifFault = when begun (SecondModel n w) in
    let extra : List BlifFault = when (nat_lt 0 (length words)) (Line (Extra n word)) in
    not-false _ (when-nothing _ _ (left-nothing bad second (left-nothing (bad ++ second) extra none)))

-- the first line begins the model
pub record Begins (l : LexLine) : Type 0 where
  pub model : command_at l ≡ Model
  pub name : is_model_name (first_of (behind_first l)) ≡ true

line-begins : (c : Command) (l : LexLine) → command_at l ≡ c → line_faults c (known []) [] l ≡ [] → Begins l
unfolding line_faults known
line-begins Model l is none = record { model = is; name = name-lawful l.number (first_word l) false (behind_first l) none }
line-begins c l is none = absurd (outside-none c l none)

pub begins : (l : LexLine) (ls : List LexLine) → faults_behind [] (l ∷ ls) ≡ [] → Begins l
begins l ls none = line-begins (command_at l) l refl (left-nothing (line_faults (command_at l) (known []) [] l) (faults_behind (l ∷ []) ls) none)
