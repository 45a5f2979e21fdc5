-- The rules among the entries of scripts apply in turn.
use Rattle.std.proofs.Common.{◌∙◌, ℕ, Bool, true, List, refl, sym, ap, subst}
use Rattle.std.proofs.lemmas.List.{append-nil}
use Rattle.mv_choose.specs.Choices.{Determinizing}
use Rattle.mv_choose.proofs.Determinized.{determinizes_replay}
use Rattle.mv_collapse.specs.Collapses.{CollapsesNet, Collapsed, Remains}
use Rattle.mv_eliminate.specs.Eliminates.{IsEliminateStep, CollapsesAll, Eliminates, NotesWide, Skips, Tells}
use Rattle.mv_eliminate.proofs.Eliminated.{all_some}
use Rattle.mv_encode.proofs.Visited.{encodes_replay, all_some as encodes_all_some}
use Rattle.mv_extract.proofs.Replays.{kernels_replay, cubes_replay, kernels_all_some, cubes_all_some}
use Rattle.mv_entry.specs.declared.note.Command.{Command}
use Rattle.mv_entry.specs.declared.note.Command.TheVariants.{Drop, Sweep, Eliminate, Collapse, Kernel, Cube, Simplify, Merge, Default, Determinize, Encode, Fill}
use Rattle.mv_entry.specs.Entries.{Entry, rules_of}
use Rattle.mv_merge.proofs.Merged.{merges_replay}
use Rattle.mv_net.specs.declared.parts.NetParts.{NetParts}
use Rattle.mv_pass.specs.Courses.{Perhaps, Still, Through, VisitsSome, Short, Past}
use Rattle.mv_pass.specs.Going.{Before, Within, Behind}
use Rattle.mv_pass.proofs.Going.{goes_replays, rules_of-append, ReplaysRules, replays_then}
use Rattle.mv_pass.proofs.Turns.{Implies, of_turn, of_visits}
use Rattle.mv_pass.proofs.Visiting.{all_visits}
use Rattle.mv_rules.specs.Replaying.{Replays}
use Rattle.mv_rules.specs.declared.terms.Terms.{Terms}
use Rattle.mv_script.specs.Scripts.{Items}
use Rattle.mv_fill.proofs.Filled.{fills_replays}
use Rattle.mv_sweep.specs.Drops.{IsDropStep}
use Rattle.mv_sweep.specs.Sweeps.{IsSweepStep}
use Rattle.mv_simplify.specs.Simplifies.{SimplifiesNet}
use Rattle.mv_simplify.proofs.Simplified.{some_replays}
use Rattle.mv_values.specs.Defaults.{Defaulting}
use Rattle.mv_values.proofs.Defaulted.{defaults_replay}
use Rattle.mv_visit.specs.Visits.{Treats}
use Rattle.mv_script_run.specs.Commands.{WholeOf, PartOf, DoesCommand, BegunCommand}
use Rattle.mv_script_run.specs.Runs.{Runs, RunsTo}
use Rattle.mv_script_run.proofs.Inductions.{of_items, of_stopped, any_commands}

-- ---- the steps of a command

-- a note of a net is no rule
wide_replays : (free : Bool) (n : ℕ) → Implies (NotesWide n) (ReplaysRules free)
wide_replays free n a es b (Skips narrow still) = subst (λ z. Replays free (rules_of z) a b) (sym still.0) still.1
wide_replays free n a es b (Tells wide is same) = subst (λ z. Replays free (rules_of z) a b) (sym is) same

wide_notes_replay : (free : Bool) → Implies (VisitsSome NotesWide) (ReplaysRules free)
wide_notes_replay free a es b v = of_visits (ReplaysRules free) (λ n. refl) (replays_then free) NotesWide (wide_replays free) v.end a es b v.visits

eliminates_replays : (free : Bool) → Implies (Eliminates free) (ReplaysRules free)
eliminates_replays free a es b (Short collapses) = goes_replays free IsEliminateStep a b es collapses
eliminates_replays free a es b (Past turn) =
    of_turn (ReplaysRules free) (λ n. refl) (replays_then free) (CollapsesAll free) (VisitsSome NotesWide)
    (λ a xs b g. goes_replays free IsEliminateStep a b xs g.steps) (wide_notes_replay free) a es b turn

-- the one step of `collapse NET`
collapses_replays : (free : Bool) (name : List ℕ) (a b : NetParts) (steps : List Entry) → CollapsesNet free name a steps b → Replays free (rules_of steps) a b
collapses_replays free name a b steps (Collapsed f applies is) = subst (λ es. Replays free (rules_of es) a b) (sym is) (b, (applies, refl))
collapses_replays free name a b steps (Remains why stays is same) = subst (λ es. Replays free (rules_of es) a b) (sym is) same

collapse_replays : (free : Bool) (name : List ℕ) (a b : NetParts) (steps : List Entry) → Perhaps (CollapsesNet free name) a steps b → Replays free (rules_of steps) a b
collapse_replays free name a b steps (Still still) = subst (λ es. Replays free (rules_of es) a b) (sym still.0) still.1
collapse_replays free name a b steps (Through c) = collapses_replays free name a b steps c

-- the rules among the steps of a command that has come a part of its way apply in turn
part_replays : (terms : Terms) (c : Command) (a b : NetParts) (steps : List Entry) → PartOf terms c a steps b → Replays terms.free (rules_of steps) a b
part_replays terms Drop a b steps g = goes_replays terms.free IsDropStep a b steps g
part_replays terms Sweep a b steps g = goes_replays terms.free IsSweepStep a b steps g
part_replays terms Eliminate a b steps e = eliminates_replays terms.free a steps b e
part_replays terms (Collapse name) a b steps g = collapse_replays terms.free name a b steps g
part_replays terms Kernel a b steps g = kernels_replay terms.free a steps b g
part_replays terms Cube a b steps g = cubes_replay terms.free a steps b g
part_replays terms (Simplify down up) a b steps g = some_replays terms.free terms down up a b steps g
part_replays terms Merge a b steps g = merges_replay terms.free a b steps g
part_replays terms Default a b steps g = defaults_replay terms.free a b steps g
part_replays terms Determinize a b steps g = determinizes_replay terms.free a b steps g
part_replays terms Encode a b steps g = encodes_replay terms.free a b steps g
part_replays terms Fill a b steps g = fills_replays terms.free a b steps g

-- the whole way is a part of it too
whole_part : (terms : Terms) (c : Command) (a b : NetParts) (steps : List Entry) → WholeOf terms c a steps b → PartOf terms c a steps b
whole_part terms Drop a b steps g = g.steps
whole_part terms Sweep a b steps g = g.steps
whole_part terms Eliminate a b steps e = all_some terms.free a b steps e
whole_part terms (Collapse name) a b steps g = Through g
whole_part terms Kernel a b steps g = kernels_all_some terms.free a steps b g
whole_part terms Cube a b steps g = cubes_all_some terms.free a steps b g
whole_part terms (Simplify down up) a b steps g = all_visits (SimplifiesNet terms down up) a b steps g
whole_part terms Merge a b steps g = g.steps
whole_part terms Default a b steps g = all_visits (Treats Defaulting) a b steps g
whole_part terms Determinize a b steps g = all_visits (Treats Determinizing) a b steps g
whole_part terms Encode a b steps g = encodes_all_some a b steps g
whole_part terms Fill a b steps g = g.tables

pub whole_replays : (terms : Terms) (c : Command) (a b : NetParts) (steps : List Entry) → WholeOf terms c a steps b → Replays terms.free (rules_of steps) a b
whole_replays terms c a b steps g = part_replays terms c a b steps (whole_part terms c a b steps g)

-- ---- whole commands, and those that stop

module _ (terms : Terms) (c : Command) (a b : NetParts) (es : List Entry) where
  -- the notes of a command's beginning and end are no rules
  pub does_replays : DoesCommand terms c a es b → Replays terms.free (rules_of es) a b
  does_replays d =
      subst (λ rs. Replays terms.free rs a b) (sym (ap rules_of d.entries_are ∙ (rules_of-append d.steps _ ∙ append-nil (rules_of d.steps)))) (whole_replays terms c a b d.steps d.course)

  begun_replays : BegunCommand terms c a es b → Replays terms.free (rules_of es) a b
  begun_replays (Before none same) = subst (λ xs. Replays terms.free (rules_of xs) a b) (sym none) same
  begun_replays (Within p) = subst (λ rs. Replays terms.free rs a b) (sym (ap rules_of p.entries_are)) (part_replays terms c a b p.steps p.course)
  begun_replays (Behind d) = does_replays d

-- ---- scripts

pub runs_replays : (terms : Terms) (items : Items) (a b : NetParts) (es : List Entry) → Runs terms items a es b → Replays terms.free (rules_of es) a b
runs_replays terms items a b es r =
    of_items terms (ReplaysRules terms.free) (λ n. refl) (replays_then terms.free) (λ c. true) (λ c h m fs n d. does_replays terms c m n fs d) items (any_commands items) a es b r

pub stops_replays : (terms : Terms) (items : Items) (a b : NetParts) (es : List Entry) → RunsTo terms items a es b → Replays terms.free (rules_of es) a b
stops_replays terms items a b es r =
    of_stopped terms (ReplaysRules terms.free) (λ n. refl) (replays_then terms.free) (λ c. true) (λ c h m fs n d. does_replays terms c m n fs d) (λ c h m fs n d. begun_replays terms c m n fs d) items (any_commands items) a es b r
