-- No script without `determinize` and `encode` ends with more literals than it began with.
use Rattle.std.proofs.Common.{◌≡◌, ◌∙◌, ℕ, ◌≤◌, Bool, true, is_some, List, [], ◌∷◌, ◌++◌, length, Option, Some, None, refl, sym, ap, subst, arith}
use Rattle.std.proofs.lemmas.Bool.{false≢true}
use Rattle.mv_collapse.specs.Collapses.{CollapsesNet, Collapsed, Remains}
use Rattle.mv_eliminate.specs.Eliminates.{IsEliminateStep, EliminatesAll, NotesWide, Skips, Tells}
use Rattle.mv_extract.proofs.Fewer.{kernels_no_more, cubes_no_more}
use Rattle.mv_entry.specs.declared.note.Command.{Command}
use Rattle.mv_entry.specs.declared.note.Command.TheVariants.{Drop, Sweep, Eliminate, Collapse, Kernel, Cube, Simplify, Merge, Default, Determinize, Encode, Fill}
use Rattle.mv_entry.specs.declared.rule.Rule.{Rule}
use Rattle.mv_entry.specs.declared.rule.Rule.TheVariants.{Remove, Add, Divide, Wire, Collapse as CollapseNet}
use Rattle.mv_entry.specs.Entries.{Entry, Applied, rules_of}
use Rattle.mv_merge.proofs.Merged.{merges_no_more}
use Rattle.mv_net.specs.declared.parts.FlatNet.{FlatNet}
use Rattle.mv_net.specs.declared.parts.NetParts.{NetParts}
use Rattle.mv_net.specs.Formed.{WellFormed}
use Rattle.mv_net.specs.Nets.{slot, name_in, table_in, literals_in}
use Rattle.mv_net.specs.Plain.{IsPlainConstant}
use Rattle.mv_locality.proofs.Fewer.{removes_no_more, wires_no_more, collapses_no_more}
use Rattle.mv_locality.proofs.Steps.{names_itself}
use Rattle.mv_pass.specs.Courses.{Course}
use Rattle.mv_pass.proofs.Going.{goes_no_more}
use Rattle.mv_pass.proofs.Turns.{Implies, of_visits}
use Rattle.mv_pass.proofs.Visiting.{all_visits}
use Rattle.mv_rules.specs.Applies.{Applies}
use Rattle.mv_plans.specs.Checks.{IsTabled}
use Rattle.mv_plans.specs.Collapsing.{Collapses}
use Rattle.mv_plans.proofs.CompositeLiterals.{collapse_leaves}
use Rattle.mv_rules.proofs.OneAnswer.{one_network}
use Rattle.mv_rules.proofs.Replayed.{replayed_formed}
use Rattle.mv_fill.proofs.Filled.{fills_no_more}
use Rattle.mv_sweep.specs.Drops.{IsDropStep}
use Rattle.mv_sweep.specs.Sweeps.{IsSweepStep}
use Rattle.mv_rules.specs.declared.terms.Terms.{Terms}
use Rattle.mv_script.specs.Commands.{all_commands}
use Rattle.mv_script.specs.Scripts.{Items}
use Rattle.mv_simplify.specs.Simplifies.{SimplifiesNet}
use Rattle.mv_simplify.proofs.Simplified.{some_no_more}
use Rattle.mv_values.specs.Defaults.{Defaulting}
use Rattle.mv_values.proofs.Defaulted.{defaults_no_more}
use Rattle.mv_visit.specs.Visits.{Treats}
use Rattle.mv_script_run.specs.Commands.{WholeOf, DoesCommand, leaves_no_more}
use Rattle.mv_script_run.specs.Runs.{Runs}
use Rattle.mv_script_run.proofs.Inductions.{of_items}
use Rattle.mv_script_run.proofs.Rules.{does_replays}

-- a network has at most as many literals as another
abbrev NoMore : NetParts → NetParts → Type 0
NoMore a b = literals_in b.nets ≤ literals_in a.nets

-- a net with a table is held
tabled_held : (f : Option FlatNet) → is_some (table_in f) ≡ true → is_some f ≡ true
tabled_held None h = absurd (false≢true h)
tabled_held (Some f) h = refl

-- a collapse that names the net at n is of that net
named_number : (a b : NetParts) (name : List ℕ) (n : ℕ) → WellFormed a → (r : Collapses a name b) → is_some (table_in (slot a.nets n)) ≡ true → name ≡ name_in (slot a.nets n) → r.number ≡ n
named_number a b name n formed r tabled named = names_itself a name n r.number formed r.net (tabled_held (slot a.nets n) tabled) named

-- ---- rules

drop_no_more : (free : Bool) (a b : NetParts) (r : Rule) → WellFormed a → IsDropStep a (Applied r) → Applies free r a b → NoMore a b
drop_no_more free a b (Remove name) formed lawful p = removes_no_more a name b p
drop_no_more free a b (Add name body) formed lawful p = absurd lawful
drop_no_more free a b (Divide name by body) formed lawful p = absurd lawful
drop_no_more free a b (Wire name) formed lawful p = absurd lawful
drop_no_more free a b (CollapseNet name) formed lawful p = absurd lawful
drop_no_more free a b _ formed lawful p = absurd lawful

-- a constant has a table
constant_tabled : (a : NetParts) (n v : ℕ) → IsPlainConstant a.nets n v → is_some (table_in (slot a.nets n)) ≡ true
constant_tabled a n v is = ap is_some is.table

first_name : (w v : List ℕ) → w ∷ [] ≡ v ∷ [] → w ≡ v
first_name w v e = cc

sweep_no_more : (free : Bool) (a b : NetParts) (r : Rule) → WellFormed a → IsSweepStep a (Applied r) → Applies free r a b → NoMore a b
sweep_no_more free a b (Remove name) formed lawful p = removes_no_more a name b p
sweep_no_more free a b (Add name body) formed lawful p = absurd lawful.sweeps
sweep_no_more free a b (Divide name by body) formed lawful p = absurd lawful.sweeps
sweep_no_more free a b (Wire name) formed lawful p = wires_no_more a name b p
sweep_no_more free a b (CollapseNet name) formed lawful p =
    let n = lawful.number in
    let v = lawful.sweeps.constant.value in
    let constant = lawful.sweeps.constant.constant in
    let number = named_number a b name n formed p (constant_tabled a n v constant) (first_name name (name_in (slot a.nets n)) lawful.names) in
    collapses_no_more a name b v formed p (subst (λ m. IsPlainConstant a.nets m v) (sym number) constant)
sweep_no_more free a b _ formed lawful p = absurd lawful.sweeps

eliminate_no_more : (free : Bool) (a b : NetParts) (r : Rule) → WellFormed a → IsEliminateStep a (Applied r) → Applies free r a b → NoMore a b
eliminate_no_more free a b (Remove name) formed lawful p = absurd lawful
eliminate_no_more free a b (Add name body) formed lawful p = absurd lawful
eliminate_no_more free a b (Divide name by body) formed lawful p = absurd lawful
eliminate_no_more free a b (Wire name) formed lawful p = absurd lawful
eliminate_no_more free a b (CollapseNet name) formed lawful p =
    let saving = lawful.first.saving in
    let inner = saving.composites.inner in
    let number = named_number a b name lawful.number formed p saving.tabled (sym lawful.named) in
    let tabled = subst (λ m. IsTabled a.nets name m) (number ∙ sym saving.composites.of_net) p.net in
    let same = collapse_leaves a b name inner formed tabled saving.composites.known p in
    subst (λ c. NoMore a c) (sym same) saving.no_more
eliminate_no_more free a b _ formed lawful p = absurd lawful

-- a note leaves the network as it is
wide_no_more : (n : ℕ) → Implies (NotesWide n) (λ a es b. NoMore a b)
wide_no_more n a es b (Skips narrow still) = let e : literals_in b.nets ≡ literals_in a.nets = ap (λ (n : NetParts). literals_in n.nets) still.1 in omega (arith, e)
wide_no_more n a es b (Tells wide is same) = let e : literals_in b.nets ≡ literals_in a.nets = ap (λ (n : NetParts). literals_in n.nets) same in omega (arith, e)

eliminates_no_more : (free : Bool) (a b : NetParts) (steps : List Entry) → WellFormed a → EliminatesAll free a steps b → NoMore a b
eliminates_no_more free a b steps formed e =
    let collapses = goes_no_more free IsEliminateStep (eliminate_no_more free) a e.mid e.front formed e.first.steps in
    let notes = of_visits (λ a es b. NoMore a b) (λ n. omega arith) (λ a b c xs ys p q. omega (arith, p, q)) NotesWide wide_no_more (length e.mid.nets) e.mid e.rest b e.second in
    omega (arith, collapses, notes)

collapse_no_more : (free : Bool) (name : List ℕ) (a b : NetParts) (steps : List Entry) → WellFormed a → CollapsesNet free name a steps b → NoMore a b
collapse_no_more free name a b steps formed (Collapsed f applies is) = subst (λ c. NoMore a c) (one_network free (CollapseNet name) a f.new b formed f.applies applies) f.no_more
collapse_no_more free name a b steps formed (Remains why stays is same) =
    let e : literals_in b.nets ≡ literals_in a.nets = ap (λ (n : NetParts). literals_in n.nets) same in omega (arith, e)

-- ---- commands

whole_no_more : (terms : Terms) (c : Command) (a b : NetParts) (steps : List Entry) → leaves_no_more c ≡ true → WellFormed a → WholeOf terms c a steps b → NoMore a b
whole_no_more terms Drop a b steps frugal formed g = goes_no_more terms.free IsDropStep (drop_no_more terms.free) a b steps formed g.steps
whole_no_more terms Sweep a b steps frugal formed g = goes_no_more terms.free IsSweepStep (sweep_no_more terms.free) a b steps formed g.steps
whole_no_more terms Eliminate a b steps frugal formed e = eliminates_no_more terms.free a b steps formed e
whole_no_more terms (Collapse name) a b steps frugal formed g = collapse_no_more terms.free name a b steps formed g
whole_no_more terms Kernel a b steps frugal formed g = kernels_no_more terms.free a b steps formed g
whole_no_more terms Cube a b steps frugal formed g = cubes_no_more terms.free a b steps formed g
whole_no_more terms (Simplify down up) a b steps frugal formed g = some_no_more terms down up a b steps formed (all_visits (SimplifiesNet terms down up) a b steps g)
whole_no_more terms Merge a b steps frugal formed g = merges_no_more terms.free a b steps formed g.steps
whole_no_more terms Default a b steps frugal formed g = defaults_no_more a b steps formed (all_visits (Treats Defaulting) a b steps g)
whole_no_more terms Determinize a b steps frugal formed g = absurd (false≢true frugal)
whole_no_more terms Encode a b steps frugal formed g = absurd (false≢true frugal)
whole_no_more terms Fill a b steps frugal formed g = fills_no_more terms.free a b steps g.tables

pub does_no_more : (terms : Terms) (c : Command) (a b : NetParts) (es : List Entry) → leaves_no_more c ≡ true → WellFormed a → DoesCommand terms c a es b → literals_in b.nets ≤ literals_in a.nets
does_no_more terms c a b es frugal formed d = whole_no_more terms c a b d.steps frugal formed d.course

-- ---- scripts

-- a network that is well formed stays so, and has no more literals then
abbrev StaysFew : Course
StaysFew a es b = WellFormed a → WellFormed b × NoMore a b

few_then : (a b c : NetParts) (xs ys : List Entry) → StaysFew a xs b → StaysFew b ys c → StaysFew a (xs ++ ys) c
few_then a b c xs ys p q formed =
    let first = p formed in
    let second = q first.0 in
    (second.0, omega (arith, first.1, second.1))

command_few : (terms : Terms) (c : Command) → leaves_no_more c ≡ true → (a : NetParts) (es : List Entry) (b : NetParts) → DoesCommand terms c a es b → StaysFew a es b
command_few terms c frugal a es b d formed =
    (replayed_formed terms.free (rules_of es) a b formed (does_replays terms c a b es d), does_no_more terms c a b es frugal formed d)

pub runs_no_more : (terms : Terms) (items : Items) (a b : NetParts) (es : List Entry) → all_commands leaves_no_more items ≡ true → WellFormed a → Runs terms items a es b → literals_in b.nets ≤ literals_in a.nets
runs_no_more terms items a b es frugal formed r =
    (of_items terms StaysFew (λ n formed'. (formed', omega arith)) few_then leaves_no_more (command_few terms) items frugal a es b r formed).1
