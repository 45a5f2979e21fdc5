-- What a script puts to the notes is a certificate of what it did.
use Rattle.std.proofs.Common.{◌≡◌, ◌∙◌, ℕ, ◌≤◌, Bool, true, false, is_some, List, [], ◌∷◌, ◌++◌, length, All, Option, Some, None, refl, sym, ap, subst}
use Rattle.std.proofs.lemmas.Bool.{and_parts, false≢true}
use Rattle.std.proofs.lemmas.List.{append-nil}
use Rattle.std.proofs.lemmas.List.Elements.{All-nil, All-cons, All-append}
use Rattle.mv_base.specs.declared.limits.TheConstants.{MAX_CERTIFICATE_BYTES}
use Rattle.mv_cert.specs.Certificates.{Certifies}
use Rattle.mv_choose.specs.Choices.{Determinizing}
use Rattle.mv_collapse.specs.Collapses.{CollapsesNet, Collapsed, Remains}
use Rattle.mv_eliminate.specs.Eliminates.{IsEliminateStep, EliminatesAll, NotesWide, Skips, Tells}
use Rattle.mv_encode.specs.Encodes.{Early, Encoded, EncodesAll, EncodesNet, LetBe as Unencoded, RunsOut, Stays as KeepsValues, Whole as AllVisited, rule_of as encode_of}
use Rattle.mv_entry.specs.declared.note.Command.{Command}
use Rattle.mv_entry.specs.declared.note.Command.TheVariants.{Drop, Sweep, Eliminate, Collapse, Kernel, Cube, Simplify, Merge, Default, Determinize, Encode, Fill}
use Rattle.mv_entry.specs.declared.note.Note.{Note}
use Rattle.mv_entry.specs.declared.note.Note.TheVariants.{Begin, Dropped, End, Done}
use Rattle.mv_entry.specs.declared.note.Why.TheVariants.{Lines, Kernels, Nets}
use Rattle.mv_entry.specs.Entries.{Entry, Applied, Noted, entry_names, print, rules_of, is_visible_name}
use Rattle.mv_entry.proofs.Printing.{print-append, print-one}
use Rattle.mv_entry.proofs.Visible.{visible-none, visible-net, visible-one}
use Rattle.mv_extract.specs.Steps.{AddsDivisor, DividesNet, Own, LetBe as NotDivided, Divided, TakesBest, next_net}
use Rattle.mv_extract.specs.Extracts.{EndsBy, NoneLeft, NoRoom, Extracts, NotesKernels, Skips as KernelSkips, Tells as KernelTells}
use Rattle.mv_extract.proofs.Notes.{note_visible}
use Rattle.mv_division.specs.Divisors.{add_rule}
use Rattle.mv_division.specs.Divided.{divide_rule}
use Rattle.mv_gains.specs.Candidates.{Candidates, IsKernelCandidate, IsCubeCandidate}
use Rattle.mv_cover.specs.Literal.{Lit}
use Rattle.mv_base.specs.declared.number.NetId.{NetId}
use Rattle.mv_merge.specs.Merges.{IsMergeStep}
use Rattle.mv_net.specs.declared.parts.FlatNet.{FlatNet}
use Rattle.mv_net.specs.declared.parts.NetParts.{NetParts}
use Rattle.mv_net.specs.Formed.{WellFormed}
use Rattle.mv_net.specs.Nets.{slot, name_in, table_in, literals_in}
use Rattle.mv_pass.specs.Courses.{Course, Nothing, Repeated, Visits, VisitsAll}
use Rattle.mv_pass.specs.Going.{Goes}
use Rattle.mv_pass.proofs.Going.{goes_replays, rules_of-append}
use Rattle.mv_pass.proofs.Turns.{Implies, of_nothing, of_turn, of_visits}
use Rattle.mv_rules_back.specs.Names.{HasWordNames}
use Rattle.mv_rules_back.specs.Notes.{notes_of}
use Rattle.mv_rules.specs.Replaying.{Replays}
use Rattle.mv_rules.proofs.Kept.{kept_formed}
use Rattle.mv_rules.proofs.Replayed.{replayed_formed}
use Rattle.mv_rules.proofs.Spoken.{held_visible}
use Rattle.mv_rules.specs.declared.terms.Terms.{Terms}
use Rattle.mv_script_run.specs.Commands.{WholeOf, DoesCommand}
use Rattle.mv_script_run.specs.Runs.{Runs}
use Rattle.mv_script_run.proofs.Inductions.{of_items}
use Rattle.mv_script_run.proofs.Rules.{whole_replays, does_replays, runs_replays}
use Rattle.mv_script.specs.Commands.{IsCommand, is_lawful, are_lawful}
use Rattle.mv_script.specs.Scripts.{Items}
use Rattle.mv_script.proofs.Commands.{lawful_runs}
use Rattle.mv_simplify.specs.Simplifies.{IsTightNow, LetBe as BareNet, Narrowed, SimplifiesAll, SimplifiesNet, Stays as KeepsTable, rule_of as narrow_of}
use Rattle.mv_sweep.specs.Drops.{IsDropStep}
use Rattle.mv_values.specs.Defaults.{Defaulting}
use Rattle.mv_visit.specs.Visits.{GivesWay, HasNone, IsLet, StaysFor, Treatment, Treats}
use Rattle.mv_visit.proofs.Visited.{lessened_formed}
use Rattle.mv_fill.specs.Fills.{Filled, FillsNet, FillsTables, LetBe, Stays, rule_of}
use Rattle.mv_sweep.specs.Sweeps.{IsSweepStep}
use Rattle.mv_noted.specs.Noted.{IsCertificateOf, all_notes}
use Rattle.mv_noted.proofs.Seen.{IsSeenNote, seen_certifies}

notes_of-append : (xs ys : List Entry) → notes_of (xs ++ ys) ≡ notes_of xs ++ notes_of ys
notes_of-append [] ys = refl
notes_of-append (Applied r ∷ xs) ys = notes_of-append xs ys
notes_of-append (Noted n ∷ xs) ys = ap (λ ns. n ∷ ns) (notes_of-append xs ys)

-- notes that can be seen
abbrev AreSeen : List Entry → Type 0
AreSeen es = All IsSeenNote (notes_of es)

seen_append : (xs ys : List Entry) → AreSeen xs → AreSeen ys → AreSeen (xs ++ ys)
seen_append xs ys p q = subst (λ ns. All IsSeenNote ns) (sym (notes_of-append xs ys)) (All-append IsSeenNote (notes_of xs) (notes_of ys) p q)

-- ---- the notes of a command's steps

-- where each note that is lawful can be seen, all can
goes_seen : (free : Bool) (Lawful : NetParts → Entry → Type 0) → ((net : NetParts) (note : Note) → Lawful net (Noted note) → IsSeenNote note) → (a b : NetParts) (es : List Entry) → Goes free Lawful a es b → AreSeen es
goes_seen free Lawful each a b [] g = All-nil IsSeenNote
goes_seen free Lawful each a b (Applied r ∷ es) g = goes_seen free Lawful each g.1.0 b es g.1.1.1
goes_seen free Lawful each a b (Noted n ∷ es) g = All-cons IsSeenNote n (notes_of es) (each a n g.0) (goes_seen free Lawful each a b es g.1)

-- the name of a net with a table
tabled_visible : (net : NetParts) (n : ℕ) → WellFormed net → is_some (table_in (slot net.nets n)) ≡ true → is_visible_name (name_in (slot net.nets n)) ≡ true
tabled_visible net n formed tabled = by (slot net.nets n) refl tabled
  where
    by : (f : Option FlatNet) → slot net.nets n ≡ f → is_some (table_in f) ≡ true → is_visible_name (name_in f) ≡ true
    by None held t = absurd (false≢true t)
    by (Some f) held t = held_visible net n f.name formed (record { net = f; held = held; is = refl })

collapses_seen : (free : Bool) (name : List ℕ) → is_visible_name name ≡ true → (a b : NetParts) (steps : List Entry) → CollapsesNet free name a steps b → AreSeen steps
collapses_seen free name h a b steps (Collapsed f applies is) = subst AreSeen (sym is) (All-nil IsSeenNote)
collapses_seen free name h a b steps (Remains why stays is same) =
    subst AreSeen (sym is) (All-cons IsSeenNote (Dropped why name) [] (visible-one (Noted (Dropped why name)) name refl h) (All-nil IsSeenNote))

-- where a network is well formed, the notes can be seen, and the network that is left is well formed
abbrev StaysSeen : Course
StaysSeen a es b = WellFormed a → WellFormed b × AreSeen es

seen_then : (a b c : NetParts) (xs ys : List Entry) → StaysSeen a xs b → StaysSeen b ys c → StaysSeen a (xs ++ ys) c
seen_then a b c xs ys p q formed =
    let first = p formed in
    let second = q first.0 in
    (second.0, seen_append xs ys first.1 second.1)

-- a note of a net that is too wide
wide_seen : (n : ℕ) → Implies (NotesWide n) StaysSeen
wide_seen n a es b (Skips narrow still) formed = (subst WellFormed (sym still.1) formed, subst AreSeen (sym still.0) (All-nil IsSeenNote))
wide_seen n a es b (Tells wide is same) formed =
    let name = name_in (slot a.nets n) in
    let seen = visible-one (Noted (Dropped Lines name)) name refl (tabled_visible a n formed wide.tabled) in
    (subst WellFormed (sym same) formed, subst AreSeen (sym is) (All-cons IsSeenNote (Dropped Lines name) [] seen (All-nil IsSeenNote)))

eliminates_seen : (free : Bool) (a b : NetParts) (steps : List Entry) → WellFormed a → EliminatesAll free a steps b → AreSeen steps
eliminates_seen free a b steps formed e =
    let replays = goes_replays free IsEliminateStep a e.mid e.front e.first.steps in
    let formed' = replayed_formed free (rules_of e.front) a e.mid formed replays in
    let notes = (of_visits StaysSeen (λ n formed''. (formed'', All-nil IsSeenNote)) seen_then NotesWide wide_seen (length e.mid.nets) e.mid e.rest b e.second formed').1 in
    subst AreSeen (sym e.entries_are) (seen_append e.front e.rest (goes_seen free IsEliminateStep (λ net note never. absurd never) a e.mid e.front e.first.steps) notes)

-- a visit of `fill`
visit_seen : (free : Bool) (n : ℕ) (a : NetParts) (es : List Entry) (b : NetParts) → FillsNet free n a es b → StaysSeen a es b
visit_seen free n a es b (LetBe full still) formed = (subst WellFormed (sym still.1) formed, subst AreSeen (sym still.0) (All-nil IsSeenNote))
visit_seen free n a es b (Stays why unfilled stays is same) formed =
    let name = name_in (slot a.nets n) in
    let seen = visible-one (Noted (Dropped why name)) name refl (tabled_visible a n formed unfilled.tabled) in
    (subst WellFormed (sym same) formed, subst AreSeen (sym is) (All-cons IsSeenNote (Dropped why name) [] seen (All-nil IsSeenNote)))
visit_seen free n a es b (Filled unfilled applies is) formed = (kept_formed free (rule_of a n) a b formed applies, subst AreSeen (sym is) (All-nil IsSeenNote))

fills_seen : (free : Bool) (a b : NetParts) (steps : List Entry) → WellFormed a → FillsTables free a steps b → AreSeen steps
fills_seen free a b steps formed t =
    (of_visits StaysSeen (λ n formed'. (formed', All-nil IsSeenNote)) seen_then (FillsNet free) (visit_seen free) t.end a steps b t.visits formed).1

-- an extraction: the net that comes, the tables that are divided, and the notes behind
adds_seen : (free : Bool) (divisor : List (List Lit)) → Implies (AddsDivisor free divisor) StaysSeen
adds_seen free divisor a es b p formed =
    (kept_formed free (add_rule a.nets p.name divisor) a b formed p.applies, subst AreSeen (sym p.entries_are) (All-nil IsSeenNote))

divides_seen : (free : Bool) (divisor : List (List Lit)) (d : NetId) (n : ℕ) → Implies (DividesNet free divisor d n) StaysSeen
divides_seen free divisor d n a es b (Own own still) formed = (subst WellFormed (sym still.1) formed, subst AreSeen (sym still.0) (All-nil IsSeenNote))
divides_seen free divisor d n a es b (NotDivided none still) formed = (subst WellFormed (sym still.1) formed, subst AreSeen (sym still.0) (All-nil IsSeenNote))
divides_seen free divisor d n a es b (Divided by table lines division applies is) formed =
    (kept_formed free (divide_rule a.nets n by table lines) a b formed applies, subst AreSeen (sym is) (All-nil IsSeenNote))

takes_seen : (free : Bool) (Candidate : Candidates) → Implies (TakesBest Candidate free) StaysSeen
takes_seen free Candidate a es b s =
    of_turn StaysSeen (λ n f. (f, All-nil IsSeenNote)) seen_then (AddsDivisor free s.divisor) (VisitsAll (DividesNet free s.divisor (next_net a))) (adds_seen free s.divisor)
    (λ a' es' b' v. of_visits StaysSeen (λ n f. (f, All-nil IsSeenNote)) seen_then (DividesNet free s.divisor (next_net a)) (divides_seen free s.divisor (next_net a)) (length a'.nets) a' es' b' v) a es b s.course

kernels_seen : (n : ℕ) → Implies (NotesKernels n) StaysSeen
kernels_seen n a es b (KernelSkips few still) formed = (subst WellFormed (sym still.1) formed, subst AreSeen (sym still.0) (All-nil IsSeenNote))
kernels_seen n a es b (KernelTells many is same) formed =
    let name = name_in (slot a.nets n) in
    (subst WellFormed (sym same) formed, subst AreSeen (sym is) (All-cons IsSeenNote (Dropped Kernels name) [] (note_visible a n name formed many refl) (All-nil IsSeenNote)))

extracts_seen : (free : Bool) (Candidate : Candidates) (Behind : Course) → Implies Behind StaysSeen → Implies (Extracts Candidate Behind free) StaysSeen
extracts_seen free Candidate Behind behind =
    of_turn StaysSeen (λ n f. (f, All-nil IsSeenNote)) seen_then (Repeated (TakesBest Candidate free)) (EndsBy Candidate Behind)
    (λ a es b r. of_visits StaysSeen (λ n f. (f, All-nil IsSeenNote)) seen_then (λ k. TakesBest Candidate free) (λ k. takes_seen free Candidate) r.times a es b r.rounds) ends
  where
    ends : Implies (EndsBy Candidate Behind) StaysSeen
    ends a es b (NoneLeft none course) formed = behind a es b course formed
    ends a es b (NoRoom name full is same) formed =
        (subst WellFormed (sym same) formed, subst AreSeen (sym is) (All-cons IsSeenNote (Dropped Nets name) [] (visible-one (Noted (Dropped Nets name)) name refl (visible-net name full.lawful)) (All-nil IsSeenNote)))

-- a visit of `simplify`
narrows_seen : (terms : Terms) (d u n : ℕ) → Implies (SimplifiesNet terms d u n) StaysSeen
narrows_seen terms d u n a es b (BareNet none still) formed = (subst WellFormed (sym still.1) formed, subst AreSeen (sym still.0) (All-nil IsSeenNote))
narrows_seen terms d u n a es b (KeepsTable why tabled keeps is same) formed =
    let name = name_in (slot a.nets n) in
    let seen = visible-one (Noted (Dropped why name)) name refl (tabled_visible a n formed tabled) in
    (subst WellFormed (sym same) formed, subst AreSeen (sym is) (All-cons IsSeenNote (Dropped why name) [] seen (All-nil IsSeenNote)))
narrows_seen terms d u n a es b (IsTightNow table table_is below tight still) formed = (subst WellFormed (sym still.1) formed, subst AreSeen (sym still.0) (All-nil IsSeenNote))
narrows_seen terms d u n a es b (Narrowed table body table_is applies tight grown changed is) formed =
    (kept_formed terms.free (narrow_of a n d u body) a b formed applies, subst AreSeen (sym is) (All-nil IsSeenNote))

simplifies_seen : (terms : Terms) (d u : ℕ) → Implies (SimplifiesAll terms d u) StaysSeen
simplifies_seen terms d u a es b v = of_visits StaysSeen (λ n f. (f, All-nil IsSeenNote)) seen_then (SimplifiesNet terms d u) (narrows_seen terms d u) (length a.nets) a es b v

-- a visit that may give a table way to another
treat_seen : (t : Treatment) (n : ℕ) → Implies (Treats t n) StaysSeen
treat_seen t n a es b (HasNone none still) formed = (subst WellFormed (sym still.1) formed, subst AreSeen (sym still.0) (All-nil IsSeenNote))
treat_seen t n a es b (IsLet table is lets still) formed = (subst WellFormed (sym still.1) formed, subst AreSeen (sym still.0) (All-nil IsSeenNote))
treat_seen t n a es b (StaysFor why table is notes noted) formed =
    let name = name_in (slot a.nets n) in
    let seen = visible-one (Noted (Dropped why name)) name refl (tabled_visible a n formed (ap (λ o. is_some o) is)) in
    (subst WellFormed (sym noted.same) formed, subst AreSeen (sym noted.entries_are) (All-cons IsSeenNote (Dropped why name) [] seen (All-nil IsSeenNote)))
treat_seen t n a es b (GivesWay table less is gives lessens) formed =
    (lessened_formed a b n table less es formed is lessens, subst AreSeen (sym lessens.entries_are) (All-nil IsSeenNote))

treats_seen : (t : Treatment) → Implies (VisitsAll (Treats t)) StaysSeen
treats_seen t a es b v = of_visits StaysSeen (λ n f. (f, All-nil IsSeenNote)) seen_then (Treats t) (treat_seen t) (length a.nets) a es b v

-- a visit of `encode`, and the end of its numbers
encode_seen : (n : ℕ) → Implies (EncodesNet n) StaysSeen
encode_seen n a es b (Unencoded none still) formed = (subst WellFormed (sym still.1) formed, subst AreSeen (sym still.0) (All-nil IsSeenNote))
encode_seen n a es b (KeepsValues why to_encode stays noted) formed =
    let name = name_in (slot a.nets n) in
    let seen = visible-one (Noted (Dropped why name)) name refl (tabled_visible a n formed to_encode.tabled) in
    (subst WellFormed (sym noted.same) formed, subst AreSeen (sym noted.entries_are) (All-cons IsSeenNote (Dropped why name) [] seen (All-nil IsSeenNote)))
encode_seen n a es b (Encoded names to_encode are applies is) formed =
    (kept_formed false (encode_of a n names) a b formed applies, subst AreSeen (sym is) (All-nil IsSeenNote))

encodes_visits : (k : ℕ) → Implies (Visits EncodesNet k) StaysSeen
encodes_visits k a es b v = of_visits StaysSeen (λ n f. (f, All-nil IsSeenNote)) seen_then EncodesNet encode_seen k a es b v

runs_out_seen : (n : ℕ) → Implies (RunsOut n) StaysSeen
runs_out_seen n a es b r formed =
    (subst WellFormed (sym r.same) formed, subst AreSeen (sym r.entries_are) (All-cons IsSeenNote (Dropped Nets r.name) [] (visible-one (Noted (Dropped Nets r.name)) r.name refl (visible-net r.name r.full.lawful)) (All-nil IsSeenNote)))

encodes_seen : Implies EncodesAll StaysSeen
encodes_seen a es b (AllVisited v) = encodes_visits (length a.nets) a es b v
encodes_seen a es b (Early e) =
    of_turn StaysSeen (λ n f. (f, All-nil IsSeenNote)) seen_then (Visits EncodesNet e.end) (RunsOut e.end) (encodes_visits e.end) (runs_out_seen e.end) a es b e.course

whole_seen : (terms : Terms) (c : Command) (a b : NetParts) (steps : List Entry) → IsCommand c → WellFormed a → WellFormed b → WholeOf terms c a steps b → AreSeen steps
whole_seen terms Drop a b steps is formed formed' g = goes_seen terms.free IsDropStep (λ net note never. absurd never) a b steps g.steps
whole_seen terms Sweep a b steps is formed formed' g = goes_seen terms.free IsSweepStep (λ net note never. absurd never) a b steps g.steps
whole_seen terms Eliminate a b steps is formed formed' e = eliminates_seen terms.free a b steps formed e
whole_seen terms (Collapse name) a b steps is formed formed' g = collapses_seen terms.free name (and_parts (is_visible_name name) true is.names.each).0 a b steps g
whole_seen terms Kernel a b steps is formed formed' g = (extracts_seen terms.free IsKernelCandidate (VisitsAll NotesKernels) (λ a es b v. of_visits StaysSeen (λ n f. (f, All-nil IsSeenNote)) seen_then NotesKernels kernels_seen (length a.nets) a es b v) a steps b g formed).1
whole_seen terms Cube a b steps is formed formed' g = (extracts_seen terms.free IsCubeCandidate Nothing (of_nothing StaysSeen (λ n f. (f, All-nil IsSeenNote)) seen_then) a steps b g formed).1
whole_seen terms (Simplify down up) a b steps is formed formed' g = (simplifies_seen terms down up a steps b g formed).1
whole_seen terms Merge a b steps is formed formed' g = goes_seen terms.free IsMergeStep (λ net note never. absurd never) a b steps g.steps
whole_seen terms Default a b steps is formed formed' g = (treats_seen Defaulting a steps b g formed).1
whole_seen terms Determinize a b steps is formed formed' g = (treats_seen Determinizing a steps b g formed).1
whole_seen terms Encode a b steps is formed formed' g = (encodes_seen a steps b g formed).1
whole_seen terms Fill a b steps is formed formed' g = fills_seen terms.free a b steps formed g.tables

-- ---- the notes of commands

numbers_seen : (note : Note) → entry_names (Noted note) ≡ [] → AreSeen (Noted note ∷ [])
numbers_seen note none = All-cons IsSeenNote note [] (visible-none (Noted note) none) (All-nil IsSeenNote)

does_seen : (terms : Terms) (c : Command) (a b : NetParts) (es : List Entry) → IsCommand c → WellFormed a → DoesCommand terms c a es b → AreSeen es
does_seen terms c a b es is formed d =
    let formed' = replayed_formed terms.free (rules_of d.steps) a b formed (whole_replays terms c a b d.steps d.course) in
    let end = End (literals_in b.nets) in
    let rest = seen_append d.steps (Noted end ∷ []) (whole_seen terms c a b d.steps is formed formed' d.course) (numbers_seen end refl) in
    subst AreSeen (sym d.entries_are) (All-cons IsSeenNote (Begin c) (notes_of (d.steps ++ Noted end ∷ [])) is.names rest)

-- ---- the notes of scripts

command_seen : (terms : Terms) (c : Command) → is_lawful c ≡ true → (a : NetParts) (es : List Entry) (b : NetParts) → DoesCommand terms c a es b → StaysSeen a es b
command_seen terms c lawful a es b d formed =
    (replayed_formed terms.free (rules_of es) a b formed (does_replays terms c a b es d), does_seen terms c a b es (lawful_runs c lawful) formed d)

runs_seen : (terms : Terms) (items : Items) (a b : NetParts) (es : List Entry) → are_lawful items ≡ true → WellFormed a → Runs terms items a es b → AreSeen es
runs_seen terms items a b es lawful formed r =
    (of_items terms StaysSeen (λ n formed'. (formed', All-nil IsSeenNote)) seen_then is_lawful (command_seen terms) items lawful a es b r formed).1

-- ---- the certificate

pub certified : (terms : Terms) (items : Items) (first net : NetParts) (es : List Entry) → are_lawful items ≡ true → WellFormed first → HasWordNames first.nets → Runs terms items first es net → IsCertificateOf terms.free es first net
certified terms items first net es lawful formed names runs short =
    let done = Done (literals_in first.nets) (literals_in net.nets) in
    let all = es ++ Noted done ∷ [] in
    let text : print all ≡ all_notes es first net = print-append es (Noted done ∷ []) ∙ ap (λ t. print es ++ t) (print-one (Noted done)) in
    let replays : Replays terms.free (rules_of all) first net =
    subst (λ rs. Replays terms.free rs first net) (sym (rules_of-append es (Noted done ∷ []) ∙ append-nil (rules_of es))) (runs_replays terms items first net es runs) in
    let notes = seen_append es (Noted done ∷ []) (runs_seen terms items first net es lawful formed runs) (numbers_seen done refl) in
    subst (λ t. Certifies terms.free t first net) text
    (seen_certifies terms.free all first net formed names notes replays (subst (λ t. length t ≤ MAX_CERTIFICATE_BYTES) (sym text) short))
