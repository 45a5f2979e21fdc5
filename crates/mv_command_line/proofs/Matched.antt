-- The matches of the words and the parts that the definition finds in them.
use Rattle.std.proofs.Common.{◌≡◌, ◌∙◌, inl, inr, Bool, true, false, List, [], ◌∷◌, map, drop, Option, Some, None, codes, refl, sym, ap, subst}
use Rattle.std.specs.Prelude.{string_bytes}
use Rattle.std.specs.declared.string.String.{String}
use Rattle.std.specs.declared.alloc.Global.{Global}
use Rattle.std.proofs.lemmas.Str.{IsUtf8-string_bytes}
use Rattle.clap.specs.Kinds.{HasKind, IsAmong, Kinds}
use Rattle.clap.specs.Values.{kind_of}
use Rattle.clap.specs.Matches.{found_of}
use Rattle.clap.specs.Faults.{built_fault, fault_of, is_simple_and_free}
use Rattle.clap.specs.Simple.{App, HasMatchesOf, matches_of, names_of}
use Rattle.clap.specs.Walk.{Row, Text, idle, nothing_held, rows_after, rows_of}
use Rattle.clap.specs.declared.error.Error.{Error}
use Rattle.clap.specs.declared.error.kind.ErrorKind.{ErrorKind}
use Rattle.clap.specs.declared.error.kind.ErrorKind.TheVariants.{OutOfMemory}
use Rattle.clap.specs.declared.parser.matches.ArgMatches.{ArgMatches}
use Rattle.clap.proofs.FaultLemmas.{leaf_fault}
use Rattle.clap.proofs.WalkLemmas.{first_value-rows, one_text-rows}
use Rattle.mv_command_line.specs.CommandLine.{Parts, parts_of}
use Rattle.mv_command_line.specs.Commands.{command_given}
use Rattle.mv_command_line.specs.Given.{Gives, counted, parts_behind}
use Rattle.mv_command_line.proofs.Agreement.{AreTexts, agrees}
use Rattle.mv_command_line.proofs.Commands.{is_built, is_exact, is_plain, shape_of}
use Rattle.mv_command_line.proofs.Counts.{joined, joined_nothing}
use Rattle.mv_command_line.proofs.Finds.{Closes, first_text}
use Rattle.mv_command_line.proofs.Flags.{flags_of, no_flags}
use Rattle.mv_command_line.proofs.Stands.{stands_at_first}
use Rattle.mv_command_line.proofs.Walks.{Agrees, faults, rows_left, walk_at}

abbrev pub bytes_of : List (String Global) → List Text
bytes_of words = map string_bytes words

all_texts : (words : List (String Global)) → AreTexts (bytes_of words)
all_texts [] = tt
all_texts (w ∷ words) = (IsUtf8-string_bytes w, all_texts words)

are_texts : (words : List (String Global)) → AreTexts (drop 1 (bytes_of words))
are_texts [] = tt
are_texts (w ∷ words) = all_texts words

-- clap's own faults and rows
faults_are : (third : Bool) (words : List Text) → fault_of (command_given third) words ≡ faults third (walk_at false idle 1 [] None) (drop 1 words)
faults_are third words =
    ap (λ (a : App). built_fault a nothing_held (drop 1 words)) (is_built third)
    ∙ leaf_fault (record { top = shape_of third; subs = [] }) nothing_held (drop 1 words) refl

rows_are : (third : Bool) (words : List Text) → matches_of (command_given third) words ≡ rows_left third (walk_at false idle 1 [] None) (drop 1 words)
rows_are third words = ap (λ (a : App). rows_after a.top.rules (names_of a) (drop 1 words)) (is_built third)

pub all_agree : (third : Bool) (words : List (String Global))
    → Agrees (parts_behind third words) (fault_of (command_given third) (bytes_of words)) (matches_of (command_given third) (bytes_of words))
all_agree third words =
    let ws = drop 1 (bytes_of words) in
    let h = agrees third ws [] None [] [] no_flags (are_texts words) (stands_at_first third) in
    subst (λ o. Agrees (counted third o) (fault_of (command_given third) (bytes_of words)) (matches_of (command_given third) (bytes_of words))) (joined_nothing (parts_of false ws))
    (subst (λ ks. Agrees (counted third (joined [] [] no_flags (parts_of false ws))) ks (matches_of (command_given third) (bytes_of words))) (sym (faults_are third (bytes_of words)))
    (subst (λ rs. Agrees (counted third (joined [] [] no_flags (parts_of false ws))) (faults third (walk_at false idle 1 [] None) ws) rs) (sym (rows_are third (bytes_of words))) h))

gives : (p : Parts) (m : ArgMatches) → Closes (rows_of (found_of m)) p.words p.values (flags_of p) → Gives p (found_of m)
gives p m f = record {
  budget = first_value-rows (found_of m) (codes "budget") ∙ first_text (codes "budget") (rows_of (found_of m)) p.values 0 f.budget;
  free = one_text-rows (found_of m) (codes "free") ∙ f.free;
  blif = one_text-rows (found_of m) (codes "blif") ∙ f.blif;
  first = first_value-rows (found_of m) (codes "first") ∙ first_text (codes "first") (rows_of (found_of m)) p.words 0 f.first;
  second = first_value-rows (found_of m) (codes "second") ∙ first_text (codes "second") (rows_of (found_of m)) p.words 1 f.second;
  third = first_value-rows (found_of m) (codes "third") ∙ first_text (codes "third") (rows_of (found_of m)) p.words 2 f.third;
}

taken : (o : Option Parts) (kinds : Kinds) (m : ArgMatches) → Agrees o kinds (rows_of (found_of m)) → kinds ≡ [] → (p : Parts) × (o ≡ Some p) × Gives p (found_of m)
taken None kinds m h none = absurd (h none)
taken (Some p) kinds m h none = (p, refl, gives p m h.1)

refuses : (o : Option Parts) (kinds : Kinds) (rows : List Row) (k : ErrorKind) → Agrees o kinds rows → IsAmong k kinds → o ≡ None
refuses None kinds rows k h among = refl
refuses (Some p) kinds rows k h among = absurd (subst (IsAmong k) h.0 among)

-- matches that clap gives are those of the parts
pub matches_give : (third : Bool) (words : List (String Global)) (a : App) (m : ArgMatches) → a ≡ command_given third
    → (is_simple_and_free a ≡ true → fault_of a (bytes_of words) ≡ []) → HasMatchesOf a (bytes_of words) m
    → (p : Parts) × (parts_behind third words ≡ Some p) × Gives p (found_of m)
matches_give third words a m is none has =
    let faultless = subst (λ (b : App). (is_simple_and_free b ≡ true → fault_of b (bytes_of words) ≡ [])) is none (is_exact third) in
    let rows = subst (λ (b : App). HasMatchesOf b (bytes_of words) m) is has (is_plain third) in
    taken (parts_behind third words) (fault_of (command_given third) (bytes_of words)) m
    (subst (λ rs. Agrees (parts_behind third words) (fault_of (command_given third) (bytes_of words)) rs) (sym rows.0) (all_agree third words)) faultless

among_kinds : (kinds : Kinds) (e : Error) → HasKind kinds e → (kind_of e ≡ OutOfMemory → ⊥) → IsAmong (kind_of e) kinds
among_kinds kinds e (inl memory) other = absurd (other memory)
among_kinds kinds e (inr among) other = among

-- words at which clap fails, but for want of memory, are refused
pub words_refused : (third : Bool) (words : List (String Global)) (a : App) (e : Error) → a ≡ command_given third
    → (is_simple_and_free a ≡ true → HasKind (fault_of a (bytes_of words)) e) → (kind_of e ≡ OutOfMemory → ⊥) → parts_behind third words ≡ None
words_refused third words a e is fails other =
    let kinds = subst (λ (b : App). (is_simple_and_free b ≡ true → HasKind (fault_of b (bytes_of words)) e)) is fails (is_exact third) in
    refuses (parts_behind third words) (fault_of (command_given third) (bytes_of words)) (matches_of (command_given third) (bytes_of words)) (kind_of e)
    (all_agree third words) (among_kinds (fault_of (command_given third) (bytes_of words)) e kinds other)
