-- What the calls between the words and the task speak of: the texts that arguments were given, and
-- what they say.
use Rattle.std.specs.Prelude.{◌≡◌, ℕ, zero, suc, Bool, false, ◌&&◌, ◌==◌, nat_le, List, length, map, drop, codes, slice_get, string_bytes}
use Rattle.std.specs.Prelude.{Option, Some, None, option_map, option_and_then, if◌then◌else◌, Result, MatchResult}
use Rattle.std.specs.Borrow.{Bor}
use Rattle.std.specs.declared.string.String.{String}
use Rattle.std.specs.declared.alloc.Global.{Global}
use Rattle.clap.specs.Words.{first_value, found_of, one_text}
use Rattle.clap.specs.declared.parser.matches.ArgMatches.{ArgMatches}
use Rattle.clap.specs.declared.parser.matches.Found.{Found}
use Rattle.mv_base.specs.declared.limits.TheConstants.{DEFAULT_BUDGET}
use Rattle.mv_command_line.specs.CommandLine.{Files, Draw, Names, Parts, files_with, draw_with, names_with, parts_of, is_stdin, budget_of}
use Rattle.mv_command_line.specs.CommandLine.{size_of, seed_of}
use Rattle.mv_command_line.specs.declared.given.Files.{Files as FilesGiven}
use Rattle.mv_command_line.specs.declared.given.Draw.{Draw as DrawGiven}
use Rattle.mv_command_line.specs.declared.given.Names.{Names as NamesGiven}
use Rattle.mv_command_line.specs.declared.task.WordsStop.{WordsStop}
use Rattle.mv_command_line.specs.Answers.{IsRefusedBy}

-- the text behind a reference, if there is one
abbrev pub text_of : Option (Bor (List ℕ)) → Option (List ℕ)
text_of = option_map (λ s. s.now)

-- the files and the draw as values of the definition
abbrev pub files_of : FilesGiven → Files
files_of f = files_with f.net.now f.other.now f.blif f.options.free f.options.budget

abbrev pub draw_of : DrawGiven → Draw
draw_of d = draw_with d.size d.seed d.script.now d.options.free d.options.budget

abbrev pub names_of : NamesGiven → Names
names_of n = names_with n.net.now n.other.now

-- the budget that the value of `--budget` says, or the usual one
abbrev pub budget_by : Option (List ℕ) → Option ℕ
budget_by None = Some DEFAULT_BUDGET
budget_by (Some v) = budget_of v

-- two names of files, of which one at most is standard input, with what the options say
abbrev pub files_by : Option (List ℕ) → Option (List ℕ) → Bool → Bool → Option (List ℕ)
    → Option Files
files_by None other blif free value = None
files_by (Some net) None blif free value = None
files_by (Some net) (Some other) blif free value =
    if is_stdin net && is_stdin other then None
    else option_map (files_with net other blif free) (budget_by value)

-- two names of files, of which one at most is standard input, where no option is given
abbrev pub names_by : Option (List ℕ) → Option (List ℕ) → Bool → Bool → Option (List ℕ)
    → Option Names
names_by (Some net) (Some other) false false None =
    if is_stdin net && is_stdin other then None else Some (names_with net other)
names_by net other blif free value = None

-- a size, a seed and the name of a script, with what the options say, of which `--blif` is none
abbrev pub draw_by : Option (List ℕ) → Option (List ℕ) → Option (List ℕ) → Bool → Bool
    → Option (List ℕ) → Option Draw
draw_by (Some size) (Some seed) (Some script) false free value =
    option_and_then
    (λ n. option_and_then (λ s. option_map (draw_with n s script free) (budget_by value))
    (seed_of seed))
    (size_of size)
draw_by size seed script blif free value = None

-- the parts have two positional words, or three, and each option once at most
abbrev pub has_count : Bool → Parts → Bool
has_count third p = (length p.words == (if third then 3 else 2))
    && (nat_le (length p.values) 1 && (nat_le p.frees 1 && nat_le p.blifs 1))

-- parts of that count
abbrev pub counted : Bool → Option Parts → Option Parts
counted third parts = option_and_then (λ p. if has_count third p then Some p else None) parts

-- the text of a flag that stands so often
abbrev pub flag_text : ℕ → List ℕ
flag_text zero = codes "false"
flag_text (suc n) = codes "true"

-- each argument has the text that the parts have for it
pub record Gives (p : Parts) (f : Found) : Type 0 where
  pub budget : first_value f (codes "budget") ≡ slice_get p.values 0
  pub free : one_text f (codes "free") ≡ Some (flag_text p.frees)
  pub blif : one_text f (codes "blif") ≡ Some (flag_text p.blifs)
  pub first : first_value f (codes "first") ≡ slice_get p.words 0
  pub second : first_value f (codes "second") ≡ slice_get p.words 1
  pub third : first_value f (codes "third") ≡ slice_get p.words 2

-- the parts of the words behind the first one, and the same if they have that count
abbrev pub rest_parts : List (String Global) → Option Parts
rest_parts words = parts_of false (drop 1 (map string_bytes words))

abbrev pub parts_behind : Bool → List (String Global) → Option Parts
parts_behind third words = counted third (rest_parts words)

-- the matches give the parts of these words, or the words are refused
abbrev pub AreMatched : Bool → List (String Global) → Result ArgMatches WordsStop → Type 0
AreMatched third words result = MatchResult result
    (λ m. (p : Parts) × (parts_behind third words ≡ Some p) × Gives p (found_of m))
    (IsRefusedBy (parts_behind third words))
