-- What the words of a command line ask for. A word is the list of its bytes.
use Rattle.std.specs.Prelude.{ℕ, zero, suc, Bool, true, false, ◌&&◌, ◌==◌, nat_lt, nat_le, List, [], ◌∷◌, length, codes}
use Rattle.std.specs.Prelude.{Option, Some, None, option_map, option_and_then, if◌then◌else◌}
use Rattle.std.specs.Char.{is_ascii_digit}
use Rattle.std.specs.List.{list_all}
use Rattle.std.specs.Str.Parse.{digits_value}
use Rattle.mv_base.specs.declared.limits.TheConstants.{DEFAULT_BUDGET}
use Rattle.mv_base.specs.Names.{same_word}

-- a word that begins with `-` and isn't `-` alone
abbrev pub is_dashed : List ℕ → Bool
is_dashed [] = false
is_dashed (b ∷ []) = false
is_dashed (b ∷ c ∷ bs) = b == 45

-- what stands in a word behind this beginning, if it has it
abbrev pub behind : List ℕ → List ℕ → Option (List ℕ)
behind [] w = Some w
behind (a ∷ start) [] = None
behind (a ∷ start) (b ∷ w) = if b == a then behind start w else None

-- what a word is, where options may stand: a positional word, `--` which ends options, `--free`,
-- `--blif`, `--budget` whose value is the next word, `--budget=` with its value, or a word that is
-- refused
pub data Sort : Type 0 where
  positional : Sort
  ends : Sort
  frees : Sort
  blifs : Sort
  apart : Sort
  attached : List ℕ → Sort
  refused : Sort

-- the sort of a dashed word by what stands in it behind `--budget`; 61 is `=`
abbrev pub option_sort : Option (List ℕ) → Sort
option_sort None = refused
option_sort (Some []) = apart
option_sort (Some (b ∷ bs)) = if b == 61 then attached bs else refused

-- the sort of a word where options may stand
unfoldable pub sort_of : List ℕ → Sort
sort_of w =
    if is_dashed w then (
    if same_word w (codes "--") then ends
    else if same_word w (codes "--free") then frees
    else if same_word w (codes "--blif") then blifs
    else option_sort (behind (codes "--budget") w))
    else positional

-- the words behind the first one: those that are positional, the values of `--budget`, and how many
-- are `--free` and `--blif`
pub record Parts : Type 0 where
  pub words : List (List ℕ)
  pub values : List (List ℕ)
  pub frees : ℕ
  pub blifs : ℕ

-- the parts of no words but these positional ones
abbrev pub only_words : List (List ℕ) → Parts
only_words ws = record { words = ws; values = []; frees = 0; blifs = 0 }

-- with one more positional word in front, with one more value, with one more `--free`, and with one
-- more `--blif`
abbrev pub with_word : List ℕ → Option Parts → Option Parts
with_word w None = None
with_word w (Some p) = Some (record p { words = w ∷ p.words })

abbrev pub with_value : List ℕ → Option Parts → Option Parts
with_value v None = None
with_value v (Some p) = Some (record p { values = v ∷ p.values })

abbrev pub with_free : Option Parts → Option Parts
with_free None = None
with_free (Some p) = Some (record p { frees = suc p.frees })

abbrev pub with_blif : Option Parts → Option Parts
with_blif None = None
with_blif (Some p) = Some (record p { blifs = suc p.blifs })

-- what a word of this sort and the words behind it are, by what those are where options may stand,
-- and where a value has to
abbrev pub parts_by : Sort → List ℕ → List (List ℕ) → Option Parts → Option Parts → Option Parts
parts_by positional w ws loose held = with_word w loose
parts_by ends w ws loose held = Some (only_words ws)
parts_by frees w ws loose held = with_free loose
parts_by blifs w ws loose held = with_blif loose
parts_by apart w ws loose held = held
parts_by (attached v) w ws loose held = with_value v loose
parts_by refused w ws loose held = None

-- the parts of these words, none where one is refused. Where the first is to be the value of
-- `--budget` it is no dashed word, since no number is
abbrev pub parts_of : Bool → List (List ℕ) → Option Parts
parts_of false [] = Some (only_words [])
parts_of true [] = None
parts_of false (w ∷ ws) = parts_by (sort_of w) w ws (parts_of false ws) (parts_of true ws)
parts_of true (w ∷ ws) = if is_dashed w then None else with_value w (parts_of false ws)

-- the number that a word says: of one digit up to `most`, and from `least` to `greatest`
unfoldable pub number_of : ℕ → ℕ → ℕ → List ℕ → Option ℕ
number_of most least greatest w =
    if nat_lt 0 (length w) && nat_le (length w) most && list_all is_ascii_digit w
    && nat_le least (digits_value 10 w)
    && nat_le (digits_value 10 w) greatest then Some (digits_value 10 w) else None

-- a budget of diagram nodes, the size of a drawn network, and the seed of its drawing
abbrev pub budget_of : List ℕ → Option ℕ
budget_of = number_of 7 1000 4000000

abbrev pub size_of : List ℕ → Option ℕ
size_of = number_of 5 1 20000

abbrev pub seed_of : List ℕ → Option ℕ
seed_of = number_of 20 0 18446744073709551615

-- the budget that the values of `--budget` give: without one the usual budget; more than one are
-- refused
abbrev pub budget_given : List (List ℕ) → Option ℕ
budget_given [] = Some DEFAULT_BUDGET
budget_given (v ∷ []) = budget_of v
budget_given (v ∷ u ∷ vs) = None

-- whether an option without a value is given, by how many words say so; more than one are refused
abbrev pub flag_given : ℕ → Option Bool
flag_given zero = Some false
flag_given (suc zero) = Some true
flag_given (suc (suc n)) = None

-- two names of files, whether the network files are BLIF, whether values under which the network
-- allows nothing may be given any meaning, and how many nodes of diagrams may be made; what is
-- drawn, the name of a script, and the last two of these
pub record Files : Type 0 where
  pub net : List ℕ
  pub other : List ℕ
  pub blif : Bool
  pub free : Bool
  pub budget : ℕ

pub record Draw : Type 0 where
  pub size : ℕ
  pub seed : ℕ
  pub script : List ℕ
  pub free : Bool
  pub budget : ℕ

-- two names of files alone
pub record Names : Type 0 where
  pub net : List ℕ
  pub other : List ℕ

-- what a command line asks for: that a network is optimised by a script, that a certificate is
-- checked on it, that a network is drawn and optimised by a script, or whether a network allows a
-- run
pub data Asked : Type 0 where
  opt : Files → Asked
  check : Files → Asked
  work : Draw → Asked
  trace : Names → Asked

-- the word is `-`, which names standard input
abbrev pub is_stdin : List ℕ → Bool
is_stdin w = same_word w (codes "-")

abbrev pub files_with : List ℕ → List ℕ → Bool → Bool → ℕ → Files
files_with net other blif free budget =
    record { net = net; other = other; blif = blif; free = free; budget = budget }

abbrev pub names_with : List ℕ → List ℕ → Names
names_with net other = record { net = net; other = other }

abbrev pub draw_with : ℕ → ℕ → List ℕ → Bool → ℕ → Draw
draw_with size seed script free budget =
    record { size = size; seed = seed; script = script; free = free; budget = budget }

-- what is made of both, where both are given
abbrev pub of_both : {A : Type 0} → (Bool → ℕ → A) → Option Bool → Option ℕ → Option A
of_both make free budget = option_and_then (λ f. option_map (make f) budget) free

-- exactly two names of files, of which one at most is standard input
abbrev pub files_in : List (List ℕ) → Option Bool → Option Bool → Option ℕ → Option Files
files_in (net ∷ other ∷ []) blif free budget =
    if is_stdin net && is_stdin other then None
    else option_and_then (λ b. of_both (files_with net other b) free budget) blif
files_in _ blif free budget = None

-- exactly a size, a seed and the name of a script, and no `--blif`
abbrev pub draw_in : List (List ℕ) → ℕ → Option Bool → Option ℕ → Option Draw
draw_in (size ∷ seed ∷ script ∷ []) zero free budget =
    option_and_then
    (λ n. option_and_then (λ s. of_both (draw_with n s script) free budget) (seed_of seed))
    (size_of size)
draw_in _ _ free budget = None

-- exactly two names of files, of which one at most is standard input, and no option
abbrev pub names_in : List (List ℕ) → ℕ → ℕ → List (List ℕ) → Option Names
names_in (net ∷ other ∷ []) zero zero [] =
    if is_stdin net && is_stdin other then None else Some (names_with net other)
names_in _ _ _ _ = None

abbrev pub files_asked : Parts → Option Files
files_asked p =
    files_in p.words (flag_given p.blifs) (flag_given p.frees) (budget_given p.values)

abbrev pub draw_asked : Parts → Option Draw
draw_asked p = draw_in p.words p.blifs (flag_given p.frees) (budget_given p.values)

abbrev pub names_asked : Parts → Option Names
names_asked p = names_in p.words p.blifs p.frees p.values

-- what the words behind the first one ask for
abbrev pub asked_by : List ℕ → Option Parts → Option Asked
asked_by first parts =
    if same_word first (codes "opt") then option_map opt (option_and_then files_asked parts)
    else if same_word first (codes "check") then option_map check
    (option_and_then files_asked parts)
    else if same_word first (codes "work") then option_map work (option_and_then draw_asked parts)
    else if same_word first (codes "trace") then option_map trace
    (option_and_then names_asked parts)
    else None

-- what the words of a command line ask for, without the program's name; None where they are refused
unfoldable pub task_of : List (List ℕ) → Option Asked
task_of [] = None
task_of (first ∷ rest) = asked_by first (parts_of false rest)
