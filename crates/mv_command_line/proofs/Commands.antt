-- The command behind a task's name, as it is built.
use Rattle.std.proofs.Common.{◌≡◌, Bool, true, false, cond, List, [], ◌∷◌, Some, None, codes, refl, ℕ}
use Rattle.std.specs.Str.{bytes_eq}
use Rattle.mv_command_line.specs.Commands.{budget_option, command_given, flag_option, two_given, word_given}
use Rattle.mv_command_line.proofs.Flags.{Flag, free, blif, name_of}
use Rattle.clap.specs.Walk.{Rule, Text, arg_by_long, arg_by_short}
use Rattle.clap.specs.Simple.{App, Shape, built, new_shape, with_rule}
use Rattle.clap.specs.Faults.{is_simple_and_free}
use Rattle.clap.specs.Simple.{is_simple}
use Rattle.clap.specs.declared.builder.value_parser.ValueParser.TheVariants.{String as text, Bool as flag}

-- the options and a positional word, as the build leaves them
abbrev pub budget_rule : Rule
budget_rule = record budget_option { range = Some (record { start_inclusive = 1; end_inclusive = 1 }); parser = Some text }

abbrev pub flag_rule : Text → Rule
flag_rule name = record (flag_option name) {
  range = Some (record { start_inclusive = 0; end_inclusive = 0 });
  defaults = codes "false" ∷ [];
  missing = codes "true" ∷ [];
  parser = Some flag;
}

abbrev pub free_rule : Rule
free_rule = flag_rule (codes "free")

abbrev pub blif_rule : Rule
blif_rule = flag_rule (codes "blif")

abbrev pub word_rule : Text → ℕ → Rule
word_rule id place = record (word_given id) {
  index = Some place;
  range = Some (record { start_inclusive = 1; end_inclusive = 1 });
  parser = Some text;
}

abbrev pub first_rule : Rule
first_rule = word_rule (codes "first") 1

abbrev pub second_rule : Rule
second_rule = word_rule (codes "second") 2

abbrev pub third_rule : Rule
third_rule = word_rule (codes "third") 3

abbrev pub word_rules : Bool → List Rule
word_rules third = first_rule ∷ second_rule ∷ cond third (third_rule ∷ []) []

abbrev pub rules_of : Bool → List Rule
rules_of third = budget_rule ∷ free_rule ∷ blif_rule ∷ word_rules third

abbrev pub shape_of : Bool → Shape
shape_of third = record (new_shape (codes "mvopt")) {
  disable_help_flag = true;
  disable_help_subcommand = true;
  is_built = true;
  rules = rules_of third;
}

-- the command is given part by part
abbrev pub start_given : App
start_given = record { top = record (new_shape (codes "mvopt")) { disable_help_flag = true }; subs = [] }

pub two_words_given : (third : Bool) → third ≡ false → two_given ≡ command_given third
two_words_given third e = rw e refl

pub three_words_given : (third : Bool) → third ≡ true → with_rule two_given (word_given (codes "third")) ≡ command_given third
three_words_given third e = rw e refl

pub is_built : (third : Bool) → ◌≡◌ {A = App} (built (command_given third)) (record { top = shape_of third; subs = [] })
is_built true = refl
is_built false = refl

pub is_exact : (third : Bool) → is_simple_and_free (command_given third) ≡ true
is_exact true = refl
is_exact false = refl

pub is_plain : (third : Bool) → is_simple (command_given third) ≡ true
is_plain true = refl
is_plain false = refl

-- a long name is that of an option or none's, and there are no short ones
pub budget_found : (third : Bool) (name : Text) → bytes_eq (codes "budget") name ≡ true → arg_by_long (rules_of third) name ≡ Some budget_rule
budget_found third name e = rw e refl

pub flag_found : (third : Bool) (f : Flag) → arg_by_long (rules_of third) (name_of f) ≡ Some (flag_rule (name_of f))
flag_found third free = refl
flag_found third blif = refl

pub long_missing : (third : Bool) (name : Text) → bytes_eq (codes "budget") name ≡ false → ((f : Flag) → bytes_eq (name_of f) name ≡ false) → arg_by_long (rules_of third) name ≡ None
long_missing true name n m = rw (n, m free, m blif) refl
long_missing false name n m = rw (n, m free, m blif) refl

pub short_missing : (third : Bool) (letter : ℕ) → arg_by_short (rules_of third) letter ≡ None
short_missing true letter = refl
short_missing false letter = refl
