-- The command that reads the words behind a task's name.
use Rattle.std.specs.Prelude.{Bool, true, [], ◌∷◌, ◌++◌, Some, codes, if◌then◌else◌}
use Rattle.clap.specs.Walk.{Rule, Text}
use Rattle.clap.specs.Simple.{App, new_rule, new_shape}
use Rattle.clap.specs.declared.builder.action.ArgAction.TheVariants.{Set, SetTrue}

-- the options, of which two have no value, and a positional word
abbrev pub budget_option : Rule
budget_option =
    record (new_rule (codes "budget")) { long = Some (codes "budget"); action = Some Set }

abbrev pub flag_option : Text → Rule
flag_option name = record (new_rule name) { long = Some name; action = Some SetTrue }

abbrev pub free_option : Rule
free_option = flag_option (codes "free")

abbrev pub blif_option : Rule
blif_option = flag_option (codes "blif")

abbrev pub word_given : Text → Rule
word_given id = record (new_rule id) { action = Some Set; required = true }

-- two positional words, the options, and no flag for help
abbrev pub two_given : App
two_given = record {
  top = record (new_shape (codes "mvopt")) {
    disable_help_flag = true;
    rules = budget_option ∷ free_option ∷ blif_option ∷ word_given (codes "first")
        ∷ word_given (codes "second") ∷ [];
  };
  subs = [];
}

-- the same with a third word or without
abbrev pub command_given : Bool → App
command_given third = record two_given {
  top = record two_given.top {
    rules = two_given.top.rules
        ++ (if third then word_given (codes "third") ∷ [] else []);
  };
}
