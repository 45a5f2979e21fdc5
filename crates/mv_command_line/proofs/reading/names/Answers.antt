-- The matches have the names that the words ask for.
use Rattle.std.proofs.Common.{◌∙◌, sym, ap}
use Rattle.std.specs.Prelude.{option_map}
use Rattle.mv_command_line.specs.Given.{names_of}
use Rattle.mv_command_line.proofs.Said.{flag_said, names_told, names_refused}
use Rattle.mv_command_line.proofs.reading.names.Goals as goal

pub returns-in-Err : goal.returns-in-Err
returns-in-Err c = names_refused c.args.words.now c.in-Err.stop c.in-Err.ensures

pub returns-in-Some : goal.returns-in-Some
returns-in-Some c =
    let p = c.in-Ok.ensures in
    names_told c.args.words.now p.0 _ _ _ _ _ p.1 (c.get_str-net.ensures ∙ p.2.first) (c.get_str-other.ensures ∙ p.2.second) (flag_said _ _ _ p.2.blif c.get_flag-blif.ensures.value c.get_flag-blif.ensures.other) (flag_said _ _ _ p.2.free c.get_flag-free.ensures.value c.get_flag-free.ensures.other) (c.get_str-budget.ensures ∙ p.2.budget)
    ∙ (sym c.names_by.ensures ∙ ap (option_map names_of) c.in-Some.is)

pub returns : goal.returns
returns c =
    let p = c.in-Ok.ensures in
    names_told c.args.words.now p.0 _ _ _ _ _ p.1 (c.get_str-net.ensures ∙ p.2.first) (c.get_str-other.ensures ∙ p.2.second) (flag_said _ _ _ p.2.blif c.get_flag-blif.ensures.value c.get_flag-blif.ensures.other) (flag_said _ _ _ p.2.free c.get_flag-free.ensures.value c.get_flag-free.ensures.other) (c.get_str-budget.ensures ∙ p.2.budget)
    ∙ (sym c.names_by.ensures ∙ ap (option_map names_of) c.in-None.is)
