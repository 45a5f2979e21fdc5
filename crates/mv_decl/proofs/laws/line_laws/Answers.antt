-- Each law of lines is a lemma.
use Rattle.mv_decl.proofs.Plain.{plain_nets, plain_names, plain_numbers, plain_faults, comma_alone, comma_joined, comma_at_end, comma_in_front, comma_for_name, comma_nets, comma_values, comma_faults}
use Rattle.mv_decl.proofs.laws.line_laws.Goals as goal

pub returns : goal.returns
returns c = record { nets = plain_nets; names = plain_names; numbers = plain_numbers; faults = plain_faults; comma = comma_alone; joined = comma_joined; at_end = comma_at_end; in_front = comma_in_front; lacks = comma_for_name; anew_nets = comma_nets; anew_values = comma_values; anew_faults = comma_faults }
