use Rattle.std.proofs.Common.{◌≡◌, ◌++◌, [], drop}
use Rattle.mv_decl.specs.Line.{value_names, value_name_faults}
use Rattle.mv_decl.proofs.count.value_names.Given as goal

abbrev pub invariant-loop-word : goal.invariant-loop-word
invariant-loop-word l = record {
  seen : l.seen ≡ l.names;
  names : l.names ++ value_names (drop l.word-index l.words) ≡ value_names l.words;
  fault : value_name_faults l.line l.names (value_names (drop l.word-index l.words)) ≡ value_name_faults l.line [] (value_names l.words);
}
