use Rattle.std.proofs.Common.{◌≡◌, ◌++◌, drop}
use Rattle.mv_decl.specs.Line.{front_of, front_faults}
use Rattle.mv_decl.proofs.Fronts.{front_left}
use Rattle.mv_decl.proofs.line.read_head.Given as goal

abbrev pub invariant-loop-at : goal.invariant-loop-at
invariant-loop-at l = record {
  nets : l.nets ++ (front_left l.wants_name (drop l.at l.words)).nets ≡ (front_of l.words).nets;
  count : (front_left l.wants_name (drop l.at l.words)).rest ≡ (front_of l.words).rest;
  fault : front_faults l.line l.word (front_left l.wants_name (drop l.at l.words)) ≡ front_faults l.line l.word (front_of l.words);
}
