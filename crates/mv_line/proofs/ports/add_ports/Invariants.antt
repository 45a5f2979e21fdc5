use Rattle.std.proofs.Common.{◌≡◌, ◌++◌, take, drop}
use Rattle.mv_line.specs.Ports.{port_faults}
use Rattle.mv_line.proofs.ports.add_ports.Given as goal

abbrev pub invariant-loop-word : goal.invariant-loop-word
invariant-loop-word l = record {
  ports : l.ports ≡ l.fn.ports ++ take l.word-index l.words;
  fault : port_faults l.number l.ports (drop l.word-index l.words) ≡ port_faults l.number l.fn.ports l.words;
}
