use Rattle.std.proofs.Common.{◌≡◌, ◌++◌, drop}
use Rattle.mv_decl.specs.Line.{commas_apart}
use Rattle.mv_decl.proofs.commas.apart.Given as goal

abbrev pub invariant-loop-word : goal.invariant-loop-word
invariant-loop-word l = l.pieces ++ commas_apart (drop l.word-index l.words) ≡ commas_apart l.words
