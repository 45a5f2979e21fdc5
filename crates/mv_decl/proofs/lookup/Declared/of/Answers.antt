-- The places are those of the declarations, each of which has values.
use Rattle.mv_decl.proofs.Kept.{counts_all}
use Rattle.mv_decl.proofs.lookup.Declared.of.Goals as goal

pub invariant_of-result : goal.invariant_of-result
invariant_of-result c = record {
  first = c.in_ok-first_places.ensures;
  plain = c.in_ok-zero_and_one.ensures;
  counts = counts_all c.args.decls.now c.requires;
}
