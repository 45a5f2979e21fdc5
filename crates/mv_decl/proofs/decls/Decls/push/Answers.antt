-- The nets are those of the list, and the new values are some.
use Rattle.mv_decl.proofs.Kept.{counts_after}
use Rattle.mv_decl.proofs.decls.Decls.push.Goals as goal

pub invariant_of-self : goal.invariant_of-self
invariant_of-self c = record {
  listed = c.push_to.ensures.nets;
  plain = c.self.invariant.plain;
  counts = counts_after c.push_to.result c.self.inside.list c.push_to.new.list c.args.decl c.push_to.ensures.list c.push_to.ensures.err c.self.invariant.counts c.requires.values;
}
