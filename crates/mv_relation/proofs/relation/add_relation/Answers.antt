use Rattle.std.proofs.Common.{◌∙◌, ap, sym}
use Rattle.std.specs.Option.{option_copied}
use Rattle.mv_relation.proofs.Relating.{apart_cover}
use Rattle.mv_relation.proofs.relation.add_relation.Goals as goal

pub add_cover-requires-clause-apart : goal.add_cover-requires-clause-apart
add_cover-requires-clause-apart c =
    apart_cover c.args.net.now.nets c.args.factors.now.contents.counts c.args.vars.now c.args.n.0 c.in-Some.cover.now
    (sym c.table.ensures ∙ ap option_copied c.in-Some.is) c.well_formed-2.ensures.acyclic c.requires.vars
