-- A net without a table tells nothing; a table tells what its lines do.
use Rattle.std.proofs.Common.{◌∙◌, sym, ap}
use Rattle.std.specs.List.{list_any}
use Rattle.mv_net.specs.Nets.{slot, table_in}
use Rattle.mv_merging.specs.Verdicts.{table_splits}
use Rattle.mv_alike.proofs.Refining.{lines_tell, refined_nothing, refined_ok}
use Rattle.mv_alike.proofs.classes.refine_by_held.Goals as goal

pub returns-in-None : goal.returns-in-None
returns-in-None c =
    refined_nothing (λ u v. table_splits c.args.n.0 u v (table_in (slot c.args.net.now.nets c.args.m.0))) c.args.classes.now.items c.requires.numbered
    (λ u v. sym (ap (table_splits c.args.n.0 u v) c.in-None.ensures))

pub returns-in-Some : goal.returns-in-Some
returns-in-Some c =
    refined_ok (λ u v. list_any (lines_tell c.args.n.0 u v) c.as_slice.result.now)
    (λ u v. table_splits c.args.n.0 u v (table_in (slot c.args.net.now.nets c.args.m.0))) c.args.classes.now.items c.refine_by_lines.new.classes.items
    c.refine_by_lines.result
    (λ u v. ap (list_any (lines_tell c.args.n.0 u v)) c.as_slice.ensures ∙ ap (table_splits c.args.n.0 u v) c.in-Some.ensures) c.refine_by_lines.ensures
