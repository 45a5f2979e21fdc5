-- The mark tells of the tables above, and the table of itself.
use Rattle.std.proofs.Common.{◌∙◌, sym}
use Rattle.mv_fill.proofs.Marking.{marked_varied, unmarked_plain, plain_to}
use Rattle.mv_fill.proofs.varied.is_plain_to.Goals as goal

pub returns-then-has_mark : goal.returns-then-has_mark
returns-then-has_mark c =
    marked_varied c.args.net.now.nets c.args.n.0 _ (sym c.has_mark.ensures ∙ c.if-has_mark.true) c.requires.marked

pub returns : goal.returns
returns c =
    plain_to c.args.net.now.nets c.args.n.0 _ (unmarked_plain c.args.net.now.nets c.args.n.0 _ (sym c.has_mark.ensures ∙ c.if-has_mark.false) c.requires.marked) c.is_plain.ensures
