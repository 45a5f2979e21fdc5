-- A literal on another net stays.
use Rattle.std.proofs.Common.{◌∙◌, sym}
use Rattle.mv_merging.proofs.Written.{literal_on, literal_off}
use Rattle.mv_merging.proofs.tables.put_literal.Goals as goal

pub returns-then-is_on : goal.returns-then-is_on
returns-then-is_on c = literal_on c.args.m c.args.n.0 c.args.l.now c.args.all.now c.put_asked.new.all (sym c.is_on.ensures ∙ c.if-is_on.true) c.in_ok-put_asked.ensures

pub returns : goal.returns
returns c = literal_off c.args.m c.args.n.0 c.args.l.now c.in_ok-same.same c.args.all.now c.push.new.self (sym c.is_on.ensures ∙ c.if-is_on.false) c.in_ok-same.ensures c.in_ok-push.ensures.ok
