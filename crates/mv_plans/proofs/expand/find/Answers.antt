-- The line is wanted, and is found with those that were; or it isn't wanted.
use Rattle.std.proofs.Common.{◌∙◌, sym}
use Rattle.mv_plans.proofs.Found.{found_one, missed_one}
use Rattle.mv_plans.proofs.expand.find.Goals as goal

pub returns-then-not-contains : goal.returns-then-not-contains
returns-then-not-contains c = missed_one c.args.wanted.now.keys c.args.line (sym c.contains.ensures ∙ c.if-not-contains.true)

pub returns : goal.returns
returns c = found_one c.args.wanted.now.keys c.args.found.now.keys c.insert.new.self.keys c.args.line c.in_ok-insert.ensures.keys (sym c.contains.ensures ∙ c.if-not-contains.false)
