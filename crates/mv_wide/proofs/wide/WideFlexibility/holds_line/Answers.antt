-- A point of the line that is outside.
use Rattle.std.proofs.Common.{sym, subst}
use Rattle.mv_wide.specs.Wides.{IsWide, Wide}
use Rattle.mv_wide.proofs.Deciding.{line_told}
use Rattle.mv_wide.proofs.wide.WideFlexibility.holds_line.Goals as goal

pub returns-clause-ok : goal.returns-clause-ok
returns-clause-ok c = λ net w n is over.
    line_told net w n (record { family = c.self.inside.factors; frame = c.self.inside.frame }) (subst (λ (f : Wide). IsWide net w n f) (sym c.self.view_is) is)
    c.args.line.now over c.in_ok-hits.hits c.in_ok-hits.ensures.hits
