use Rattle.std.proofs.Common.{[], ◌∷◌, refl}
use Rattle.std.specs.Prelude.{codes}
use Rattle.mv_base.proofs.Gains.{appends, start, next, stop, last}
use Rattle.mv_work.specs.Summing.{number_line}
use Rattle.mv_work.proofs.SummaryLines.{literals_behind, commands_behind, rules_behind, summary-first}
use Rattle.mv_work.proofs.summary.put_summary.Goals as goal

pub returns-in_err-put_line : goal.returns-in_err-put_line
returns-in_err-put_line g c =
    stop appends (literals_behind c.args.summary.now) _ _ (start appends _ _) (summary-first c.args.summary.now) c.in_err-put_line.ensures c.from_residual.ensures.1

pub returns-in_err-put_line-2 : goal.returns-in_err-put_line-2
returns-in_err-put_line-2 g c =
    stop appends (commands_behind c.args.summary.now) _ _ (next appends (start appends _ _) (summary-first c.args.summary.now) c.in_ok-put_line.ensures) refl c.in_err-put_line-2.ensures c.from_residual-in_err-put_line-2.ensures.1

pub returns-in_err-put_line-3 : goal.returns-in_err-put_line-3
returns-in_err-put_line-3 g c =
    stop appends (rules_behind c.args.summary.now) _ _ (next appends (next appends (start appends _ _) (summary-first c.args.summary.now) c.in_ok-put_line.ensures) refl c.in_ok-put_line-2.ensures) refl c.in_err-put_line-3.ensures c.from_residual-in_err-put_line-3.ensures.1

pub returns-in_err-put_line-4 : goal.returns-in_err-put_line-4
returns-in_err-put_line-4 g c =
    stop appends (number_line (codes "dropped") (c.args.summary.now.dropped ∷ [])) _ _ (next appends (next appends (next appends (start appends _ _) (summary-first c.args.summary.now) c.in_ok-put_line.ensures) refl c.in_ok-put_line-2.ensures) refl c.in_ok-put_line-3.ensures) refl c.in_err-put_line-4.ensures c.from_residual-in_err-put_line-4.ensures.1

pub returns : goal.returns
returns g c =
    last appends (next appends (next appends (next appends (next appends (start appends _ _) (summary-first c.args.summary.now) c.in_ok-put_line.ensures) refl c.in_ok-put_line-2.ensures) refl c.in_ok-put_line-3.ensures) refl c.in_ok-put_line-4.ensures) c.put_line-5.ensures
