-- The rows that are known still have their lines there.
use Rattle.std.proofs.Common.{◌∷◌, []}
use Rattle.std.proofs.lemmas.Result.{on_ok_weaker}
use Rattle.mv_rows.proofs.SameLines.{still_among}
use Rattle.mv_rows.proofs.named.put_row.Goals as goal

pub returns-in-Set-clause-named : goal.returns-in-Set-clause-named
returns-in-Set-clause-named c =
    on_ok_weaker c.put_lines.result
    (λ p. still_among c.args.frame.now.columns (c.args.row.now ∷ []) c.args.named.now.keys c.args.set.now c.put_lines.new.set p c.requires.named)
    c.put_lines.ensures.rows
