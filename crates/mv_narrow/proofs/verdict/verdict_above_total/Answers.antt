-- The flexibility in the net's window decides.
use Rattle.std.proofs.lemmas.Result.{IfOk-weaker}
use Rattle.mv_narrow.proofs.verdict.verdict_above_total.Goals as goal

pub returns-in-Ok : goal.returns-in-Ok
returns-in-Ok c =
    IfOk-weaker c.verdict_with.result _ _
    (λ verdict is old table.
    is c.args.net.now c.args.n.0 c.args.d c.args.u c.args.budget old
    (record {
      below = c.requires.below;
      window = c.in_ok-window.window;
      is = c.in_ok-window.ensures;
      narrow = c.in-Ok.ensures.narrow;
      flex = c.in-Ok.ensures.ok;
    })
    table (c.requires.reads old table))
    c.verdict_with.ensures
