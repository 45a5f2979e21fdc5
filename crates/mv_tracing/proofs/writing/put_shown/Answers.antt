-- The line is that of the values that were found.
use Rattle.std.proofs.Common.{map, arith}
use Rattle.std.specs.Prelude.{slice_index}
use Rattle.mv_base.specs.declared.number.Value.{Value}
use Rattle.mv_base.proofs.Gains.{same}
use Rattle.mv_page.proofs.Adding.{adds}
use Rattle.mv_trace.specs.Answer.{at_of}
use Rattle.mv_tracing.proofs.Steps.{found_again, same_line}
use Rattle.mv_tracing.proofs.writing.put_shown.Goals as goal

pub returns-clause-puts : goal.returns-clause-puts
returns-clause-puts g c =
    let net = c.args.net.now in
    let at = slice_index c.shows-shown.new.solver.values in
    let kept = at_of (map (λ (v : Value). v.0) c.keep_values.new.values) in
    record {
      at = at;
      shows = found_again net c.args.run.now c.args.k at c.shows-shown.result c.requires.shown c.shows-shown.ensures.shown;
      puts = same adds (same_line kept at net.nets c.args.k (λ m low. c.keep_values.ensures.kept m (omega (arith, c.keep_values.ensures.long, c.requires.room)))) c.put_step.ensures;
    }
