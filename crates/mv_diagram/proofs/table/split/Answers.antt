use Rattle.std.proofs.Common.{sym}
use Rattle.mv_diagram.proofs.Canonical.{test_from, test_before}
use Rattle.mv_diagram.proofs.Points.{split_here, split_before, split_end}
use Rattle.mv_diagram.proofs.table.split.Goals as goal

pub returns-in_default : goal.returns-in_default
returns-in_default c =
    split_end c.args.table.now.counts.items c.args.table.now.pool.places c.requires.sound c.args.d.0 c.args.test c.requires.test c.requires.held cc

pub returns-then-eq : goal.returns-then-eq
returns-then-eq c =
    split_here c.args.table.now.counts.items c.args.table.now.pool.places c.requires.sound c.args.d.0 c.in-Some.node c.args.test (sym c.in-Some.ensures)
    (test_from c.in-Some.node.test c.args.test (sym c.if-eq.ensures))

pub returns : goal.returns
returns c =
    let later = test_before c.args.table.now.counts.items c.args.table.now.pool.places c.requires.sound c.args.d.0 c.in-Some.node c.args.test (sym c.in-Some.ensures) c.requires.test (sym c.if-eq.ensures) c.requires.later in
    record {
      yes_held = c.otherwise.ensures.held;
      no_held = c.requires.held;
      yes_later = c.otherwise.ensures.later;
      no_later = later;
      set = λ p. split_before c.args.table.now.counts.items c.args.table.now.pool.places c.requires.sound c.args.d.0 c.otherwise.result.0 c.args.test p later (c.otherwise.ensures.set p);
    }
