use Rattle.std.proofs.Common.{◌+◌, drop}
use Rattle.std.specs.List.{flat_map}
use Rattle.mv_base.proofs.Gains.{next, stop, finish}
use Rattle.mv_page.proofs.Adding.{adds}
use Rattle.mv_lex.specs.Text.{spaced}
use Rattle.mv_entry.specs.Entries.{lit_words}
use Rattle.mv_entry.proofs.Texts.{lits-more, lits-none}
use Rattle.mv_entry.proofs.rule_text.put_literals.Goals as goal

pub returns-in_err-put_literal : goal.returns-in_err-put_literal
returns-in_err-put_literal g c =
    let list = c.args.lits.now in
    let i = c.loop-literal.literal-index in
    stop adds (spaced (flat_map lit_words (drop (i + 1) list))) _ _ c.loop-literal.invariant (lits-more list i c.literal-item.result c.loop-literal-test.true c.literal-item.is) c.in_err-put_literal.ensures c.from_residual.ensures.1

pub loop-literal-preserved : goal.loop-literal-preserved
loop-literal-preserved g c =
    next adds c.loop-literal.invariant (lits-more c.args.lits.now c.loop-literal.literal-index c.literal-item.result c.loop-literal-test.true c.literal-item.is) c.in_ok-put_literal.ensures

pub returns : goal.returns
returns g c = finish adds c.loop-literal.invariant (lits-none c.args.lits.now c.loop-literal.literal-index c.loop-literal-test.false)
