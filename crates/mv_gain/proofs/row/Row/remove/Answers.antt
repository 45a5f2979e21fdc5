-- Each sum had that of the pair.
use Rattle.std.proofs.Common.{◌∙◌, sym, arith}
use Rattle.mv_gain.proofs.Summed.{within_sums, gone_summed}
use Rattle.mv_gain.proofs.row.Row.remove.Goals as goal

pub overflow_sub-self : goal.overflow_sub-self
overflow_sub-self c =
    let w = within_sums c.args.self.now c.remove.new.self c.args.reader c.in-Some.pair c.requires.summed c.remove.ensures.entries (sym c.remove.ensures.value ∙ c.in-Some.is) in
    omega (arith, c.literals_of.ensures, w.coming)

pub overflow_sub-self-in-Some : goal.overflow_sub-self-in-Some
overflow_sub-self-in-Some c =
    let w = within_sums c.args.self.now c.remove.new.self c.args.reader c.in-Some.pair c.requires.summed c.remove.ensures.entries (sym c.remove.ensures.value ∙ c.in-Some.is) in
    w.going

pub overflow_sub-self-in-Some-2 : goal.overflow_sub-self-in-Some-2
overflow_sub-self-in-Some-2 c =
    let w = within_sums c.args.self.now c.remove.new.self c.args.reader c.in-Some.pair c.requires.summed c.remove.ensures.entries (sym c.remove.ensures.value ∙ c.in-Some.is) in
    omega (arith, c.width_of.ensures.value, w.wide)

pub returns-in-Some-clause-summed : goal.returns-in-Some-clause-summed
returns-in-Some-clause-summed c =
    let some = sym c.remove.ensures.value ∙ c.in-Some.is in
    let w = within_sums c.args.self.now c.remove.new.self c.args.reader c.in-Some.pair c.requires.summed c.remove.ensures.entries some in
    gone_summed c.args.self.now _ c.args.reader c.in-Some.pair c.requires.summed c.remove.ensures.ordered c.remove.ensures.entries some
    (record {
      coming = omega (arith, c.literals_of.ensures, w.coming);
      going = omega (arith, w.going);
      wide = omega (arith, c.width_of.ensures.value, w.wide);
    })
