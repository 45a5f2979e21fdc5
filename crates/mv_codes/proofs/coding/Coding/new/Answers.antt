-- The first code has as many bits as each.
use Rattle.std.proofs.Common.{◌∙◌, length, sym, ap, arith}
use Rattle.mv_entry.specs.declared.rule.Code.{Code}
use Rattle.mv_codes.proofs.Values.{bits_in-first, coding_is, is_coding}
use Rattle.mv_codes.proofs.coding.Coding.new.Goals as goal

pub returns-clause-coding : goal.returns-clause-coding
returns-clause-coding c =
    let several = c.requires.codes.several in
    coding_is c.args.net c.args.first c.args.codes.now c.len-bits.result c.in_ok-values.values (bits_in-first c.args.codes.now c.index-codes-0.result c.len-bits.result (omega arith) c.index-codes-0.is (c.len-bits.ensures ∙ ap (λ (x : Code). length x.bits) (sym c.index-codes-0.is))) c.in_ok-values.ensures

pub returns-clause-formed : goal.returns-clause-formed
returns-clause-formed c =
    let several = c.requires.codes.several in
    is_coding c.args.net c.args.first c.args.codes.now c.len-bits.result c.in_ok-values.values (bits_in-first c.args.codes.now c.index-codes-0.result c.len-bits.result (omega arith) c.index-codes-0.is (c.len-bits.ensures ∙ ap (λ (x : Code). length x.bits) (sym c.index-codes-0.is))) c.in_ok-values.ensures
    c.requires.codes.few c.requires.low
