-- The fault of the rest is the word's.
use Rattle.std.proofs.Common.{◌∙◌}
use Rattle.mv_word.proofs.Turns.{says_fault}
use Rattle.mv_word.proofs.entry.word_set.Goals as goal

pub returns-in-Err-clause-fault : goal.returns-in-Err-clause-fault
returns-in-Err-clause-fault c =
    says_fault c.args.values.now c.args.word.now c.split_at.result.1.now c.in-Err.fault (c.split_at.ensures.back ∙ c.bangs_in-bangs.ensures.rest) c.in-Err.ensures.fault
