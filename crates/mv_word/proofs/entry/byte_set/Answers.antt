-- A word of one byte is that byte.
use Rattle.mv_word.proofs.Fronts.{only_byte}
use Rattle.mv_word.proofs.entry.byte_set.Goals as goal

pub returns-in-len1 : goal.returns-in-len1
returns-in-len1 c =
    rw (only_byte c.args.word.now c.in-len1.len_at_least c.in-len1.len_below) at c.set_of_byte.ensures
