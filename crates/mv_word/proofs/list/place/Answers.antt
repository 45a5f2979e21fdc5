-- A word of one byte is that byte.
use Rattle.std.proofs.Common.{◌∙◌, ap}
use Rattle.mv_base.specs.Names.{place_of}
use Rattle.mv_word.proofs.Fronts.{only_byte}
use Rattle.mv_word.proofs.list.place.Goals as goal

pub returns-in-len1-clause-place : goal.returns-in-len1-clause-place
returns-in-len1-clause-place c =
    c.place_of_byte.ensures.place ∙ ap (λ w. place_of w c.args.values.now) (only_byte c.args.word.now c.in-len1.len_at_least c.in-len1.len_below)
