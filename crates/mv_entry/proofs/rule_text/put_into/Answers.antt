use Rattle.std.proofs.Common.{◌∙◌, sym, ap}
use Rattle.mv_base.proofs.Gains.{same}
use Rattle.mv_page.proofs.Adding.{adds}
use Rattle.mv_lex.specs.Text.{spaced}
use Rattle.mv_entry.specs.Entries.{into_words}
use Rattle.mv_entry.proofs.Texts.{spaced-none}
use Rattle.mv_entry.proofs.rule_text.put_into.Goals as goal

pub returns-in-None : goal.returns-in-None
returns-in-None g c =
    same adds (sym (ap (λ i. spaced (into_words i)) c.in-None.is ∙ spaced-none)) (adds.nothing _)
