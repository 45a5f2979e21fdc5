use Rattle.std.proofs.Common.{◌∙◌, Some, ap, subst}
use Rattle.std.specs.Map.{keys_of}
use Rattle.indexmap.proofs.CallerLemmas.{keys-insert_entry-present}
use Rattle.mv_cover.specs.Equal.{lit_eq}
use Rattle.mv_gains.specs.declared.answers.Searched.{Searched}
use Rattle.mv_gains.specs.Answers.{Notes}
use Rattle.mv_gains.proofs.Answered.{notes_one}
use Rattle.mv_gains.proofs.answers.note_answer.Goals as goal

pub returns-clause-ok : goal.returns-clause-ok
returns-clause-ok c =
    let s = c.in_ok-searched.searched in
    let old = c.args.answers.now in
    subst (λ (x : Searched). Notes c.args.symbol x old (record { known = c.insert.new.self })) c.in_ok-searched.ensures
    (notes_one c.args.symbol s old (record { known = c.insert.new.self }) c.in_ok-insert.ensures.updates
    (λ some. ap keys_of c.in_ok-insert.ensures.entries ∙ keys-insert_entry-present lit_eq old.known c.args.symbol (Some s) some))
