-- A plain word says what it says without turns.
use Rattle.std.proofs.Common.{sym, ◌∙◌}
use Rattle.std.proofs.lemmas.Bool.{ne_eqb}
use Rattle.mv_word.proofs.Turns.{byte_said}
use Rattle.mv_word.proofs.entry.set_of_byte.Goals as goal

pub returns : goal.returns
returns c =
    rw (byte_said c.args.values.now c.args.byte (ne_eqb c.args.byte 33 c.if-byte-eq33.false) (sym c.is_opening.ensures ∙ c.if-is_opening.false) (ne_eqb c.args.byte 61 c.if-byte-eq61.false)) c.plain_byte.ensures
