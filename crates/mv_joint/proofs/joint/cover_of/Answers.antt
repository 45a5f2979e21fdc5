-- A table that needs no mark may have any.
use Rattle.std.proofs.Common.{sym, ◌∙◌}
use Rattle.std.proofs.lemmas.Bool.{false≢true}
use Rattle.mv_joint.proofs.joint.cover_of.Goals as goal

pub flat_table-requires-clause-unread : goal.flat_table-requires-clause-unread
flat_table-requires-clause-unread c = λ gets. absurd (false≢true (sym c.requires.unmarked ∙ gets))
