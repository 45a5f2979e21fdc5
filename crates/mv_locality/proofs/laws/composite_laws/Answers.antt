-- Each law is a lemma, with nets that are kept.
use Rattle.mv_locality.proofs.Tables.{composed_both, IsTooWide-both}
use Rattle.mv_locality.proofs.laws.composite_laws.Goals as goal

pub returns : goal.returns
returns c = record { composed = composed_both; too_wide = IsTooWide-both }
