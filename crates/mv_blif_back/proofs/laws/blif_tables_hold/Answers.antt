-- The laws are lemmas.
use Rattle.mv_blif_back.proofs.Meanings.{gate-holds, reset-holds}
use Rattle.mv_blif_back.proofs.laws.blif_tables_hold.Goals as goal

pub returns : goal.returns
returns c = record { tables = gate-holds; resets = reset-holds }
