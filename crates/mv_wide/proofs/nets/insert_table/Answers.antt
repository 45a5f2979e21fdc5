-- The fanins of a table, and then the table.
use Rattle.mv_net.specs.Nets.{reads_in}
use Rattle.mv_wide.proofs.Listing.{table_inserted}
use Rattle.mv_wide.proofs.nets.insert_table.Goals as goal

pub returns : goal.returns
returns c =
    table_inserted (λ m. reads_in c.args.net.now.nets c.args.table.0 m) c.args.found.now.keys c.insert_all.new.found.keys c.insert.new.self.keys
    c.fanins.result.now c.args.table c.fanins.ensures c.in_ok-insert_all.ensures c.in_ok-insert.ensures.keys
