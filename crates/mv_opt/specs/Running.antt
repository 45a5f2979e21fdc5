-- What a script did, and put to the notes. Private functions alone cite these.
use Rattle.std.specs.Prelude.{◌≡◌, ℕ, List}
use Rattle.mv_base.specs.Outside.{Written, Gained}
use Rattle.mv_net.specs.declared.parts.NetParts.{NetParts}
use Rattle.mv_entry.specs.Entries.{Entry, print}
use Rattle.mv_entry.specs.declared.journal.Tally.{Tally}
use Rattle.mv_entry.specs.Tallies.{with_entries}
use Rattle.mv_rules.specs.declared.terms.Terms.{Terms}
use Rattle.mv_script_run.specs.Runs.{Runs, RunsTo}
use Rattle.mv_script.specs.Scripts.{Items}
use Rattle.mv_opt.specs.Outputs.{no_tally}

-- the script ran, and the notes gained its entries, which were counted
pub record HasRun (terms : Terms) (items : Items) (old new : NetParts) (notes notes' : Written)
    (tally : Tally) : Type 0 where
  pub entries : List Entry
  pub runs : Runs terms items old entries new
  pub gained : Gained notes notes' (print entries)
  pub counted : tally ≡ with_entries no_tally entries

-- the script stopped, and this was done with the text of the entries that came
pub record Puts (terms : Terms) (items : Items) (old new : NetParts) (ArePut : List ℕ → Type 0)
    : Type 0 where
  pub entries : List Entry
  pub stops : RunsTo terms items old entries new
  pub put : ArePut (print entries)
