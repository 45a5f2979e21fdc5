-- Where the sets and the entries of a row stand. No public clause cites this module.
use Rattle.std.specs.Prelude.{ℕ, List, [], ◌∷◌}
use Rattle.mv_design.specs.declared.table.Entry.{Entry}
use Rattle.mv_design.specs.declared.short.FewSets.{FewSets}
use Rattle.mv_design.specs.declared.short.FewEntries.{FewEntries}
use Rattle.mv_design.specs.declared.short.FewSets.TheVariants as sets
use Rattle.mv_design.specs.declared.short.FewEntries.TheVariants as entries

-- the sets of a form
abbrev pub sets_in : FewSets → List ℕ
sets_in sets.None = []
sets_in (sets.One s) = s ∷ []
sets_in (sets.Two s) = s
sets_in (sets.Many s) = s

-- the entries of a form
abbrev pub entries_in : FewEntries → List Entry
entries_in entries.None = []
entries_in (entries.One e) = e ∷ []
entries_in (entries.Many e) = e
