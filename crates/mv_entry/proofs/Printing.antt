-- The text and the numbers of entries, one after the other.
use Rattle.std.proofs.Common.{◌≡◌, List, [], ◌∷◌, ◌++◌, refl}
use Rattle.std.proofs.lemmas.List.{append-nil}
use Rattle.std.proofs.lemmas.List.Concat.{flat_map-append}
use Rattle.mv_entry.specs.declared.journal.Tally.{Tally}
use Rattle.mv_entry.specs.Entries.{Entry, entry_text, print}
use Rattle.mv_entry.specs.Tallies.{with_entry, with_entries}

pub print-none : print [] ≡ []
unfolding print
print-none = refl

pub print-one : (e : Entry) → print (e ∷ []) ≡ entry_text e
unfolding print
print-one e = append-nil (entry_text e)

pub print-append : (es fs : List Entry) → print (es ++ fs) ≡ print es ++ print fs
unfolding print
print-append es fs = flat_map-append entry_text es fs

pub counts-append : (t : Tally) (es fs : List Entry) → with_entries t (es ++ fs) ≡ with_entries (with_entries t es) fs
counts-append t [] fs = refl
counts-append t (e ∷ es) fs = counts-append (with_entry t e) es fs
