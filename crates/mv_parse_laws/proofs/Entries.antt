-- The entries of rows and defaults fit the columns of their table.
use Rattle.std.proofs.Common.{◌≡◌, ℕ, ◌<◌, ◌≤◌, ◌==◌, List, [], ◌∷◌, length, drop, Option, Some, None, Result, Ok, Err, refl, arith}
use Rattle.std.specs.Prelude.{slice_index_or}
use Rattle.std.proofs.lemmas.Bool.{cond_both, eqb-true}
use Rattle.std.proofs.lemmas.List.Quantifiers.{position-Some}
use Rattle.mv_base.specs.Names.{same_word, begins_with, place_of}
use Rattle.mv_base.specs.Set.{empty, full, Within}
use Rattle.mv_base.proofs.NameLemmas.{same_word_is}
use Rattle.mv_word.specs.declared.fault.EntryFault.{EntryFault}
use Rattle.mv_word.specs.declared.fault.EntryFault.TheVariants.{Equal}
use Rattle.mv_word.specs.Entries.{word_set}
use Rattle.mv_design.specs.declared.table.Entry.TheVariants.{Set, Same}
use Rattle.mv_design.specs.declared.design.Decl.{Decl}
use Rattle.mv_design.specs.Values.{values_of, count_of}
use Rattle.mv_table.specs.Entries.{in_said, same_at, set_entry, out_word, out_said, said_or, ins_said, outs_said}
use Rattle.mv_design.specs.Proper.{FitSets, FitOutput, FitOutputs}
use Rattle.mv_parse_laws.proofs.WordSets.{SaysWithin, empty-within, word-within}

said-within : (k : ℕ) (r : Result ℕ EntryFault) → SaysWithin k r → Within (said_or empty r) (full k)
said-within k (Ok s) h = h
said-within k (Err fault) h = empty-within k

in-fits : (ds : List Decl) (net word : List ℕ) → Within (said_or empty (in_said ds net word)) (full (count_of ds net))
unfolding in_said
in-fits ds net word = said-within (count_of ds net) (word_set (values_of ds net) word) (word-within (values_of ds net) word)

-- as many sets as columns, from as many words at least
pub ins-fit : (ds : List Decl) (nets words : List (List ℕ)) → length nets ≤ length words → FitSets ds nets (ins_said ds nets words)
ins-fit ds [] words enough = tt
ins-fit ds (net ∷ nets) [] enough = absurd (omega arith)
ins-fit ds (net ∷ nets) (w ∷ words) enough = (in-fits ds net w, ins-fit ds nets words (omega arith))

-- ---- outputs

-- the place of a name among these
abbrev PlaceOf : List ℕ → List (List ℕ) → Option ℕ → Type 0
PlaceOf name ins o = (k : ℕ) → o ≡ Some k → (k < length ins) × (name ≡ slice_index_or ins k [])

place-is : (name : List ℕ) (ins : List (List ℕ)) → PlaceOf name ins (place_of name ins)
place-is name ins k e =
    let p = position-Some (same_word name) ins k [] e in
    (p.0, same_word_is name (slice_index_or ins k []) p.1)

same-fits : (ds : List Decl) (ins : List (List ℕ)) (net name : List ℕ) (o : Option ℕ) → PlaceOf name ins o → FitOutput ds ins net (said_or (Set empty) (same_at ds (values_of ds net) name o))
same-fits ds ins net name None at = empty-within (count_of ds net)
same-fits ds ins net name (Some k) at =
    cond_both (length (values_of ds name) == length (values_of ds net)) (Ok (Same k)) (Err (Equal name)) (λ r. FitOutput ds ins net (said_or (Set empty) r))
    (λ y. record { within = (at k refl).0; counts = rw (← (at k refl).1) (eqb-true _ _ y) })
    (λ n. empty-within (count_of ds net))

set-fits : (ds : List Decl) (ins : List (List ℕ)) (net : List ℕ) (r : Result ℕ EntryFault) → SaysWithin (count_of ds net) r → FitOutput ds ins net (said_or (Set empty) (set_entry r))
set-fits ds ins net (Ok s) h = h
set-fits ds ins net (Err fault) h = empty-within (count_of ds net)

out-fits : (ds : List Decl) (ins : List (List ℕ)) (net word : List ℕ) → FitOutput ds ins net (said_or (Set empty) (out_said ds ins net word))
unfolding out_said out_word
out-fits ds ins net word =
    cond_both (begins_with 61 word) (same_at ds (values_of ds net) (drop 1 word) (place_of (drop 1 word) ins)) (set_entry (word_set (values_of ds net) word)) (λ r. FitOutput ds ins net (said_or (Set empty) r))
    (λ y. same-fits ds ins net (drop 1 word) (place_of (drop 1 word) ins) (place-is (drop 1 word) ins))
    (λ n. set-fits ds ins net (word_set (values_of ds net) word) (word-within (values_of ds net) word))

pub outs-fit : (ds : List Decl) (ins nets words : List (List ℕ)) → length nets ≤ length words → FitOutputs ds ins nets (outs_said ds ins nets words)
outs-fit ds ins [] words enough = tt
outs-fit ds ins (net ∷ nets) [] enough = absurd (omega arith)
outs-fit ds ins (net ∷ nets) (w ∷ words) enough = (out-fits ds ins net w, outs-fit ds ins nets words (omega arith))
