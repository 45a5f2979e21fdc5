-- A list whose next item is said, and one whose next item says nothing.
use Rattle.std.proofs.Common.{◌≡◌, ℕ, ◌+◌, ◌<◌, ◌≤◌, ◌==◌, List, [], length, take, drop, Some, None, Ok, Err, ap, ◌∙◌, arith, ⊎_elim}
use Rattle.std.specs.List.{slice_split}
use Rattle.std.proofs.lemmas.Bool.{cases_lt}
use Rattle.mv_base.specs.Set.{join, empty}
use Rattle.mv_lex.specs.Words.{front}
use Rattle.mv_word.specs.declared.fault.EntryFault.TheVariants.{Unknown}
use Rattle.mv_word.specs.Entries.{with_item, item_of, items_of, is_inside, list_of}
use Rattle.mv_word.proofs.Fronts.{cut_at_front}

abbrev pub cut : List ℕ → List (List ℕ)
cut bytes = slice_split (λ b. b == 44) bytes

-- the list says what these items say behind a set
abbrev pub goes : List (List ℕ) → List ℕ → ℕ → List ℕ → Type 0
goes values bytes set rest = items_of values empty (cut bytes) ≡ items_of values set (cut rest)

-- an item that is known, with others behind it
pub item_more : (values : List (List ℕ)) (bytes rest : List ℕ) (set size more : ℕ) → goes values bytes set rest → size ≡ length (front is_inside rest) → item_of values (take size rest) ≡ Some more → size < length rest → goes values bytes (join set more) (drop (size + 1) rest)
item_more values bytes rest set size more g e said low =
    g ∙ (ap (items_of values set) ((cut_at_front rest size e).more low) ∙ ap (λ o. with_item (take size rest) o (λ m. items_of values (join set m) (cut (drop (size + 1) rest)))) said)

-- the last item
pub item_last : (values : List (List ℕ)) (bytes rest : List ℕ) (set size more : ℕ) → goes values bytes set rest → size ≡ length (front is_inside rest) → item_of values (take size rest) ≡ Some more → size ≡ length rest → list_of values bytes ≡ Ok (join set more)
unfolding list_of
item_last values bytes rest set size more g e said end =
    g ∙ (ap (items_of values set) ((cut_at_front rest size e).last end) ∙ ap (λ o. with_item (take size rest) o (λ m. items_of values (join set m) [])) said)

-- an item that isn't known
pub item_unknown : (values : List (List ℕ)) (bytes rest : List ℕ) (set size : ℕ) → goes values bytes set rest → size ≡ length (front is_inside rest) → size ≤ length rest → item_of values (take size rest) ≡ None → list_of values bytes ≡ Err (Unknown (take size rest))
unfolding list_of
item_unknown values bytes rest set size g e within said =
    g ∙ ⊎_elim
    (λ (low : size < length rest). ap (items_of values set) ((cut_at_front rest size e).more low) ∙ ap (λ o. with_item (take size rest) o (λ m. items_of values (join set m) (cut (drop (size + 1) rest)))) said)
    (λ (end : length rest ≤ size). ap (items_of values set) ((cut_at_front rest size e).last (omega arith)) ∙ ap (λ o. with_item (take size rest) o (λ m. items_of values (join set m) [])) said)
    (cases_lt size (length rest))
