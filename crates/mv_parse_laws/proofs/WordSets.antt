-- The set that a word of a table says: values that the net of its column has.
use Rattle.std.proofs.Common.{◌≡◌, ℕ, zero, suc, ◌+◌, ◌-◌, ◌<◌, true, ◌==◌, List, [], ◌∷◌, ◌++◌, length, take, Option, Some, None, Result, Ok, Err, refl, sym, ◌∙◌, arith, ⊎_elim}
use Rattle.std.specs.Prelude.{nat_le, codes, if◌then◌else◌}
use Rattle.std.specs.List.{slice_split}
use Rattle.std.proofs.lemmas.Bool.{false≢true, and_parts, or_cases, cond_both, eqb-true, ltb-true, lt-ltb}
use Rattle.mv_base.specs.Names.{same_word, place_of}
use Rattle.mv_base.specs.Set.{has, empty, one, full, join, minus, Within}
use Rattle.mv_base.proofs.NameLemmas.{IsPlace-from_place}
use Rattle.mv_base.proofs.Sets.{has-empty, has-one, has-full, has-join, has-minus}
use Rattle.mv_lex.specs.Words.{is_bang, opens, front, behind}
use Rattle.mv_word.specs.declared.fault.EntryFault.{EntryFault}
use Rattle.mv_word.specs.declared.fault.EntryFault.TheVariants.{Equal}
use Rattle.mv_word.specs.Entries.{span, span_of, parts_range, range_from, range_of, one_or, item_of, with_item, items_of, list_of, named_or, plain_of, base_of, opposite, opposites, word_set}

-- ---- sets within the first values

pub empty-within : (k : ℕ) → Within empty (full k)
empty-within k v h = absurd (false≢true (sym (has-empty v) ∙ h))

-- one that is among them
pub one-within : (v k : ℕ) → v < k → Within (one v) (full k)
one-within v k low u h =
    let same : u ≡ v = eqb-true u v (sym (has-one v u) ∙ h) in
    has-full k u ∙ lt-ltb u k (omega arith)

-- those below one that is among them, but some
below-within : (last k s : ℕ) → last < k → Within (minus (full (last + 1)) s) (full k)
below-within last k s low u h =
    let member : has (full (last + 1)) u ≡ true = (and_parts _ _ (sym (has-minus (full (last + 1)) s u) ∙ h)).0 in
    let below : u < last + 1 = ltb-true u (last + 1) (sym (has-full (last + 1) u) ∙ member) in
    has-full k u ∙ lt-ltb u k (omega arith)

rest-within : (k s : ℕ) → Within (minus (full k) s) (full k)
rest-within k s u h = (and_parts _ _ (sym (has-minus (full k) s u) ∙ h)).0

join-within : (s t k : ℕ) → Within s (full k) → Within t (full k) → Within (join s t) (full k)
join-within s t k p q u h = ⊎_elim (λ y. p u y) (λ y. q u y) (or_cases _ _ (sym (has-join s t u) ∙ h))

-- ---- what may say one

abbrev MaybeWithin : ℕ → Option ℕ → Type 0
MaybeWithin k None = Unit {0}
MaybeWithin k (Some s) = Within s (full k)

abbrev pub SaysWithin : ℕ → Result ℕ EntryFault → Type 0
SaysWithin k (Ok s) = Within s (full k)
SaysWithin k (Err fault) = Unit {0}

place-below : (values : List (List ℕ)) (w : List ℕ) (v : ℕ) → place_of w values ≡ Some v → v < length values
place-below values w v e = (IsPlace-from_place w values v e).within

span-within : (first last k : ℕ) → last < k → MaybeWithin k (span first last)
unfolding span
span-within first last k low =
    cond_both (nat_le first last) (Some (minus (full (last + 1)) (full first))) None (MaybeWithin k) (λ y. below-within last k (full first) low) (λ n. tt)

span_of-within : (p q : Option ℕ) (k : ℕ) → ((v : ℕ) → q ≡ Some v → v < k) → MaybeWithin k (span_of p q)
span_of-within None q k low = tt
span_of-within (Some first) None k low = tt
span_of-within (Some first) (Some last) k low = span-within first last k (low last refl)

range_from-within : (values : List (List ℕ)) (before bytes : List ℕ) → MaybeWithin (length values) (range_from values before bytes)
range_from-within values before [] = tt
range_from-within values before (b ∷ bytes) =
    cond_both (parts_range values before b bytes) (span_of (place_of before values) (place_of bytes values)) (range_from values (before ++ b ∷ []) bytes) (MaybeWithin (length values))
    (λ y. span_of-within (place_of before values) (place_of bytes values) (length values) (place-below values bytes))
    (λ n. range_from-within values (before ++ b ∷ []) bytes)

one_or-within : (o other : Option ℕ) (k : ℕ) → ((v : ℕ) → o ≡ Some v → v < k) → MaybeWithin k other → MaybeWithin k (one_or o other)
one_or-within None other k low h = h
one_or-within (Some v) other k low h = one-within v k (low v refl)

item-within : (values : List (List ℕ)) (word : List ℕ) → MaybeWithin (length values) (item_of values word)
unfolding item_of range_of
item-within values word =
    one_or-within (place_of word values) (range_from values [] word) (length values) (place-below values word) (range_from-within values [] word)

-- ---- lists of items

with_item-within : (item : List ℕ) (o : Option ℕ) (rest : ℕ → Result ℕ EntryFault) (k : ℕ) → MaybeWithin k o → ((more : ℕ) → Within more (full k) → SaysWithin k (rest more)) → SaysWithin k (with_item item o rest)
with_item-within item None rest k h each = tt
with_item-within item (Some more) rest k h each = each more h

items-within : (values : List (List ℕ)) (set : ℕ) (items : List (List ℕ)) → Within set (full (length values)) → SaysWithin (length values) (items_of values set items)
items-within values set [] h = h
items-within values set (item ∷ items) h =
    with_item-within item (item_of values item) (λ more. items_of values (join set more) items) (length values) (item-within values item)
    (λ more w. items-within values (join set more) items (join-within set more (length values) h w))

list-within : (values : List (List ℕ)) (bytes : List ℕ) → SaysWithin (length values) (list_of values bytes)
unfolding list_of
list-within values bytes = items-within values empty (slice_split (λ b. b == 44) bytes) (empty-within (length values))

-- ---- whole words

named-within : (whole : List ℕ) (o : Option ℕ) (k : ℕ) → ((v : ℕ) → o ≡ Some v → v < k) → SaysWithin k (named_or whole o)
named-within whole None k low = tt
named-within whole (Some v) k low = one-within v k (low v refl)

plain-within : (values : List (List ℕ)) (whole word : List ℕ) → SaysWithin (length values) (plain_of values whole word)
unfolding plain_of
plain-within values whole word =
    cond_both (same_word word (codes "-")) (Ok (full (length values))) (named_or whole (place_of word values)) (SaysWithin (length values))
    (λ y v h. h)
    (λ n. named-within whole (place_of word values) (length values) (place-below values word))

base-within : (values : List (List ℕ)) (whole word : List ℕ) → SaysWithin (length values) (base_of values whole word)
base-within values whole [] = tt
base-within values whole (b ∷ bytes) =
    cond_both (opens b) (list_of values (take (length bytes - 1) bytes)) (if b == 61 then Err (Equal bytes) else plain_of values whole (b ∷ bytes)) (SaysWithin (length values))
    (λ y. list-within values (take (length bytes - 1) bytes))
    (λ n. cond_both (b == 61) (Err (Equal bytes)) (plain_of values whole (b ∷ bytes)) (SaysWithin (length values)) (λ y. tt) (λ m. plain-within values whole (b ∷ bytes)))

opposite-within : (k : ℕ) (said : Result ℕ EntryFault) → SaysWithin k (opposite k said)
opposite-within k (Ok s) = rest-within k s
opposite-within k (Err fault) = tt

opposites-within : (k n : ℕ) (said : Result ℕ EntryFault) → SaysWithin k said → SaysWithin k (opposites k n said)
opposites-within k zero said h = h
opposites-within k (suc n) said h = opposite-within k (opposites k n said)

pub word-within : (values : List (List ℕ)) (word : List ℕ) → SaysWithin (length values) (word_set values word)
unfolding word_set
word-within values word =
    opposites-within (length values) (length (front is_bang word)) (base_of values word (behind is_bang word)) (base-within values word (behind is_bang word))
