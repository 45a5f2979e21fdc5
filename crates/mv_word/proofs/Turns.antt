-- What the `!` in front of a word do to what the rest of it says.
use Rattle.std.proofs.Common.{◌≡◌, ◌⊎◌, ℕ, suc, zero, false, ◌==◌, List, [], ◌∷◌, length, Ok, Err, refl, ap, sym, ◌∙◌, inl, inr}
use Rattle.mv_lex.specs.Words.{is_bang, opens, front, behind}
use Rattle.mv_word.specs.declared.fault.EntryFault.{EntryFault}
use Rattle.mv_word.specs.declared.fault.EntryFault.TheVariants.{Memory}
use Rattle.mv_word.specs.Entries.{base_of, plain_of, opposite, opposites, word_set}

-- a fault stays however often it is turned
pub opposites-err : (count n : ℕ) (f : EntryFault) → opposites count n (Err f) ≡ Err f
opposites-err count zero f = refl
opposites-err count (suc n) f = ap (opposite count) (opposites-err count n f)

-- a word says the set that its rest says, turned
pub says_set : (values : List (List ℕ)) (word rest : List ℕ) (bangs set turned : ℕ) → bangs ≡ length (front is_bang word) → rest ≡ behind is_bang word → base_of values word rest ≡ Ok set → opposites (length values) bangs (Ok set) ≡ Ok turned → word_set values word ≡ Ok turned
unfolding word_set
says_set values word rest bangs set turned e r said turns =
    ap (λ b. opposites (length values) (length (front is_bang word)) (base_of values word b)) (sym r) ∙ (ap (opposites (length values) (length (front is_bang word))) said ∙ (ap (λ n. opposites (length values) n (Ok set)) (sym e) ∙ turns))

-- or has the fault of its rest
pub says_fault : (values : List (List ℕ)) (word rest : List ℕ) (f : EntryFault) → rest ≡ behind is_bang word → (f ≡ Memory) ⊎ (base_of values word rest ≡ Err f) → (f ≡ Memory) ⊎ (word_set values word ≡ Err f)
unfolding word_set
says_fault values word rest f r (inl e) = inl e
says_fault values word rest f r (inr said) =
    inr (ap (λ b. opposites (length values) (length (front is_bang word)) (base_of values word b)) (sym r) ∙ (ap (opposites (length values) (length (front is_bang word))) said ∙ opposites-err (length values) (length (front is_bang word)) f))

pub ruleset turning = (says_set, says_fault)

-- a word of one byte that begins neither turn nor list nor name of a column says what it says as a
-- plain one
pub byte_said : (values : List (List ℕ)) (b : ℕ) → is_bang b ≡ false → opens b ≡ false → (b == 61) ≡ false → word_set values (b ∷ []) ≡ plain_of values (b ∷ []) (b ∷ [])
unfolding word_set
byte_said values b bang bracket equal = rw (bang, bracket, equal) refl
