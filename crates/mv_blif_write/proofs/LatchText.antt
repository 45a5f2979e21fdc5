-- Latches, as they are written.
use Rattle.std.proofs.Common.{◌≡◌, ◌∙◌, ℕ, ◌+◌, ◌<◌, ◌≤◌, Option, Some, None, List, [], ◌∷◌, ◌++◌, length, get_or, drop, codes, decimal, sym, ap}
use Rattle.std.specs.List.{flat_map}
use Rattle.std.proofs.lemmas.List.{append-nil, append_assoc, at_drop_more, at_drop_all}
use Rattle.mv_lex.specs.Text.{spaced, line_text}
use Rattle.mv_latch.specs.declared.latch.LatchKind.{LatchKind}
use Rattle.mv_latch.specs.declared.latch.BlifLatch.{BlifLatch}
use Rattle.mv_net.specs.declared.parts.FlatNet.{FlatNet}
use Rattle.mv_net.specs.declared.parts.FlatLatch.{FlatLatch}
use Rattle.mv_net.specs.Nets.{slot, name_in}
use Rattle.mv_write.proofs.Lines.{spaced-append}
use Rattle.mv_blif_text.specs.BlifText.{kind_word, control_word, kind_words, latch_words, latches_words}

-- ---- what is said besides nets

pub no_kind-text : (kind : Option LatchKind) (control : Option (List ℕ)) → kind ≡ None → spaced (kind_words kind control) ≡ []
unfolding spaced
no_kind-text kind control e = ap (λ k. spaced (kind_words k control)) e

pub kind-text : (kind : Option LatchKind) (control : Option (List ℕ)) (k : LatchKind) (word said : List ℕ) → kind ≡ Some k → word ≡ kind_word k → said ≡ control_word control
    → spaced (kind_words kind control) ≡ (codes " " ++ word) ++ (codes " " ++ said)
unfolding spaced
kind-text kind control k word said e is told =
    ap (λ x. spaced (kind_words x control)) e
    ∙ (ap (λ t. (codes " " ++ kind_word k) ++ t) (append-nil (32 ∷ control_word control))
    ∙ (λ j. (codes " " ++ sym is j) ++ (codes " " ++ sym told j)))

pub settings-text : (words : List (List ℕ)) (init : List ℕ) → spaced (words ++ init ∷ []) ≡ spaced words ++ (codes " " ++ init)
unfolding spaced
settings-text words init = spaced-append words (init ∷ []) ∙ ap (λ t. spaced words ++ t) (append-nil (32 ∷ init))

-- ---- one latch

pub latch-text : (nets : List (Option FlatNet)) (l : FlatLatch) (b : BlifLatch) (input output : List ℕ) → input ≡ name_in (slot nets l.input.0) → output ≡ name_in (slot nets l.output.0)
    → line_text (latch_words nets l b) ≡ (codes ".latch " ++ input) ++ ((codes " " ++ output) ++ (spaced (kind_words b.kind b.control ++ decimal b.init ∷ []) ++ 10 ∷ []))
unfolding line_text spaced
latch-text nets l b input output i o =
    let from = name_in (slot nets l.input.0) in
    let to = name_in (slot nets l.output.0) in
    let said = spaced (kind_words b.kind b.control ++ decimal b.init ∷ []) in
    let words : line_text (latch_words nets l b) ≡ (codes ".latch " ++ from) ++ ((codes " " ++ to) ++ (said ++ 10 ∷ [])) =
    ap (λ t. codes ".latch " ++ t) (append_assoc from ((32 ∷ to) ++ said) (10 ∷ []) ∙ ap (λ t. from ++ 32 ∷ t) (append_assoc to said (10 ∷ []))) in
    words ∙ (λ j. (codes ".latch " ++ sym i j) ++ ((codes " " ++ sym o j) ++ (said ++ 10 ∷ [])))

-- ---- all of them

-- the text of the latches from a place on
abbrev pub latches_text : List (Option FlatNet) → List FlatLatch → List BlifLatch → ℕ → List ℕ
latches_text nets ls bs i = flat_map line_text (latches_words nets (drop i ls) (drop i bs))

pub latches-more : (nets : List (Option FlatNet)) (ls : List FlatLatch) (bs : List BlifLatch) (i : ℕ) (l : FlatLatch) (b : BlifLatch) → i < length ls → i < length bs → b ≡ get_or bs i b
    → latches_text nets ls bs i ≡ line_text (latch_words nets (get_or ls i l) b) ++ latches_text nets ls bs (i + 1)
latches-more nets ls bs i l b low within is =
    at_drop_more (λ xs. flat_map line_text (latches_words nets xs (drop i bs))) ls i l low
    ∙ (at_drop_more (λ xs. flat_map line_text (latches_words nets (get_or ls i l ∷ drop (i + 1) ls) xs)) bs i b within
    ∙ ap (λ x. line_text (latch_words nets (get_or ls i l) x) ++ latches_text nets ls bs (i + 1)) (sym is))

pub latches-none : (nets : List (Option FlatNet)) (ls : List FlatLatch) (bs : List BlifLatch) (i : ℕ) → length ls ≤ i → latches_text nets ls bs i ≡ []
latches-none nets ls bs i high = at_drop_all (λ xs. flat_map line_text (latches_words nets xs (drop i bs))) ls i high
