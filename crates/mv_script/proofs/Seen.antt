-- The names in a script can be seen, and windows go no more steps than they may.
use Rattle.std.proofs.Common.{◌≡◌, ℕ, Bool, true, false, not, nat_le, ◌&&◌, ◌||◌, if◌then◌else◌, Result, Ok, Err, List, [], ◌∷◌, ◌++◌, length, map, take, drop, take-append-drop, slice_index, refl, sym, ◌∙◌, ap, subst}
use Rattle.std.specs.Prelude.{codes, nat_lt, flat_map}
use Rattle.std.specs.List.{list_all, range_with_len}
use Rattle.std.proofs.lemmas.Bool.{and_parts, and_from, cond_both, false≢true, le-leb, ltb-false}
use Rattle.std.proofs.lemmas.List.{map-append}
use Rattle.std.proofs.lemmas.List.Folds.{list_all-append}
use Rattle.mv_base.specs.Names.{is_visible}
use Rattle.mv_entry.specs.Entries.{is_visible_name}
use Rattle.mv_entry.specs.declared.note.Command.{Command}
use Rattle.mv_entry.specs.declared.note.Command.TheVariants.{Drop, Sweep, Eliminate, Collapse, Kernel, Cube, Simplify, Merge, Default, Determinize, Encode, Fill}
use Rattle.mv_script.specs.declared.part.Part.{Part}
use Rattle.mv_script.specs.declared.part.PartKind.{PartKind}
use Rattle.mv_script.specs.declared.part.PartKind.TheVariants.{Do as DoPart, Open, Close}
use Rattle.mv_script.specs.declared.token.Token.{Token}
use Rattle.mv_script.specs.Commands.{is_lawful, are_lawful}
use Rattle.mv_script.specs.declared.fault.FaultKind.{FaultKind}
use Rattle.mv_script.specs.declared.fault.FaultKind.TheVariants.{Missing, NumberRange}
use Rattle.mv_script.specs.Numbers.{is_number, number_said, number_from}
use Rattle.mv_script.specs.Grammar.{SaysCommand, SaysNumber, SaysKind, SayParts, IsScript}
use Rattle.mv_script.specs.Parts.{parts_of, kinds}
use Rattle.mv_script.specs.Reading.{is_name}
use Rattle.mv_script.specs.Scripts.{Items, End, Do, Repeat, Better}
use Rattle.mv_script.specs.Texts.{is_blank, is_mark, is_letter, is_strange, begins, word_at, token_at, said, tokens_of}

-- ---- commands of items are those of their parts

abbrev lawful_kind : PartKind → Bool
lawful_kind (DoPart command) = is_lawful command
lawful_kind (Open braces) = true
lawful_kind Close = true

lawful_item : (inside rest : List PartKind) (a b : Bool) → a ≡ list_all lawful_kind inside → b ≡ list_all lawful_kind rest → (a && b) ≡ list_all lawful_kind (inside ++ Close ∷ rest)
lawful_item inside rest a b e h =
    ap (λ x. x && b) e ∙ ap (λ y. list_all lawful_kind inside && y) h ∙ sym (list_all-append lawful_kind inside (Close ∷ rest))

lawful_parts : (items : Items) → are_lawful items ≡ list_all lawful_kind (parts_of items)
lawful_parts End = refl
lawful_parts (Do command rest) = ap (λ b. is_lawful command && b) (lawful_parts rest)
lawful_parts (Repeat times inside rest) = lawful_item (parts_of inside) (parts_of rest) (are_lawful inside) (are_lawful rest) (lawful_parts inside) (lawful_parts rest)
lawful_parts (Better inside rest) = lawful_item (parts_of inside) (parts_of rest) (are_lawful inside) (are_lawful rest) (lawful_parts inside) (lawful_parts rest)

-- ---- words of what is said

-- a byte that isn't strange
abbrev plain : ℕ → Bool
plain b = not (is_strange b)

abbrev all_plain : List (List ℕ) → Bool
all_plain words = list_all (λ w. list_all plain w) words

abbrev words_of : List Token → List (List ℕ)
words_of ts = map (λ (t : Token). t.word) ts

plain_front : (n : ℕ) (bs : List ℕ) → list_all plain bs ≡ true → list_all plain (take n bs) ≡ true
plain_front n bs h =
    (and_parts (list_all plain (take n bs)) (list_all plain (drop n bs)) (sym (list_all-append plain (take n bs) (drop n bs)) ∙ ap (list_all plain) (take-append-drop n bs) ∙ h)).0

plain_back : (n : ℕ) (bs : List ℕ) → list_all plain bs ≡ true → list_all plain (drop n bs) ≡ true
plain_back n bs h =
    (and_parts (list_all plain (take n bs)) (list_all plain (drop n bs)) (sym (list_all-append plain (take n bs) (drop n bs)) ∙ ap (list_all plain) (take-append-drop n bs) ∙ h)).1

plain_word : (bs : List ℕ) (p : ℕ) → list_all plain bs ≡ true → list_all plain (word_at bs p) ≡ true
plain_word bs p h =
    cond_both (is_mark (slice_index bs p)) _ _ (λ w. list_all plain w ≡ true) (λ _. plain_front 1 (drop p bs) (plain_back p bs h)) (λ _. plain_front _ (drop p bs) (plain_back p bs h))

plain_token : (bs : List ℕ) (p : ℕ) → list_all plain bs ≡ true → all_plain (words_of (token_at bs p)) ≡ true
plain_token bs p h =
    cond_both (begins bs p) _ _ (λ ts. all_plain (words_of ts) ≡ true) (λ _. and_from (list_all plain (word_at bs p)) true (plain_word bs p h) refl) (λ _. refl)

plain_tokens : (bs ps : List ℕ) → list_all plain bs ≡ true → all_plain (words_of (flat_map (λ p. token_at bs p) ps)) ≡ true
plain_tokens bs [] h = refl
plain_tokens bs (p ∷ ps) h =
    ap all_plain (map-append (λ (t : Token). t.word) (token_at bs p) (flat_map (λ q. token_at bs q) ps))
    ∙ list_all-append (λ w. list_all plain w) (words_of (token_at bs p)) (words_of (flat_map (λ q. token_at bs q) ps))
    ∙ and_from (all_plain (words_of (token_at bs p))) _ (plain_token bs p h) (plain_tokens bs ps h)

plain_said : (bs : List ℕ) → list_all plain bs ≡ true → all_plain (words_of (tokens_of bs)) ≡ true
unfolding tokens_of
plain_said bs h = plain_tokens bs (range_with_len 0 (length bs)) h

-- ---- names that are said

letter_seen : (blank mark seen : Bool) → not (blank || mark) ≡ true → not (not (blank || seen)) ≡ true → seen ≡ true
letter_seen true mark seen h k = absurd (false≢true h)
letter_seen false mark true h k = refl
letter_seen false mark false h k = k

letters_seen : (w : List ℕ) → list_all is_letter w ≡ true → list_all plain w ≡ true → list_all is_visible w ≡ true
letters_seen [] h k = refl
letters_seen (b ∷ bs) h k =
    let letters = and_parts (is_letter b) _ h in
    let seen = and_parts (plain b) _ k in
    and_from (is_visible b) _ (letter_seen (is_blank b) (is_mark b) (is_visible b) letters.0 seen.0) (letters_seen bs letters.1 seen.1)

name_seen : (w : List ℕ) → is_name w ≡ true → list_all plain w ≡ true → is_visible_name w ≡ true
name_seen w h k =
    let parts = and_parts (nat_lt 0 (length w)) _ h in
    and_from (nat_lt 0 (length w)) _ parts.0 (letters_seen w parts.1 k)

said_name : (words : List (List ℕ)) (net : List ℕ) → words ≡ codes "collapse" ∷ net ∷ [] → is_name net ≡ true → all_plain words ≡ true → is_visible_name net ≡ true
said_name words net e h k =
    let all : all_plain (codes "collapse" ∷ net ∷ []) ≡ true = ap all_plain (sym e) ∙ k in
    let behind : all_plain (net ∷ []) ≡ true = (and_parts (list_all plain (codes "collapse")) (all_plain (net ∷ [])) all).1 in
    name_seen net h (and_parts (list_all plain net) true behind).0

-- a number that is said is one of those it may be
said_number : (least most n : ℕ) (w : List ℕ) → SaysNumber least most n w → nat_le n most ≡ true
unfolding number_from
said_number least most n w says = by (is_number w) (nat_lt (number_said w) least) (nat_lt most (number_said w)) refl says
  where
    by : (word low high : Bool) → nat_lt most (number_said w) ≡ high → (if word then (if low || high then Err NumberRange else Ok (number_said w)) else Err Missing) ≡ Ok n → nat_le n most ≡ true
    by false low high is e = absurd cc
    by true true high is e = absurd cc
    by true false true is e = absurd cc
    by true false false is e =
        let same : number_said w ≡ n = cc in
        subst (λ k. nat_le k most ≡ true) same (le-leb (number_said w) most (ltb-false most (number_said w) is))

said_command : (command : Command) (words : List (List ℕ)) → SaysCommand command words → all_plain words ≡ true → is_lawful command ≡ true
said_command Drop words h k = refl
said_command Sweep words h k = refl
said_command Eliminate words h k = refl
said_command (Collapse net) words h k = said_name words net h.0 h.1 k
said_command Kernel words h k = refl
said_command Cube words h k = refl
said_command (Simplify down up) words h k = and_from (nat_le down 8) (nat_le up 8) (said_number 0 8 down h.0 h.1.1.1) (said_number 0 8 up h.1.0 h.1.1.2)
said_command Merge words h k = refl
said_command Default words h k = refl
said_command Determinize words h k = refl
said_command Encode words h k = refl
said_command Fill words h k = refl

said_kind : (kind : PartKind) (words : List (List ℕ)) → SaysKind kind words → all_plain words ≡ true → lawful_kind kind ≡ true
said_kind (DoPart command) words h k = said_command command words h k
said_kind (Open braces) words h k = refl
said_kind Close words h k = refl

plain_parts : (a b : List Token) → all_plain (words_of (a ++ b)) ≡ true → (all_plain (words_of a) ≡ true) × (all_plain (words_of b) ≡ true)
plain_parts a b h =
    and_parts (all_plain (words_of a)) (all_plain (words_of b)) (sym (list_all-append (λ w. list_all plain w) (words_of a) (words_of b)) ∙ ap all_plain (sym (map-append (λ (t : Token). t.word) a b)) ∙ h)

said_parts : (parts : List Part) (ts : List Token) → SayParts parts ts → all_plain (words_of ts) ≡ true → list_all lawful_kind (kinds parts) ≡ true
said_parts [] ts h k = refl
said_parts (p ∷ parts) ts h k =
    let own = h.1.0 in
    let others = h.1.1.0 in
    let rest = (plain_parts h.0 (own ++ others) (ap (λ x. all_plain (words_of x)) (sym h.1.1.1.0) ∙ k)).1 in
    let both = plain_parts own others rest in
    and_from (lawful_kind p.kind) _ (said_kind p.kind (words_of own) h.1.1.1.2.words both.0) (said_parts parts others h.1.1.1.3 both.1)

-- the commands of a script
pub script_lawful : (text : List ℕ) (items : Items) → IsScript text items → are_lawful items ≡ true
script_lawful text items s =
    lawful_parts items ∙ ap (λ ks. list_all lawful_kind ks) (sym s.are) ∙ said_parts s.parts (tokens_of (said text)) s.said (plain_said (said text) s.readable)
