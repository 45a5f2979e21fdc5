-- Tokens without a fault say the parts that are read.
use Rattle.std.proofs.Common.{◌≡◌, ℕ, true, false, ◌==◌, Option, Some, None, Result, Ok, Err, List, [], ◌∷◌, ◌++◌, map, refl, sym, ◌∙◌, ap, subst, append_assoc, arith}
use Rattle.std.specs.Prelude.{codes, nat_lt}
use Rattle.std.proofs.lemmas.Bool.Decides.{nat_tests}
use Rattle.std.proofs.lemmas.Bool.{cond_both, and_from, ltb-true}
use Rattle.mv_base.specs.Names.{same_word}
use Rattle.mv_base.proofs.NameLemmas.{same_word_is}
use Rattle.mv_base.specs.declared.limits.TheConstants.{MAX_SCRIPT_BRACES}
use Rattle.mv_entry.specs.declared.note.Command.{Command}
use Rattle.mv_entry.specs.declared.note.Command.TheVariants.{Drop, Sweep, Eliminate, Collapse, Kernel, Cube, Simplify, Merge, Default, Determinize, Encode, Fill}
use Rattle.mv_script.specs.declared.fault.FaultKind.{FaultKind}
use Rattle.mv_script.specs.declared.fault.FaultKind.TheVariants.{Missing, Brace}
use Rattle.mv_script.specs.declared.fault.TextFault.{TextFault}
use Rattle.mv_script.specs.declared.part.Braces.{Braces}
use Rattle.mv_script.specs.declared.part.Braces.TheVariants.{Repeat, Better}
use Rattle.mv_script.specs.declared.part.Part.{Part}
use Rattle.mv_script.specs.declared.part.PartKind.TheVariants.{Do, Open, Close}
use Rattle.mv_script.specs.declared.token.Token.{Token}
use Rattle.mv_script.specs.declared.turn.Waits.{Waits}
use Rattle.mv_script.specs.declared.turn.Waits.TheVariants.{Item, Name, Down, Up, Times, Open as OpenBrace}
use Rattle.mv_script.specs.declared.turn.State.{State}
use Rattle.mv_script.specs.declared.turn.Turn.{Turn}
use Rattle.mv_script.specs.Grammar.{SaysNumber, SaysCommand, SaysPart, SayParts, first_place}
use Rattle.mv_script.specs.Numbers.{number_from}
use Rattle.mv_script.specs.Parts.{kinds, IsBalanced, MayStand, depth_behind}
use Rattle.mv_script.specs.Reading.{fault, waiting, ended, is_name, plain_command, item_waits, begun, close_turn, item_turn, name_turn, with_number, down_turn, up_turn, times_turn, brace_turn, turn_by, turn_at, end_fault, at_end, before, behind_part, after_turn, parts_from}

abbrev words_of : List Token → List (List ℕ)
words_of ts = map (λ (t : Token). t.word) ts

-- ---- a part that has begun

-- these tokens are the first ones of a part, of which this waits
abbrev pub HasBegun : Waits → ℕ → List Token → Type 0
HasBegun Item place own = own ≡ []
HasBegun Name place own = (words_of own ≡ codes "collapse" ∷ []) × (first_place own ≡ Some place)
HasBegun Down place own = (words_of own ≡ codes "simplify" ∷ []) × (first_place own ≡ Some place)
HasBegun (Up down) place own =
    ((v : List ℕ) × ((words_of own ≡ codes "simplify" ∷ v ∷ []) × SaysNumber 0 8 down v)) × (first_place own ≡ Some place)
HasBegun Times place own = (words_of own ≡ codes "repeat" ∷ []) × (first_place own ≡ Some place)
HasBegun (OpenBrace (Repeat times)) place own =
    ((w : List ℕ) × ((words_of own ≡ codes "repeat" ∷ w ∷ []) × SaysNumber 1 1000 times w)) × (first_place own ≡ Some place)
HasBegun (OpenBrace Better) place own = (words_of own ≡ codes "better" ∷ []) × (first_place own ≡ Some place)

-- what a token does behind the tokens of a part that has begun
pub data Turned (own : List Token) (t : Token) (depth : ℕ) (turn : Turn) : Type 0 where
  Skips : (none : turn.part ≡ None) → (is : same_word t.word (codes ";") ≡ true) → (nothing : own ≡ []) → (item : turn.state.waits ≡ Item) → (same : turn.state.depth ≡ depth) → Turned own t depth turn
  Goes : (none : turn.part ≡ None) → (begun : HasBegun turn.state.waits turn.state.place (own ++ t ∷ [])) → (same : turn.state.depth ≡ depth) → Turned own t depth turn
  Ends : (part : Part) → (some : turn.part ≡ Some part) → (says : SaysPart part (own ++ t ∷ [])) → (item : turn.state.waits ≡ Item) → (may : MayStand part.kind depth) → (next : turn.state.depth ≡ depth_behind part.kind depth) → Turned own t depth turn

-- what is told at a token, unless it is a fault
abbrev IsTurned : List Token → Token → ℕ → Result Turn TextFault → Type 0
IsTurned own t depth (Ok turn) = Turned own t depth turn
IsTurned own t depth (Err f) = Unit {0}

words_push : (own : List Token) (t : Token) → words_of (own ++ t ∷ []) ≡ words_of own ++ t.word ∷ []
words_push [] t = refl
words_push (u ∷ own) t = ap (λ ws. u.word ∷ ws) (words_push own t)

first_push : (own : List Token) (t : Token) (place : ℕ) → first_place own ≡ Some place → first_place (own ++ t ∷ []) ≡ Some place
first_push [] t place e = let bad : None ≡ Some place = e in absurd cc
first_push (u ∷ own) t place e = e

-- words of a part that has begun, and one more
push_words : (own : List Token) (t : Token) (front : List (List ℕ)) (w : List ℕ) → words_of own ≡ front → t.word ≡ w → words_of (own ++ t ∷ []) ≡ front ++ w ∷ []
push_words own t front w e is = words_push own t ∙ ap (λ f. f ++ t.word ∷ []) e ∙ ap (λ x. front ++ x ∷ []) is

-- ---- an item begins

-- a token that is a command of one word
one_word : (t : Token) (depth : ℕ) (c : Command) (w : List ℕ) → (t.word ≡ w → SaysCommand c (t.word ∷ [])) → same_word t.word w ≡ true → Turned [] t depth (ended (Do c) t.place depth)
one_word t depth c w says e =
    Ends (record { place = t.place; kind = Do c }) refl (record { words = says (same_word_is t.word w e); place = refl }) refl tt refl

-- what a word that begins no longer item does
abbrev IsPlain : Token → ℕ → Option Command → Type 0
IsPlain t depth None = Unit {0}
IsPlain t depth (Some c) = Turned [] t depth (ended (Do c) t.place depth)

plain_turned : (t : Token) (depth : ℕ) → IsPlain t depth (plain_command t.word)
unfolding plain_command
plain_turned t depth =
    let P : Option Command → Type 0 = IsPlain t depth in
    let one : (c : Command) (w : List ℕ) → (t.word ≡ w → SaysCommand c (t.word ∷ [])) → same_word t.word w ≡ true → Turned [] t depth (ended (Do c) t.place depth) = one_word t depth in
    cond_both (same_word t.word (codes "drop")) _ _ P (one Drop (codes "drop") (λ e. ap (λ w. w ∷ []) e))
    (λ _. cond_both (same_word t.word (codes "sweep")) _ _ P (one Sweep (codes "sweep") (λ e. ap (λ w. w ∷ []) e))
    (λ _. cond_both (same_word t.word (codes "eliminate")) _ _ P (one Eliminate (codes "eliminate") (λ e. ap (λ w. w ∷ []) e))
    (λ _. cond_both (same_word t.word (codes "kernel")) _ _ P (one Kernel (codes "kernel") (λ e. ap (λ w. w ∷ []) e))
    (λ _. cond_both (same_word t.word (codes "cube")) _ _ P (one Cube (codes "cube") (λ e. ap (λ w. w ∷ []) e))
    (λ _. cond_both (same_word t.word (codes "merge")) _ _ P (one Merge (codes "merge") (λ e. ap (λ w. w ∷ []) e))
    (λ _. cond_both (same_word t.word (codes "default")) _ _ P (one Default (codes "default") (λ e. ap (λ w. w ∷ []) e))
    (λ _. cond_both (same_word t.word (codes "determinize")) _ _ P (one Determinize (codes "determinize") (λ e. ap (λ w. w ∷ []) e))
    (λ _. cond_both (same_word t.word (codes "encode")) _ _ P (one Encode (codes "encode") (λ e. ap (λ w. w ∷ []) e))
    (λ _. cond_both (same_word t.word (codes "fill")) _ _ P (one Fill (codes "fill") (λ e. ap (λ w. w ∷ []) e)) (λ _. tt))))))))))

-- what a word that begins a longer item does
abbrev IsLonger : Token → ℕ → Option Waits → Type 0
IsLonger t depth None = Unit {0}
IsLonger t depth (Some waits) = Turned [] t depth (waiting waits t.place depth)

longer_turned : (t : Token) (depth : ℕ) → IsLonger t depth (item_waits t.word)
unfolding item_waits
longer_turned t depth =
    let P : Option Waits → Type 0 = IsLonger t depth in
    cond_both (same_word t.word (codes "collapse")) _ _ P (λ e. Goes refl (ap (λ w. w ∷ []) (same_word_is t.word (codes "collapse") e), refl) refl)
    (λ _. cond_both (same_word t.word (codes "simplify")) _ _ P (λ e. Goes refl (ap (λ w. w ∷ []) (same_word_is t.word (codes "simplify") e), refl) refl)
    (λ _. cond_both (same_word t.word (codes "repeat")) _ _ P (λ e. Goes refl (ap (λ w. w ∷ []) (same_word_is t.word (codes "repeat") e), refl) refl)
    (λ _. cond_both (same_word t.word (codes "better")) _ _ P (λ e. Goes refl (ap (λ w. w ∷ []) (same_word_is t.word (codes "better") e), refl) refl) (λ _. tt))))

begun_turned : (t : Token) (depth : ℕ) (waits : Option Waits) (command : Option Command) → IsLonger t depth waits → IsPlain t depth command → IsTurned [] t depth (begun waits command t.place depth)
begun_turned t depth (Some waits) command h k = h
begun_turned t depth None (Some command) h k = k
begun_turned t depth None None h k = tt

close_turned : (t : Token) (depth : ℕ) → t.word ≡ codes "}" → IsTurned [] t depth (close_turn t.place depth)
close_turned t depth e =
    cond_both (depth == 0) _ _ (λ r. IsTurned [] t depth r) (λ _. tt)
    (λ (n : (depth == 0) ≡ false).
    Ends (record { place = t.place; kind = Close }) refl (record { words = ap (λ w. w ∷ []) e; place = refl }) refl (grind (arith, nat_tests)) refl)

item_turned : (own : List Token) (t : Token) (depth : ℕ) → own ≡ [] → IsTurned own t depth (item_turn depth t)
unfolding item_turn
item_turned own t depth nothing =
    let P : Result Turn TextFault → Type 0 = λ r. IsTurned [] t depth r in
    subst (λ o. IsTurned o t depth (item_turn depth t)) (sym nothing)
    (cond_both (same_word t.word (codes ";")) _ _ P (λ e. Skips refl e refl refl refl)
    (λ _. cond_both (same_word t.word (codes "}")) _ _ P (λ e. close_turned t depth (same_word_is t.word (codes "}") e))
    (λ _. cond_both (same_word t.word (codes "{")) _ _ P (λ _. tt)
    (λ _. begun_turned t depth (item_waits t.word) (plain_command t.word) (longer_turned t depth) (plain_turned t depth)))))

-- ---- an item goes on

name_turned : (own : List Token) (t : Token) (place depth : ℕ) → HasBegun Name place own → IsTurned own t depth (name_turn place depth t)
unfolding name_turn
name_turned own t place depth h =
    cond_both (is_name t.word) _ _ (λ r. IsTurned own t depth r)
    (λ (e : is_name t.word ≡ true).
    Ends (record { place = place; kind = Do (Collapse t.word) }) refl (record { words = (push_words own t (codes "collapse" ∷ []) t.word h.0 refl, e); place = first_push own t place h.1 }) refl tt refl)
    (λ _. tt)

-- what is told of a number, where it says the number
number_turned : (own : List Token) (t : Token) (depth least most : ℕ) (turn : ℕ → Turn) (told : Result ℕ FaultKind) → number_from least most t.word ≡ told → ((n : ℕ) → SaysNumber least most n t.word → Turned own t depth (turn n)) → IsTurned own t depth (with_number told t.place turn)
number_turned own t depth least most turn (Ok n) e f = f n e
number_turned own t depth least most turn (Err kind) e f = tt

down_turned : (own : List Token) (t : Token) (place depth : ℕ) → HasBegun Down place own → IsTurned own t depth (down_turn place depth t)
unfolding down_turn
down_turned own t place depth h =
    number_turned own t depth 0 8 (λ down. waiting (Up down) place depth) (number_from 0 8 t.word) refl
    (λ n says. Goes refl ((t.word, (push_words own t (codes "simplify" ∷ []) t.word h.0 refl, says)), first_push own t place h.1) refl)

up_turned : (own : List Token) (t : Token) (down place depth : ℕ) → HasBegun (Up down) place own → IsTurned own t depth (up_turn down place depth t)
unfolding up_turn
up_turned own t down place depth h =
    number_turned own t depth 0 8 (λ up. ended (Do (Simplify down up)) place depth) (number_from 0 8 t.word) refl
    (λ n says. Ends (record { place = place; kind = Do (Simplify down n) }) refl
    (record { words = (h.0.0, (t.word, (push_words own t (codes "simplify" ∷ h.0.0 ∷ []) t.word h.0.1.0 refl, h.0.1.1, says))); place = first_push own t place h.1 }) refl tt refl)

times_turned : (own : List Token) (t : Token) (place depth : ℕ) → HasBegun Times place own → IsTurned own t depth (times_turn place depth t)
unfolding times_turn
times_turned own t place depth h =
    number_turned own t depth 1 1000 (λ times. waiting (OpenBrace (Repeat times)) place depth) (number_from 1 1000 t.word) refl
    (λ n says. Goes refl ((t.word, (push_words own t (codes "repeat" ∷ []) t.word h.0 refl, says)), first_push own t place h.1) refl)

brace_says : (braces : Braces) (own : List Token) (t : Token) (place : ℕ) → HasBegun (OpenBrace braces) place own → t.word ≡ codes "{" → SaysPart (record { place = place; kind = Open braces }) (own ++ t ∷ [])
brace_says (Repeat times) own t place h e =
    record { words = (h.0.0, (push_words own t (codes "repeat" ∷ h.0.0 ∷ []) (codes "{") h.0.1.0 e, h.0.1.1)); place = first_push own t place h.1 }
brace_says Better own t place h e =
    record { words = push_words own t (codes "better" ∷ []) (codes "{") h.0 e; place = first_push own t place h.1 }

brace_turned : (braces : Braces) (own : List Token) (t : Token) (place depth : ℕ) → HasBegun (OpenBrace braces) place own → IsTurned own t depth (brace_turn braces place depth t)
unfolding brace_turn
brace_turned braces own t place depth h =
    let P : Result Turn TextFault → Type 0 = λ r. IsTurned own t depth r in
    cond_both (same_word t.word (codes "{")) _ _ P
    (λ e. cond_both (nat_lt depth MAX_SCRIPT_BRACES) _ _ P
    (λ few. Ends (record { place = place; kind = Open braces }) refl (brace_says braces own t place h (same_word_is t.word (codes "{") e)) refl (ltb-true depth MAX_SCRIPT_BRACES few) refl)
    (λ _. tt))
    (λ _. tt)

-- each token does what its part asks for
turned_by : (waits : Waits) (own : List Token) (t : Token) (place depth : ℕ) → HasBegun waits place own → IsTurned own t depth (turn_by waits place depth t)
turned_by Item own t place depth h = item_turned own t depth h
turned_by Name own t place depth h = name_turned own t place depth h
turned_by Down own t place depth h = down_turned own t place depth h
turned_by (Up down) own t place depth h = up_turned own t down place depth h
turned_by Times own t place depth h = times_turned own t place depth h
turned_by (OpenBrace braces) own t place depth h = brace_turned braces own t place depth h

-- ---- all tokens

-- these tokens say the parts, which may stand where so many braces are open
pub record Sounds (parts : List Part) (ts : List Token) (depth : ℕ) : Type 0 where
  pub say : SayParts parts ts
  pub balanced : IsBalanced (kinds parts) depth

-- a `;` before others
skip : (parts : List Part) (t : Token) (ts : List Token) → same_word t.word (codes ";") ≡ true → SayParts parts ts → SayParts parts (t ∷ ts)
skip [] t ts e h = and_from (same_word t.word (codes ";")) _ e h
skip (p ∷ parts) t ts e h =
    (t ∷ h.0, (h.1.0, (h.1.1.0, (ap (λ x. t ∷ x) h.1.1.1.0, and_from (same_word t.word (codes ";")) _ e h.1.1.1.1, h.1.1.1.2, h.1.1.1.3))))

-- nothing is left
sound_end : (waits : Waits) (own : List Token) (parts : List Part) (place depth end : ℕ) → HasBegun waits place own → at_end (end_fault waits depth) end ≡ Ok parts → Sounds parts (own ++ []) depth
sound_end Item own parts place depth end h e =
    let P : Option FaultKind → Type 0 = λ o. at_end o end ≡ Ok parts → Sounds parts (own ++ []) depth in
    cond_both (depth == 0) None (Some Brace) P
    (λ (zero : (depth == 0) ≡ true) (is : Ok [] ≡ Ok parts).
    let none : parts ≡ [] = cc in
    let d : depth ≡ 0 = grind (arith, nat_tests) in
    subst (λ o. Sounds parts (o ++ []) depth) (sym h) (subst (λ ps. Sounds ps [] depth) (sym none) (record { say = refl; balanced = d })))
    (λ _ (is : Err (fault Brace end) ≡ Ok parts). absurd cc) e
sound_end Name own parts place depth end h e = let bad : Err (fault Missing end) ≡ Ok parts = e in absurd cc
sound_end Down own parts place depth end h e = let bad : Err (fault Missing end) ≡ Ok parts = e in absurd cc
sound_end (Up down) own parts place depth end h e = let bad : Err (fault Missing end) ≡ Ok parts = e in absurd cc
sound_end Times own parts place depth end h e = let bad : Err (fault Missing end) ≡ Ok parts = e in absurd cc
sound_end (OpenBrace braces) own parts place depth end h e = let bad : Err (fault Brace end) ≡ Ok parts = e in absurd cc

-- the parts behind a token, and its own one
pub record IsBehind (part : Option Part) (rest : Result (List Part) TextFault) (parts : List Part) : Type 0 where
  pub others : List Part
  pub told : rest ≡ Ok others
  pub are : parts ≡ before part others

behind_ok : (part : Option Part) (r : Result (List Part) TextFault) (parts : List Part) → behind_part part r ≡ Ok parts → IsBehind part r parts
behind_ok part (Ok others) parts e = record { others = others; told = refl; are = (let is : Ok (before part others) ≡ Ok parts = e in cc) }
behind_ok part (Err f) parts e = let bad : Err f ≡ Ok parts = e in absurd cc

-- what is so of the tokens behind, whatever has begun
abbrev SoundBehind : ℕ → List Token → Type 0
SoundBehind end ts =
    (s : State) (own : List Token) (parts : List Part) → HasBegun s.waits s.place own → parts_from end ts s ≡ Ok parts → Sounds parts (own ++ ts) s.depth

sound_turn : (end : ℕ) (t : Token) (ts : List Token) → SoundBehind end ts → (own : List Token) (depth : ℕ) (turn : Turn) (parts : List Part) → Turned own t depth turn → IsBehind turn.part (parts_from end ts turn.state) parts → Sounds parts (own ++ t ∷ ts) depth
sound_turn end t ts later own depth turn parts (Skips none is nothing item same) b =
    let are : parts ≡ b.others = b.are ∙ ap (λ p. before p b.others) none in
    let rest = later turn.state [] b.others (subst (λ w. HasBegun w turn.state.place []) (sym item) refl) b.told in
    let says : SayParts b.others (t ∷ ts) = skip b.others t ts is rest.say in
    subst (λ o. Sounds parts (o ++ t ∷ ts) depth) (sym nothing)
    (subst (λ ps. Sounds ps (t ∷ ts) depth) (sym are) (record { say = says; balanced = subst (λ d. IsBalanced (kinds b.others) d) same rest.balanced }))
sound_turn end t ts later own depth turn parts (Goes none begun same) b =
    let are : parts ≡ b.others = b.are ∙ ap (λ p. before p b.others) none in
    let rest = later turn.state (own ++ t ∷ []) b.others begun b.told in
    let says : SayParts b.others (own ++ t ∷ ts) = subst (λ x. SayParts b.others x) (append_assoc own (t ∷ []) ts) rest.say in
    subst (λ ps. Sounds ps (own ++ t ∷ ts) depth) (sym are) (record { say = says; balanced = subst (λ d. IsBalanced (kinds b.others) d) same rest.balanced })
sound_turn end t ts later own depth turn parts (Ends part some says item may next) b =
    let are : parts ≡ part ∷ b.others = b.are ∙ ap (λ p. before p b.others) some in
    let rest = later turn.state [] b.others (subst (λ w. HasBegun w turn.state.place []) (sym item) refl) b.told in
    let here : SayParts (part ∷ b.others) (own ++ t ∷ ts) = ([], (own ++ t ∷ [], (ts, (sym (append_assoc own (t ∷ []) ts), refl, says, rest.say)))) in
    subst (λ ps. Sounds ps (own ++ t ∷ ts) depth) (sym are) (record { say = here; balanced = (may, subst (λ d. IsBalanced (kinds b.others) d) next rest.balanced) })

sound_token : (end : ℕ) (t : Token) (ts : List Token) → SoundBehind end ts → (own : List Token) (depth : ℕ) (parts : List Part) (told : Result Turn TextFault) → IsTurned own t depth told → after_turn told (parts_from end ts) ≡ Ok parts → Sounds parts (own ++ t ∷ ts) depth
sound_token end t ts later own depth parts (Ok turn) h e =
    sound_turn end t ts later own depth turn parts h (behind_ok turn.part (parts_from end ts turn.state) parts e)
sound_token end t ts later own depth parts (Err f) h e = let bad : Err f ≡ Ok parts = e in absurd cc

pub sound : (end : ℕ) (ts : List Token) → SoundBehind end ts
sound end [] s own parts h e = sound_end s.waits own parts s.place s.depth end h e
sound end (t ∷ ts) s own parts h e =
    sound_token end t ts (sound end ts) own s.depth parts (turn_at s t) (turned_by s.waits own t s.place s.depth h) e
