-- Tokens that say parts have no fault, and the parts are those that are read.
use Rattle.std.proofs.Common.{◌≡◌, ℕ, ◌+◌, ◌-◌, ◌<◌, true, false, ◌==◌, Some, None, Result, Ok, Err, List, [], ◌∷◌, ◌++◌, map, refl, sym, ◌∙◌, ap, arith}
use Rattle.std.specs.Prelude.{codes, nat_lt}
use Rattle.std.specs.Prelude.{if◌then◌else◌}
use Rattle.std.proofs.lemmas.List.{append-nil}
use Rattle.std.proofs.lemmas.Bool.{cond-true, cond-false, and_parts, lt-ltb}
use Rattle.std.proofs.lemmas.Bool.Decides.{nat_tests}
use Rattle.mv_base.specs.Names.{same_word}
use Rattle.mv_base.specs.declared.limits.TheConstants.{MAX_SCRIPT_BRACES}
use Rattle.mv_entry.specs.declared.note.Command.{Command}
use Rattle.mv_entry.specs.declared.note.Command.TheVariants.{Drop, Sweep, Eliminate, Collapse, Kernel, Cube, Simplify, Merge, Default, Determinize, Encode, Fill}
use Rattle.mv_script.specs.declared.fault.FaultKind.TheVariants.{Brace, TooDeep}
use Rattle.mv_script.specs.declared.fault.TextFault.{TextFault}
use Rattle.mv_script.specs.declared.part.Braces.{Braces}
use Rattle.mv_script.specs.declared.part.Braces.TheVariants.{Repeat, Better}
use Rattle.mv_script.specs.declared.part.Part.{Part}
use Rattle.mv_script.specs.declared.part.PartKind.{PartKind}
use Rattle.mv_script.specs.declared.part.PartKind.TheVariants.{Do, Open, Close}
use Rattle.mv_script.specs.declared.token.Token.{Token}
use Rattle.mv_script.specs.declared.turn.Waits.{Waits}
use Rattle.mv_script.specs.declared.turn.Waits.TheVariants.{Item, Name, Down, Up, Times, Open as OpenBrace}
use Rattle.mv_script.specs.declared.turn.State.{State}
use Rattle.mv_script.specs.declared.turn.Turn.{Turn}
use Rattle.mv_script.specs.Grammar.{SaysNumber, SaysCommand, SaysKind, SayParts, AreSemicolons, first_place}
use Rattle.mv_script.specs.Numbers.{number_from}
use Rattle.mv_script.specs.Parts.{kinds, IsBalanced, MayStand, depth_behind}
use Rattle.mv_script.specs.Reading.{fault, waiting, ended, is_name, plain_command, item_waits, close_turn, item_turn, name_turn, with_number, down_turn, up_turn, times_turn, brace_turn, turn_at, behind_part, after_turn, parts_from}
use Rattle.mv_base.proofs.NameLemmas.{same_word_is}

abbrev words_of : List Token → List (List ℕ)
words_of ts = map (λ (t : Token). t.word) ts

abbrev state : Waits → ℕ → ℕ → State
state waits place depth = record { waits = waits; place = place; depth = depth }

-- ---- tokens, one by one

-- the first of tokens with these words
pub record BeginsSo (w : List ℕ) (ws : List (List ℕ)) (ts : List Token) : Type 0 where
  pub first : Token
  pub others : List Token
  pub are : ts ≡ first ∷ others
  pub word : first.word ≡ w
  pub rest : words_of others ≡ ws

begins_so : (w : List ℕ) (ws : List (List ℕ)) (ts : List Token) → words_of ts ≡ w ∷ ws → BeginsSo w ws ts
begins_so w ws [] e = let bad : [] ≡ w ∷ ws = e in absurd cc
begins_so w ws (t ∷ ts) e =
    let both : t.word ∷ words_of ts ≡ w ∷ ws = e in
    let same : t.word ≡ w = cc in
    let rest : words_of ts ≡ ws = cc in
    record { first = t; others = ts; are = refl; word = same; rest = rest }

no_words : (ts : List Token) → words_of ts ≡ [] → ts ≡ []
no_words [] e = refl
no_words (t ∷ ts) e = let bad : t.word ∷ words_of ts ≡ [] = e in absurd cc

-- no part ends
behind_none : (r : Result (List Part) TextFault) → behind_part None r ≡ r
behind_none (Ok parts) = refl
behind_none (Err f) = refl

-- a token behind which something waits
goes : (end : ℕ) (t : Token) (ts : List Token) (s : State) (waits : Waits) (place depth : ℕ) → turn_at s t ≡ Ok (waiting waits place depth) → parts_from end (t ∷ ts) s ≡ parts_from end ts (state waits place depth)
goes end t ts s waits place depth e =
    ap (λ r. after_turn r (parts_from end ts)) e ∙ behind_none (parts_from end ts (state waits place depth))

-- a token that ends a part
ends : (end : ℕ) (t : Token) (ts : List Token) (s : State) (kind : PartKind) (place depth : ℕ) (parts : List Part) → turn_at s t ≡ Ok (ended kind place depth) → parts_from end ts (state Item place depth) ≡ Ok parts → parts_from end (t ∷ ts) s ≡ Ok (record { place = place; kind = kind } ∷ parts)
ends end t ts s kind place depth parts e later =
    ap (λ r. after_turn r (parts_from end ts)) e ∙ ap (λ r. behind_part (Some (record { place = place; kind = kind })) r) later

-- what a token with this word does where an item may begin
by_word : (depth : ℕ) (t : Token) (w : List ℕ) (told : Result Turn TextFault) → t.word ≡ w → item_turn depth (record { place = t.place; word = w }) ≡ told → item_turn depth t ≡ told
by_word depth t w told e h = ap (λ x. item_turn depth (record { place = t.place; word = x })) e ∙ h

semicolon_turn : (depth place : ℕ) → item_turn depth (record { place = place; word = codes ";" }) ≡ Ok (waiting Item place depth)
unfolding item_turn
semicolon_turn depth place = refl

close_token : (depth place : ℕ) → item_turn depth (record { place = place; word = codes "}" }) ≡ close_turn place depth
unfolding item_turn
close_token depth place = refl

collapse_turn : (depth place : ℕ) → item_turn depth (record { place = place; word = codes "collapse" }) ≡ Ok (waiting Name place depth)
unfolding item_turn item_waits
collapse_turn depth place = refl

simplify_turn : (depth place : ℕ) → item_turn depth (record { place = place; word = codes "simplify" }) ≡ Ok (waiting Down place depth)
unfolding item_turn item_waits
simplify_turn depth place = refl

repeat_turn : (depth place : ℕ) → item_turn depth (record { place = place; word = codes "repeat" }) ≡ Ok (waiting Times place depth)
unfolding item_turn item_waits
repeat_turn depth place = refl

better_turn : (depth place : ℕ) → item_turn depth (record { place = place; word = codes "better" }) ≡ Ok (waiting (OpenBrace Better) place depth)
unfolding item_turn item_waits
better_turn depth place = refl

drop_turn : (depth place : ℕ) → item_turn depth (record { place = place; word = codes "drop" }) ≡ Ok (ended (Do Drop) place depth)
unfolding item_turn item_waits plain_command
drop_turn depth place = refl

sweep_turn : (depth place : ℕ) → item_turn depth (record { place = place; word = codes "sweep" }) ≡ Ok (ended (Do Sweep) place depth)
unfolding item_turn item_waits plain_command
sweep_turn depth place = refl

eliminate_turn : (depth place : ℕ) → item_turn depth (record { place = place; word = codes "eliminate" }) ≡ Ok (ended (Do Eliminate) place depth)
unfolding item_turn item_waits plain_command
eliminate_turn depth place = refl

kernel_turn : (depth place : ℕ) → item_turn depth (record { place = place; word = codes "kernel" }) ≡ Ok (ended (Do Kernel) place depth)
unfolding item_turn item_waits plain_command
kernel_turn depth place = refl

cube_turn : (depth place : ℕ) → item_turn depth (record { place = place; word = codes "cube" }) ≡ Ok (ended (Do Cube) place depth)
unfolding item_turn item_waits plain_command
cube_turn depth place = refl

merge_turn : (depth place : ℕ) → item_turn depth (record { place = place; word = codes "merge" }) ≡ Ok (ended (Do Merge) place depth)
unfolding item_turn item_waits plain_command
merge_turn depth place = refl

default_turn : (depth place : ℕ) → item_turn depth (record { place = place; word = codes "default" }) ≡ Ok (ended (Do Default) place depth)
unfolding item_turn item_waits plain_command
default_turn depth place = refl

determinize_turn : (depth place : ℕ) → item_turn depth (record { place = place; word = codes "determinize" }) ≡ Ok (ended (Do Determinize) place depth)
unfolding item_turn item_waits plain_command
determinize_turn depth place = refl

encode_turn : (depth place : ℕ) → item_turn depth (record { place = place; word = codes "encode" }) ≡ Ok (ended (Do Encode) place depth)
unfolding item_turn item_waits plain_command
encode_turn depth place = refl

fill_turn : (depth place : ℕ) → item_turn depth (record { place = place; word = codes "fill" }) ≡ Ok (ended (Do Fill) place depth)
unfolding item_turn item_waits plain_command
fill_turn depth place = refl

name_ends : (place depth : ℕ) (t : Token) → is_name t.word ≡ true → name_turn place depth t ≡ Ok (ended (Do (Collapse t.word)) place depth)
unfolding name_turn
name_ends place depth t e = cond-true (is_name t.word) _ _ e

down_goes : (place depth n : ℕ) (t : Token) → SaysNumber 0 8 n t.word → down_turn place depth t ≡ Ok (waiting (Up n) place depth)
unfolding down_turn
down_goes place depth n t e = ap (λ r. with_number r t.place (λ down. waiting (Up down) place depth)) e

up_ends : (down place depth n : ℕ) (t : Token) → SaysNumber 0 8 n t.word → up_turn down place depth t ≡ Ok (ended (Do (Simplify down n)) place depth)
unfolding up_turn
up_ends down place depth n t e = ap (λ r. with_number r t.place (λ up. ended (Do (Simplify down up)) place depth)) e

times_goes : (place depth n : ℕ) (t : Token) → SaysNumber 1 1000 n t.word → times_turn place depth t ≡ Ok (waiting (OpenBrace (Repeat n)) place depth)
unfolding times_turn
times_goes place depth n t e = ap (λ r. with_number r t.place (λ times. waiting (OpenBrace (Repeat times)) place depth)) e

brace_ends : (braces : Braces) (place depth : ℕ) (t : Token) → t.word ≡ codes "{" → depth < MAX_SCRIPT_BRACES → brace_turn braces place depth t ≡ Ok (ended (Open braces) place (depth + 1))
unfolding brace_turn
brace_ends braces place depth t e h =
    ap (λ w. if same_word w (codes "{") then (if nat_lt depth MAX_SCRIPT_BRACES then Ok (ended (Open braces) place (depth + 1)) else Err (fault TooDeep t.place)) else Err (fault Brace t.place)) e
    ∙ cond-true (nat_lt depth MAX_SCRIPT_BRACES) _ _ (lt-ltb depth MAX_SCRIPT_BRACES h)

-- ---- the tokens of one part

-- where an item may begin and so many braces are open, the tokens give these parts
abbrev pub Gives : ℕ → List Token → ℕ → List Part → Type 0
Gives end ts depth parts = (place : ℕ) → parts_from end ts (state Item place depth) ≡ Ok parts

-- a part of one token
one_token : (end : ℕ) (own others : List Token) (depth depth' place : ℕ) (kind : PartKind) (w : List ℕ) (parts : List Part) → words_of own ≡ w ∷ [] → first_place own ≡ Some place → ((p : ℕ) → item_turn depth (record { place = p; word = w }) ≡ Ok (ended kind p depth')) → Gives end others depth' parts → Gives end (own ++ others) depth (record { place = place; kind = kind } ∷ parts)
one_token end own others depth depth' place kind w parts words at turn later before =
    let a = begins_so w [] own words in
    let alone : own ≡ a.first ∷ [] = a.are ∙ ap (λ r. a.first ∷ r) (no_words a.others a.rest) in
    let here : a.first.place ≡ place = (let s : Some a.first.place ≡ Some place = sym (ap first_place alone) ∙ at in cc) in
    ap (λ o. parts_from end (o ++ others) (state Item before depth)) alone
    ∙ ends end a.first others (state Item before depth) kind a.first.place depth' parts (by_word depth a.first w _ a.word (turn a.first.place)) (later a.first.place)
    ∙ ap (λ p. Ok (record { place = p; kind = kind } ∷ parts)) here

-- a part of several tokens, of which the first one has this word and those behind it end it
long_part : (end : ℕ) (own others : List Token) (depth depth' place : ℕ) (kind : PartKind) (w : List ℕ) (ws : List (List ℕ)) (waits : Waits) (parts : List Part) → words_of own ≡ w ∷ ws → first_place own ≡ Some place → ((p : ℕ) → item_turn depth (record { place = p; word = w }) ≡ Ok (waiting waits p depth)) → ((rest : List Token) → words_of rest ≡ ws → parts_from end (rest ++ others) (state waits place depth) ≡ Ok (record { place = place; kind = kind } ∷ parts)) → Gives end (own ++ others) depth (record { place = place; kind = kind } ∷ parts)
long_part end own others depth depth' place kind w ws waits parts words at turn later before =
    let a = begins_so w ws own words in
    let here : a.first.place ≡ place = (let s : Some a.first.place ≡ Some place = sym (ap first_place a.are) ∙ at in cc) in
    ap (λ o. parts_from end (o ++ others) (state Item before depth)) a.are
    ∙ goes end a.first (a.others ++ others) (state Item before depth) waits a.first.place depth (by_word depth a.first w _ a.word (turn a.first.place))
    ∙ ap (λ p. parts_from end (a.others ++ others) (state waits p depth)) here ∙ later a.others a.rest

-- the last token of a part
last_token : (end : ℕ) (rest others : List Token) (w : List ℕ) (s : State) (kind : PartKind) (place depth' : ℕ) (parts : List Part) → words_of rest ≡ w ∷ [] → ((t : Token) → t.word ≡ w → turn_at s t ≡ Ok (ended kind place depth')) → Gives end others depth' parts → parts_from end (rest ++ others) s ≡ Ok (record { place = place; kind = kind } ∷ parts)
last_token end rest others w s kind place depth' parts words turn later =
    let a = begins_so w [] rest words in
    let alone : rest ≡ a.first ∷ [] = a.are ∙ ap (λ r. a.first ∷ r) (no_words a.others a.rest) in
    ap (λ o. parts_from end (o ++ others) s) alone ∙ ends end a.first others s kind place depth' parts (turn a.first a.word) (later place)

-- a token of a part with one more behind it
next_token : (end : ℕ) (rest others : List Token) (w : List ℕ) (ws : List (List ℕ)) (s : State) (waits : Waits) (place depth : ℕ) (told : Result (List Part) TextFault) → words_of rest ≡ w ∷ ws → ((t : Token) → t.word ≡ w → turn_at s t ≡ Ok (waiting waits place depth)) → ((more : List Token) → words_of more ≡ ws → parts_from end (more ++ others) (state waits place depth) ≡ told) → parts_from end (rest ++ others) s ≡ told
next_token end rest others w ws s waits place depth told words turn later =
    let a = begins_so w ws rest words in
    ap (λ o. parts_from end (o ++ others) s) a.are ∙ goes end a.first (a.others ++ others) s waits place depth (turn a.first a.word) ∙ later a.others a.rest

name_says : (net : List ℕ) (place depth : ℕ) (t : Token) → t.word ≡ net → is_name net ≡ true → name_turn place depth t ≡ Ok (ended (Do (Collapse net)) place depth)
name_says net place depth t e h =
    name_ends place depth t (ap is_name e ∙ h) ∙ ap (λ w. Ok (ended (Do (Collapse w)) place depth)) e

command_read : (end : ℕ) (command : Command) (own others : List Token) (place depth : ℕ) (parts : List Part) → SaysCommand command (words_of own) → first_place own ≡ Some place → Gives end others depth parts → Gives end (own ++ others) depth (record { place = place; kind = Do command } ∷ parts)
command_read end Drop own others place depth parts h at later = one_token end own others depth depth place (Do Drop) (codes "drop") parts h at (λ p. drop_turn depth p) later
command_read end Sweep own others place depth parts h at later = one_token end own others depth depth place (Do Sweep) (codes "sweep") parts h at (λ p. sweep_turn depth p) later
command_read end Eliminate own others place depth parts h at later = one_token end own others depth depth place (Do Eliminate) (codes "eliminate") parts h at (λ p. eliminate_turn depth p) later
command_read end Kernel own others place depth parts h at later = one_token end own others depth depth place (Do Kernel) (codes "kernel") parts h at (λ p. kernel_turn depth p) later
command_read end Cube own others place depth parts h at later = one_token end own others depth depth place (Do Cube) (codes "cube") parts h at (λ p. cube_turn depth p) later
command_read end Merge own others place depth parts h at later = one_token end own others depth depth place (Do Merge) (codes "merge") parts h at (λ p. merge_turn depth p) later
command_read end Default own others place depth parts h at later = one_token end own others depth depth place (Do Default) (codes "default") parts h at (λ p. default_turn depth p) later
command_read end Determinize own others place depth parts h at later = one_token end own others depth depth place (Do Determinize) (codes "determinize") parts h at (λ p. determinize_turn depth p) later
command_read end Encode own others place depth parts h at later = one_token end own others depth depth place (Do Encode) (codes "encode") parts h at (λ p. encode_turn depth p) later
command_read end Fill own others place depth parts h at later = one_token end own others depth depth place (Do Fill) (codes "fill") parts h at (λ p. fill_turn depth p) later
command_read end (Collapse net) own others place depth parts h at later =
    long_part end own others depth depth place (Do (Collapse net)) (codes "collapse") (net ∷ []) Name parts h.0 at (λ p. collapse_turn depth p)
    (λ rest words. last_token end rest others net (state Name place depth) (Do (Collapse net)) place depth parts words (λ t e. name_says net place depth t e h.1) later)
command_read end (Simplify down up) own others place depth parts h at later =
    long_part end own others depth depth place (Do (Simplify down up)) (codes "simplify") (h.0 ∷ h.1.0 ∷ []) Down parts h.1.1.0 at (λ p. simplify_turn depth p)
    (λ rest words. next_token end rest others h.0 (h.1.0 ∷ []) (state Down place depth) (Up down) place depth _ words (λ t e. down_goes place depth down t (ap (λ w. number_from 0 8 w) e ∙ h.1.1.1))
    (λ more last. last_token end more others h.1.0 (state (Up down) place depth) (Do (Simplify down up)) place depth parts last (λ t e. up_ends down place depth up t (ap (λ w. number_from 0 8 w) e ∙ h.1.1.2)) later))

kind_read : (end : ℕ) (kind : PartKind) (own others : List Token) (place depth : ℕ) (parts : List Part) → SaysKind kind (words_of own) → first_place own ≡ Some place → MayStand kind depth → Gives end others (depth_behind kind depth) parts → Gives end (own ++ others) depth (record { place = place; kind = kind } ∷ parts)
kind_read end (Do command) own others place depth parts h at may later = command_read end command own others place depth parts h at later
kind_read end (Open (Repeat times)) own others place depth parts h at may later =
    long_part end own others depth depth place (Open (Repeat times)) (codes "repeat") (h.0 ∷ codes "{" ∷ []) Times parts h.1.0 at (λ p. repeat_turn depth p)
    (λ rest words. next_token end rest others h.0 (codes "{" ∷ []) (state Times place depth) (OpenBrace (Repeat times)) place depth _ words (λ t e. times_goes place depth times t (ap (λ w. number_from 1 1000 w) e ∙ h.1.1))
    (λ more last. last_token end more others (codes "{") (state (OpenBrace (Repeat times)) place depth) (Open (Repeat times)) place (depth + 1) parts last (λ t e. brace_ends (Repeat times) place depth t e may) later))
kind_read end (Open Better) own others place depth parts h at may later =
    long_part end own others depth depth place (Open Better) (codes "better") (codes "{" ∷ []) (OpenBrace Better) parts h at (λ p. better_turn depth p)
    (λ rest words. last_token end rest others (codes "{") (state (OpenBrace Better) place depth) (Open Better) place (depth + 1) parts words (λ t e. brace_ends Better place depth t e may) later)
kind_read end Close own others place depth parts h at may later =
    let more : (depth == 0) ≡ false = (let some : 0 < depth = may in grind (arith, nat_tests)) in
    one_token end own others depth (depth - 1) place Close (codes "}") parts h at (λ p. close_token depth p ∙ cond-false (depth == 0) _ _ more) later

-- ---- all tokens

skipped : (end : ℕ) (semicolons others : List Token) (depth : ℕ) (parts : List Part) → AreSemicolons semicolons → Gives end others depth parts → Gives end (semicolons ++ others) depth parts
skipped end [] others depth parts h later place = later place
skipped end (t ∷ ts) others depth parts h later place =
    let both = and_parts (same_word t.word (codes ";")) _ h in
    goes end t (ts ++ others) (state Item place depth) Item t.place depth (by_word depth t (codes ";") _ (same_word_is t.word (codes ";") both.0) (semicolon_turn depth t.place))
    ∙ skipped end ts others depth parts both.1 later t.place

-- tokens that say parts, which may stand where so many braces are open
pub complete : (end : ℕ) (parts : List Part) (ts : List Token) (depth : ℕ) → SayParts parts ts → IsBalanced (kinds parts) depth → Gives end ts depth parts
complete end [] ts depth h b place =
    let none : (p : ℕ) → parts_from end [] (state Item p depth) ≡ Ok [] = λ p. ap (λ d. parts_from end [] (state Item p d)) b in
    ap (λ x. parts_from end x (state Item place depth)) (sym (append-nil ts)) ∙ skipped end ts [] depth [] h none place
complete end (p ∷ parts) ts depth h b place =
    let semicolons = h.0 in
    let own = h.1.0 in
    let others = h.1.1.0 in
    let says = h.1.1.1.2 in
    ap (λ x. parts_from end x (state Item place depth)) h.1.1.1.0
    ∙ skipped end semicolons (own ++ others) depth (p ∷ parts) h.1.1.1.1
    (kind_read end p.kind own others p.place depth parts says.words says.place b.0 (complete end parts others (depth_behind p.kind depth) h.1.1.1.3 b.1)) place
