-- How a script is read, token by token: what has to stand next, how many braces are open, and the
-- first fault.
use Rattle.std.specs.Prelude.{◌≡◌, ℕ, ◌+◌, ◌-◌, Bool, ◌&&◌, ◌==◌, if◌then◌else◌, nat_lt, Option, Some, None, Result, Ok, Err, List, [], ◌∷◌, ◌++◌, length, codes}
use Rattle.std.specs.List.{list_all}
use Rattle.mv_base.specs.Names.{same_word}
use Rattle.mv_base.specs.declared.limits.TheConstants.{MAX_SCRIPT_BRACES}
use Rattle.mv_entry.specs.declared.note.Command.{Command}
use Rattle.mv_entry.specs.declared.note.Command.TheVariants.{Drop, Sweep, Eliminate, Collapse, Kernel, Cube, Simplify, Merge, Default, Determinize, Encode, Fill}
use Rattle.mv_script.specs.declared.fault.FaultKind.{FaultKind}
use Rattle.mv_script.specs.declared.fault.FaultKind.TheVariants.{UnknownWord, Missing, Brace, TooDeep}
use Rattle.mv_script.specs.declared.fault.TextFault.{TextFault}
use Rattle.mv_script.specs.declared.fault.ScriptFault.{ScriptFault}
use Rattle.mv_script.specs.declared.fault.ScriptFault.TheVariants.{Text, Memory}
use Rattle.mv_script.specs.declared.part.Braces.{Braces}
use Rattle.mv_script.specs.declared.part.Braces.TheVariants.{Repeat, Better}
use Rattle.mv_script.specs.declared.part.PartKind.{PartKind}
use Rattle.mv_script.specs.declared.part.PartKind.TheVariants.{Do, Open, Close}
use Rattle.mv_script.specs.declared.part.Part.{Part}
use Rattle.mv_script.specs.declared.token.Token.{Token}
use Rattle.mv_script.specs.declared.turn.Waits.{Waits}
use Rattle.mv_script.specs.declared.turn.Waits.TheVariants.{Item, Name, Down, Up, Times, Open as OpenBrace}
use Rattle.mv_script.specs.declared.turn.State.{State}
use Rattle.mv_script.specs.declared.turn.Turn.{Turn}
use Rattle.mv_script.specs.Numbers.{number_from}
use Rattle.mv_script.specs.Texts.{is_letter}

-- a fault at a place
abbrev pub fault : FaultKind → ℕ → TextFault
fault kind place = record { kind = kind; place = place }

-- a call answers what is told, but for want of memory
abbrev pub Answers : {T : Type 0} → Result T ScriptFault → Result T TextFault → Type 0
Answers (Ok x) told = told ≡ Ok x
Answers (Err (Text f)) told = told ≡ Err f
Answers (Err Memory) told = Unit {0}

-- ---- one token

-- behind the token this waits, in a part that began at the place; so many braces are open
abbrev pub waiting : Waits → ℕ → ℕ → Turn
waiting waits place depth =
    record { state = record { waits = waits; place = place; depth = depth }; part = None }

-- a part that began at the place ends with the token, and an item may begin
abbrev pub ended : PartKind → ℕ → ℕ → Turn
ended kind place depth =
    record {
      state = record { waits = Item; place = place; depth = depth };
      part =
          Some (record { place = place; kind = kind });
    }

-- a name of a net: a word of letters
abbrev pub is_name : List ℕ → Bool
is_name w = nat_lt 0 (length w) && list_all is_letter w

-- the command without operands that a word is
unfoldable pub plain_command : List ℕ → Option Command
plain_command w =
    if same_word w (codes "drop") then Some Drop
    else if same_word w (codes "sweep") then Some Sweep
    else if same_word w (codes "eliminate") then Some Eliminate
    else if same_word w (codes "kernel") then Some Kernel
    else if same_word w (codes "cube") then Some Cube
    else if same_word w (codes "merge") then Some Merge
    else if same_word w (codes "default") then Some Default
    else if same_word w (codes "determinize") then Some Determinize
    else if same_word w (codes "encode") then Some Encode
    else if same_word w (codes "fill") then Some Fill
    else None

-- what has to stand behind the first word of an item that has more of them
unfoldable pub item_waits : List ℕ → Option Waits
item_waits w =
    if same_word w (codes "collapse") then Some Name
    else if same_word w (codes "simplify") then Some Down
    else if same_word w (codes "repeat") then Some Times
    else if same_word w (codes "better") then Some (OpenBrace Better)
    else None

-- a word where an item may begin
abbrev pub begun : Option Waits → Option Command → ℕ → ℕ → Result Turn TextFault
begun (Some waits) command place depth = Ok (waiting waits place depth)
begun None (Some command) place depth = Ok (ended (Do command) place depth)
begun None None place depth = Err (fault UnknownWord place)

-- a `}` needs an open brace
abbrev pub close_turn : ℕ → ℕ → Result Turn TextFault
close_turn place depth = if depth == 0 then Err (fault Brace place)
    else Ok (ended Close place (depth - 1))

-- a token where an item may begin
unfoldable pub item_turn : ℕ → Token → Result Turn TextFault
item_turn depth t =
    if same_word t.word (codes ";") then Ok (waiting Item t.place depth)
    else if same_word t.word (codes "}") then close_turn t.place depth
    else if same_word t.word (codes "{") then Err (fault Brace t.place)
    else begun (item_waits t.word) (plain_command t.word) t.place depth

-- a token where a name has to stand
unfoldable pub name_turn : ℕ → ℕ → Token → Result Turn TextFault
name_turn place depth t = if is_name t.word then Ok (ended (Do (Collapse t.word)) place depth)
    else Err (fault Missing t.place)

-- what a number does, or its fault at the place
abbrev pub with_number : Result ℕ FaultKind → ℕ → (ℕ → Turn) → Result Turn TextFault
with_number (Ok number) place turn = Ok (turn number)
with_number (Err kind) place turn = Err (fault kind place)

-- a token where the first number of `simplify` has to stand, the second one, or the number of
-- `repeat`
unfoldable pub down_turn : ℕ → ℕ → Token → Result Turn TextFault
down_turn place depth t =
    with_number (number_from 0 8 t.word) t.place (λ down. waiting (Up down) place depth)

unfoldable pub up_turn : ℕ → ℕ → ℕ → Token → Result Turn TextFault
up_turn down place depth t =
    with_number (number_from 0 8 t.word) t.place (λ up. ended (Do (Simplify down up)) place depth)

unfoldable pub times_turn : ℕ → ℕ → Token → Result Turn TextFault
times_turn place depth t =
    with_number (number_from 1 1000 t.word) t.place
    (λ times. waiting (OpenBrace (Repeat times)) place depth)

-- a token where a `{` has to stand, of which not too many may be open
unfoldable pub brace_turn : Braces → ℕ → ℕ → Token → Result Turn TextFault
brace_turn braces place depth t =
    if same_word t.word
    (codes "{") then
    (if nat_lt depth MAX_SCRIPT_BRACES then Ok (ended (Open braces) place (depth + 1))
    else Err (fault TooDeep t.place))
    else Err (fault Brace t.place)

-- a token, by what waits
abbrev pub turn_by : Waits → ℕ → ℕ → Token → Result Turn TextFault
turn_by Item place depth t = item_turn depth t
turn_by Name place depth t = name_turn place depth t
turn_by Down place depth t = down_turn place depth t
turn_by (Up down) place depth t = up_turn down place depth t
turn_by Times place depth t = times_turn place depth t
turn_by (OpenBrace braces) place depth t = brace_turn braces place depth t

abbrev pub turn_at : State → Token → Result Turn TextFault
turn_at s t = turn_by s.waits s.place s.depth t

-- ---- all tokens

-- what is wrong where the text ends, if something is: nothing may wait, and no brace may be open
abbrev pub end_fault : Waits → ℕ → Option FaultKind
end_fault Item depth = if depth == 0 then None else Some Brace
end_fault (OpenBrace braces) depth = Some Brace
end_fault _ depth = Some Missing

abbrev pub at_end : Option FaultKind → ℕ → Result (List Part) TextFault
at_end None end = Ok []
at_end (Some kind) end = Err (fault kind end)

-- a part before others, where there is one
abbrev pub before : Option Part → List Part → List Part
before None parts = parts
before (Some part) parts = part ∷ parts

-- some first parts before others, but for a fault
abbrev pub all_before : List Part → Result (List Part) TextFault → Result (List Part) TextFault
all_before front (Ok parts) = Ok (front ++ parts)
all_before front (Err f) = Err f

abbrev pub behind_part : Option Part → Result (List Part) TextFault → Result (List Part) TextFault
behind_part part (Ok parts) = Ok (before part parts)
behind_part part (Err f) = Err f

-- what follows a turn
abbrev pub after_turn : Result Turn TextFault → (State → Result (List Part) TextFault)
    → Result (List Part) TextFault
after_turn (Ok turn) others = behind_part turn.part (others turn.state)
after_turn (Err f) others = Err f

-- the parts of tokens, or their first fault, where the text ends at a place
abbrev pub parts_from : ℕ → List Token → State → Result (List Part) TextFault
parts_from end [] s = at_end (end_fault s.waits s.depth) end
parts_from end (t ∷ ts) s = after_turn (turn_at s t) (parts_from end ts)

-- nothing waits, and no brace is open
abbrev pub at_start : State
at_start = record { waits = Item; place = 0; depth = 0 }
