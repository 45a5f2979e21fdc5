-- The text of a network as BLIF: its lines as lists of words. Each table says one value for each
-- point (`binary_choice`), by rows that end in the same value.
use Rattle.std.specs.Prelude.{ℕ, ◌==◌, Bool, true, false, nat_eq, Option, Some, None, List, [], ◌∷◌, ◌++◌, map, codes, decimal, length, if◌then◌else◌}
use Rattle.std.specs.List.{flat_map, list_any}
use Rattle.mv_base.specs.Set.{one}
use Rattle.mv_lex.specs.Text.{line_text}
use Rattle.mv_cover.specs.Literal.{Lit}
use Rattle.mv_cover.specs.declared.line.Line.{Line}
use Rattle.mv_cover.specs.declared.cover.Cover.{Cover}
use Rattle.mv_cover.specs.Covers.{default_gives}
use Rattle.mv_net.specs.declared.parts.FlatNet.{FlatNet}
use Rattle.mv_net.specs.declared.parts.FlatLatch.{FlatLatch}
use Rattle.mv_net.specs.declared.parts.NetParts.{NetParts}
use Rattle.mv_net.specs.Nets.{slot, name_in}
use Rattle.mv_net.specs.Index.{is_reset}
use Rattle.mv_text.specs.Text.{fanins_of, names_of}
use Rattle.mv_chosen.specs.Binary.{gives_one, lacks_one, lines_for}
use Rattle.mv_latch.specs.declared.latch.LatchKind.{LatchKind}
use Rattle.mv_latch.specs.declared.latch.LatchKind.TheVariants.{Fe, Re, Ah, Al, As}
use Rattle.mv_latch.specs.declared.latch.BlifLatch.{BlifLatch}

-- ---- rows

-- the digit of a literal's set, of a net with two values
abbrev pub set_digit : ℕ → ℕ
set_digit set = if set == one 0 then 48 else 49

-- the byte of a net in a cube: the digit of its literal, and a hyphen where it has none
abbrev pub plane_byte : List Lit → ℕ → ℕ
plane_byte [] m = 45
plane_byte (l ∷ ls) m = if nat_eq l.net.0 m then set_digit l.set else plane_byte ls m

-- a row of a cube at these fanins, which ends in this digit: without fanins it has no plane
abbrev pub row_words : List ℕ → ℕ → List Lit → List (List ℕ)
row_words [] digit cube = (digit ∷ []) ∷ []
row_words (m ∷ ms) digit cube = map (plane_byte cube) (m ∷ ms) ∷ (digit ∷ []) ∷ []

-- the rows for 1, or for 0: the cubes of the lines that give 1, or of those that don't
abbrev pub picks : Bool → Line → Bool
picks true l = gives_one l
picks false l = lacks_one l

abbrev pub value_of : Bool → ℕ
value_of true = 1
value_of false = 0

abbrev pub digit_of : Bool → ℕ
digit_of true = 49
digit_of false = 48

abbrev pub rows_words : List ℕ → Bool → List Line → List (List (List ℕ))
rows_words fanins ones ls =
    map (λ (l : Line). row_words fanins (digit_of ones) l.cube)
    (lines_for (picks ones) (value_of ones) ls)

-- the rows for 0, where there is any; else one for 1, whatever the fanins are
abbrev pub zeros_words : List ℕ → List Line → List (List (List ℕ))
zeros_words fanins ls = if list_any lacks_one ls then rows_words fanins false ls
    else row_words fanins 49 [] ∷ []

-- the rows of a cover: those for 1, unless the default gives 1
abbrev pub choice_words : List ℕ → Cover → List (List (List ℕ))
choice_words fanins c = if default_gives c.default 1 then zeros_words fanins c.lines
    else rows_words fanins true c.lines

-- ---- tables

-- the lines of a table
abbrev pub gate_words : List (Option FlatNet) → List ℕ → List ℕ → Cover → List (List (List ℕ))
gate_words nets name fanins c =
    (codes ".names" ∷ map (λ m. name_in (slot nets m)) fanins ++ name ∷ [])
    ∷ choice_words fanins c

-- the lines of a net's table, if it has one
abbrev pub said_words : List (Option FlatNet) → List ℕ → Option Cover → List (List (List ℕ))
said_words nets name None = []
said_words nets name (Some c) = gate_words nets name (fanins_of (length nets) c) c

-- those of a number's net: the value of a reset net stands in the line of its latch
abbrev pub net_words : List (Option FlatNet) → Option FlatNet → List (List (List ℕ))
net_words nets None = []
net_words nets (Some f) = if is_reset (Some f.kind) then [] else said_words nets f.name f.table

-- ---- latches

-- TYPE
abbrev pub kind_word : LatchKind → List ℕ
kind_word Fe = codes "fe"
kind_word Re = codes "re"
kind_word Ah = codes "ah"
kind_word Al = codes "al"
kind_word As = codes "as"

-- CONTROL
abbrev pub control_word : Option (List ℕ) → List ℕ
control_word None = codes "NIL"
control_word (Some w) = w

-- TYPE and CONTROL, where there is a kind
abbrev pub kind_words : Option LatchKind → Option (List ℕ) → List (List ℕ)
kind_words None control = []
kind_words (Some k) control = kind_word k ∷ control_word control ∷ []

-- the line of a latch
abbrev pub latch_words : List (Option FlatNet) → FlatLatch → BlifLatch → List (List ℕ)
latch_words nets l b =
    codes ".latch" ∷ name_in (slot nets l.input.0) ∷ name_in (slot nets l.output.0)
    ∷ (kind_words b.kind b.control ++ decimal b.init ∷ [])

-- the lines of latches, each with what is said of it besides
abbrev pub latches_words : List (Option FlatNet) → List FlatLatch → List BlifLatch
    → List (List (List ℕ))
latches_words nets (l ∷ ls) (b ∷ bs) = latch_words nets l b ∷ latches_words nets ls bs
latches_words nets _ _ = []

-- ---- the whole

-- the lines between the outputs and the end
abbrev pub inner_lines : NetParts → List BlifLatch → List (List (List ℕ))
inner_lines net bs =
    latches_words net.nets net.latches bs ++ flat_map (net_words net.nets) net.nets

-- the lines of a network
unfoldable pub blif_lines : NetParts → List BlifLatch → List (List (List ℕ))
blif_lines net bs =
    (codes ".model" ∷ net.root ∷ []) ∷ (codes ".inputs" ∷ names_of net.nets net.inputs)
    ∷ (codes ".outputs" ∷ names_of net.nets net.outputs)
    ∷ (inner_lines net bs ++ (codes ".end" ∷ []) ∷ [])

-- the text of a network
unfoldable pub blif_text : NetParts → List BlifLatch → List ℕ
blif_text net bs = flat_map line_text (blif_lines net bs)
