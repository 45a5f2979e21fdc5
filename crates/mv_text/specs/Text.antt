-- The text of a network: its lines as lists of words, each written with one space between its
-- words.
use Rattle.std.specs.Prelude.{ℕ, ◌==◌, Bool, ◌&&◌, ◌||◌, nat_eq, Option, Some, None, List, [], ◌∷◌, ◌++◌}
use Rattle.std.specs.Prelude.{length, map, filter, drop, codes, decimal, slice_index_or, if◌then◌else◌}
use Rattle.std.specs.List.{flat_map, range_with_len}
use Rattle.mv_base.specs.Set.{has, full}
use Rattle.mv_base.specs.declared.number.NetId.{NetId}
use Rattle.mv_lex.specs.Text.{line_text}
use Rattle.mv_cover.specs.Literal.{Lit}
use Rattle.mv_cover.specs.declared.line.Line.{Line}
use Rattle.mv_cover.specs.declared.cover.Cover.{Cover}
use Rattle.mv_cover.specs.Covers.{cover_reads}
use Rattle.mv_net.specs.declared.parts.FlatNet.{FlatNet}
use Rattle.mv_net.specs.declared.parts.FlatLatch.{FlatLatch}
use Rattle.mv_net.specs.declared.parts.NetParts.{NetParts}
use Rattle.mv_net.specs.Nets.{slot, name_in, values_in, table_in, spelled_in}
use Rattle.mv_net.specs.Index.{kind_in, is_reset}

-- ---- entries, over the names of a net's values

-- the name of a value
abbrev pub value_at : List (List ℕ) → ℕ → List ℕ
value_at values v = slice_index_or values v []

-- the names of the values of a set, ascending
abbrev pub names_in_set : List (List ℕ) → ℕ → List (List ℕ)
names_in_set values set =
    map (value_at values) (filter (λ v. has set v) (range_with_len 0 (length values)))

-- a name with a comma before it
abbrev pub with_comma : List ℕ → List ℕ
with_comma w = 44 ∷ w

-- names with a comma before each but the first
abbrev pub comma_joined : List (List ℕ) → List ℕ
comma_joined [] = []
comma_joined (w ∷ ws) = w ++ flat_map with_comma ws

-- one name stands for itself, and several stand in brackets. (No set of a well-formed network is
-- without values, so none of its entries is `()`, which no file may have.)
abbrev pub one_or_list : List (List ℕ) → List ℕ
one_or_list [] = codes "()"
one_or_list (w ∷ []) = w
one_or_list (w ∷ v ∷ ws) = 40 ∷ comma_joined (w ∷ v ∷ ws) ++ 41 ∷ []

-- the entry of a set: `-` for all values
unfoldable pub entry_word : List (List ℕ) → ℕ → List ℕ
entry_word values set = if set == full (length values) then codes "-"
    else one_or_list (names_in_set values set)

-- ---- tables

-- the fanins of a cover among this many nets: those with a literal in some line, ascending
abbrev pub fanins_of : ℕ → Cover → List ℕ
fanins_of count c = filter (λ m. cover_reads c m) (range_with_len 0 count)

-- the set of a net in a cube: that of its literal, or all values where it has none
abbrev pub set_in : List (Option FlatNet) → List Lit → ℕ → ℕ
set_in nets [] m = full (values_in (slot nets m))
set_in nets (l ∷ ls) m = if nat_eq l.net.0 m then l.set else set_in nets ls m

-- the entry of a net in a cube
abbrev pub fanin_word : List (Option FlatNet) → List Lit → ℕ → List ℕ
fanin_word nets cube m = entry_word (spelled_in (slot nets m)) (set_in nets cube m)

-- a row: one entry a fanin, the output last
abbrev pub line_words : List (Option FlatNet) → List (List ℕ) → List ℕ → Line → List (List ℕ)
line_words nets values fanins l = map (fanin_word nets l.cube) fanins ++ entry_word values l.out
    ∷ []

-- the line of the default, if there is one
abbrev pub default_words : List (List ℕ) → Option ℕ → List (List (List ℕ))
default_words values None = []
default_words values (Some set) = (codes ".default" ∷ entry_word values set ∷ []) ∷ []

-- the word that begins the table of a net
abbrev pub head_word : Option FlatNet → List ℕ
head_word f = if is_reset (kind_in f) then codes ".reset" else codes ".table"

-- the name behind the arrow of a net's table: its own, and that of its latch for a reset net. In a
-- well-formed network a reset net is named by a full stop and its latch's name, so this is its own
-- name without the first byte
abbrev pub told_name : Option FlatNet → List ℕ
told_name f = if is_reset (kind_in f) then drop 1 (name_in f) else name_in f

-- the first line of a table, begun with this word
abbrev pub head_words : List (Option FlatNet) → List ℕ → List ℕ → List ℕ → List (List ℕ)
head_words nets word fanins name = word ∷ map (λ m. name_in (slot nets m)) fanins ++ codes "->"
    ∷ name ∷ []

-- the lines of a table, whose output has these values
abbrev pub cover_words : List (Option FlatNet) → List ℕ → List (List ℕ) → List ℕ → List ℕ → Cover
    → List (List (List ℕ))
cover_words nets word values name fanins c =
    head_words nets word fanins name
    ∷ (default_words values c.default ++ map (line_words nets values fanins) c.lines)

-- the lines of a net's table, if it has one
abbrev pub table_words : List (Option FlatNet) → List ℕ → Option Cover → List (List ℕ) → List ℕ
    → List (List (List ℕ))
table_words nets word None values name = []
table_words nets word (Some c) values name =
    cover_words nets word values name (fanins_of (length nets) c) c

-- the lines of the table of a number's net, if there is a net and it has one
abbrev pub net_words : List (Option FlatNet) → Option FlatNet → List (List (List ℕ))
net_words nets f = table_words nets (head_word f) (table_in f) (spelled_in f) (told_name f)

-- ---- the whole

-- the net has exactly the values 0 and 1
abbrev pub is_plain_pair : FlatNet → Bool
is_plain_pair f = nat_eq f.values 2 && nat_eq (length f.value_names) 0

-- the declaration of a net, if it needs one: a reset net has the values of its latch. Its values
-- are named where they aren't the numbers from 0
abbrev pub decl_words : Option FlatNet → List (List (List ℕ))
decl_words None = []
decl_words (Some f) = if is_reset (Some f.kind) || is_plain_pair f then []
    else (codes ".mv" ∷ f.name ∷ decimal f.values ∷ f.value_names) ∷ []

-- the numbers of these nets
abbrev pub numbers : List NetId → List ℕ
numbers ns = map (λ (n : NetId). n.0) ns

-- the names of these nets
abbrev pub names_of : List (Option FlatNet) → List NetId → List (List ℕ)
names_of nets ns = map (λ (n : NetId). name_in (slot nets n.0)) ns

-- the line of a latch: its input and its output
abbrev pub latch_words : List (Option FlatNet) → FlatLatch → List (List ℕ)
latch_words nets l = codes ".latch" ∷ name_in (slot nets l.input.0)
    ∷ name_in (slot nets l.output.0) ∷ []

-- the lines between the outputs and the end: declarations by ascending number, latches in order,
-- and tables by ascending number
abbrev pub inner_lines : NetParts → List (List (List ℕ))
inner_lines net = flat_map decl_words net.nets
    ++ (map (latch_words net.nets) net.latches ++ flat_map (net_words net.nets) net.nets)

-- the lines of a network
unfoldable pub net_lines : NetParts → List (List (List ℕ))
net_lines net =
    (codes ".model" ∷ net.root ∷ []) ∷ (codes ".inputs" ∷ names_of net.nets net.inputs)
    ∷ (codes ".outputs" ∷ names_of net.nets net.outputs)
    ∷ (inner_lines net ++ (codes ".end" ∷ []) ∷ [])

-- the text of a network
unfoldable pub text_of : NetParts → List ℕ
text_of net = flat_map line_text (net_lines net)
