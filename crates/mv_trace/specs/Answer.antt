-- What is told of a run: that it is allowed, with an assignment that shows each step, or its first
-- step that isn't.
use Rattle.std.specs.Prelude.{ℕ, Option, Some, None, List, [], ◌∷◌, ◌++◌, codes, decimal}
use Rattle.std.specs.Prelude.{slice_index_or}
use Rattle.std.specs.List.{flat_map, enumerate_from}
use Rattle.mv_lex.specs.Text.{line_text}
use Rattle.mv_net.specs.declared.parts.FlatNet.{FlatNet}

-- a word for a net, where one is held
abbrev pub word_if : (FlatNet → List ℕ) → Option FlatNet → List (List ℕ)
word_if word None = []
word_if word (Some f) = word f ∷ []

-- a word for each net that is held, by ascending number
abbrev pub words_from : (ℕ → FlatNet → List ℕ) → List (ℕ × Option FlatNet) → List (List ℕ)
words_from word nets = flat_map (λ (e : ℕ × Option FlatNet). word_if (word e.0) e.1) nets

-- the name of a net. A reset net's is a full stop and its latch's name
abbrev pub net_name : ℕ → FlatNet → List ℕ
net_name n f = f.name

-- the value of a net, as a number
abbrev pub net_value : (ℕ → ℕ) → ℕ → FlatNet → List ℕ
net_value at n f = decimal (at n)

-- the line of the names of all nets
abbrev pub names_line : List (Option FlatNet) → List ℕ
names_line nets = line_text (codes "nets" ∷ words_from net_name (enumerate_from 0 nets))

-- the line of step k, with the values of all nets under an assignment
abbrev pub step_line : List (Option FlatNet) → ℕ → (ℕ → ℕ) → List ℕ
step_line nets k at =
    line_text (codes "step" ∷ decimal k ∷ words_from (net_value at) (enumerate_from 0 nets))

-- an allowed run, with an assignment for each step
unfoldable pub yes_text : List (Option FlatNet) → List (ℕ → ℕ) → List ℕ
yes_text nets ats = codes "yes\n" ++ (names_line nets
    ++ flat_map (λ (e : ℕ × (ℕ → ℕ)). step_line nets e.0 e.1) (enumerate_from 0 ats))

-- a run whose step k is the first that isn't allowed
unfoldable pub no_text : ℕ → List ℕ
no_text k = line_text (codes "no" ∷ decimal k ∷ [])

-- the assignment that has these values, by number of net
abbrev pub at_of : List ℕ → ℕ → ℕ
at_of values n = slice_index_or values n 0
