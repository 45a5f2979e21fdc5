-- What a line of a certificate says by itself, wherever it stands.
use Rattle.std.specs.Prelude.{ℕ, Bool, not, ◌&&◌, ◌||◌, ◌==◌, nat_lt, List, [], ◌∷◌, length, take, drop, map, codes, Option, Some, None, if◌then◌else◌}
use Rattle.std.specs.List.{list_all}
use Rattle.mv_base.specs.Names.{same_word}
use Rattle.mv_entry.specs.declared.rule.BodyLine.{BodyLine}
use Rattle.mv_entry.specs.declared.rule.Code.{Code}
use Rattle.mv_entry.specs.declared.rule.Rule.TheVariants.{Remove as remove_rule, Wire as wire_rule, Collapse as collapse_rule, Merge as merge_rule, Encode as encode_rule, Fill as fill_rule}
use Rattle.mv_step.specs.declared.keyword.Keyword.{Keyword}
use Rattle.mv_step.specs.declared.keyword.Keyword.TheVariants.{Remove, Add, Divide, Wire, Collapse, Narrow, Merge, Encode, Fill, Unknown, Line as line_word, Default as default_word, End as end_word}
use Rattle.mv_step.specs.declared.step.Head.TheVariants.{Add as add_to, Divide as divide_by, Narrow as narrow_to}
use Rattle.mv_step.specs.declared.said.Said.{Said}
use Rattle.mv_step.specs.declared.said.Said.TheVariants.{Whole, Begins, Line, Default, End, Nothing}
use Rattle.mv_step.specs.Sets.{number_said, set_said}

-- ---- a line of a body

-- a line with one literal more in front, if the literal has a set and the rest is a line
abbrev pub with_lit : List ℕ → Option ℕ → Option BodyLine → Option BodyLine
with_lit net None rest = None
with_lit net (Some set) None = None
with_lit net (Some set) (Some l) =
    Some (record { lits = record { net = net; set = set } ∷ l.lits; out = l.out })

-- a line without literals, if its output is a set
abbrev pub with_out : Option ℕ → Option BodyLine
with_out None = None
with_out (Some set) = Some (record { lits = []; out = set })

-- the line that the words behind `line` say, taken two at a time: nets with their sets, and at last
-- `->` with the output
abbrev pub line_said : List (List ℕ) → Option BodyLine
line_said [] = None
line_said (w ∷ []) = None
line_said (w ∷ s ∷ []) = if same_word w (codes "->") then with_out (set_said s) else None
line_said (w ∷ s ∷ x ∷ ws) = with_lit w (set_said s) (line_said (x ∷ ws))

-- ---- any line

-- what a first word is
unfoldable pub keyword_of : List ℕ → Keyword
keyword_of w =
    if same_word w (codes "remove") then Remove
    else if same_word w (codes "add") then Add
    else if same_word w (codes "divide") then Divide
    else if same_word w (codes "wire") then Wire
    else if same_word w (codes "collapse") then Collapse
    else if same_word w (codes "narrow") then Narrow
    else if same_word w (codes "merge") then Merge
    else if same_word w (codes "encode") then Encode
    else if same_word w (codes "fill") then Fill
    else if same_word w (codes "line") then line_word
    else if same_word w (codes "default") then default_word
    else if same_word w (codes "end") then end_word
    else Unknown

-- a line of a body, if there is one
abbrev pub line_or_nothing : Option BodyLine → Said
line_or_nothing None = Nothing
line_or_nothing (Some l) = Line l

-- a default, if there is a set
abbrev pub default_said : Option ℕ → Said
default_said None = Nothing
default_said (Some set) = Default set

-- the first line of a rule that narrows a table, if there are both numbers
abbrev pub narrow_said : List ℕ → Option ℕ → Option ℕ → Said
narrow_said net None u = Nothing
narrow_said net (Some d) None = Nothing
narrow_said net (Some d) (Some u) = Begins (narrow_to net d u)

-- a rule by which a value leaves all sets, if there is a number
abbrev pub merge_said : List ℕ → Option ℕ → Said
merge_said net None = Nothing
merge_said net (Some gone) = Whole (merge_rule net (record { 0 = gone }) None)

-- a rule by which a value goes into another, if there are both numbers
abbrev pub merge_into_said : List ℕ → Option ℕ → Option ℕ → Said
merge_into_said net None into = Nothing
merge_into_said net (Some gone) None = Nothing
merge_into_said net (Some gone) (Some into) =
    Whole (merge_rule net (record { 0 = gone }) (Some (record { 0 = into })))

-- a digit of a bit
abbrev pub is_bit : ℕ → Bool
is_bit b = (b == 48) || (b == 49)

-- a code of so many bits
abbrev pub is_code : ℕ → List ℕ → Bool
is_code count w = (length w == count) && list_all is_bit w

-- such codes
abbrev pub are_codes : ℕ → List (List ℕ) → Bool
are_codes count ws = list_all (is_code count) ws

-- the code with these digits
abbrev pub code_of : List ℕ → Code
code_of w = record { bits = map (λ b. b == 49) w }

-- a rule that encodes a net, if there is a number, as many names, and nothing behind them but codes
-- of as many bits
abbrev pub encode_said : List ℕ → Option ℕ → List (List ℕ) → Said
encode_said net None words = Nothing
encode_said net (Some count) words =
    if nat_lt (length words) count || not (are_codes count (drop count words)) then Nothing
    else Whole (encode_rule net (take count words) (map code_of (drop count words)))

-- a rule that fills a table, if there is a set
abbrev pub fill_said : List ℕ → Option ℕ → Said
fill_said net None = Nothing
fill_said net (Some out) = Whole (fill_rule net out)

-- THE TABLE: what a line says by its first word and the words behind it
abbrev pub words_said : Keyword → List (List ℕ) → Said
words_said Remove (net ∷ []) = Whole (remove_rule net)
words_said Wire (net ∷ []) = Whole (wire_rule net)
words_said Collapse (net ∷ []) = Whole (collapse_rule net)
words_said Add (net ∷ []) = Begins (add_to net)
words_said Divide (net ∷ by ∷ []) = Begins (divide_by net by)
words_said line_word words = line_or_nothing (line_said words)
words_said Narrow (net ∷ d ∷ u ∷ []) = narrow_said net (number_said d) (number_said u)
words_said Merge (net ∷ gone ∷ []) = merge_said net (number_said gone)
words_said Merge (net ∷ gone ∷ into ∷ []) =
    merge_into_said net (number_said gone) (number_said into)
words_said Encode (net ∷ number ∷ words) = encode_said net (number_said number) words
words_said Fill (net ∷ set ∷ []) = fill_said net (set_said set)
words_said default_word (set ∷ []) = default_said (set_said set)
words_said end_word [] = End
words_said _ words = Nothing

-- what a line says
abbrev pub said : List (List ℕ) → Said
said [] = Nothing
said (w ∷ words) = words_said (keyword_of w) words
