-- The line that declares nets, `.mv NAMES COUNT VALUES`, after the description of BLIF-MV by
-- Kukimoto: its faults in the order in which they are told, and what it declares.
use Rattle.std.specs.Prelude.{ℕ, ◌+◌, ◌*◌, ◌-◌, ◌^◌, Bool, not, ◌&&◌, ◌==◌, nat_lt, nat_le, nat_eq, min, List}
use Rattle.std.specs.Prelude.{[], ◌∷◌, ◌++◌, length, map, drop, filter, codes, decimal, if◌then◌else◌}
use Rattle.std.specs.List.{list_all, flat_map, slice_split, range_with_len}
use Rattle.std.specs.Cmp.Lexicographic.{pointwise}
use Rattle.mv_base.specs.Names.{same_word, among, is_net_name, is_value_name}
use Rattle.mv_base.specs.declared.limits.TheConstants.{MAX_VALUES}
use Rattle.mv_design.specs.declared.design.Decl.{Decl}
use Rattle.mv_fault.specs.declared.fault.Which.TheVariants.{Values}
use Rattle.mv_fault.specs.declared.fault.ParseFault.{ParseFault}
use Rattle.mv_fault.specs.declared.fault.ParseFault.TheVariants.{Missing, BadCount, ValueNames, Redeclared, Repeated, Limit, BadName}
use Rattle.mv_fault.specs.Tells.{when}
use Rattle.mv_design.specs.Values.{declared_of, values_of}

-- ---- commas: each is a word of its own

-- a word that is one comma
abbrev pub is_comma : List ℕ → Bool
is_comma w = same_word w (codes ",")

-- what stands between two commas is a word, unless it is empty
abbrev pub word_or_none : List ℕ → List (List ℕ)
word_or_none [] = []
word_or_none (b ∷ bs) = (b ∷ bs) ∷ []

-- a comma and the word behind it
abbrev pub comma_and : List ℕ → List (List ℕ)
comma_and w = codes "," ∷ word_or_none w

-- a word cut at its commas: the words between them, with a comma before each but the first
unfoldable pub pieces_of : List ℕ → List (List ℕ)
pieces_of w = drop 1 (flat_map comma_and (slice_split (λ b. b == 44) w))

-- all words of a line cut so
unfoldable pub commas_apart : List (List ℕ) → List (List ℕ)
commas_apart words = flat_map pieces_of words

-- ---- the nets, up to the count

-- a word of digits only
abbrev pub is_digits : List ℕ → Bool
is_digits w = list_all (λ b. nat_le 48 b && nat_le b 57) w

-- what the front of a line says: the nets that it names, and the words from the count on, none
-- where a name or the count is lacking
pub record Front : Type 0 where
  pub nets : List (List ℕ)
  pub rest : List (List ℕ)

-- the front of a line where a name or the count is lacking
abbrev pub lacking : Front
lacking = record { nets = []; rest = [] }

-- a front with one more net before the others
abbrev pub with_net : List ℕ → Front → Front
with_net w front = record { nets = w ∷ front.nets; rest = front.rest }

abbrev mutual
  -- a line begins with a name, whatever the word is, unless it is a comma
  pub front_of : List (List ℕ) → Front
  front_of [] = lacking
  front_of (w ∷ ws) = if is_comma w then lacking else with_net w (behind_name ws)

  -- behind a name a comma stands, with which the line begins anew, or the count, which has digits
  -- only, or a further name
  pub behind_name : List (List ℕ) → Front
  behind_name [] = lacking
  behind_name (w ∷ ws) =
      if is_comma w then front_of ws
      else if is_digits w then record { nets = []; rest = w ∷ ws }
      else with_net w (behind_name ws)

-- a name of a net has to be lawful
unfoldable pub net_name_faults : ℕ → List ℕ → List ParseFault
net_name_faults n w = when (not (is_net_name w)) (BadName n w)

-- a name or the count is lacking, where no word is left
abbrev pub lacking_faults : ℕ → List ℕ → List (List ℕ) → List ParseFault
lacking_faults n word [] = Missing n word ∷ []
lacking_faults n word (w ∷ ws) = []

-- the faults of the front of a line: names that are not lawful, and a name or the count that is
-- lacking
abbrev pub front_faults : ℕ → List ℕ → Front → List ParseFault
front_faults n word front = flat_map (net_name_faults n) front.nets
    ++ lacking_faults n word front.rest

-- ---- the count and the names of values behind it

-- the number that digits say: each counts as often as its place says
abbrev pub number_said : List ℕ → ℕ
number_said [] = 0
number_said (b ∷ bs) = (b - 48) * 10 ^ length bs + number_said bs

-- the numbers below a count, spelled
abbrev pub numbers_below : ℕ → List (List ℕ)
numbers_below count = map decimal (range_with_len 0 count)

-- commas behind the count are passed over
abbrev pub value_names : List (List ℕ) → List (List ℕ)
value_names ws = filter (λ w. not (is_comma w)) ws

-- without names the values are the numbers from 0
abbrev pub named_values : ℕ → List (List ℕ) → List (List ℕ)
named_values count [] = numbers_below count
named_values count (w ∷ ws) = w ∷ ws

-- the greatest number that a fault tells
abbrev pub told_number : ℕ → ℕ
told_number n = min n (2 ^ 64 - 1)

-- a count is at least 1, and at most the values that a net may have
unfoldable pub count_faults : ℕ → List ℕ → List ParseFault
count_faults n w = when (number_said w == 0) (BadCount n w)
    ++ when (nat_lt MAX_VALUES (number_said w)) (Limit n Values (told_number (number_said w)))

-- a name of a value, behind these others
unfoldable pub value_faults : ℕ → List (List ℕ) → List ℕ → List ParseFault
value_faults n earlier w = when (not (is_value_name w)) (BadName n w)
    ++ when (among w earlier) (Repeated n w)

-- names of values, behind these others
abbrev pub value_name_faults : ℕ → List (List ℕ) → List (List ℕ) → List ParseFault
value_name_faults n earlier [] = []
value_name_faults n earlier (w ∷ ws) = value_faults n earlier w
    ++ value_name_faults n (earlier ++ w ∷ []) ws

-- as many names as the count, or none
abbrev pub length_faults : ℕ → ℕ → List (List ℕ) → List ParseFault
length_faults n count [] = []
length_faults n count (w ∷ ws) =
    when (not (length (w ∷ ws) == count)) (ValueNames n count (length (w ∷ ws)))

-- the same names of values in the same order
abbrev pub same_values : List (List ℕ) → List (List ℕ) → Bool
same_values a b = pointwise (pointwise nat_eq) a b

-- the net is declared, with other values than these
unfoldable pub is_redeclared : List Decl → List (List ℕ) → List ℕ → Bool
is_redeclared ds values net = among net (declared_of ds)
    && not (same_values (values_of ds net) values)

-- nets that were declared before with other values than the line says
abbrev pub redeclared_faults : ℕ → List Decl → List (List ℕ) → List (List ℕ) → List ParseFault
redeclared_faults n ds values [] = []
redeclared_faults n ds values (net ∷ nets) = when (is_redeclared ds values net) (Redeclared n net)
    ++ redeclared_faults n ds values nets

-- ---- the whole line

-- the values that the words from the count on say
abbrev pub values_from : List (List ℕ) → List (List ℕ)
values_from [] = []
values_from (w ∷ ws) = named_values (number_said w) (value_names ws)

-- the front of a line
abbrev pub front_said : List (List ℕ) → Front
front_said words = front_of (commas_apart words)

-- the nets of a line
unfoldable pub nets_said : List (List ℕ) → List (List ℕ)
nets_said words = (front_said words).nets

-- the values that a line gives its nets
unfoldable pub values_said : List (List ℕ) → List (List ℕ)
values_said words = values_from (front_said words).rest

-- these nets, each with these values
abbrev pub decls_for : List (List ℕ) → List (List ℕ) → List Decl
decls_for values nets = map (λ net. record { net = net; values = values }) nets

-- the declarations of a line
unfoldable pub decls_said : List (List ℕ) → List Decl
decls_said words = decls_for (values_said words) (nets_said words)

-- from the count on, for these nets
abbrev pub count_line_faults : ℕ → List Decl → List (List ℕ) → List (List ℕ) → List ParseFault
count_line_faults n ds nets [] = []
count_line_faults n ds nets (w ∷ ws) =
    count_faults n w ++ value_name_faults n [] (value_names ws)
    ++ length_faults n (number_said w) (value_names ws)
    ++ redeclared_faults n ds (named_values (number_said w) (value_names ws)) nets

-- all faults of the words behind `.mv`, which is `word`, on the line n, behind these declarations
unfoldable pub decl_faults : ℕ → List ℕ → List Decl → List (List ℕ) → List ParseFault
decl_faults n word ds words =
    front_faults n word (front_said words)
    ++ count_line_faults n ds (front_said words).nets (front_said words).rest
