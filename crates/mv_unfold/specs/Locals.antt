-- The nets of a model by number, and which of them are an instance's own.
use Rattle.std.specs.Prelude.{◌≡◌, ℕ, Bool, ◌-◌, ◌<◌, ◌≤◌, not, nat_eq, nat_lt, if◌then◌else◌, Option, Some, None, List, [], ◌∷◌, length, map, filter, take, drop, All}
use Rattle.std.specs.List.{list_any, flat_map, range_with_len}
use Rattle.mv_base.specs.Names.{place_of}
use Rattle.mv_design.specs.declared.design.Bind.{Bind}
use Rattle.mv_design.specs.declared.design.Instance.{Instance}
use Rattle.mv_design.specs.ByLine.{before_line, from_line}
use Rattle.mv_design.specs.Nets.{Naming}
use Rattle.mv_tree.specs.Places.{is_bound}
use Rattle.mv_acyclic.specs.Driving.{with_names, with_named}
use Rattle.mv_unfold.specs.declared.spans.Span.{Span}

-- ---- the nets of a model

-- the nets to which formals are bound
abbrev pub actuals_of : List Bind → List (List ℕ)
actuals_of binds = map (λ b. b.actual) binds

-- names with those more that instances and other commands name, by line
abbrev pub with_commands : List (List ℕ) → List Instance → List Naming → List (List ℕ)
with_commands names [] ns = with_named names ns
with_commands names (p ∷ ps) ns =
    with_commands
    (with_names (with_named names (before_line (λ n. n.line) p.line ns))
    (actuals_of p.binds)) ps (from_line (λ n. n.line) p.line ns)

-- ---- the nets of an instance that are its own

-- a span of numbers below a count
pub record IsSpan (count : ℕ) (s : Span) : Type 0 where
  pub some : s.start < s.end
  pub within : s.end ≤ count

-- the numbers of a span
abbrev pub span_numbers : Span → List ℕ
span_numbers s = range_with_len s.start (s.end - s.start)

-- the span from a start up to an end, if there is a number in it
abbrev pub span_between : ℕ → ℕ → List Span
span_between start end = if nat_lt start end then record { start = start; end = end } ∷ [] else []

-- the number isn't one of these
abbrev pub is_other : List ℕ → ℕ → Bool
is_other stops n = not (list_any (nat_eq n) stops)

-- spans of the numbers below a count, but for these
pub record AreBetween (stops : List ℕ) (count : ℕ) (spans : List Span) : Type 0 where
  pub within : All (IsSpan count) spans
  pub are : flat_map span_numbers spans ≡ filter (is_other stops) (range_with_len 0 count)

-- a number, if there is one
abbrev pub listed : Option ℕ → List ℕ
listed (Some k) = k ∷ []
listed None = []

-- the number of the formal that a binding binds
abbrev pub stop_of : List (List ℕ) → Bind → List ℕ
stop_of nets b = listed (place_of b.formal nets)

-- what stands at the numbers of a span
abbrev pub cut : {X : Type 0} → List X → Span → List X
cut xs s = take (s.end - s.start) (drop s.start xs)

-- spans of the nets that aren't bound
pub record AreOwn (nets : List (List ℕ)) (binds : List Bind) (spans : List Span) : Type 0 where
  pub within : All (IsSpan (length nets)) spans
  pub are : flat_map (cut nets) spans ≡ filter (λ net. not (is_bound binds net)) nets
