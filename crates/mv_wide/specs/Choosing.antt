-- Sets of values that say which points a line, or a literal, has.
use Rattle.std.specs.Prelude.{◌≡◌, ◌<◌, ◌&&◌, ◌||◌, ℕ, Bool, true, false, nat_eq, Option, Some, None, List, length, slice_index}
use Rattle.std.specs.List.{list_all}
use Rattle.mv_base.specs.Set.{has}
use Rattle.mv_base.specs.declared.number.NetId.{NetId}
use Rattle.mv_cover.specs.Literal.{Lit}
use Rattle.mv_cover.specs.declared.line.Line.{Line}
use Rattle.mv_diagram.specs.Choices.{AreChoices, Fits}
use Rattle.mv_diagram.specs.Sets.{Point, InRange}
use Rattle.mv_relation.specs.Relations.{assigned}

-- each variable has some values, and the points that have one of each are those that pass the test
pub record AreChosen (counts sets : List ℕ) (test : Point → Bool) : Type 0 where
  pub choices : AreChoices counts sets
  pub fits : (p : Point) → InRange counts p → test p ≡ true → Fits counts sets p
  pub only : (p : Point) → Fits counts sets p → test p ≡ true

-- whether the net is left out
abbrev pub is_left_out : Option NetId → ℕ → Bool
is_left_out None n = false
is_left_out (Some m) n = nat_eq n m.0

-- whether a literal holds, where none on a net that is left out is asked for
abbrev pub holds_but : Option NetId → (ℕ → ℕ) → Lit → Bool
holds_but left_out at l = is_left_out left_out l.net.0 || has l.set (at l.net.0)

-- whether all of these do
abbrev pub all_hold_but : Option NetId → (ℕ → ℕ) → List Lit → Bool
all_hold_but left_out at cube = list_all (holds_but left_out at) cube

-- whether they do at a point, and the line's output has the value of a variable
abbrev pub in_line : Option NetId → List ℕ → ℕ → Line → Point → Bool
in_line left_out vars own l p =
    all_hold_but left_out (assigned vars p) l.cube && has l.out (p own)

-- whether one variable has a value of a set, too
abbrev pub and_in : (Point → Bool) → ℕ → ℕ → Point → Bool
and_in test var values p = test p && has values (p var)

-- each net of the test has a variable
pub record AreListed (counts vars : List ℕ) (reads : ℕ → Bool) : Type 0 where
  pub listed : (m : ℕ) → reads m ≡ true → m < length vars
  pub within : (m : ℕ) → reads m ≡ true → slice_index vars m < length counts

-- some point passes the test and is in the set
pub record Hits (counts : List ℕ) (set test : Point → Bool) : Type 0 where
  pub point : Point
  pub range : InRange counts point
  pub passes : test point ≡ true
  pub is : set point ≡ true
