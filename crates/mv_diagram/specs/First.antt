-- The first test of two diagrams, and what they are where it says yes and where it says no.
use Rattle.std.specs.Prelude.{◌≡◌, ◌≤◌, ◌<◌, ◌+◌, ◌==◌, ◌⊎◌, ℕ, true, List, Option, if◌then◌else◌}
use Rattle.mv_diagram.specs.declared.node.Node.{Node}
use Rattle.mv_diagram.specs.declared.node.Test.{Test}
use Rattle.mv_diagram.specs.Sets.{Point, holds, has_diagram}
use Rattle.mv_diagram.specs.Sound.{IsTest, order, first}

-- it is one of the two, and not behind the other
pub record IsEarlier (t u first : Test) : Type 0 where
  pub left : order first.var first.value ≤ order t.var t.value
  pub right : order first.var first.value ≤ order u.var u.value
  pub one : (first ≡ t) ⊎ (first ≡ u)

-- it is the first of one of the two diagrams, and not behind the first of the other
pub record IsFirstTest (counts : List ℕ) (ns : List (Option Node)) (a b : ℕ) (t : Test)
    : Type 0 where
  pub test : IsTest counts t
  pub left : order t.var t.value ≤ first counts ns a
  pub right : order t.var t.value ≤ first counts ns b
  pub one : (order t.var t.value ≡ first counts ns a) ⊎ (order t.var t.value ≡ first counts ns b)

-- what a diagram is where the test says yes, and where it says no
pub record IsSplit (counts : List ℕ) (ns : List (Option Node)) (d : ℕ) (t : Test) (yes no : ℕ)
    : Type 0 where
  pub yes_held : has_diagram ns yes ≡ true
  pub no_held : has_diagram ns no ≡ true
  pub yes_later : order (t.var + 1) 0 ≤ first counts ns yes
  pub no_later : order t.var t.value < first counts ns no
  pub set : (p : Point)
      → holds counts ns d p
      ≡ (if p t.var == t.value then holds counts ns yes p else holds counts ns no p)

-- it is the first test of two diagrams, which are these where it says yes, and these where it says
-- no
pub record AreParted (counts : List ℕ) (ns : List (Option Node)) (a b : ℕ) (t : Test)
    (a_yes a_no b_yes b_no : ℕ) : Type 0 where
  pub left_held : has_diagram ns a ≡ true
  pub right_held : has_diagram ns b ≡ true
  pub test : IsFirstTest counts ns a b t
  pub left : IsSplit counts ns a t a_yes a_no
  pub right : IsSplit counts ns b t b_yes b_no
