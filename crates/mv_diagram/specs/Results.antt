-- The results of operations on sets that go point by point, and those that are remembered.
use Rattle.std.specs.Prelude.{◌≡◌, ◌≤◌, ◌&&◌, ◌||◌, ◌⊎◌, ℕ, Bool, true, not, List, Option, Contains}
use Rattle.mv_diagram.specs.declared.node.Dd.{Dd}
use Rattle.mv_diagram.specs.declared.node.Node.{Node}
use Rattle.mv_diagram.specs.declared.node.Test.{Test}
use Rattle.mv_diagram.specs.declared.memo.Key.{Key}
use Rattle.mv_diagram.specs.declared.memo.Operation.{Operation}
use Rattle.mv_diagram.specs.declared.memo.Operation.TheVariants.{And, Or, Nand}
use Rattle.mv_diagram.specs.Sets.{holds, has_diagram}
use Rattle.mv_diagram.specs.Sound.{first}
use Rattle.mv_diagram.specs.First.{AreParted}

-- whether a point is in the result, by whether it is in the two sets
abbrev pub result_of : Operation → Bool → Bool → Bool
result_of And x y = x && y
result_of Or x y = x || y
result_of Nand x y = not (x && y)

-- a diagram is the result of an operation on two others, and has no earlier test than they have
pub record IsResult (counts : List ℕ) (ns : List (Option Node)) (operation : Operation) (a b d : ℕ)
    : Type 0 where
  pub left : has_diagram ns a ≡ true
  pub right : has_diagram ns b ≡ true
  pub held : has_diagram ns d ≡ true
  pub later : (from : ℕ) → from ≤ first counts ns a → from ≤ first counts ns b
      → from ≤ first counts ns d
  pub set : (p : ℕ → ℕ)
      → holds counts ns d p ≡ result_of operation (holds counts ns a p) (holds counts ns b p)

-- what is remembered is right
pub record Remembers (counts : List ℕ) (ns : List (Option Node)) (entries : List (Key × Dd))
    : Type 0 where
  pub each : (k : Key) (d : Dd) → Contains entries (k, d)
      → IsResult counts ns k.operation k.left.0 k.right.0 d.0

-- ---- what private functions alone cite

-- the results of what two diagrams are where their first test says yes, and where it says no
pub record AreSides (counts : List ℕ) (ns : List (Option Node)) (operation : Operation) (a b : ℕ)
    (t : Test) (y n : ℕ) : Type 0 where
  pub a_yes : ℕ
  pub a_no : ℕ
  pub b_yes : ℕ
  pub b_no : ℕ
  pub parted : AreParted counts ns a b t a_yes a_no b_yes b_no
  pub yes : IsResult counts ns operation a_yes b_yes y
  pub no : IsResult counts ns operation a_no b_no n

-- nothing is remembered besides what was and this one
pub record IsRemembered (old new : List (Key × Dd)) (key : Key) (d : Dd) : Type 0 where
  pub each : (k : Key) (r : Dd) → Contains new (k, r) → Contains old (k, r) ⊎ ((k ≡ key) × (r ≡ d))
