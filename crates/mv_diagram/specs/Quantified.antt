-- Points that differ in some variables alone, and the sets that have one of them, or all.
use Rattle.std.specs.Prelude.{◌≡◌, ◌≤◌, ◌==◌, ◌&&◌, ◌⊎◌, ℕ, Bool, true, false, List, Option, Contains, if◌then◌else◌}
use Rattle.std.specs.List.{list_any}
use Rattle.mv_diagram.specs.declared.node.Dd.{Dd}
use Rattle.mv_diagram.specs.declared.node.Node.{Node}
use Rattle.mv_diagram.specs.declared.node.Test.{Test}
use Rattle.mv_diagram.specs.declared.memo.Key.{Key}
use Rattle.mv_diagram.specs.declared.memo.Operation.{Operation}
use Rattle.mv_diagram.specs.declared.memo.Operation.TheVariants.{And, Or}
use Rattle.mv_diagram.specs.Sets.{Point, InRange, holds, has_diagram}
use Rattle.mv_diagram.specs.Sound.{order, first}
use Rattle.mv_diagram.specs.Results.{result_of}
use Rattle.mv_diagram.specs.Diagrams.{Contents, IsHeld, has}
use Rattle.mv_diagram.specs.Parts.{IsCombined}

-- whether a variable is one of these
abbrev pub is_one_of : List ℕ → ℕ → Bool
is_one_of vars v = list_any (λ x. x == v) vars

-- the points have the same values outside these variables
pub record AgreesOutside (vars : ℕ → Bool) (p q : Point) : Type 0 where
  pub each : (v : ℕ) → vars v ≡ false → p v ≡ q v

-- a point that agrees with this one, and has that answer
pub record Agreeing (counts : List ℕ) (vars : ℕ → Bool) (set : Point → Bool) (answer : Bool)
    (p : Point) : Type 0 where
  pub other : Point
  pub range : InRange counts other
  pub agrees : AgreesOutside vars p other
  pub is : set other ≡ answer

-- it has the answer exactly where the set has it at some point that agrees outside these variables
pub record Spreads (new : Contents) (vars : List ℕ) (answer : Bool) (set : Point → Bool) (d : Dd)
    : Type 0 where
  pub some : (p : Point) → InRange new.counts p → has new d p ≡ answer
      → Agreeing new.counts (is_one_of vars) set answer p
  pub all : (p q : Point) → InRange new.counts q → AgreesOutside (is_one_of vars) p q
      → set q ≡ answer → has new d p ≡ answer

-- it has each point that agrees with one of the set outside these variables, and no other
abbrev pub Exists : Contents → Contents → List ℕ → Dd → Dd → Type 0
Exists old new vars a d = Spreads new vars true (λ q. has old a q) d

-- it has each point that agrees with one of both sets outside these variables, and no other
abbrev pub ExistsBoth : Contents → Contents → List ℕ → Dd → Dd → Dd → Type 0
ExistsBoth old new vars a b d = Spreads new vars true (λ q. has old a q && has old b q) d

-- it has each point with which all that agree outside these variables are in the set, and no other
pub record Forall (old new : Contents) (vars : List ℕ) (a d : Dd) : Type 0 where
  pub every : (p q : Point) → has new d p ≡ true → InRange new.counts q
      → AgreesOutside (is_one_of vars) p q → has old a q ≡ true
  pub all : (p : Point) → InRange new.counts p
      → ((q : Point) → InRange new.counts q → AgreesOutside (is_one_of vars) p q
      → has old a q ≡ true)
      → has new d p ≡ true

-- each diagram that is held now and wasn't has the answer exactly where one of some restrictions of
-- the set has it, in which these variables have values
pub record AddsAnswers (old new : Contents) (vars : List ℕ) (answer : Bool) (set : Point → Bool)
    : Type 0 where
  pub each : (d : Dd) → IsHeld new d
      → IsHeld old d ⊎ IsCombined new.counts (is_one_of vars) answer set (λ p. has new d p)

-- it has a union of such restrictions
abbrev pub AddsUnions : Contents → Contents → List ℕ → (Point → Bool) → Type 0
AddsUnions old new vars set = AddsAnswers old new vars true set

-- or a meet of them
abbrev pub AddsMeets : Contents → Contents → List ℕ → (Point → Bool) → Type 0
AddsMeets old new vars set = AddsAnswers old new vars false set

-- ---- what private functions alone cite

-- whether a point is in both sets
abbrev pub meet_of : List ℕ → List (Option Node) → ℕ → ℕ → Point → Bool
meet_of counts ns a b p = holds counts ns a p && holds counts ns b p

-- a diagram has the answer exactly where the meet of its operands has it at some point that agrees
pub record IsQuantified (counts : List ℕ) (ns : List (Option Node)) (vars : ℕ → Bool)
    (answer : Bool) (a b d : ℕ) : Type 0 where
  pub left : has_diagram ns a ≡ true
  pub right : has_diagram ns b ≡ true
  pub held : has_diagram ns d ≡ true
  pub later : (from : ℕ) → from ≤ first counts ns a → from ≤ first counts ns b
      → from ≤ first counts ns d
  pub some : (p : Point) → InRange counts p → holds counts ns d p ≡ answer
      → Agreeing counts vars (λ q. meet_of counts ns a b q) answer p
  pub all : (p q : Point) → InRange counts q → AgreesOutside vars p q
      → meet_of counts ns a b q ≡ answer → holds counts ns d p ≡ answer

-- what is remembered of this is right
pub record Quantifies (counts : List ℕ) (ns : List (Option Node)) (vars : ℕ → Bool) (answer : Bool)
    (entries : List (Key × Dd)) : Type 0 where
  pub each : (k : Key) (d : Dd) → Contains entries (k, d)
      → IsQuantified counts ns vars answer k.left.0 k.right.0 d.0

-- the operation whose answer is this one where one of two answers is
abbrev pub joining : Bool → Operation
joining answer = if answer then Or else And

-- what is made of the sets for yes and no: by the operation, or by the test
abbrev pub joined_set : List ℕ → List (Option Node) → Bool → Bool → Test → ℕ → ℕ → Point → Bool
joined_set counts ns joined answer t y n p =
    if joined then result_of (joining answer) (holds counts ns y p) (holds counts ns n p)
    else (if p t.var == t.value then holds counts ns y p else holds counts ns n p)

-- a diagram is made of those for yes and no
pub record IsJoined (counts : List ℕ) (ns : List (Option Node)) (joined answer : Bool) (t : Test)
    (yes no d : ℕ) : Type 0 where
  pub held : has_diagram ns d ≡ true
  pub later : order t.var t.value ≤ first counts ns d
  pub set : (p : Point) → holds counts ns d p ≡ joined_set counts ns joined answer t yes no p
