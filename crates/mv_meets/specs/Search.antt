-- What private functions alone cite: a search among all sets of symbols for the best common part.
use Rattle.std.specs.Prelude.{◌≡◌, ◌≢◌, ◌<◌, ◌≤◌, ◌+◌, ◌-◌, ◌*◌, ◌⊎◌, ℕ, Bool, true, not, ◌&&◌, ◌||◌, nat_lt, nat_eq, Option, Some, None, List, [], ◌∷◌, ◌++◌, length, All, Contains}
use Rattle.std.specs.Ordering.{is_lt}
use Rattle.std.specs.declared.cmp.Ordering.TheVariants.{Greater}
use Rattle.mv_cover.specs.Literal.{Lit}
use Rattle.mv_cover.specs.Cubes.{IsCube}
use Rattle.mv_kernels.specs.Symbols.{has_symbol, has_each}
use Rattle.mv_kernels.specs.Order.{cube_cmp}
use Rattle.mv_meets.specs.Meets.{at, common, count, saving, IsMeet}
use Rattle.mv_meets.specs.declared.found.Found.{Found}
use Rattle.mv_meets.specs.declared.nodes.Node.{Node}
use Rattle.mv_meets.specs.declared.search.Search.{Search}
use Rattle.mv_meets.specs.declared.search.Sought.{Sought}
use Rattle.mv_meets.specs.declared.search.Sought.TheVariants.{Ended, Broken}

-- for one of the list it is so
pub record IsOneOf {X K : Type 0} (Is : X → K → Type 0) (xs : List X) (k : K) : Type 0 where
  pub from : X
  pub there : Contains xs from
  pub is : Is from k

-- ---- pairs of cubes

-- it is what the cube has in common with the one at the place, another one
pub record IsWith (cubes : List (List Lit)) (cube : List Lit) (own place : ℕ) (e : List Lit)
    : Type 0 where
  pub apart : place ≢ own
  pub is : common cube (at cubes place) ≡ e

-- it is what a cube at one of these places has in common with another at one of those
pub record HasPair (cubes : List (List Lit)) (ones others : List ℕ) (d : List Lit) : Type 0 where
  pub one : ℕ
  pub there : Contains ones one
  pub with : IsOneOf (IsWith cubes (at cubes one) one) others d

-- ---- nodes

-- the numbers ascend, from the low one on and below the high one
abbrev pub Ascends : ℕ → ℕ → List ℕ → Type 0
Ascends low high [] = low ≤ high
Ascends low high (p ∷ ps) = (low ≤ p) × Ascends (p + 1) high ps

-- all numbers below the count, ascending
pub record AreNumbers (count : ℕ) (list : List ℕ) : Type 0 where
  pub ascending : Ascends 0 count list
  pub all : (p : ℕ) → p < count → Contains list p

-- the ascending places of the cubes that have all symbols of d
pub record AreHolding (cubes : List (List Lit)) (d : List Lit) (places : List ℕ) : Type 0 where
  pub ascending : Ascends 0 (length cubes) places
  pub each : All (λ p. has_each d (at cubes p) ≡ true) places
  pub all : (p : ℕ) → p < length cubes → has_each d (at cubes p) ≡ true → Contains places p

-- its symbols are on nets before the low one, and its places are those of the cubes that have them
pub record IsNode (cubes : List (List Lit)) (node : Node) : Type 0 where
  pub formed : IsCube node.cube
  pub under : All (λ (l : Lit). l.net.0 < node.low) node.cube
  pub places : AreHolding cubes node.cube node.places.items

-- it has the node's symbols, and else only some on nets from the low one on
pub record Covers (node : Node) (e : List Lit) : Type 0 where
  pub has : has_each node.cube e ≡ true
  pub rest : (l : Lit) → has_symbol e l ≡ true
      → (has_symbol node.cube l ≡ true) ⊎ (node.low ≤ l.net.0)

-- a node with these symbols is among them
pub record HasNode (nodes : List Node) (cube : List Lit) (low : ℕ) : Type 0 where
  pub node : Node
  pub there : Contains nodes node
  pub cube_is : node.cube ≡ cube
  pub low_is : node.low ≡ low

-- ---- the best so far

-- what taking a part of so many literals out of so many cubes saves
abbrev pub saved_by : ℕ → ℕ → ℕ
saved_by cubes literals = cubes * (literals - 1) - literals

-- it may save anything, and no less than the best
abbrev pub can_win : Option Found → ℕ → ℕ → Bool
can_win None cubes literals = nat_lt 0 (saved_by cubes literals)
can_win (Some old) cubes literals = not (nat_lt (saved_by cubes literals) old.saved)

-- it saves something, and more than the best, or as much and comes before it
abbrev pub is_ahead : Option Found → ℕ → List Lit → Bool
is_ahead None saved cube = nat_lt 0 saved
is_ahead (Some old) saved cube = nat_lt old.saved saved
    || (nat_eq saved old.saved && is_lt (cube_cmp cube old.cube))

-- a common part that saves so much, which is something
pub record IsSaver (cubes : List (List Lit)) (f : Found) : Type 0 where
  pub meet : IsMeet cubes f.cube
  pub saved_is : saving f.cube cubes ≡ f.saved
  pub some : 0 < f.saved

abbrev pub IsFound : List (List Lit) → Option Found → Type 0
IsFound cubes None = Unit {0}
IsFound cubes (Some f) = IsSaver cubes f

-- it saves something
abbrev pub Saves : Option Found → Type 0
Saves None = Unit {0}
Saves (Some f) = 0 < f.saved

-- what was found, where something was, and else what was given
abbrev pub leading : Option Found → Option Found → Option Found
leading given None = given
leading given (Some f) = Some f

-- it saves no more than the part, and doesn't come before it where it saves as much
pub record IsBehind (cubes : List (List Lit)) (f : Found) (e : List Lit) : Type 0 where
  pub most : saving e cubes ≤ f.saved
  pub least : saving e cubes ≡ f.saved → cube_cmp f.cube e ≡ Greater → ⊥

-- it isn't better than the best so far
abbrev pub IsNoBetter : List (List Lit) → Option Found → List Lit → Type 0
IsNoBetter cubes None e = saving e cubes ≡ 0
IsNoBetter cubes (Some f) e = IsBehind cubes f e

-- what is no better than the old best is no better than the new one, whatever it is taken out of
pub record Improves (old new : Option Found) : Type 0 where
  pub keeps : (cubes : List (List Lit)) (e : List Lit)
      → IsNoBetter cubes old e → IsNoBetter cubes new e

-- d is found, where it is better than what was given and than what was found, which else stays
pub record Looked (cubes : List (List Lit)) (d : List Lit) (given old new : Option Found)
    : Type 0 where
  pub found : IsFound cubes new
  pub improves : Improves (leading given old) (leading given new)
  pub here : IsMeet cubes d → IsNoBetter cubes (leading given new) d

-- nodes came behind the old ones, one for each of these literals on a net from the node's low one
-- on with which the node's symbols may be part of a common part of at most so many literals that
-- saves no less than the best
pub record Spreads (cubes : List (List Lit)) (node : Node) (best : Option Found) (longest : ℕ)
    (Is : Lit → Type 0) (old new : List Node) : Type 0 where
  pub nodes : All (IsNode cubes) new
  pub keeps : (n : Node) → Contains old n → Contains new n
  pub all : (l : Lit) → Is l → node.low ≤ l.net.0
      → can_win best (count (node.cube ++ l ∷ []) cubes) longest ≡ true
      → HasNode new (node.cube ++ l ∷ []) (l.net.0 + 1)

-- each common part that the first node covers, and that is better than what was given and found, is
-- covered by one of the nodes
pub record IsOpen (cubes : List (List Lit)) (start : Node) (given : Option Found)
    (nodes : List Node) (found : Option Found) : Type 0 where
  pub is : IsFound cubes found
  pub improves : Improves given (leading given found)
  pub all : (e : List Lit) → IsMeet cubes e → Covers start e
      → IsNoBetter cubes (leading given found) e ⊎ IsOneOf Covers nodes e

-- that is so of the nodes that wait
pub record IsSearch (cubes : List (List Lit)) (start : Node) (given : Option Found) (s : Search)
    : Type 0 where
  pub nodes : All (IsNode cubes) s.waiting.items
  pub seen : IsOpen cubes start given s.waiting.items s.found

-- the node was visited: what was open with it stays open
pub record IsVisited (cubes : List (List Lit)) (node : Node) (given : Option Found)
    (old new : Search) : Type 0 where
  pub nodes : All (IsNode cubes) new.waiting.items
  pub stays : (start : Node) → IsOpen cubes start given (node ∷ old.waiting.items) old.found
      → IsOpen cubes start given new.waiting.items new.found

-- ---- parts that begin with a symbol

-- it has the symbol, and else only some on later nets
pub record Begins (l : Lit) (e : List Lit) : Type 0 where
  pub has : has_symbol e l ≡ true
  pub rest : (m : Lit) → has_symbol e m ≡ true → (m ≡ l) ⊎ (l.net.0 < m.net.0)

-- no part that begins with the symbol is better than what was given or found
pub record IsSought (cubes : List (List Lit)) (l : Lit) (given found : Option Found) : Type 0 where
  pub is : IsFound cubes found
  pub improves : Improves given (leading given found)
  pub each : (e : List Lit) → IsMeet cubes e → Begins l e
      → IsNoBetter cubes (leading given found) e

-- that is so, unless the search was broken off
abbrev pub IsSoughtIn : List (List Lit) → Lit → Option Found → Sought → Type 0
IsSoughtIn cubes l given (Ended found) = IsSought cubes l given found
IsSoughtIn cubes l given Broken = Unit {0}
