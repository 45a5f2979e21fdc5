-- How lines grow within a flexibility, net by net. What private functions alone cite.
use Rattle.std.specs.Prelude.{◌≡◌, ℕ, ◌<◌, true, false, nat_eq, if◌then◌else◌, Option, List, [], ◌∷◌, ◌++◌, All, take}
use Rattle.mv_base.specs.Set.{has, join, full}
use Rattle.mv_cover.specs.Covers.{cube_reads}
use Rattle.mv_cover.specs.Cubes.{IsCube}
use Rattle.mv_cover.specs.Literal.{Lit}
use Rattle.mv_cover.specs.declared.line.Line.{Line}
use Rattle.mv_flex.specs.Flex.{LineInFlex, LineInFlexWith}
use Rattle.mv_net.specs.Formed.{IsLiteral}
use Rattle.mv_net.specs.Nets.{slot, values_in}
use Rattle.mv_net.specs.declared.parts.FlatNet.{FlatNet}
use Rattle.mv_net.specs.declared.window.Window.{Window}
use Rattle.mv_tight.specs.Tight.{AreSome, IsGrownLiteral, IsFullLine}

-- the literal with these values more
abbrev pub joined : ℕ → Lit → Lit
joined values l = record { net = l.net; set = join l.set values }

-- a literal on m gets these values, and goes if it has all values then
abbrev pub grown_on : ℕ → ℕ → ℕ → Lit → List Lit
grown_on m values all l =
    if nat_eq l.net.0 m then (if nat_eq (join l.set values) all then [] else joined values l ∷ [])
    else l ∷ []

-- so in a cube
abbrev pub put_in : ℕ → ℕ → ℕ → List Lit → List Lit
put_in m values all [] = []
put_in m values all (l ∷ ls) = grown_on m values all l ++ put_in m values all ls

-- the literal of the line on m has got just those values that may be put in
pub record IsGrownAt (nets : List (Option FlatNet)) (w : Window) (n m : ℕ) (old new : Line)
    : Type 0 where
  pub values : ℕ
  pub cube : new.cube ≡ put_in m values (full (values_in (slot nets m))) old.cube
  pub out : new.out ≡ old.out
  pub low : (u : ℕ) → has values u ≡ true → u < values_in (slot nets m)
  pub may : (u : ℕ) → has values u ≡ true → LineInFlexWith nets w n old m u
  pub must : (u : ℕ) → u < values_in (slot nets m) → has values u ≡ false
      → LineInFlexWith nets w n old m u → ⊥

-- no value that the literal lacks may be put in
abbrev pub IsFullLiteral : List (Option FlatNet) → Window → ℕ → Line → Lit → Type 0
IsFullLiteral nets w n l lit =
    (u : ℕ) → u < values_in (slot nets lit.net.0) → has lit.set u ≡ false
    → LineInFlexWith nets w n l lit.net.0 u → ⊥

-- the line is grown from the old one, and its literals on the nets of the first old ones are full
pub record IsUnderGrowth (nets : List (Option FlatNet)) (w : Window) (n : ℕ) (old new : Line)
    (i : ℕ) : Type 0 where
  pub out : new.out ≡ old.out
  pub inside : LineInFlex nets w n new
  pub cube : AreSome IsGrownLiteral old.cube new.cube
  pub literals : All (IsLiteral nets) new.cube
  pub full : All
      (λ (lit : Lit). cube_reads (take i old.cube) lit.net.0 ≡ true
      → IsFullLiteral nets w n new lit) new.cube

-- the line is grown from the old one, and no value can be put into it
pub record IsGrownWhole (nets : List (Option FlatNet)) (w : Window) (n : ℕ) (old new : Line)
    : Type 0 where
  pub formed : IsCube new.cube
  pub out : new.out ≡ old.out
  pub inside : LineInFlex nets w n new
  pub cube : AreSome IsGrownLiteral old.cube new.cube
  pub literals : All (IsLiteral nets) new.cube
  pub full : IsFullLine nets w n new

-- each of the new lines is grown from the old one at its place
abbrev pub AreGrown : List (Option FlatNet) → Window → ℕ → List Line → List Line → Type 0
AreGrown nets w n [] [] = Unit {0}
AreGrown nets w n [] (g ∷ gs) = ⊥
AreGrown nets w n (l ∷ ls) [] = ⊥
AreGrown nets w n (l ∷ ls) (g ∷ gs) = IsGrownWhole nets w n l g × AreGrown nets w n ls gs
