-- Tables that are tight: they allow as much as the flexibility lets each line allow, by as few
-- lines as do.
use Rattle.std.specs.Prelude.{◌≡◌, ◌⊎◌, ℕ, ◌<◌, true, false, Option, Some, None, List, [], ◌∷◌, ◌++◌, All}
use Rattle.mv_base.specs.Set.{has, one, join, Within}
use Rattle.mv_cover.specs.Absorb.{some_bare}
use Rattle.mv_cover.specs.Literal.{Lit}
use Rattle.mv_cover.specs.declared.line.Line.{Line}
use Rattle.mv_cover.specs.declared.cover.Cover.{Cover}
use Rattle.mv_flex.specs.Flex.{LineInFlex}
use Rattle.mv_flex.specs.Left.{IsLawful}
use Rattle.mv_net.specs.Formed.{IsCover}
use Rattle.mv_net.specs.Nets.{slot, values_in}
use Rattle.mv_net.specs.declared.parts.FlatNet.{FlatNet}
use Rattle.mv_net.specs.declared.window.Window.{Window}

-- ---- tight

-- the literal with one value more
abbrev pub with_value : Lit → ℕ → Lit
with_value l u = record { net = l.net; set = join l.set (one u) }

-- no value can be put into one literal of the line with all of the line's pairs still in the
-- flexibility
pub record IsFullLine (nets : List (Option FlatNet)) (w : Window) (n : ℕ) (l : Line) : Type 0 where
  pub none : (front : List Lit) (lit : Lit) (back : List Lit) (u : ℕ) → l.cube ≡ front ++ lit ∷ back
      → u < values_in (slot nets lit.net.0) → has lit.set u ≡ false
      → LineInFlex nets w n (record { cube = front ++ with_value lit u ∷ back; out = l.out }) → ⊥

-- the new cover is lawful; no value can be put into one literal of one line with all of that line's
-- pairs still in the flexibility; no line can be taken away with the rest still lawful
pub record IsTight (nets : List (Option FlatNet)) (w : Window) (n : ℕ) (old new : Cover)
    : Type 0 where
  pub lawful : IsLawful nets w n old new
  pub full : All (IsFullLine nets w n) new.lines
  pub needed : (front : List Line) (l : Line) (back : List Line) → new.lines ≡ front ++ l ∷ back
      → IsLawful nets w n old (record { lines = front ++ back; default = new.default }) → ⊥

-- ---- grown

-- the new list has some of the old one's elements in their order, each as what it has become
abbrev pub AreSome : {A : Type 0} → (A → A → Type 0) → List A → List A → Type 0
AreSome Becomes [] [] = Unit {0}
AreSome Becomes [] (y ∷ ys) = ⊥
AreSome Becomes (x ∷ xs) [] = Unit {0}
AreSome Becomes (x ∷ xs) (y ∷ ys) =
    (Becomes x y × AreSome Becomes xs ys) ⊎ AreSome Becomes xs (y ∷ ys)

-- the same net, with the same or more values
pub record IsGrownLiteral (old new : Lit) : Type 0 where
  pub net : new.net ≡ old.net
  pub more : Within old.set new.set

-- the same output, and the same or larger sets at the nets; where a literal is gone the net may
-- have any value
pub record IsGrownLine (old new : Line) : Type 0 where
  pub out : new.out ≡ old.out
  pub cube : AreSome IsGrownLiteral old.cube new.cube

-- the lines are some of the old lines in their order, each with the same output and the same or
-- larger sets at its nets; the default is the old one, or is gone because a line without literals
-- is there
pub record IsGrown (old new : Cover) : Type 0 where
  pub lines : AreSome IsGrownLine old.lines new.lines
  pub default : (new.default ≡ old.default) ⊎ ((new.default ≡ None) × (some_bare new.lines ≡ true))

-- ---- made tight

-- another table for n, tight and grown from the old one
pub record IsNewTight (nets : List (Option FlatNet)) (w : Window) (n : ℕ) (old new : Cover)
    : Type 0 where
  pub tight : IsTight nets w n old new
  pub grown : IsGrown old new
  pub changed : new ≡ old → ⊥
  pub cover : IsCover nets (values_in (slot nets n)) new

-- what making n's table tight gives: None where it stays, since it is tight
abbrev pub IsMadeTight : List (Option FlatNet) → Window → ℕ → Cover → Option Cover → Type 0
IsMadeTight nets w n old None = IsTight nets w n old old
IsMadeTight nets w n old (Some new) = IsNewTight nets w n old new
