-- Covers that may take a table's place, and the lines of a cover that are left when each goes that
-- the others can do without.
use Rattle.std.specs.Prelude.{◌≡◌, ◌⊎◌, ℕ, Option, List, [], ◌∷◌, ◌++◌}
use Rattle.mv_base.specs.Set.{empty}
use Rattle.mv_cover.specs.declared.line.Line.{Line}
use Rattle.mv_cover.specs.declared.cover.Cover.{Cover}
use Rattle.mv_net.specs.declared.parts.FlatNet.{FlatNet}
use Rattle.mv_net.specs.declared.window.Window.{Window}
use Rattle.mv_flex.specs.Flex.{LineInFlex, CoverInFlex, KeepsChoice}

-- each pair that the new cover allows is in the flexibility, and it allows something wherever the
-- old one does
pub record IsLawful (nets : List (Option FlatNet)) (w : Window) (n : ℕ) (old new : Cover)
    : Type 0 where
  pub inside : CoverInFlex nets w n new
  pub keeps : KeepsChoice nets n old new

-- each of the line's pairs is in the flexibility, and its output has some value
pub record IsLineInside (nets : List (Option FlatNet)) (w : Window) (n : ℕ) (l : Line)
    : Type 0 where
  pub inside : LineInFlex nets w n l
  pub some : l.out ≡ empty → ⊥

-- what is left of the lines, with those in front that stay: they are taken in order, and each goes
-- whose absence leaves enough
abbrev pub AreLeft : (List Line → Type 0) → List Line → List Line → List Line → Type 0
AreLeft Enough front [] left = left ≡ front
AreLeft Enough front (l ∷ ls) left =
    (Enough (front ++ ls) × AreLeft Enough front ls left)
    ⊎ ((Enough (front ++ ls) → ⊥) × AreLeft Enough (front ++ l ∷ []) ls left)

-- what is left of the cover's lines when each goes whose absence leaves the rest, with the default,
-- lawful
abbrev pub LeavesLawful : List (Option FlatNet) → Window → ℕ → Cover → Cover → List Line → Type 0
LeavesLawful nets w n old c left =
    AreLeft (λ ls. IsLawful nets w n old
    (record { lines = ls; default = c.default })) [] c.lines left
