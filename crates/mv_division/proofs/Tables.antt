-- The lines of tables over nets, each by itself.
use Rattle.std.proofs.Common.{◌≡◌, ◌∙◌, ℕ, true, nat_eq, Option, List, [], ◌∷◌, All, Contains, inl, inr, ap, subst, eqb-true, eq-eqb}
use Rattle.std.proofs.lemmas.Bool.{false≢true, or_cases, or_left, or_right}
use Rattle.std.proofs.lemmas.List.Elements.{All-nil, All-cons, All-head, All-tail}
use Rattle.mv_cover.specs.Literal.{Lit}
use Rattle.mv_cover.specs.Covers.{cube_reads, lines_read}
use Rattle.mv_cover.specs.Cubes.{IsCube}
use Rattle.mv_cover.specs.Lines.{IsOutput}
use Rattle.mv_cover.specs.declared.line.Line.{Line}
use Rattle.mv_kernels.proofs.Lists.{Contains-none, Contains-first, Contains-behind, Contains-cons_cases}
use Rattle.mv_net.specs.declared.parts.FlatNet.{FlatNet}
use Rattle.mv_net.specs.Formed.{IsLiteral, AllLiterals, AllLines, AllCubes}

-- ---- what a table needs of each line

module _ (nets : List (Option FlatNet)) where
  pub literals_each : (c : List Lit) → AllLiterals nets c → All (IsLiteral nets) c
  literals_each [] all = All-nil (IsLiteral nets)
  literals_each (l ∷ ls) all = All-cons (IsLiteral nets) l ls all.0 (literals_each ls all.1)

  pub literals_from : (c : List Lit) → All (IsLiteral nets) c → AllLiterals nets c
  literals_from [] all = tt
  literals_from (l ∷ ls) all = (All-head (IsLiteral nets) l ls all, literals_from ls (All-tail (IsLiteral nets) l ls all))

  -- a line that may stand in a table of a net with so many values
  pub record IsLine (values : ℕ) (l : Line) : Type 0 where
    pub cube : IsCube l.cube
    pub literals : All (IsLiteral nets) l.cube
    pub out : IsOutput values l.out

  module _ (values : ℕ) where
    pub line_at : (ls : List Line) (l : Line) → AllCubes ls → AllLines nets values ls → Contains ls l → IsLine values l
    line_at [] l cubes all i = absurd (Contains-none l i)
    line_at (m ∷ ms) l cubes all i =
        elim (Contains-cons_cases l m ms i) [
          | inl e ↦ subst (IsLine values) e (record { cube = cubes.0; literals = literals_each m.cube all.0; out = all.1 })
          | inr t ↦ line_at ms l cubes.1 all.2 t
        ]

    pub cubes_from : (ls : List Line) → ((l : Line) → Contains ls l → IsLine values l) → AllCubes ls
    cubes_from [] each = tt
    cubes_from (l ∷ ls) each = ((each l (Contains-first l ls)).cube, cubes_from ls (λ m i. each m (Contains-behind m l ls i)))

    pub lines_from : (ls : List Line) → ((l : Line) → Contains ls l → IsLine values l) → AllLines nets values ls
    lines_from [] each = tt
    lines_from (l ∷ ls) each =
        let first = each l (Contains-first l ls) in
        (literals_from l.cube first.literals, first.out, lines_from ls (λ m i. each m (Contains-behind m l ls i)))

-- ---- what lines read

pub reads_from : (c : List Lit) (m : ℕ) → cube_reads c m ≡ true → (l : Lit) × Contains c l × (l.net.0 ≡ m)
reads_from [] m h = absurd (false≢true h)
reads_from (l ∷ ls) m h =
    elim (or_cases (nat_eq l.net.0 m) (cube_reads ls m) h) [
      | inl t ↦ (l, Contains-first l ls, eqb-true l.net.0 m t)
      | inr t ↦ let r = reads_from ls m t in (r.0, Contains-behind r.0 l ls r.1, r.2)
    ]

pub reads_at : (c : List Lit) (l : Lit) → Contains c l → cube_reads c l.net.0 ≡ true
reads_at [] l i = absurd (Contains-none l i)
reads_at (m ∷ ms) l i =
    elim (Contains-cons_cases l m ms i) [
      | inl e ↦ or_left (nat_eq m.net.0 l.net.0) (cube_reads ms l.net.0) (eq-eqb m.net.0 l.net.0 (ap (λ (x : Lit). x.net.0) e))
      | inr t ↦ or_right (nat_eq m.net.0 l.net.0) (cube_reads ms l.net.0) (reads_at ms l t)
    ]

-- the line of the list that reads it
pub line_reading : (ls : List Line) (m : ℕ) → lines_read ls m ≡ true → (l : Line) × Contains ls l × (cube_reads l.cube m ≡ true)
line_reading [] m h = absurd (false≢true h)
line_reading (l ∷ ls) m h =
    elim (or_cases (cube_reads l.cube m) (lines_read ls m) h) [
      | inl t ↦ (l, Contains-first l ls, t)
      | inr t ↦ let r = line_reading ls m t in (r.0, Contains-behind r.0 l ls r.1, r.2)
    ]

pub lines_reading : (ls : List Line) (l : Line) (m : ℕ) → Contains ls l → cube_reads l.cube m ≡ true → lines_read ls m ≡ true
lines_reading [] l m i h = absurd (Contains-none l i)
lines_reading (x ∷ xs) l m i h =
    elim (Contains-cons_cases l x xs i) [
      | inl e ↦ or_left (cube_reads x.cube m) (lines_read xs m) (ap (λ (y : Line). cube_reads y.cube m) e ∙ h)
      | inr t ↦ or_right (cube_reads x.cube m) (lines_read xs m) (lines_reading xs l m t h)
    ]
