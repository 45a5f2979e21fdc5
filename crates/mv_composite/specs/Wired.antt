-- A table in which a net is read in place of another that has its value.
use Rattle.std.specs.Prelude.{◌≡◌, ℕ, true, false, nat_eq, ◌⊎◌, Option, Some, None, List, [], ◌∷◌}
use Rattle.std.specs.List.{flat_map}
use Rattle.mv_cover.specs.declared.line.Line.{Line}
use Rattle.mv_cover.specs.declared.cover.Cover.{Cover}
use Rattle.mv_cover.specs.Meets.{literal_at, met}
use Rattle.mv_cover.specs.Covers.{allowed, cover_reads}
use Rattle.mv_cover.specs.Cofactors.{cube_without}
use Rattle.mv_cover.specs.Complement.{lines_for}
use Rattle.mv_cover.specs.Absorb.{absorbed}

-- the line, where nothing is asked of the net n; else its other literals, met with the literal that
-- asks the same of the net m
abbrev pub line_asking : ℕ → ℕ → Line → Option ℕ → List Line
line_asking n m l None = l ∷ []
line_asking n m l (Some set) =
    lines_for l.out
    (met (cube_without n l.cube) (record { net = record { 0 = m }; set = set } ∷ []))

-- what the line gives once m is read in place of n
unfoldable pub line_wired : ℕ → ℕ → Line → List Line
line_wired n m l = line_asking n m l (literal_at l.cube n)

-- the cover in which m is read in place of n, absorbed
unfoldable pub wired : ℕ → ℕ → Cover → Cover
wired n m c = absorbed (record { lines = flat_map (line_wired n m) c.lines; default = c.default })

-- where n and m have the same value both covers allow the same
pub record AllowsAlong (n m : ℕ) (old new : Cover) : Type 0 where
  pub same : (at : ℕ → ℕ) → at n ≡ at m → (v : ℕ) → allowed new at v ≡ allowed old at v

-- the new cover reads what the old one reads, but n, and m
pub record ReadsAlong (n m : ℕ) (old new : Cover) : Type 0 where
  pub only : (k : ℕ) → cover_reads new k ≡ true
      → ((cover_reads old k ≡ true) × (nat_eq k n ≡ false)) ⊎ (k ≡ m)
