-- Some lines of a table of a network: they are as all of them are.
use Rattle.std.proofs.Common.{◌≡◌, ◌∙◌, ℕ, Bool, true, ◌||◌, Option, Some, None, List, [], ◌∷◌, inl, inr, refl, sym, ap, arith}
use Rattle.std.specs.List.{All, filter}
use Rattle.std.proofs.lemmas.Bool.{cases_Bool, or_cases, or_left, or_right}
use Rattle.std.proofs.lemmas.List.Elements.{All-nil, All-cons}
use Rattle.mv_cover.specs.Cubes.{IsCube}
use Rattle.mv_cover.specs.Covers.{cube_reads, lines_read}
use Rattle.mv_cover.specs.Lines.{IsOutput}
use Rattle.mv_cover.specs.declared.line.Line.{Line}
use Rattle.mv_net.specs.declared.parts.FlatNet.{FlatNet}
use Rattle.mv_net.specs.Formed.{AllCubes, AllLines}

module _ (p : Line → Bool) where
  pub cubes_kept : (ls : List Line) → AllCubes ls → AllCubes (filter p ls)
  cubes_kept [] are = tt
  cubes_kept (l ∷ ls) are =
      elim (cases_Bool (p l)) [
        | inl t ↦ rw t (are.0, cubes_kept ls are.1)
        | inr f ↦ rw f (cubes_kept ls are.1)
      ]

  pub lines_kept : (nets : List (Option FlatNet)) (values : ℕ) (ls : List Line) → AllLines nets values ls → AllLines nets values (filter p ls)
  lines_kept nets values [] are = tt
  lines_kept nets values (l ∷ ls) are =
      elim (cases_Bool (p l)) [
        | inl t ↦ rw t (are.0, are.1, lines_kept nets values ls are.2)
        | inr f ↦ rw f (lines_kept nets values ls are.2)
      ]

  -- they read no net besides
  pub reads_kept : (ls : List Line) (n : ℕ) → lines_read (filter p ls) n ≡ true → lines_read ls n ≡ true
  reads_kept [] n h = h
  reads_kept (l ∷ ls) n h =
      elim (cases_Bool (p l)) [
        | inl t ↦
            elim (or_cases (cube_reads l.cube n) (lines_read (filter p ls) n) (rw t at h)) [
              | inl own ↦ or_left (cube_reads l.cube n) (lines_read ls n) own
              | inr rest ↦ or_right (cube_reads l.cube n) (lines_read ls n) (reads_kept ls n rest)
            ]
        | inr f ↦ or_right (cube_reads l.cube n) (lines_read ls n) (reads_kept ls n (rw f at h))
      ]

pub all_cubes : (ls : List Line) → AllCubes ls → All (λ (l : Line). IsCube l.cube) ls
all_cubes [] are = All-nil (λ (l : Line). IsCube l.cube)
all_cubes (l ∷ ls) are = All-cons (λ (l : Line). IsCube l.cube) l ls are.0 (all_cubes ls are.1)

pub all_outputs : (nets : List (Option FlatNet)) (values : ℕ) (ls : List Line) → AllLines nets values ls → All (λ (l : Line). IsOutput values l.out) ls
all_outputs nets values [] are = All-nil (λ (l : Line). IsOutput values l.out)
all_outputs nets values (l ∷ ls) are = All-cons (λ (l : Line). IsOutput values l.out) l ls are.1 (all_outputs nets values ls are.2)
