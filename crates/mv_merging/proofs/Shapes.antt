-- Lines over the nets of a network: of a cover, and of what absorbing leaves of one.
use Rattle.std.proofs.Common.{◌≡◌, ℕ, Bool, true, false, refl, Option, Some, None, All, List, [], ◌∷◌, ⊎_elim}
use Rattle.std.proofs.lemmas.Bool.{cases_Bool, or_left, or_right, or_cases, false≢true}
use Rattle.std.proofs.lemmas.List.Elements.{All-nil, All-cons, All-head, All-tail}
use Rattle.mv_cover.specs.Absorb.{left_of, some_bare, default_beside, absorbed}
use Rattle.mv_cover.specs.Covers.{cube_reads, lines_read, cover_reads}
use Rattle.mv_cover.specs.Cubes.{IsCube}
use Rattle.mv_cover.specs.Lines.{IsOutput}
use Rattle.mv_cover.specs.declared.cover.Cover.{Cover}
use Rattle.mv_cover.specs.declared.line.Line.{Line}
use Rattle.mv_composite.proofs.Formed.{all_left, differ_left}
use Rattle.mv_net.specs.declared.parts.FlatNet.{FlatNet}
use Rattle.mv_net.specs.Formed.{AllCubes, AllLiterals, AllLines, IsCover}

-- a line over the nets, for so many values, that reads such nets alone
pub record IsLineOver (nets : List (Option FlatNet)) (values : ℕ) (reads : ℕ → Bool) (l : Line) : Type 0 where
  pub cube : IsCube l.cube
  pub literals : AllLiterals nets l.cube
  pub out : IsOutput values l.out
  pub only : (k : ℕ) → cube_reads l.cube k ≡ true → reads k ≡ true

-- ---- the lines of a cover

lines_over : (nets : List (Option FlatNet)) (values : ℕ) (reads : ℕ → Bool) (ls : List Line) → AllCubes ls → AllLines nets values ls → ((k : ℕ) → lines_read ls k ≡ true → reads k ≡ true) → All (IsLineOver nets values reads) ls
lines_over nets values reads [] cubes lines only = All-nil (IsLineOver nets values reads)
lines_over nets values reads (l ∷ ls) cubes lines only =
    All-cons (IsLineOver nets values reads) l ls
    (record { cube = cubes.0; literals = lines.0; out = lines.1; only = λ k r. only k (or_left (cube_reads l.cube k) (lines_read ls k) r) })
    (lines_over nets values reads ls cubes.1 lines.2 (λ k r. only k (or_right (cube_reads l.cube k) (lines_read ls k) r)))

pub cover_over : (nets : List (Option FlatNet)) (values : ℕ) (c : Cover) → IsCover nets values c → All (IsLineOver nets values (cover_reads c)) c.lines
cover_over nets values c is = lines_over nets values (cover_reads c) c.lines is.cubes is.lines (λ k r. r)

-- ---- and the other way round

cubes_from : (nets : List (Option FlatNet)) (values : ℕ) (reads : ℕ → Bool) (ls : List Line) → All (IsLineOver nets values reads) ls → AllCubes ls
cubes_from nets values reads [] all = tt
cubes_from nets values reads (l ∷ ls) all =
    ((All-head (IsLineOver nets values reads) l ls all).cube, cubes_from nets values reads ls (All-tail (IsLineOver nets values reads) l ls all))

lines_from : (nets : List (Option FlatNet)) (values : ℕ) (reads : ℕ → Bool) (ls : List Line) → All (IsLineOver nets values reads) ls → AllLines nets values ls
lines_from nets values reads [] all = tt
lines_from nets values reads (l ∷ ls) all =
    let is = All-head (IsLineOver nets values reads) l ls all in
    (is.literals, is.out, lines_from nets values reads ls (All-tail (IsLineOver nets values reads) l ls all))

read_from : (nets : List (Option FlatNet)) (values : ℕ) (reads : ℕ → Bool) (ls : List Line) → All (IsLineOver nets values reads) ls → (k : ℕ) → lines_read ls k ≡ true → reads k ≡ true
read_from nets values reads [] all k h = absurd (false≢true h)
read_from nets values reads (l ∷ ls) all k h =
    ⊎_elim
    (λ (here : cube_reads l.cube k ≡ true). (All-head (IsLineOver nets values reads) l ls all).only k here)
    (λ (rest : lines_read ls k ≡ true). read_from nets values reads ls (All-tail (IsLineOver nets values reads) l ls all) k rest)
    (or_cases (cube_reads l.cube k) (lines_read ls k) h)

-- ---- what absorbing leaves

default_from : (ls : List Line) (d : Option ℕ) (out : ℕ) → default_beside ls d ≡ Some out → d ≡ Some out
default_from ls d out e =
    ⊎_elim
    (λ (t : some_bare ls ≡ true). let bad : None ≡ Some out = rw t at e in absurd (cc))
    (λ (f : some_bare ls ≡ false). rw f at e)
    (cases_Bool (some_bare ls))

-- an absorbed cover is one over the nets, where its lines were over them
pub absorbed_cover : (nets : List (Option FlatNet)) (values : ℕ) (reads : ℕ → Bool) (c : Cover) → All (IsLineOver nets values reads) c.lines → ((out : ℕ) → c.default ≡ Some out → IsOutput values out) → IsCover nets values (absorbed c)
unfolding absorbed
absorbed_cover nets values reads c all default =
    let left = all_left (IsLineOver nets values reads) c.lines all in
    record {
      cubes = cubes_from nets values reads (left_of c.lines) left;
      lines = lines_from nets values reads (left_of c.lines) left;
      differ = differ_left c.lines;
      default = λ out e. default out (default_from (left_of c.lines) c.default out e);
      met = λ h. rw h refl;
    }

-- and reads what they read
pub absorbed_reads : (nets : List (Option FlatNet)) (values : ℕ) (reads : ℕ → Bool) (c : Cover) → All (IsLineOver nets values reads) c.lines → (k : ℕ) → cover_reads (absorbed c) k ≡ true → reads k ≡ true
unfolding absorbed
absorbed_reads nets values reads c all = read_from nets values reads (left_of c.lines) (all_left (IsLineOver nets values reads) c.lines all)
