-- What a composite reads, of whatever covers: what the reader or the net's own cover reads.
use Rattle.std.proofs.Common.{◌≡◌, ℕ, true, not, ◌&&◌, nat_eq, nat_lt, All, List, [], ◌∷◌, Option, Some, None, is_none, filter, inl, inr, refl, subst, ⊎_elim, eq-eqb}
use Rattle.std.specs.List.{list_all, flat_map}
use Rattle.std.proofs.lemmas.Bool.{cases_Bool, cond_both, false≢true, or_cases, or_left, or_right}
use Rattle.std.proofs.lemmas.List.Elements.{All-nil, All-cons, All-head, All-tail, All-append, All-filter, All-map}
use Rattle.mv_base.specs.Set.{empty, meet}
use Rattle.mv_composite.specs.declared.inner.Inner.{Inner}
use Rattle.mv_composite.specs.Composite.{set_meets, default_meets, cubes_giving, line_given, lines_given, default_stays, spelled, composed}
use Rattle.mv_composite.proofs.Cubes.{All-flat_map}
use Rattle.mv_composite.proofs.Formed.{all_left}
use Rattle.mv_composite.proofs.Outside.{complement_reads}
use Rattle.mv_cover.specs.declared.cover.Cover.{Cover}
use Rattle.mv_cover.specs.Literal.{Lit}
use Rattle.mv_cover.specs.declared.line.Line.{Line}
use Rattle.mv_cover.specs.Absorb.{absorbed}
use Rattle.mv_cover.specs.Cofactors.{cubes_read, cube_without, cubes_of}
use Rattle.mv_cover.specs.Complement.{complement_of, lines_for, default_lines, spelled_of}
use Rattle.mv_cover.specs.Covers.{cube_reads, lines_read, cover_reads}
use Rattle.mv_cover.specs.Meets.{literal_at, put_in, merged, met}
use Rattle.mv_cover.proofs.Covering.{same_number}

-- the literal is on such a net
abbrev On : (ℕ → Type 0) → Lit → Type 0
On Q l = Q l.net.0

-- the cube's literals are on such nets
abbrev pub AreOn : (ℕ → Type 0) → List Lit → Type 0
AreOn Q c = All (On Q) c

-- the lines' literals are
abbrev pub LinesOn : (ℕ → Type 0) → List Line → Type 0
LinesOn Q ls = All (λ (l : Line). AreOn Q l.cube) ls

-- ---- what is read

are_on : (Q : ℕ → Type 0) (c : List Lit) → ((m : ℕ) → cube_reads c m ≡ true → Q m) → AreOn Q c
are_on Q [] only = All-nil (On Q)
are_on Q (l ∷ ls) only =
    All-cons (On Q) l ls (only l.net.0 (or_left (nat_eq l.net.0 l.net.0) (cube_reads ls l.net.0) (eq-eqb l.net.0 l.net.0 refl)))
    (are_on Q ls (λ m h. only m (or_right (nat_eq l.net.0 m) (cube_reads ls m) h)))

on_reads : (Q : ℕ → Type 0) (c : List Lit) → AreOn Q c → (m : ℕ) → cube_reads c m ≡ true → Q m
on_reads Q [] all m h = absurd (false≢true h)
on_reads Q (l ∷ ls) all m h =
    ⊎_elim
    (λ (here : nat_eq l.net.0 m ≡ true). subst Q (same_number l.net.0 m here) (All-head (On Q) l ls all))
    (λ (rest : cube_reads ls m ≡ true). on_reads Q ls (All-tail (On Q) l ls all) m rest)
    (or_cases (nat_eq l.net.0 m) (cube_reads ls m) h)

pub lines_on : (Q : ℕ → Type 0) (ls : List Line) → ((m : ℕ) → lines_read ls m ≡ true → Q m) → LinesOn Q ls
lines_on Q [] only = All-nil (λ (k : Line). AreOn Q k.cube)
lines_on Q (l ∷ ls) only =
    All-cons (λ (k : Line). AreOn Q k.cube) l ls (are_on Q l.cube (λ m h. only m (or_left (cube_reads l.cube m) (lines_read ls m) h)))
    (lines_on Q ls (λ m h. only m (or_right (cube_reads l.cube m) (lines_read ls m) h)))

pub on_lines : (Q : ℕ → Type 0) (ls : List Line) → LinesOn Q ls → (m : ℕ) → lines_read ls m ≡ true → Q m
on_lines Q [] all m h = absurd (false≢true h)
on_lines Q (l ∷ ls) all m h =
    ⊎_elim
    (λ (here : cube_reads l.cube m ≡ true). on_reads Q l.cube (All-head (λ (k : Line). AreOn Q k.cube) l ls all) m here)
    (λ (rest : lines_read ls m ≡ true). on_lines Q ls (All-tail (λ (k : Line). AreOn Q k.cube) l ls all) m rest)
    (or_cases (cube_reads l.cube m) (lines_read ls m) h)

cubes_on : (Q : ℕ → Type 0) (cs : List (List Lit)) → ((m : ℕ) → cubes_read cs m ≡ true → Q m) → All (AreOn Q) cs
cubes_on Q [] only = All-nil (AreOn Q)
cubes_on Q (c ∷ cs) only =
    All-cons (AreOn Q) c cs (are_on Q c (λ m h. only m (or_left (cube_reads c m) (cubes_read cs m) h)))
    (cubes_on Q cs (λ m h. only m (or_right (cube_reads c m) (cubes_read cs m) h)))

-- ---- cubes that meet

on-put_in : (Q : ℕ → Type 0) (l : Lit) (rest : List Lit → List Lit) → Q l.net.0 → ((c : List Lit) → AreOn Q c → AreOn Q (rest c)) → (ms : List Lit) → AreOn Q ms → AreOn Q (put_in l rest ms)
unfolding put_in
on-put_in Q l rest here keeps [] all = All-cons (On Q) l (rest []) here (keeps [] all)
on-put_in Q l rest here keeps (m ∷ ms) all =
    let tail = All-tail (On Q) m ms all in
    elim (cases_Bool (nat_lt l.net.0 m.net.0)) [
      | inl t ↦ rw t (All-cons (On Q) l (rest (m ∷ ms)) here (keeps (m ∷ ms) all))
      | inr f ↦
          elim (cases_Bool (nat_lt m.net.0 l.net.0)) [
            | inl t ↦ rw f (rw t (All-cons (On Q) m (put_in l rest ms) (All-head (On Q) m ms all) (on-put_in Q l rest here keeps ms tail)))
            | inr g ↦ rw f (rw g (All-cons (On Q) (record { net = l.net; set = meet l.set m.set }) (rest ms) here (keeps ms tail)))
          ]
    ]

on-merged : (Q : ℕ → Type 0) (a b : List Lit) → AreOn Q a → AreOn Q b → AreOn Q (merged a b)
unfolding merged
on-merged Q [] b first second = second
on-merged Q (l ∷ ls) b first second =
    on-put_in Q l (λ c. merged ls c) (All-head (On Q) l ls first) (λ c all. on-merged Q ls c (All-tail (On Q) l ls first) all) b second

on-met : (Q : ℕ → Type 0) (a b : List Lit) → AreOn Q a → AreOn Q b → All (AreOn Q) (met a b)
unfolding met
on-met Q a b first second =
    cond_both (list_all (λ l. not (nat_eq l.set empty)) (merged a b)) (merged a b ∷ []) [] (All (AreOn Q))
    (λ _. All-cons (AreOn Q) (merged a b) [] (on-merged Q a b first second) (All-nil (AreOn Q)))
    (λ _. All-nil (AreOn Q))

on-lines_for : (Q : ℕ → Type 0) (out : ℕ) (cs : List (List Lit)) → All (AreOn Q) cs → LinesOn Q (lines_for out cs)
on-lines_for Q out cs all = All-map (λ (k : Line). AreOn Q k.cube) (λ (c : List Lit). record { cube = c; out = out }) cs all

-- ---- the composite

on-cubes_of : (Q : ℕ → Type 0) (ls : List Line) → LinesOn Q ls → All (AreOn Q) (cubes_of ls)
on-cubes_of Q [] all = All-nil (AreOn Q)
on-cubes_of Q (l ∷ ls) all =
    All-cons (AreOn Q) l.cube (cubes_of ls) (All-head (λ (k : Line). AreOn Q k.cube) l ls all) (on-cubes_of Q ls (All-tail (λ (k : Line). AreOn Q k.cube) l ls all))

module _ (Q : ℕ → Type 0) (counts : List ℕ) (inner : Inner) (own : (m : ℕ) → cover_reads inner.cover m ≡ true → Q m) where
  on-cubes_giving : (asked : Option ℕ) → All (AreOn Q) (cubes_giving (complement_of counts inner.cover.lines) inner.cover asked)
  on-cubes_giving asked =
      All-append (AreOn Q) (cubes_of (filter (λ (l : Line). set_meets asked l.out) inner.cover.lines)) _
      (on-cubes_of Q _ (All-filter (λ (l : Line). set_meets asked l.out) (λ (l : Line). AreOn Q l.cube) inner.cover.lines (lines_on Q inner.cover.lines own)))
      (cond_both (default_meets inner.cover.default asked) (complement_of counts inner.cover.lines) [] (All (AreOn Q))
      (λ _. cubes_on Q (complement_of counts inner.cover.lines) (λ m h. own m (complement_reads counts inner.cover.lines m h)))
      (λ _. All-nil (AreOn Q)))

  on-line_given : (l : Line) → AreOn Q l.cube → LinesOn Q (line_given (complement_of counts inner.cover.lines) inner l)
  unfolding line_given
  on-line_given l all =
      let rest = cube_without inner.net.0 l.cube in
      let giving = cubes_giving (complement_of counts inner.cover.lines) inner.cover (literal_at l.cube inner.net.0) in
      cond_both (inner.total && is_none (literal_at l.cube inner.net.0)) (l ∷ []) (lines_for l.out (flat_map (met rest) giving)) (LinesOn Q)
      (λ _. All-cons (λ (k : Line). AreOn Q k.cube) l [] all (All-nil (λ (k : Line). AreOn Q k.cube)))
      (λ _.
      on-lines_for Q l.out (flat_map (met rest) giving)
      (All-flat_map (AreOn Q) (AreOn Q) (met rest) (λ c it. on-met Q rest c (All-filter (λ (k : Lit). not (nat_eq k.net.0 inner.net.0)) (On Q) l.cube all) it) giving
      (on-cubes_giving (literal_at l.cube inner.net.0))))

  on-default_lines : (lines : List Line) (default : Option ℕ) → ((m : ℕ) → lines_read lines m ≡ true → Q m) → LinesOn Q (default_lines counts lines default)
  on-default_lines lines None only = All-nil (λ (k : Line). AreOn Q k.cube)
  on-default_lines lines (Some out) only =
      on-lines_for Q out (complement_of counts lines) (cubes_on Q (complement_of counts lines) (λ m h. only m (complement_reads counts lines m h)))

  on-spelled : (reader : Cover) → ((m : ℕ) → cover_reads reader m ≡ true → Q m) → LinesOn Q (spelled counts inner reader).lines
  unfolding spelled_of
  on-spelled reader only =
      cond_both (default_stays inner) reader (spelled_of counts reader) (λ (c : Cover). LinesOn Q c.lines)
      (λ _. lines_on Q reader.lines only)
      (λ _.
      All-append (λ (k : Line). AreOn Q k.cube) reader.lines (default_lines counts reader.lines reader.default) (lines_on Q reader.lines only)
      (on-default_lines reader.lines reader.default only))

  -- a composite reads such nets, if the two covers do
  pub composed_on : (reader : Cover) → ((m : ℕ) → cover_reads reader m ≡ true → Q m) → (m : ℕ) → cover_reads (composed counts inner reader) m ≡ true → Q m
  unfolding composed absorbed
  composed_on reader only =
      let lines = lines_given (complement_of counts inner.cover.lines) inner (spelled counts inner reader).lines in
      on_lines Q _
      (all_left (λ (k : Line). AreOn Q k.cube) lines
      (All-flat_map (λ (k : Line). AreOn Q k.cube) (λ (k : Line). AreOn Q k.cube) (line_given (complement_of counts inner.cover.lines) inner) on-line_given
      (spelled counts inner reader).lines (on-spelled reader only)))
