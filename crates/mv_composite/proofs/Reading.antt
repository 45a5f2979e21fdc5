-- What a composite reads: what the reader reads but the net, and what the net's cover reads.
use Rattle.std.proofs.Common.{◌≡◌, ◌∙◌, ℕ, Bool, true, false, ◌&&◌, ◌||◌, ◌⊎◌, Option, Some, None, is_some, is_none, All, List, [], ◌∷◌, ◌++◌, nat_eq, filter, inl, inr, refl, sym, ap, if◌then◌else◌}
use Rattle.std.specs.List.{flat_map}
use Rattle.std.proofs.lemmas.Bool.{cases_Bool, false≢true, and_parts, or_cases, or_left, or_right}
use Rattle.std.proofs.lemmas.List.Elements.{All-nil, All-cons, All-head, All-tail, All-map, All-weaker}
use Rattle.mv_cover.specs.Literal.{Lit}
use Rattle.mv_cover.specs.declared.line.Line.{Line}
use Rattle.mv_cover.specs.declared.cover.Cover.{Cover}
use Rattle.mv_cover.specs.Cubes.{IsCube}
use Rattle.mv_cover.specs.Covers.{cube_reads, lines_read, cover_reads}
use Rattle.mv_cover.specs.Meets.{literal_at, met}
use Rattle.mv_cover.specs.Cofactors.{cubes_read, cube_without, cubes_of}
use Rattle.mv_cover.specs.Sharp.{IsCubeOver}
use Rattle.mv_cover.specs.Complement.{complement_of, lines_for, default_lines, spelled_of}
use Rattle.mv_cover.specs.Absorb.{left_of, absorbed}
use Rattle.mv_cover.proofs.Covering.{same_number, without-reads}
use Rattle.mv_composite.specs.declared.inner.Inner.{Inner}
use Rattle.mv_composite.specs.Inside.{AreCubesOver, IsInner}
use Rattle.mv_composite.specs.Composite.{set_meets, default_meets, cubes_giving, line_given, lines_given, default_stays, spelled, composed, ReadsThrough}
use Rattle.mv_composite.proofs.Cubes.{All-flat_map, reads_at, without_unread, read-append, reads-met, IsCube-without, cubes-met}
use Rattle.mv_composite.proofs.Outside.{complement_over, complement_reads}
use Rattle.mv_composite.proofs.Formed.{all_left, are_cubes, over-cubes_giving, over-spelled}

-- a cube that reads such nets alone
pub record ReadsOnly (Q : ℕ → Type 0) (c : List Lit) : Type 0 where
  pub cube : IsCube c
  pub only : (m : ℕ) → cube_reads c m ≡ true → Q m

-- ---- lists

pub read_cubes : (Q : ℕ → Type 0) (cs : List (List Lit)) → All IsCube cs → ((m : ℕ) → cubes_read cs m ≡ true → Q m) → All (ReadsOnly Q) cs
read_cubes Q [] are only = All-nil (ReadsOnly Q)
read_cubes Q (c ∷ cs) are only =
    All-cons (ReadsOnly Q) c cs (record { cube = All-head IsCube c cs are; only = λ m h. only m (or_left (cube_reads c m) (cubes_read cs m) h) })
    (read_cubes Q cs (All-tail IsCube c cs are) (λ m h. only m (or_right (cube_reads c m) (cubes_read cs m) h)))

pub read_lines : (Q : ℕ → Type 0) (ls : List Line) → All (λ (l : Line). IsCube l.cube) ls → ((m : ℕ) → lines_read ls m ≡ true → Q m) → All (λ (l : Line). ReadsOnly Q l.cube) ls
read_lines Q [] are only = All-nil (λ (l : Line). ReadsOnly Q l.cube)
read_lines Q (l ∷ ls) are only =
    All-cons (λ (m : Line). ReadsOnly Q m.cube) l ls
    (record { cube = All-head (λ (m : Line). IsCube m.cube) l ls are; only = λ m h. only m (or_left (cube_reads l.cube m) (lines_read ls m) h) })
    (read_lines Q ls (All-tail (λ (m : Line). IsCube m.cube) l ls are) (λ m h. only m (or_right (cube_reads l.cube m) (lines_read ls m) h)))

pub read_by : (Q : ℕ → Type 0) (ls : List Line) → All (λ (l : Line). ReadsOnly Q l.cube) ls → (m : ℕ) → lines_read ls m ≡ true → Q m
read_by Q [] are m h = absurd (false≢true h)
read_by Q (l ∷ ls) are m h =
    elim (or_cases (cube_reads l.cube m) (lines_read ls m) h) [
      | inl r ↦ (All-head (λ (m : Line). ReadsOnly Q m.cube) l ls are).only m r
      | inr r ↦ read_by Q ls (All-tail (λ (m : Line). ReadsOnly Q m.cube) l ls are) m r
    ]

-- the cubes of lines, and lines of cubes
reads-cubes_of : (p : Line → Bool) (ls : List Line) (m : ℕ) → cubes_read (cubes_of (filter p ls)) m ≡ true → lines_read ls m ≡ true
reads-cubes_of p [] m h = h
reads-cubes_of p (l ∷ ls) m h =
    elim (cases_Bool (p l)) [
      | inl t ↦
          elim (or_cases (cube_reads l.cube m) (cubes_read (cubes_of (filter p ls)) m) (rw t at h)) [
            | inl r ↦ or_left (cube_reads l.cube m) (lines_read ls m) r
            | inr r ↦ or_right (cube_reads l.cube m) (lines_read ls m) (reads-cubes_of p ls m r)
          ]
      | inr f ↦ or_right (cube_reads l.cube m) (lines_read ls m) (reads-cubes_of p ls m (rw f at h))
    ]

reads-lines_for : (out : ℕ) (cs : List (List Lit)) (m : ℕ) → lines_read (lines_for out cs) m ≡ cubes_read cs m
reads-lines_for out [] m = refl
reads-lines_for out (c ∷ cs) m = ap (λ b. cube_reads c m || b) (reads-lines_for out cs m)

or_more : (m a b c : Bool) → c ≡ (a || b) → (m || c) ≡ ((m || a) || b)
or_more true a b c e = refl
or_more false a b c e = e

lines_read-append : (m : ℕ) (xs ys : List Line) → lines_read (xs ++ ys) m ≡ (lines_read xs m || lines_read ys m)
lines_read-append m [] ys = refl
lines_read-append m (x ∷ xs) ys = or_more (cube_reads x.cube m) (lines_read xs m) (lines_read ys m) (lines_read (xs ++ ys) m) (lines_read-append m xs ys)

-- ---- what a line gives

-- a net that the reader reads and that isn't n, or one that the net's cover reads
abbrev pub Through : ℕ → Cover → Cover → ℕ → Type 0
Through n inner reader m = ((cover_reads reader m ≡ true) × (nat_eq m n ≡ false)) ⊎ (cover_reads inner m ≡ true)

reads-cubes_giving : (counts : List ℕ) (inner : Cover) (asked : Option ℕ) (m : ℕ) → cubes_read (cubes_giving (complement_of counts inner.lines) inner asked) m ≡ true → cover_reads inner m ≡ true
reads-cubes_giving counts inner asked m h =
    let own = cubes_of (filter (λ (l : Line). set_meets asked l.out) inner.lines) in
    let rest = if default_meets inner.default asked then complement_of counts inner.lines else [] in
    elim (or_cases (cubes_read own m) (cubes_read rest m) (sym (read-append m own rest) ∙ h)) [
      | inl r ↦ reads-cubes_of (λ (l : Line). set_meets asked l.out) inner.lines m r
      | inr r ↦
          elim (cases_Bool (default_meets inner.default asked)) [
            | inl t ↦ complement_reads counts inner.lines m (rw t at r)
            | inr f ↦ absurd (false≢true (rw f at r))
          ]
    ]

-- a cube without a literal on the net doesn't read it
pub unread : (n m : ℕ) (c : List Lit) → is_none (literal_at c n) ≡ true → cube_reads c m ≡ true → nat_eq m n ≡ false
unread n m c bare h =
    elim (cases_Bool (nat_eq m n)) [
      | inl t ↦ absurd (not_both (literal_at c n) bare (sym (reads_at c n) ∙ (ap (cube_reads c) (sym (same_number m n t)) ∙ h)))
      | inr f ↦ f
    ]
  where
    not_both : (o : Option ℕ) → is_none o ≡ true → is_some o ≡ true → ⊥
    not_both None h k = false≢true k
    not_both (Some s) h k = false≢true h

only-line_given : (counts : List ℕ) (inner : Inner) (reader : Cover) → AreCubesOver counts inner.cover.lines → (l : Line) → ReadsOnly (λ m. cover_reads reader m ≡ true) l.cube → All (λ (k : Line). ReadsOnly (Through inner.net.0 inner.cover reader) k.cube) (line_given (complement_of counts inner.cover.lines) inner l)
unfolding line_given
only-line_given counts inner reader own l is =
    let n = inner.net.0 in
    let T = Through n inner.cover reader in
    let P = λ (k : Line). ReadsOnly T k.cube in
    let rest = cube_without n l.cube in
    let outside = complement_of counts inner.cover.lines in
    let asked = literal_at l.cube n in
    let giving = cubes_giving outside inner.cover asked in
    let cube = IsCube-without n l.cube is.cube in
    elim (cases_Bool (inner.total && is_none (literal_at l.cube n))) [
      | inl t ↦
          let bare = (and_parts inner.total (is_none (literal_at l.cube n)) t).1 in
          rw t (All-cons P l [] (record { cube = is.cube; only = λ m h. inl (is.only m h, unread n m l.cube bare h) }) (All-nil P))
      | inr f ↦
          rw f
          (All-map P (λ (c : List Lit). record { cube = c; out = l.out }) (flat_map (met rest) giving)
          (All-flat_map (ReadsOnly (λ m. cover_reads inner.cover m ≡ true)) (ReadsOnly T) (met rest)
          (λ k it.
          read_cubes T (met rest k) (cubes-met rest k cube it.cube)
          (λ m h.
          elim (reads-met rest k m cube it.cube h) [
            | inl r ↦ inl (is.only m (without-reads n m l.cube r), without_unread n m l.cube r)
            | inr r ↦ inr (it.only m r)
          ]))
          giving
          (read_cubes (λ m. cover_reads inner.cover m ≡ true) giving
          (All-weaker (IsCubeOver counts) IsCube (λ c it. it.cube) giving (over-cubes_giving counts outside inner.cover asked own (complement_over counts inner.cover.lines own)))
          (reads-cubes_giving counts inner.cover asked))))
    ]

-- ---- the composite

reads-default_lines : (counts : List ℕ) (lines : List Line) (default : Option ℕ) (m : ℕ) → lines_read (default_lines counts lines default) m ≡ true → lines_read lines m ≡ true
reads-default_lines counts lines None m h = absurd (false≢true h)
reads-default_lines counts lines (Some out) m h = complement_reads counts lines m (sym (reads-lines_for out (complement_of counts lines) m) ∙ h)

reads-spelled_of : (counts : List ℕ) (c : Cover) (m : ℕ) → cover_reads (spelled_of counts c) m ≡ true → cover_reads c m ≡ true
unfolding spelled_of
reads-spelled_of counts c m h =
    elim (or_cases (lines_read c.lines m) (lines_read (default_lines counts c.lines c.default) m) (sym (lines_read-append m c.lines (default_lines counts c.lines c.default)) ∙ h)) [
      | inl r ↦ r
      | inr r ↦ reads-default_lines counts c.lines c.default m r
    ]

reads-spelled : (counts : List ℕ) (inner : Inner) (reader : Cover) (m : ℕ) → cover_reads (spelled counts inner reader) m ≡ true → cover_reads reader m ≡ true
reads-spelled counts inner reader m h =
    elim (cases_Bool (default_stays inner)) [
      | inl t ↦ rw t at h
      | inr f ↦ reads-spelled_of counts reader m (rw f at h)
    ]

pub composed_reads : (counts : List ℕ) (inner : Inner) (reader : Cover) → IsInner counts inner → AreCubesOver counts reader.lines → ReadsThrough inner.net.0 inner.cover reader (composed counts inner reader)
unfolding composed absorbed
composed_reads counts inner reader is are =
    let t = spelled counts inner reader in
    let T = Through inner.net.0 inner.cover reader in
    let outside = complement_of counts inner.cover.lines in
    let lines = lines_given outside inner t.lines in
    let all : All (λ (l : Line). ReadsOnly T l.cube) lines =
    All-flat_map (λ (l : Line). ReadsOnly (λ m. cover_reads reader m ≡ true) l.cube) (λ (l : Line). ReadsOnly T l.cube) (line_given outside inner)
    (only-line_given counts inner reader is.cover.cubes) t.lines
    (read_lines (λ m. cover_reads reader m ≡ true) t.lines (are_cubes counts t.lines (over-spelled counts inner reader are)) (reads-spelled counts inner reader))
    in
    record { only = read_by T (left_of lines) (all_left (λ (l : Line). ReadsOnly T l.cube) lines all) }
