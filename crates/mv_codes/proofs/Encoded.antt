-- A reader's table once a net is encoded: what it allows, that it is well formed, and what it reads.
use Rattle.std.proofs.Common.{◌≡◌, ◌∙◌, ℕ, ◌^◌, ◌<◌, ◌≤◌, Bool, true, false, not, ◌&&◌, ◌||◌, ◌⊎◌, Option, Some, None, is_none, All, List, [], ◌∷◌, length, nat_eq, inl, inr, refl, sym, ap, subst, get_or, arith}
use Rattle.std.specs.List.{flat_map}
use Rattle.std.proofs.Math.Bool.{or-false}
use Rattle.std.proofs.lemmas.Bool.{false≢true, or_cases, or_left, or_right, eq-eqb}
use Rattle.std.proofs.lemmas.List.{length-map, get_or-map}
use Rattle.std.proofs.lemmas.List.Folds.{list_any-append}
use Rattle.std.proofs.lemmas.List.Elements.{All-nil, All-cons, All-head, All-tail, All-map}
use Rattle.mv_base.specs.Set.{has, full}
use Rattle.mv_base.specs.declared.limits.TheConstants.{MAX_VALUES}
use Rattle.mv_cover.specs.Literal.{Lit}
use Rattle.mv_cover.specs.declared.line.Line.{Line}
use Rattle.mv_cover.specs.declared.cover.Cover.{Cover}
use Rattle.mv_cover.specs.Cubes.{matches, IsCube}
use Rattle.mv_cover.specs.Covers.{some_matches, some_gives, default_gives, allowed, cube_reads, cover_reads}
use Rattle.mv_cover.specs.Covering.{changed}
use Rattle.mv_cover.specs.Meets.{literal_at, met}
use Rattle.mv_cover.specs.Cofactors.{cubes_match, cube_without}
use Rattle.mv_cover.specs.Complement.{lines_for}
use Rattle.mv_cover.specs.Lines.{IsOutput}
use Rattle.mv_cover.specs.Containing.{FitsNet, FitsCube}
use Rattle.mv_cover.specs.Sharp.{IsCubeOver}
use Rattle.mv_cover.specs.Absorb.{left_of, IsLeftOf, default_beside, absorbed}
use Rattle.mv_cover.proofs.Absorbing.{gives-any, allowed-absorbed}
use Rattle.mv_cover.proofs.Covering.{same_number, without-reads}
use Rattle.mv_composite.specs.Inside.{AreCubes, AreCubesOver, AreOutputs, IsCoverOver}
use Rattle.mv_composite.specs.Wide.{HasManyLines, HasManyFanins}
use Rattle.mv_composite.proofs.Cubes.{All-flat_map, has_asked, without_none, without_unread, matches_changed, matches-mets, reads-met, over-without, over-met, cubes-met, IsCube-without}
use Rattle.mv_composite.proofs.Formed.{all_left, over-absorbed, over-lines_for, outputs-lines_for}
use Rattle.mv_composite.proofs.Giving.{some_with, with-lines_for}
use Rattle.mv_composite.proofs.Meaning.{matches-with}
use Rattle.mv_composite.proofs.Reading.{ReadsOnly, read_cubes, read_lines, read_by, unread}
use Rattle.mv_codes.specs.declared.coding.Coding.{Coding}
use Rattle.mv_codes.specs.CodeCubes.{marks_of, number_at, AreBits}
use Rattle.mv_codes.specs.Tables.{value_at, set_cubes, line_by, line_coded, reader_coded}
use Rattle.mv_codes.specs.Rewriting.{IsCoding, AllowsCoded, IsBitNet, ReadsCoded, AreCodedCounts}
use Rattle.mv_codes.specs.Wide.{IsTooWide, ByLines, ByFanins}
use Rattle.mv_codes.proofs.Marked.{number_low, match-code_cubes}
use Rattle.mv_codes.proofs.Shaped.{IsBitCube, bit_cubes, IsCube-bits, over-bits}

-- ---- what it allows

-- some cube of a set's codes holds where the set has the value that the bits count as
pub match-set_cubes : (coding : Coding) (set : ℕ) (at : ℕ → ℕ) → IsCoding coding → AreBits at coding.first.0 coding.bits → cubes_match at (set_cubes coding set) ≡ has set (value_at coding at)
match-set_cubes coding set at is bits =
    let n = coding.first.0 in
    let k = coding.bits in
    let marks = marks_of coding.values set in
    let long : length marks ≡ 2 ^ k = length-map coding.values (λ v. has set v) ∙ is.whole in
    let low : number_at at n k < length coding.values = subst (λ m. number_at at n k < m) (sym is.whole) (number_low at n k bits.two) in
    match-code_cubes at k n marks long bits.two ∙ get_or-map (λ v. has set v) coding.values (number_at at n k) 0 false low

unit_middle : (m g : Bool) → ((m && g) || false) ≡ ((true && m) && g)
unit_middle m g = or-false (m && g)

turned : (a b g : Bool) → ((a && b) && g) ≡ ((b && a) && g)
turned true true g = refl
turned true false g = refl
turned false true g = refl
turned false false g = refl

module _ (coding : Coding) (is : IsCoding coding) (at : ℕ → ℕ) (bits : AreBits at coding.first.0 coding.bits) (p : ℕ → Bool) where
  -- the assignment in which the net has the value that the bits count as
  abbrev decoded : ℕ → ℕ
  decoded = changed coding.net.0 (value_at coding at) at

  decoded_matches : (l : Line) (o : Option ℕ) → IsCube l.cube → literal_at l.cube coding.net.0 ≡ o → ((has_asked o (value_at coding at) && matches at (cube_without coding.net.0 l.cube)) && p l.out) ≡ (matches decoded l.cube && p l.out)
  decoded_matches l o cube e =
      let n = coding.net.0 in
      let w = value_at coding at in
      ap (λ b. b && p l.out) (ap (λ x. has_asked x w && matches at (cube_without n l.cube)) (sym e) ∙ sym (matches_changed at n w l.cube cube))

  with-line_by : (l : Line) (o : Option ℕ) → IsCube l.cube → literal_at l.cube coding.net.0 ≡ o → some_with p at (line_by coding l o) ≡ (matches decoded l.cube && p l.out)
  with-line_by l None cube e =
      let same : cube_without coding.net.0 l.cube ≡ l.cube = without_none coding.net.0 l.cube e in
      unit_middle (matches at l.cube) (p l.out) ∙ (ap (λ c. (true && matches at c) && p l.out) (sym same) ∙ decoded_matches l None cube e)
  with-line_by l (Some set) cube e =
      let rest = cube_without coding.net.0 l.cube in
      let cubes = set_cubes coding set in
      with-lines_for p at l.out (flat_map (met rest) cubes)
      ∙ (ap (λ b. b && p l.out) (matches-mets at rest cubes)
      ∙ (ap (λ b. (matches at rest && b) && p l.out) (match-set_cubes coding set at is bits)
      ∙ (turned (matches at rest) (has set (value_at coding at)) (p l.out) ∙ decoded_matches l (Some set) cube e)))

  with-line_coded : (l : Line) → IsCube l.cube → some_with p at (line_coded coding l) ≡ (matches decoded l.cube && p l.out)
  unfolding line_coded
  with-line_coded l cube = with-line_by l (literal_at l.cube coding.net.0) cube refl

  pub with-lines_coded : (ls : List Line) → AreCubes ls → some_with p at (flat_map (line_coded coding) ls) ≡ some_with p decoded ls
  with-lines_coded [] are = refl
  with-lines_coded (l ∷ ls) are =
      let first = with-line_coded l (All-head (λ (m : Line). IsCube m.cube) l ls are) in
      let rest = with-lines_coded ls (All-tail (λ (m : Line). IsCube m.cube) l ls are) in
      list_any-append (λ (m : Line). matches at m.cube && p m.out) (line_coded coding l) (flat_map (line_coded coding) ls) ∙ (λ i. first i || rest i)

cubes-line_by : (coding : Coding) (l : Line) (o : Option ℕ) → IsCube l.cube → All (λ (m : Line). IsCube m.cube) (line_by coding l o)
cubes-line_by coding l None is = All-cons (λ (m : Line). IsCube m.cube) l [] is (All-nil (λ (m : Line). IsCube m.cube))
cubes-line_by coding l (Some set) is =
    let rest = cube_without coding.net.0 l.cube in
    let own = IsCube-without coding.net.0 l.cube is in
    All-map (λ (m : Line). IsCube m.cube) (λ (c : List Lit). record { cube = c; out = l.out }) (flat_map (met rest) (set_cubes coding set))
    (All-flat_map (IsBitCube coding.first.0 coding.bits) IsCube (met rest) (λ k it. cubes-met rest k own (IsCube-bits coding.first.0 coding.bits k it)) (set_cubes coding set)
    (bit_cubes coding.bits coding.first.0 (marks_of coding.values set)))

pub cubes-lines_coded : (coding : Coding) (ls : List Line) → AreCubes ls → AreCubes (flat_map (line_coded coding) ls)
unfolding line_coded
cubes-lines_coded coding ls are =
    All-flat_map (λ (l : Line). IsCube l.cube) (λ (m : Line). IsCube m.cube) (line_coded coding) (λ l is. cubes-line_by coding l (literal_at l.cube coding.net.0) is) ls are

-- the new table allows what the old one does where the net has the value that the bits count as
pub coded_allows : (coding : Coding) (c : Cover) → IsCoding coding → AreCubes c.lines → AllowsCoded coding c (reader_coded coding c)
unfolding reader_coded allowed
coded_allows coding c is are = record {
  same = λ at bits v.
      let ls = flat_map (line_coded coding) c.lines in
      let raw : Cover = record { lines = ls; default = c.default } in
      let there = changed coding.net.0 (value_at coding at) at in
      let gives : some_gives at v ls ≡ some_gives there v c.lines = gives-any at v ls ∙ (with-lines_coded coding is at bits (λ out. has out v) c.lines are ∙ sym (gives-any there v c.lines)) in
      let met : some_matches at ls ≡ some_matches there c.lines = matches-with at ls ∙ (with-lines_coded coding is at bits (λ _. true) c.lines are ∙ sym (matches-with there c.lines)) in
      allowed-absorbed raw (cubes-lines_coded coding c.lines are) at v ∙ (λ i. gives i || (not (met i) && default_gives c.default v));
}

-- ---- that it is well formed

-- a literal fits where its net has as many values
fits_kept : (old new : List ℕ) (n s : ℕ) → (0 < get_or old n 0 → get_or new n 0 ≡ get_or old n 0) → FitsNet old n s → FitsNet new n s
fits_kept old new n s kept fits =
    let same = kept fits.valued in
    record {
      valued = omega (arith, same, fits.valued);
      within = λ v h. subst (λ k. has (full k) v ≡ true) (sym same) (fits.within v h);
      not_full = λ e. fits.not_full (e ∙ ap full same);
    }

fits_all : (old new : List ℕ) (c : List Lit) → ((m : ℕ) → cube_reads c m ≡ true → 0 < get_or old m 0 → get_or new m 0 ≡ get_or old m 0) → FitsCube old c → FitsCube new c
fits_all old new [] kept fits = tt
fits_all old new (l ∷ ls) kept fits = (
  fits_kept old new l.net.0 l.set (kept l.net.0 (or_left (nat_eq l.net.0 l.net.0) (cube_reads ls l.net.0) (eq-eqb l.net.0 l.net.0 refl))) fits.0,
  fits_all old new ls (λ m h. kept m (or_right (nat_eq l.net.0 m) (cube_reads ls m) h)) fits.1,
)

valued_at : (counts : List ℕ) (c : List Lit) (m : ℕ) → FitsCube counts c → cube_reads c m ≡ true → 0 < get_or counts m 0
valued_at counts [] m fits h = absurd (false≢true h)
valued_at counts (l ∷ ls) m fits h =
    elim (or_cases (nat_eq l.net.0 m) (cube_reads ls m) h) [
      | inl t ↦ subst (λ k. 0 < get_or counts k 0) (same_number l.net.0 m t) fits.0.valued
      | inr r ↦ valued_at counts ls m fits.1 r
    ]

-- a cube suits other counts that are the same where it reads
over-kept : (old new : List ℕ) (c : List Lit) → ((m : ℕ) → cube_reads c m ≡ true → 0 < get_or old m 0 → get_or new m 0 ≡ get_or old m 0) → IsCubeOver old c → IsCubeOver new c
over-kept old new c kept is = record {
  cube = is.cube;
  suits = record {
    fits = fits_all old new c kept is.suits.fits;
    few = λ m h. subst (λ k. k ≤ MAX_VALUES) (sym (kept m h (valued_at old c m is.suits.fits h))) (is.suits.few m h);
  };
}

over-line_by : (coding : Coding) (old new : List ℕ) (l : Line) (o : Option ℕ) → AreCodedCounts coding old new → IsCubeOver old l.cube → literal_at l.cube coding.net.0 ≡ o → AreCubesOver new (line_by coding l o)
over-line_by coding old new l None are is e =
    All-cons (λ (m : Line). IsCubeOver new m.cube) l []
    (over-kept old new l.cube (λ m h some. are.others m (unread coding.net.0 m l.cube (ap is_none e) h) some) is) (All-nil (λ (m : Line). IsCubeOver new m.cube))
over-line_by coding old new l (Some set) are is e =
    let n = coding.net.0 in
    let first = coding.first.0 in
    let rest = cube_without n l.cube in
    let own = over-kept old new rest (λ m h some. are.others m (without_unread n m l.cube h) some) (over-without old n l.cube is) in
    over-lines_for new l.out (flat_map (met rest) (set_cubes coding set))
    (All-flat_map (IsBitCube first coding.bits) (IsCubeOver new) (met rest)
    (λ k it. over-met new rest k own (over-bits new first coding.bits k (λ m above below. are.bits m (above, below)) it)) (set_cubes coding set)
    (bit_cubes coding.bits first (marks_of coding.values set)))

outputs-line_by : (values : ℕ) (coding : Coding) (l : Line) (o : Option ℕ) → IsOutput values l.out → AreOutputs values (line_by coding l o)
outputs-line_by values coding l None is = All-cons (λ (m : Line). IsOutput values m.out) l [] is (All-nil (λ (m : Line). IsOutput values m.out))
outputs-line_by values coding l (Some set) is = outputs-lines_for values l.out (flat_map (met (cube_without coding.net.0 l.cube)) (set_cubes coding set)) is

pub coded_over : (coding : Coding) (old new : List ℕ) (values : ℕ) (c : Cover) → AreCodedCounts coding old new → IsCoverOver old values c → IsCoverOver new values (reader_coded coding c)
unfolding reader_coded line_coded
coded_over coding old new values c are is =
    over-absorbed new values (record { lines = flat_map (line_coded coding) c.lines; default = c.default })
    (All-flat_map (λ (l : Line). IsCubeOver old l.cube) (λ (l : Line). IsCubeOver new l.cube) (line_coded coding) (λ l it. over-line_by coding old new l (literal_at l.cube coding.net.0) are it refl) c.lines is.cubes)
    (All-flat_map (λ (l : Line). IsOutput values l.out) (λ (l : Line). IsOutput values l.out) (line_coded coding) (λ l it. outputs-line_by values coding l (literal_at l.cube coding.net.0) it) c.lines is.outputs)
    is.default

-- ---- what it reads

-- a net that the old table reads and that isn't the net, or one of the bits
abbrev pub Coded : Coding → Cover → ℕ → Type 0
Coded coding old m = ((cover_reads old m ≡ true) × (nat_eq m coding.net.0 ≡ false)) ⊎ IsBitNet coding m

only-line_by : (coding : Coding) (old : Cover) (l : Line) (o : Option ℕ) → ReadsOnly (λ m. cover_reads old m ≡ true) l.cube → literal_at l.cube coding.net.0 ≡ o → All (λ (x : Line). ReadsOnly (Coded coding old) x.cube) (line_by coding l o)
only-line_by coding old l None is e =
    All-cons (λ (x : Line). ReadsOnly (Coded coding old) x.cube) l []
    (record { cube = is.cube; only = λ m h. inl (is.only m h, unread coding.net.0 m l.cube (ap is_none e) h) }) (All-nil (λ (x : Line). ReadsOnly (Coded coding old) x.cube))
only-line_by coding old l (Some set) is e =
    let n = coding.net.0 in
    let first = coding.first.0 in
    let rest = cube_without n l.cube in
    let own = IsCube-without n l.cube is.cube in
    All-map (λ (x : Line). ReadsOnly (Coded coding old) x.cube) (λ (c : List Lit). record { cube = c; out = l.out }) (flat_map (met rest) (set_cubes coding set))
    (All-flat_map (IsBitCube first coding.bits) (ReadsOnly (Coded coding old)) (met rest)
    (λ k it.
    let bits = IsCube-bits first coding.bits k it in
    read_cubes (Coded coding old) (met rest k) (cubes-met rest k own bits)
    (λ m h.
    elim (reads-met rest k m own bits h) [
      | inl r ↦ inl (is.only m (without-reads n m l.cube r), without_unread n m l.cube r)
      | inr r ↦ inr (it.reads m r)
    ]))
    (set_cubes coding set) (bit_cubes coding.bits first (marks_of coding.values set)))

pub coded_reads : (coding : Coding) (c : Cover) → AreCubes c.lines → ReadsCoded coding c (reader_coded coding c)
unfolding reader_coded absorbed line_coded
coded_reads coding c are =
    let lines = flat_map (line_coded coding) c.lines in
    let P = λ (l : Line). ReadsOnly (Coded coding c) l.cube in
    let all : All P lines =
    All-flat_map (λ (l : Line). ReadsOnly (λ m. cover_reads c m ≡ true) l.cube) P (line_coded coding) (λ l it. only-line_by coding c l (literal_at l.cube coding.net.0) it refl) c.lines
    (read_lines (λ m. cover_reads c m ≡ true) c.lines are (λ m h. h))
    in
    record { only = read_by (Coded coding c) (left_of lines) (all_left P lines all) }

-- ---- what the code makes of it, where P is known of lines that were taken

pub gives_unasked : (P : List Line → Type 0) (coding : Coding) (l copy : Line) → literal_at l.cube coding.net.0 ≡ None → copy ≡ l → P (copy ∷ []) → P (line_coded coding l)
unfolding line_coded
gives_unasked P coding l copy bare same p = subst P (ap (λ (x : Line). x ∷ []) same ∙ ap (line_by coding l) (sym bare)) p

pub gives_asked : (P : List Line → Type 0) (coding : Coding) (set : ℕ) (l : Line) (rest : List Lit) (cubes used : List (List Lit)) → literal_at l.cube coding.net.0 ≡ Some set → rest ≡ cube_without coding.net.0 l.cube → cubes ≡ set_cubes coding set → used ≡ cubes → P (lines_for l.out (flat_map (met rest) used)) → P (line_coded coding l)
unfolding line_coded
gives_asked P coding set l rest cubes used asked r made seen p = subst P ((λ i. lines_for l.out (flat_map (met (r i)) ((seen ∙ made) i))) ∙ ap (line_by coding l) (sym asked)) p

pub coded_is : (coding : Coding) (c cover : Cover) (left : List Line) → IsLeftOf (flat_map (line_coded coding) c.lines) left → cover ≡ record { lines = left; default = default_beside left c.default } → cover ≡ reader_coded coding c
unfolding reader_coded absorbed
coded_is coding c cover left is e = e ∙ (λ i. record { lines = is.lines i; default = default_beside (is.lines i) c.default })

-- more lines are left than the table may have
pub many_left : (coding : Coding) (c : Cover) (lines : List Line) → lines ≡ c.lines → HasManyLines (left_of (flat_map (line_coded coding) lines)) → IsTooWide (reader_coded coding c)
unfolding reader_coded absorbed
many_left coding c lines same many = ByLines (subst (λ (ls : List Line). HasManyLines (left_of (flat_map (line_coded coding) ls))) same many)

pub many_fanins : (cover : Cover) (lines : List Line) → lines ≡ cover.lines → HasManyFanins lines → IsTooWide cover
many_fanins cover lines same many = ByFanins (subst HasManyFanins same many)

pub not_too_wide : (cover : Cover) (lines : List Line) → lines ≡ cover.lines → (HasManyLines cover.lines → ⊥) → (HasManyFanins lines → ⊥) → IsTooWide cover → ⊥
not_too_wide cover lines same few narrow (ByLines many) = few many
not_too_wide cover lines same few narrow (ByFanins many) = narrow (subst HasManyFanins (sym same) many)
