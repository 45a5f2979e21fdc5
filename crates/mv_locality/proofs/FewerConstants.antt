-- The composite with a plain constant has no more literals than the reader's table: a constant is total and plainly
-- deterministic, and where it has a value it has it everywhere.
use Rattle.std.proofs.Common.{◌≡◌, ◌∙◌, ◌⊎◌, ℕ, ◌≤◌, true, false, ◌&&◌, ◌||◌, nat_eq, All, List, [], ◌∷◌, length, Option, Some, None, is_none, inl, inr, refl, sym, ap, arith}
use Rattle.std.specs.Prelude.{count_ones}
use Rattle.std.specs.List.{flat_map}
use Rattle.std.proofs.lemmas.Bool.{cases_Bool, cond_both}
use Rattle.std.proofs.lemmas.List.{append-nil}
use Rattle.std.proofs.lemmas.List.Elements.{All-nil, All-cons}
use Rattle.std.proofs.lemmas.Option.{same_Some}
use Rattle.mv_base.specs.Set.{one, empty}
use Rattle.mv_base.proofs.Sets.{has-empty, count-empty, count-more, join_empty}
use Rattle.mv_composite.specs.declared.inner.Inner.{Inner}
use Rattle.mv_composite.specs.Composite.{set_meets, default_meets, cubes_giving, line_given, lines_given, spelled, composed}
use Rattle.mv_cover.specs.declared.cover.Cover.{Cover}
use Rattle.mv_cover.specs.Literal.{Lit}
use Rattle.mv_cover.specs.declared.line.Line.{Line}
use Rattle.mv_cover.specs.Absorb.{some_bare, absorbed}
use Rattle.mv_cover.specs.Cofactors.{cube_without}
use Rattle.mv_cover.specs.Complement.{complement_of, lines_for}
use Rattle.mv_cover.specs.Covers.{allowed, literal_count}
use Rattle.mv_cover.specs.Meets.{literal_at, met}
use Rattle.mv_cover.specs.Plain.{Agree, GivesOne, IsPlainlyDeterministic}
use Rattle.mv_net.specs.Plain.{bare_set, steady_set}
use Rattle.mv_net.proofs.Plainness.{one_has}
use Rattle.mv_locality.proofs.FewerLines.{fewer_left, fewer_given, length-without, fewer_met}

-- ---- covers that give one value everywhere

-- a cover that gives the value v alone: its only line has no literal, or it has no line, but a default
pub data IsSteady (v : ℕ) (c : Cover) : Type 0 where
  ByLine : (l : Line) → c.lines ≡ l ∷ [] → l.cube ≡ [] → l.out ≡ one v → c.default ≡ None → IsSteady v c
  ByDefault : c.lines ≡ [] → c.default ≡ Some (one v) → IsSteady v c

count-one : (v : ℕ) → count_ones (one v) ≡ 1
count-one v = ap count_ones (sym (join_empty (one v))) ∙ (count-more empty v (has-empty v) ∙ omega (arith, count-empty))

-- such is the cover of a constant, if it has no default beside a line without literals
pub steady : (v : ℕ) (c : Cover) → (some_bare c.lines ≡ true → c.default ≡ None) → steady_set c.lines c.default ≡ Some (one v) → IsSteady v c
steady v c bare gives = by_lines c.lines refl bare gives
  where
    by_cube : (l : Line) (cube : List Lit) → c.lines ≡ l ∷ [] → l.cube ≡ cube → (some_bare (l ∷ []) ≡ true → c.default ≡ None) → bare_set cube l.out ≡ Some (one v) → IsSteady v c
    by_cube l [] e own none h = ByLine l e own (same_Some l.out (one v) h) (none (ap (λ (k : List Lit). nat_eq (length k) 0 || false) own))
    by_cube l (m ∷ ms) e own none h = let bad : None ≡ Some (one v) = h in absurd cc

    by_lines : (ls : List Line) → c.lines ≡ ls → (some_bare ls ≡ true → c.default ≡ None) → steady_set ls c.default ≡ Some (one v) → IsSteady v c
    by_lines [] e none h = ByDefault e h
    by_lines (l ∷ []) e none h = by_cube l l.cube e refl none h
    by_lines (l ∷ k ∷ ls) e none h = let bad : None ≡ Some (one v) = h in absurd cc

-- it allows v
pub steady_allows : (v : ℕ) (c : Cover) → IsSteady v c → (at : ℕ → ℕ) → allowed c at v ≡ true
unfolding allowed
steady_allows v c (ByLine l lines cube out default) at = rw (lines, default, cube, out, one_has v) refl
steady_allows v c (ByDefault lines default) at = rw (lines, default) (one_has v)

-- and is plainly deterministic
pub steady_plain : (v : ℕ) (c : Cover) → IsSteady v c → IsPlainlyDeterministic c
steady_plain v c (ByLine l lines cube out default) = record {
  single = rw lines (All-cons GivesOne l [] (ap count_ones out ∙ count-one v) (All-nil GivesOne));
  default = rw default tt;
  apart = rw lines (All-cons (λ k. All (Agree k) (l ∷ [])) l [] (All-cons (Agree l) l [] (record { same = λ at a b. refl }) (All-nil (Agree l))) (All-nil (λ k. All (Agree k) (l ∷ []))));
}
steady_plain v c (ByDefault lines default) = record {
  single = rw lines (All-nil GivesOne);
  default = rw default (count-one v);
  apart = rw lines (All-nil (λ k. All (Agree k) []));
}

-- ---- the composite with one

-- no cube, or the one without literals
abbrev IsOneBare : List (List Lit) → Type 0
IsOneBare cs = (cs ≡ []) ⊎ (cs ≡ [] ∷ [])

giving_line : (outside : List (List Lit)) (l : Line) (c : Cover) (asked : Option ℕ) → c.lines ≡ l ∷ [] → l.cube ≡ [] → c.default ≡ None → IsOneBare (cubes_giving outside c asked)
giving_line outside l c None lines cube default = rw lines (inr (ap (λ (k : List Lit). k ∷ []) cube))
giving_line outside l c (Some set) lines cube default =
    rw (lines, default)
    (elim (cases_Bool (set_meets (Some set) l.out)) [
      | inl t ↦ rw t (inr (ap (λ (k : List Lit). k ∷ []) cube))
      | inr f ↦ rw f (inl refl)
    ])

giving_default : (counts : List ℕ) (c : Cover) (asked : Option ℕ) → c.lines ≡ [] → IsOneBare (cubes_giving (complement_of counts c.lines) c asked)
unfolding complement_of
giving_default counts c asked lines = rw lines (cond_both (default_meets c.default asked) ([] ∷ []) [] IsOneBare (λ _. inr refl) (λ _. inl refl))

giving_bare : (counts : List ℕ) (v : ℕ) (c : Cover) (asked : Option ℕ) → IsSteady v c → IsOneBare (cubes_giving (complement_of counts c.lines) c asked)
giving_bare counts v c asked (ByLine l lines cube out default) = giving_line (complement_of counts c.lines) l c asked lines cube default
giving_bare counts v c asked (ByDefault lines default) = giving_default counts c asked lines

-- a cube met with such has no more literals
fewer_met_bare : (out : ℕ) (a : List Lit) (cs : List (List Lit)) → IsOneBare cs → literal_count (lines_for out (flat_map (met a) cs)) ≤ length a
fewer_met_bare out a cs (inl e) = rw e (omega arith)
fewer_met_bare out a cs (inr e) = rw e (rw (append-nil (met a [])) (omega (arith, fewer_met out a [])))

module _ (counts : List ℕ) (inner : Inner) (v : ℕ) (constant : IsSteady v inner.cover) where
  fewer_line : (l : Line) → literal_count (line_given (complement_of counts inner.cover.lines) inner l) ≤ length l.cube
  unfolding line_given
  fewer_line l =
      let n = inner.net.0 in
      let cubes = cubes_giving (complement_of counts inner.cover.lines) inner.cover (literal_at l.cube n) in
      let few = fewer_met_bare l.out (cube_without n l.cube) cubes (giving_bare counts v inner.cover (literal_at l.cube n) constant) in
      cond_both (inner.total && is_none (literal_at l.cube n)) (l ∷ []) (lines_for l.out (flat_map (met (cube_without n l.cube)) cubes)) (λ ls. literal_count ls ≤ length l.cube)
      (λ _. omega arith)
      (λ _. omega (arith, few, length-without n l.cube))

  pub fewer_composed : inner.total ≡ true → inner.plain ≡ true → (reader : Cover) → literal_count (composed counts inner reader).lines ≤ literal_count reader.lines
  unfolding composed absorbed
  fewer_composed total plain reader =
      let stays : spelled counts inner reader ≡ reader = rw (total, plain) refl in
      let lines = lines_given (complement_of counts inner.cover.lines) inner (spelled counts inner reader).lines in
      let given = fewer_given (line_given (complement_of counts inner.cover.lines) inner) fewer_line (spelled counts inner reader).lines in
      let same : literal_count (spelled counts inner reader).lines ≡ literal_count reader.lines = ap (λ (c : Cover). literal_count c.lines) stays in
      omega (arith, fewer_left lines, given, same)
