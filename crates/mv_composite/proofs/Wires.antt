-- A table in which a net is read in place of another: what it allows, that it is well formed, and what it reads.
use Rattle.std.proofs.Common.{◌≡◌, ◌∙◌, ℕ, ◌<◌, ◌≤◌, Bool, true, false, not, ◌&&◌, ◌||◌, ◌⊎◌, Option, Some, None, is_some, is_none, All, List, [], ◌∷◌, nat_eq, inl, inr, refl, sym, ap, subst, get_or}
use Rattle.std.specs.List.{flat_map, list_all, list_any}
use Rattle.std.proofs.Math.Bool.{or-false, and-true}
use Rattle.std.proofs.lemmas.Bool.{cases_Bool, false≢true, and_parts, and_from, or_cases, not-true, not_from_false}
use Rattle.std.proofs.lemmas.List.Folds.{list_any-append}
use Rattle.std.proofs.lemmas.List.Elements.{All-nil, All-cons, All-head, All-tail, All-map}
use Rattle.mv_base.specs.Set.{has, empty, full}
use Rattle.mv_base.specs.declared.limits.TheConstants.{MAX_VALUES}
use Rattle.mv_cover.specs.Literal.{Lit}
use Rattle.mv_cover.specs.declared.line.Line.{Line}
use Rattle.mv_cover.specs.declared.cover.Cover.{Cover}
use Rattle.mv_cover.specs.Cubes.{matches, IsCube}
use Rattle.mv_cover.specs.Covers.{some_matches, some_gives, default_gives, allowed, cube_reads, cover_reads}
use Rattle.mv_cover.specs.Meets.{literal_at, met}
use Rattle.mv_cover.specs.Cofactors.{cubes_match, cube_without}
use Rattle.mv_cover.specs.Complement.{lines_for}
use Rattle.mv_cover.specs.Lines.{IsOutput}
use Rattle.mv_cover.specs.Containing.{FitsNet}
use Rattle.mv_cover.specs.Sharp.{IsCubeOver}
use Rattle.mv_cover.specs.Absorb.{left_of, IsLeftOf, default_beside, absorbed}
use Rattle.mv_cover.proofs.Absorbing.{gives-any, allowed-absorbed}
use Rattle.mv_cover.proofs.Containing.{fits_at}
use Rattle.mv_cover.proofs.Covering.{same_number, without-reads}
use Rattle.mv_composite.specs.Inside.{AreCubesOver, AreOutputs, IsCoverOver}
use Rattle.mv_composite.specs.Wired.{line_asking, line_wired, wired, AllowsAlong, ReadsAlong}
use Rattle.mv_composite.specs.Puts.{Puts}
use Rattle.mv_composite.proofs.Cubes.{All-flat_map, has_asked, matches_own, matches-met, reads_at, without_unread, reads-met, over-without, over-met, cubes-met, IsCube-without}
use Rattle.mv_composite.proofs.Formed.{all_left, over-absorbed, over-lines_for, outputs-lines_for}
use Rattle.mv_composite.proofs.Reading.{ReadsOnly, read_cubes, read_lines, read_by, unread}

-- ---- the literal that comes

-- the literal's set isn't empty
pub some_set : (c : List Lit) (n s : ℕ) → IsCube c → literal_at c n ≡ Some s → nat_eq s empty ≡ false
some_set c n s is e = by c is.possible e where
  by : (c : List Lit) → list_all (λ (l : Lit). not (nat_eq l.set empty)) c ≡ true → literal_at c n ≡ Some s → nat_eq s empty ≡ false
  by [] h e = let bad : None ≡ Some s = e in absurd (cc)
  by (l ∷ ls) h e =
      let p = and_parts (not (nat_eq l.set empty)) (list_all (λ (m : Lit). not (nat_eq m.set empty)) ls) h in
      elim (cases_Bool (nat_eq l.net.0 n)) [
        | inl t ↦
            let here : Some l.set ≡ Some s = rw t at e in
            let same : l.set ≡ s = cc in
            ap (λ z. nat_eq z empty) (sym same) ∙ not-true (nat_eq l.set empty) p.0
        | inr f ↦ by ls p.1 (rw f at e)
      ]

-- the cube of one literal
abbrev pub one_literal : ℕ → ℕ → List Lit
one_literal m s = record { net = record { 0 = m }; set = s } ∷ []

pub IsCube-one : (m s : ℕ) → nat_eq s empty ≡ false → IsCube (one_literal m s)
IsCube-one m s some = record { ascending = refl; possible = and_from (not (nat_eq s empty)) true (not_from_false (nat_eq s empty) some) refl }

over-one : (counts : List ℕ) (n m s : ℕ) → get_or counts n 0 ≡ get_or counts m 0 → nat_eq s empty ≡ false → FitsNet counts n s → get_or counts n 0 ≤ MAX_VALUES → IsCubeOver counts (one_literal m s)
over-one counts n m s same some fits few = record {
  cube = IsCube-one m s some;
  suits = record {
    fits = (
      record {
        valued = subst (λ k. 0 < k) same fits.valued;
        within = λ v h. subst (λ k. has (full k) v ≡ true) same (fits.within v h);
        not_full = λ e. fits.not_full (e ∙ ap full (sym same));
      },
      tt,
    );
    few = λ k h.
        elim (or_cases (nat_eq m k) false h) [
          | inl t ↦ subst (λ j. get_or counts j 0 ≤ MAX_VALUES) (same_number m k t) (subst (λ j. j ≤ MAX_VALUES) same few)
          | inr bad ↦ absurd (false≢true bad)
        ];
  };
}

-- ---- what the code puts

pub wired_none : (n m : ℕ) (l copy : Line) → copy ≡ l → literal_at l.cube n ≡ None → copy ∷ [] ≡ line_wired n m l
unfolding line_wired
wired_none n m l copy e bare = rw bare (ap (λ (x : Line). x ∷ []) e)

pub wired_some : (n m s : ℕ) (l : Line) (rest literal : List Lit) → literal_at l.cube n ≡ Some s → rest ≡ cube_without n l.cube → literal ≡ one_literal m s → lines_for l.out (met rest literal) ≡ line_wired n m l
unfolding line_wired
wired_some n m s l rest literal e r o = rw e (λ i. lines_for l.out (met (r i) (o i)))

-- the line as it is, where nothing is asked of the net
pub puts_unread : (a b : List Line) (n m : ℕ) (l copy : Line) → literal_at l.cube n ≡ None → copy ≡ l → Puts a b (copy ∷ []) → Puts a b (line_wired n m l)
puts_unread a b n m l copy bare c p = subst (λ (ls : List Line). Puts a b ls) (wired_none n m l copy c bare) p

pub puts_wired : (a b : List Line) (n m s : ℕ) (l : Line) (rest literal : List Lit) → literal_at l.cube n ≡ Some s → rest ≡ cube_without n l.cube → literal ≡ one_literal m s → Puts a b (lines_for l.out (met rest literal)) → Puts a b (line_wired n m l)
puts_wired a b n m s l rest literal e r o p = subst (λ (ls : List Line). Puts a b ls) (wired_some n m s l rest literal e r o) p

pub wired_is : (n m : ℕ) (c cover : Cover) (left : List Line) → IsLeftOf (flat_map (line_wired n m) c.lines) left → cover ≡ record { lines = left; default = default_beside left c.default } → cover ≡ wired n m c
unfolding wired absorbed
wired_is n m c cover left is e = e ∙ (λ i. record { lines = is.lines i; default = default_beside (is.lines i) c.default })

-- ---- what it allows

-- some line matches, and its output passes
abbrev with_test : (ℕ → Bool) → (ℕ → ℕ) → List Line → Bool
with_test p at ls = list_any (λ (l : Line). matches at l.cube && p l.out) ls

lines_for-test : (p : ℕ → Bool) (at : ℕ → ℕ) (out : ℕ) (cs : List (List Lit)) → with_test p at (lines_for out cs) ≡ (cubes_match at cs && p out)
lines_for-test p at out [] = refl
lines_for-test p at out (c ∷ cs) = either (matches at c) (cubes_match at cs) (p out) (with_test p at (lines_for out cs)) (lines_for-test p at out cs) where
  either : (m c g r : Bool) → r ≡ (c && g) → ((m && g) || r) ≡ ((m || c) && g)
  either true c true r e = refl
  either true true false r e = e
  either true false false r e = e
  either false c g r e = e

swapped : (a b : Bool) → (a && (b && true)) ≡ (b && a)
swapped true true = refl
swapped true false = refl
swapped false true = refl
swapped false false = refl

test-line_wired : (p : ℕ → Bool) (at : ℕ → ℕ) (n m : ℕ) (l : Line) (o : Option ℕ) → at n ≡ at m → IsCube l.cube → literal_at l.cube n ≡ o → with_test p at (line_asking n m l o) ≡ (matches at l.cube && p l.out)
test-line_wired p at n m l None same is e = or-false (matches at l.cube && p l.out)
test-line_wired p at n m l (Some s) same is e =
    let rest = cube_without n l.cube in
    let here : matches at l.cube ≡ (has s (at n) && matches at rest) = matches_own at n l.cube is ∙ ap (λ o. has_asked o (at n) && matches at rest) e in
    lines_for-test p at l.out (met rest (one_literal m s))
    ∙ ap (λ b. b && p l.out)
    (matches-met at rest (one_literal m s) ∙ (swapped (matches at rest) (has s (at m)) ∙ (ap (λ v. has s v && matches at rest) (sym same) ∙ sym here)))

test-wired : (p : ℕ → Bool) (at : ℕ → ℕ) (n m : ℕ) (ls : List Line) → at n ≡ at m → All (λ (l : Line). IsCube l.cube) ls → with_test p at (flat_map (line_wired n m) ls) ≡ with_test p at ls
unfolding line_wired
test-wired p at n m [] same are = refl
test-wired p at n m (l ∷ ls) same are =
    let first = test-line_wired p at n m l (literal_at l.cube n) same (All-head (λ (m : Line). IsCube m.cube) l ls are) refl in
    let rest = test-wired p at n m ls same (All-tail (λ (m : Line). IsCube m.cube) l ls are) in
    list_any-append (λ (k : Line). matches at k.cube && p k.out) (line_asking n m l (literal_at l.cube n)) (flat_map (line_wired n m) ls) ∙ (λ i. first i || rest i)

cubes-line_asking : (n m : ℕ) (l : Line) (o : Option ℕ) → IsCube l.cube → literal_at l.cube n ≡ o → All (λ (x : Line). IsCube x.cube) (line_asking n m l o)
cubes-line_asking n m l None is e = All-cons (λ (x : Line). IsCube x.cube) l [] is (All-nil (λ (x : Line). IsCube x.cube))
cubes-line_asking n m l (Some s) is e =
    All-map (λ (x : Line). IsCube x.cube) (λ (c : List Lit). record { cube = c; out = l.out }) (met (cube_without n l.cube) (one_literal m s))
    (cubes-met (cube_without n l.cube) (one_literal m s) (IsCube-without n l.cube is) (IsCube-one m s (some_set l.cube n s is e)))

cubes-line_wired : (n m : ℕ) (l : Line) → IsCube l.cube → All (λ (x : Line). IsCube x.cube) (line_wired n m l)
unfolding line_wired
cubes-line_wired n m l is = cubes-line_asking n m l (literal_at l.cube n) is refl

cubes-lines_wired : (n m : ℕ) (ls : List Line) → All (λ (l : Line). IsCube l.cube) ls → All (λ (x : Line). IsCube x.cube) (flat_map (line_wired n m) ls)
cubes-lines_wired n m ls are = All-flat_map (λ (l : Line). IsCube l.cube) (λ (l : Line). IsCube l.cube) (line_wired n m) (cubes-line_wired n m) ls are

matches-test : (at : ℕ → ℕ) (ls : List Line) → some_matches at ls ≡ with_test (λ _. true) at ls
matches-test at [] = refl
matches-test at (l ∷ ls) = λ i. (sym (and-true (matches at l.cube)) i) || matches-test at ls i

-- where both nets have the same value the new cover allows what the old one allows
pub wired_allows : (n m : ℕ) (c : Cover) → All (λ (l : Line). IsCube l.cube) c.lines → AllowsAlong n m c (wired n m c)
unfolding wired allowed
wired_allows n m c are = record {
  same = λ at same v.
      let ls = flat_map (line_wired n m) c.lines in
      let raw : Cover = record { lines = ls; default = c.default } in
      let gives : some_gives at v ls ≡ some_gives at v c.lines = gives-any at v ls ∙ (test-wired (λ out. has out v) at n m c.lines same are ∙ sym (gives-any at v c.lines)) in
      let met : some_matches at ls ≡ some_matches at c.lines = matches-test at ls ∙ (test-wired (λ _. true) at n m c.lines same are ∙ sym (matches-test at c.lines)) in
      allowed-absorbed raw (cubes-lines_wired n m c.lines are) at v ∙ (λ i. gives i || (not (met i) && default_gives c.default v));
}

-- ---- that it is well formed

over-line_asking : (counts : List ℕ) (n m : ℕ) (l : Line) (o : Option ℕ) → get_or counts n 0 ≡ get_or counts m 0 → IsCubeOver counts l.cube → literal_at l.cube n ≡ o → AreCubesOver counts (line_asking n m l o)
over-line_asking counts n m l None same is e = All-cons (λ (k : Line). IsCubeOver counts k.cube) l [] is (All-nil (λ (k : Line). IsCubeOver counts k.cube))
over-line_asking counts n m l (Some s) same is e =
    let reads : cube_reads l.cube n ≡ true = reads_at l.cube n ∙ ap is_some e in
    over-lines_for counts l.out (met (cube_without n l.cube) (one_literal m s))
    (over-met counts (cube_without n l.cube) (one_literal m s) (over-without counts n l.cube is)
    (over-one counts n m s same (some_set l.cube n s is.cube e) (fits_at counts l.cube n s is.suits.fits e) (is.suits.few n reads)))

over-line_wired : (counts : List ℕ) (n m : ℕ) → get_or counts n 0 ≡ get_or counts m 0 → (l : Line) → IsCubeOver counts l.cube → AreCubesOver counts (line_wired n m l)
unfolding line_wired
over-line_wired counts n m same l is = over-line_asking counts n m l (literal_at l.cube n) same is refl

outputs-line_asking : (values n m : ℕ) (l : Line) (o : Option ℕ) → IsOutput values l.out → AreOutputs values (line_asking n m l o)
outputs-line_asking values n m l None is = All-cons (λ (k : Line). IsOutput values k.out) l [] is (All-nil (λ (k : Line). IsOutput values k.out))
outputs-line_asking values n m l (Some s) is = outputs-lines_for values l.out (met (cube_without n l.cube) (one_literal m s)) is

outputs-line_wired : (values n m : ℕ) (l : Line) → IsOutput values l.out → AreOutputs values (line_wired n m l)
unfolding line_wired
outputs-line_wired values n m l is = outputs-line_asking values n m l (literal_at l.cube n) is

pub wired_over : (counts : List ℕ) (values n m : ℕ) (c : Cover) → get_or counts n 0 ≡ get_or counts m 0 → IsCoverOver counts values c → IsCoverOver counts values (wired n m c)
unfolding wired
wired_over counts values n m c same is =
    over-absorbed counts values (record { lines = flat_map (line_wired n m) c.lines; default = c.default })
    (All-flat_map (λ (l : Line). IsCubeOver counts l.cube) (λ (l : Line). IsCubeOver counts l.cube) (line_wired n m) (over-line_wired counts n m same) c.lines is.cubes)
    (All-flat_map (λ (l : Line). IsOutput values l.out) (λ (l : Line). IsOutput values l.out) (line_wired n m) (outputs-line_wired values n m) c.lines is.outputs) is.default

-- ---- what it reads

-- a net that the old cover reads and that isn't n, or m
abbrev Along : ℕ → ℕ → Cover → ℕ → Type 0
Along n m old k = ((cover_reads old k ≡ true) × (nat_eq k n ≡ false)) ⊎ (k ≡ m)

only-line_asking : (n m : ℕ) (old : Cover) (l : Line) (o : Option ℕ) → ReadsOnly (λ k. cover_reads old k ≡ true) l.cube → literal_at l.cube n ≡ o → All (λ (x : Line). ReadsOnly (Along n m old) x.cube) (line_asking n m l o)
only-line_asking n m old l None is e =
    All-cons (λ (x : Line). ReadsOnly (Along n m old) x.cube) l []
    (record { cube = is.cube; only = λ k h. inl (is.only k h, unread n k l.cube (ap is_none e) h) }) (All-nil (λ (x : Line). ReadsOnly (Along n m old) x.cube))
only-line_asking n m old l (Some s) is e =
    let rest = cube_without n l.cube in
    let cube = IsCube-without n l.cube is.cube in
    let one = IsCube-one m s (some_set l.cube n s is.cube e) in
    All-map (λ (x : Line). ReadsOnly (Along n m old) x.cube) (λ (c : List Lit). record { cube = c; out = l.out }) (met rest (one_literal m s))
    (read_cubes (Along n m old) (met rest (one_literal m s)) (cubes-met rest (one_literal m s) cube one)
    (λ k h.
    elim (reads-met rest (one_literal m s) k cube one h) [
      | inl r ↦ inl (is.only k (without-reads n k l.cube r), without_unread n k l.cube r)
      | inr r ↦
          elim (or_cases (nat_eq m k) false r) [
            | inl t ↦ inr (sym (same_number m k t))
            | inr bad ↦ absurd (false≢true bad)
          ]
    ]))

only-line_wired : (n m : ℕ) (old : Cover) (l : Line) → ReadsOnly (λ k. cover_reads old k ≡ true) l.cube → All (λ (x : Line). ReadsOnly (Along n m old) x.cube) (line_wired n m l)
unfolding line_wired
only-line_wired n m old l is = only-line_asking n m old l (literal_at l.cube n) is refl

only-lines_wired : (n m : ℕ) (c : Cover) → All (λ (l : Line). IsCube l.cube) c.lines → All (λ (x : Line). ReadsOnly (Along n m c) x.cube) (flat_map (line_wired n m) c.lines)
only-lines_wired n m c are =
    All-flat_map (λ (l : Line). ReadsOnly (λ k. cover_reads c k ≡ true) l.cube) (λ (x : Line). ReadsOnly (Along n m c) x.cube) (line_wired n m) (only-line_wired n m c) c.lines
    (read_lines (λ k. cover_reads c k ≡ true) c.lines are (λ k h. h))

pub wired_reads : (n m : ℕ) (c : Cover) → All (λ (l : Line). IsCube l.cube) c.lines → ReadsAlong n m c (wired n m c)
unfolding wired absorbed
wired_reads n m c are = record {
  only = read_by (Along n m c) (left_of (flat_map (line_wired n m) c.lines)) (all_left (λ (x : Line). ReadsOnly (Along n m c) x.cube) (flat_map (line_wired n m) c.lines) (only-lines_wired n m c are));
}
