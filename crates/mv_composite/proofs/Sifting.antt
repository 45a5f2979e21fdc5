-- The lightest lines that are left.
use Rattle.std.proofs.Common.{◌≡◌, ◌∙◌, ℕ, ◌+◌, ◌<◌, ◌≤◌, true, false, not, ◌⊎◌, Option, Some, None, List, [], ◌∷◌, ◌++◌, filter, length, take, get_or, refl, sym, ap, subst, arith, inl, inr}
use Rattle.std.specs.Prelude.{is_some}
use Rattle.std.specs.List.{list_any}
use Rattle.std.proofs.lemmas.Bool.{cases_Bool, false≢true, and_from, or_left, or_right, not_from_false}
use Rattle.std.proofs.lemmas.List.{take_more}
use Rattle.std.proofs.lemmas.List.Elements.{All-nil, All-cons, All-append, All-head, All-tail, All-contains}
use Rattle.std.proofs.lemmas.List.Folds.{list_any-append}
use Rattle.std.proofs.lemmas.Map.Views.{All-from_any}
use Rattle.mv_base.specs.declared.limits.TheConstants.{MAX_COMPOSED_LINES}
use Rattle.mv_cover.specs.declared.line.Line.{Line}
use Rattle.mv_cover.specs.Cubes.{IsCube}
use Rattle.mv_cover.specs.Equal.{line_eq}
use Rattle.mv_cover.specs.Keys.{line_eq-Decides, line_eq-equiv}
use Rattle.mv_cover.specs.Absorb.{firsts, line_lies, swallowed_by, left_of, IsLeftOf}
use Rattle.mv_cover.proofs.Absorbing.{Climbs, find_any, any-firsts, any-unswallowed, all-firsts, line_lies-trans, swallowed-through}
use Rattle.mv_cover.proofs.Meets.{order}
use Rattle.mv_composite.specs.Inside.{AreCubes}
use Rattle.mv_composite.specs.Wide.{HasManyLines}
use Rattle.mv_composite.specs.Puts.{puts_none, puts_more}
use Rattle.mv_composite.specs.Takers.{is_among, HaveSameLines, is_or_lies, least_of, IsUpTo, IsFrom, IsHeavy, IsLight, LiesBeyond, AreLightest, HasLightest, IsSifted, KeepsLightest, PutsLight}
use Rattle.mv_composite.specs.TakerLaws.{has_same}
use Rattle.mv_composite.proofs.Puts.{left_none}
use Rattle.mv_composite.proofs.Weights.{lighter}
use Rattle.mv_composite.proofs.Among.{IsClosed, left-among, among-passes, passes-among, among_first, among_second, among_either, among_one, same_test, closed-same, left-same, left-picked, fewer_left}

-- ---- lines that lie in others

-- a line is itself, and lies in what a line lies in that it lies in
itself : (l : Line) → is_or_lies l l ≡ true
itself l = or_left (line_eq l l) (line_lies l l) ((line_eq-Decides l l).1 refl)

lying-climbs : (l : Line) → Climbs (is_or_lies l)
lying-climbs l = record {
  up = λ a b lies h.
      or_right (line_eq l b) (line_lies l b)
      (elim (cases_Bool (line_eq l a)) [
        | inl t ↦ ap (λ k. line_lies k b) ((line_eq-Decides l a).0 t) ∙ lies
        | inr f ↦ line_lies-trans l a b (rw f at h) lies
      ]);
}

-- what lies in one of the lines lies in one that is left
lies-left : (ls : List Line) (l : Line) → AreCubes ls → list_any (is_or_lies l) ls ≡ true → list_any (is_or_lies l) (left_of ls) ≡ true
unfolding left_of
lies-left ls l cubes h =
    any-unswallowed (is_or_lies l) (lying-climbs l) (firsts ls) (all-firsts (λ (k : Line). IsCube k.cube) ls cubes) ∙ (any-firsts (is_or_lies l) ls ∙ h)

-- where a line swallows another, so does each that it is or lies in
swallowed-over : (l m k : Line) → IsCube l.cube → IsCube m.cube → swallowed_by l m ≡ true → is_or_lies m k ≡ true → swallowed_by l k ≡ true
swallowed-over l m k is it h lies =
    elim (cases_Bool (line_eq m k)) [
      | inl t ↦ ap (swallowed_by l) (sym ((line_eq-Decides m k).0 t)) ∙ h
      | inr f ↦ swallowed-through l m k is it h (and_from (line_lies m k) (not (line_eq m k)) (rw f at lies) (not_from_false (line_eq m k) f))
    ]

among_cube : (ls : List Line) (l : Line) → AreCubes ls → is_among ls l ≡ true → IsCube l.cube
among_cube ls l cubes h =
    let m = find_any (line_eq l) ls h in
    subst (λ (k : Line). IsCube k.cube) (sym ((line_eq-Decides l m.x).0 m.pass)) (All-contains (λ (k : Line). IsCube k.cube) ls m.x cubes m.there)

-- ---- a line more

cubes_more : (ls : List Line) (x : Line) → AreCubes ls → IsCube x.cube → AreCubes (ls ++ x ∷ [])
cubes_more ls x cubes is =
    All-append (λ (l : Line). IsCube l.cube) ls (x ∷ []) cubes (All-cons (λ (l : Line). IsCube l.cube) x [] is (All-nil (λ (l : Line). IsCube l.cube)))

last_cube : (ls : List Line) (x : Line) → AreCubes (ls ++ x ∷ []) → IsCube x.cube
last_cube [] x cubes = All-head (λ (l : Line). IsCube l.cube) x [] cubes
last_cube (l ∷ ls) x cubes = last_cube ls x (All-tail (λ (m : Line). IsCube m.cube) l (ls ++ x ∷ []) cubes)

-- one that is no lighter than the cap
pub keeps_heavy : (left : List Line) (cap : Option ℕ) (x : Line) → IsHeavy cap x → KeepsLightest left left cap cap (x ∷ [])
keeps_heavy left None x heavy = absurd heavy
keeps_heavy left (Some cap) x heavy = record {
  left = λ ls has. record {
    formed = cubes_more ls x has.formed heavy.cube;
    some = has.some;
    are_left = has.are_left;
    from = λ l h. among_first ls (x ∷ []) l (has.from l h);
    light = has.light;
    covered = λ l h.
        elim (among_either ls (x ∷ []) l h) [
          | inl t ↦ has.covered l t
          | inr t ↦ inr (record { over = x; lies = ap (λ k. is_or_lies k x) (among_one x l t) ∙ itself x; from = heavy })
        ];
  };
}

-- one that is put
pub keeps_light : (old new : List Line) (cap : Option ℕ) (x : Line) → IsLight cap x → ((ls : List Line) → IsLeftOf ls old → IsLeftOf (ls ++ x ∷ []) new) → KeepsLightest old new cap cap (x ∷ [])
keeps_light old new None x light puts = record { left = puts }
keeps_light old new (Some cap) x light puts = record {
  left = λ ls has. record {
    formed = cubes_more ls x has.formed (last_cube has.some x (puts has.some has.are_left).formed);
    some = has.some ++ x ∷ [];
    are_left = puts has.some has.are_left;
    from = λ l h.
        elim (among_either has.some (x ∷ []) l h) [
          | inl t ↦ among_first ls (x ∷ []) l (has.from l t)
          | inr t ↦ among_second ls (x ∷ []) l t
        ];
    light = λ l h.
        elim (among_either has.some (x ∷ []) l h) [
          | inl t ↦ has.light l t
          | inr t ↦ subst (IsUpTo cap) (sym (among_one x l t)) light
        ];
    covered = λ l h.
        let both = list_any-append (is_or_lies l) has.some (x ∷ []) in
        elim (among_either ls (x ∷ []) l h) [
          | inl t ↦
              elim (has.covered l t) [
                | inl s ↦ inl (both ∙ or_left (list_any (is_or_lies l) has.some) (list_any (is_or_lies l) (x ∷ [])) s)
                | inr d ↦ inr d
              ]
          | inr t ↦ inl (both ∙ or_right (list_any (is_or_lies l) has.some) (list_any (is_or_lies l) (x ∷ [])) (among-passes (x ∷ []) l (is_or_lies l) t (itself l)))
        ];
  };
}

-- ---- the lines that are no heavier than a cap

pub light_none : (cap : ℕ) (a : List Line) → PutsLight cap a a []
light_none cap a = record {
  put = [];
  left = puts_none a;
  from = λ l h. h;
  light = λ l h. absurd (false≢true h);
  rest = λ l h. inl h;
}

pub light_heavy : (cap : ℕ) (a : List Line) (x : Line) → IsFrom cap x → PutsLight cap a a (x ∷ [])
light_heavy cap a x heavy = record {
  put = [];
  left = puts_none a;
  from = λ l h. absurd (false≢true h);
  light = λ l h. absurd (false≢true h);
  rest = λ l h. inr (subst (IsFrom cap) (sym (among_one x l h)) heavy);
}

pub light_put : (cap : ℕ) (a b : List Line) (x y : Line) → y ≡ x → IsUpTo cap x → ((ls : List Line) → IsLeftOf ls a → IsLeftOf (ls ++ y ∷ []) b) → PutsLight cap a b (x ∷ [])
light_put cap a b x y same light puts = record {
  put = x ∷ [];
  left = record { left = λ ls is. subst (λ (k : Line). IsLeftOf (ls ++ k ∷ []) b) same (puts ls is) };
  from = λ l h. h;
  light = λ l h. subst (IsUpTo cap) (sym (among_one x l h)) light;
  rest = λ l h. inl h;
}

pub light_more : (cap : ℕ) (a b c xs ys : List Line) → PutsLight cap a b xs → PutsLight cap b c ys → PutsLight cap a c (xs ++ ys)
light_more cap a b c xs ys p q = record {
  put = p.put ++ q.put;
  left = puts_more a b c p.put q.put p.left q.left;
  from = λ l h.
      elim (among_either p.put q.put l h) [
        | inl t ↦ among_first xs ys l (p.from l t)
        | inr t ↦ among_second xs ys l (q.from l t)
      ];
  light = λ l h.
      elim (among_either p.put q.put l h) [
        | inl t ↦ p.light l t
        | inr t ↦ q.light l t
      ];
  rest = λ l h.
      elim (among_either xs ys l h) [
        | inl t ↦
            elim (p.rest l t) [
              | inl s ↦ inl (among_first p.put q.put l s)
              | inr d ↦ inr d
            ]
        | inr t ↦
            elim (q.rest l t) [
              | inl s ↦ inl (among_second p.put q.put l s)
              | inr d ↦ inr d
            ]
      ];
}

pub light_next : (cap : ℕ) (lines : List Line) (i : ℕ) (x : Line) (a b c : List Line) → i < length lines → x ≡ get_or lines i x → PutsLight cap a b (take i lines) → PutsLight cap b c (x ∷ []) → PutsLight cap a c (take (i + 1) lines)
light_next cap lines i x a b c low here p q =
    subst (PutsLight cap a c) (sym (take_more lines i x low ∙ ap (λ (k : Line). take i lines ++ k ∷ []) (sym here))) (light_more cap a b c (take i lines) (x ∷ []) p q)

-- ---- a lower cap

least-first : (cap middle : ℕ) → least_of (Some cap) middle ≤ cap
least-first cap middle =
    elim (order cap middle) [
      | inl y ↦ rw y.0 (omega arith)
      | inr n ↦ let le = n.1 in rw n.0 (omega arith)
    ]

-- what lies in a line that was left lies in one that still is, or in one that is no lighter
still-lies : (old new : List Line) (low : ℕ) (puts : PutsLight low [] new old) → (l : Line) → list_any (is_or_lies l) old ≡ true → (list_any (is_or_lies l) puts.put ≡ true) ⊎ LiesBeyond low l
still-lies old new low puts l h =
    let k = passes-among old (is_or_lies l) h in
    elim (puts.rest k.0 k.1) [
      | inl t ↦ inl (among-passes puts.put k.0 (is_or_lies l) t k.2)
      | inr heavy ↦ inr (record { over = k.0; lies = k.2; from = heavy })
    ]

lowered : (ls old new : List Line) (cap : Option ℕ) (middle : ℕ) → PutsLight (least_of cap middle) [] new old → HasLightest ls old cap → AreLightest ls new (least_of cap middle)
lowered ls old new None low puts is = record {
  formed = is.formed;
  some = puts.put;
  are_left = puts.left.left [] (left_none [] refl);
  from = λ l h. left-among ls l (ap (λ xs. is_among xs l) (sym is.lines) ∙ puts.from l h);
  light = puts.light;
  covered = λ l h.
      still-lies old new low puts l (ap (list_any (is_or_lies l)) is.lines ∙ lies-left ls l is.formed (among-passes ls l (is_or_lies l) h (itself l)));
}
lowered ls old new (Some cap) middle puts has =
    let low = least_of (Some cap) middle in
    let lower = least-first cap middle in
    record {
      formed = has.formed;
      some = puts.put;
      are_left = puts.left.left [] (left_none [] refl);
      from = λ l h. has.from l (left-among has.some l (ap (λ xs. is_among xs l) (sym has.are_left.lines) ∙ puts.from l h));
      light = puts.light;
      covered = λ l h.
          elim (has.covered l h) [
            | inl t ↦ still-lies old new low puts l (ap (list_any (is_or_lies l)) has.are_left.lines ∙ lies-left has.some l has.are_left.formed t)
            | inr d ↦ let over = d.from.weighed in inr (record { over = d.over; lies = d.lies; from = record { weighed = omega arith; cube = d.from.cube } })
          ];
    }

pub keeps_lowered : (old new seen none : List Line) (cap : Option ℕ) (middle low : ℕ) → seen ≡ old → none ≡ [] → low ≡ least_of cap middle → PutsLight low none new seen → KeepsLightest old new cap (Some low) []
keeps_lowered old new seen none cap middle low s n e puts = record {
  left = λ ls has.
      has_same ls new (Some low)
      (subst (AreLightest ls new) (sym e) (lowered ls old new cap middle (subst (λ c. PutsLight c [] new old) e (subst (λ xs. PutsLight low [] new xs) s (subst (λ xs. PutsLight low xs new seen) n puts))) has));
}

-- ---- all lines once more

-- only a lighter line swallows one of the lightest, and lies in one of them or is swallowed too
lightest-closed : (ls left : List Line) (cap : ℕ) → AreCubes ls → (has : AreLightest ls left cap) → IsClosed ls has.some
lightest-closed ls left cap cubes has = record {
  from = has.from;
  up = λ l m h k s.
      let is = among_cube ls l cubes (has.from l h) in
      let it = among_cube ls m cubes k in
      elim (has.covered m k) [
        | inl t ↦
            let over = passes-among has.some (is_or_lies m) t in
            among-passes has.some over.0 (swallowed_by l) over.1 (swallowed-over l m over.0 is it s over.2)
        | inr d ↦
            let light = has.light l h in
            let low = light.weighed in
            let high = d.from.weighed in
            let less = lighter l d.over is d.from.cube light.counted (swallowed-over l m d.over is it s d.lies) in
            absurd (omega arith)
      ];
}

-- the first lines that came
pub lightest_first : (ls none left : List Line) (from cap : Option ℕ) → none ≡ [] → from ≡ None → KeepsLightest none left from cap ls → HasLightest ls left cap
lightest_first ls none left from cap e f keeps =
    let begun : KeepsLightest none left None cap ls = subst (λ (o : Option ℕ). KeepsLightest none left o cap ls) f keeps in
    begun.left [] (left_none none e)

pub sifted_first : (ls left : List Line) (cap : Option ℕ) → HasLightest ls left cap → IsSifted ls left cap
sifted_first ls left cap has = record { came = ls; same = record { same = λ l. refl }; lightest = has }

-- each of them has a cube
pub cubes_first : (ls left : List Line) (cap : Option ℕ) → HasLightest ls left cap → AreCubes ls
cubes_first ls left None has = has.formed
cubes_first ls left (Some cap) has = has.formed

-- all once more
pub sifted_again : (ls left next new : List Line) (cap after : Option ℕ) → next ≡ left → is_some cap ≡ true → IsSifted ls left cap → KeepsLightest next new None after ls → IsSifted ls new after
sifted_again ls left next new None after e t sifted keeps = absurd (false≢true t)
sifted_again ls left next new (Some cap) after e t sifted keeps =
    let some = sifted.lightest.some in
    record {
      came = some ++ ls;
      same = record {
        same = λ l.
            same_test (is_among (some ++ ls) l) (is_among ls l) (λ h.
            elim (among_either some ls l h) [
              | inl t ↦ sym (sifted.same.same l) ∙ sifted.lightest.from l t
              | inr t ↦ t
            ])
            (among_second some ls l);
      };
      lightest = keeps.left some (subst (IsLeftOf some) (sym e) sifted.lightest.are_left);
    }

cubes-same : (ls came : List Line) → AreCubes ls → HaveSameLines came ls → AreCubes came
cubes-same ls came cubes same = All-from_any line_eq-equiv (λ (l : Line). IsCube l.cube) came (λ l h. among_cube ls l cubes (sym (same.same l) ∙ h))

-- more are left than a composite may have
pub sifted_wide : (ls left : List Line) (cap : Option ℕ) → AreCubes ls → IsSifted ls left cap → MAX_COMPOSED_LINES < length left → HasManyLines (left_of ls)
sifted_wide ls left None cubes sifted many =
    let is = ap length sifted.lightest.lines in
    let fewer = fewer_left ls sifted.came (closed-same ls sifted.came sifted.same) in
    record { many = omega arith }
sifted_wide ls left (Some cap) cubes sifted many =
    let is = ap length sifted.lightest.are_left.lines in
    let fewer = fewer_left sifted.came sifted.lightest.some (lightest-closed sifted.came left cap (cubes-same ls sifted.came cubes sifted.same) sifted.lightest) in
    let same = fewer_left ls sifted.came (closed-same ls sifted.came sifted.same) in
    record { many = omega arith }

-- without a cap all that are left are
pub sifted_all : (ls left : List Line) (cap : Option ℕ) → is_some cap ≡ false → IsSifted ls left cap → HaveSameLines left (left_of ls)
sifted_all ls left None f sifted = subst (λ (xs : List Line). HaveSameLines xs (left_of ls)) (sym sifted.lightest.lines) (left-same ls sifted.came sifted.same)
sifted_all ls left (Some cap) f sifted = absurd (false≢true (sym f))

-- ---- in order

pub all_left : (ls left : List Line) (cap : Option ℕ) → is_some cap ≡ false → HasLightest ls left cap → IsLeftOf ls left
all_left ls left None f has = has
all_left ls left (Some cap) f has = absurd (false≢true (sym f))

-- what is left of those that are among the lines that are left
pub picked_left : (ls keys lightest seen left : List Line) → AreCubes ls → keys ≡ firsts seen → seen ≡ lightest → HaveSameLines lightest (left_of ls) → IsLeftOf (filter (is_among keys) ls) left → IsLeftOf ls left
picked_left ls keys lightest seen left cubes k s same is =
    let alike : HaveSameLines keys (left_of ls) = record { same = λ l. ap (λ xs. is_among xs l) (k ∙ ap firsts s) ∙ (any-firsts (line_eq l) lightest ∙ same.same l) } in
    record { formed = cubes; lines = is.lines ∙ left-picked ls keys alike }
