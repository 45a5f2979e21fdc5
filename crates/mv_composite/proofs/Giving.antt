-- What the lines of a reader give at a point: what they give with some value that the net may have there.
use Rattle.std.proofs.Common.{◌≡◌, ◌∙◌, ℕ, Bool, true, false, not, ◌&&◌, ◌||◌, Option, Some, None, is_none, All, get_or, List, [], ◌∷◌, nat_eq, filter, inl, inr, refl, sym, ap, if◌then◌else◌}
use Rattle.std.proofs.Math.Bool.{or-false}
use Rattle.std.specs.List.{list_any, flat_map}
use Rattle.std.proofs.lemmas.Bool.{cases_Bool, false≢true, and_parts, and_from, or_cases, or_left, or_right, not-true, not_from_false, MatchBool-at_true, MatchBool-at_false, ne_eqb}
use Rattle.std.proofs.lemmas.List.Folds.{list_any-append}
use Rattle.std.proofs.lemmas.List.Elements.{All-head, All-tail}
use Rattle.mv_base.specs.Set.{has, meet, empty}
use Rattle.mv_base.proofs.Sets.{has-meet}
use Rattle.mv_cover.specs.Literal.{Lit}
use Rattle.mv_cover.specs.declared.line.Line.{Line}
use Rattle.mv_cover.specs.declared.cover.Cover.{Cover}
use Rattle.mv_cover.specs.Cubes.{matches, IsCube}
use Rattle.mv_cover.specs.Covers.{some_matches, some_gives, default_gives, allowed}
use Rattle.mv_cover.specs.Covering.{IsPoint, changed}
use Rattle.mv_cover.specs.Cofactors.{cubes_match, cube_without, cubes_of}
use Rattle.mv_cover.specs.Meets.{literal_at, met}
use Rattle.mv_cover.specs.Lines.{IsOutput}
use Rattle.mv_cover.specs.Complement.{lines_for}
use Rattle.mv_cover.proofs.Members.{member_of}
use Rattle.mv_cover.proofs.Sharps.{not_empty}
use Rattle.mv_composite.specs.declared.inner.Inner.{Inner}
use Rattle.mv_composite.specs.Inside.{AreOutputs, AllowsAtEach, IsInner}
use Rattle.mv_composite.specs.Composite.{set_meets, default_meets, cubes_giving, line_given, lines_given}
use Rattle.mv_composite.proofs.Cubes.{has_asked, without_none, matches_changed, match-append, matches-mets}

-- ---- values that are asked for

-- a set with such a value
met_by : (out set w : ℕ) → has out w ≡ true → has set w ≡ true → not (nat_eq (meet out set) empty) ≡ true
met_by out set w h k = not_from_false (nat_eq (meet out set) empty) (not_empty (meet out set) w (has-meet out set w ∙ and_from (has out w) (has set w) h k))

-- a value that two sets share
pub record Shared (out : ℕ) (asked : Option ℕ) : Type 0 where
  pub w : ℕ
  pub given : has out w ≡ true
  pub wanted : has_asked asked w ≡ true

shared_by : (out set : ℕ) → not (nat_eq (meet out set) empty) ≡ true → Shared out (Some set)
shared_by out set h =
    let m = member_of (meet out set) (not-true (nat_eq (meet out set) empty) h) in
    let p = and_parts (has out m.0) (has set m.0) (sym (has-meet out set m.0) ∙ m.1) in
    record { w = m.0; given = p.0; wanted = p.1 }

set_meets_up : (asked : Option ℕ) (out w : ℕ) → has out w ≡ true → has_asked asked w ≡ true → set_meets asked out ≡ true
set_meets_up None out w h k = refl
set_meets_up (Some set) out w h k = met_by out set w h k

set_meets_down : (values : ℕ) (asked : Option ℕ) (out : ℕ) → IsOutput values out → set_meets asked out ≡ true → Shared out asked
set_meets_down values None out is h = let m = member_of out (ne_eqb out empty is.some) in record { w = m.0; given = m.1; wanted = refl }
set_meets_down values (Some set) out is h = shared_by out set h

default_meets_up : (default asked : Option ℕ) (w : ℕ) → default_gives default w ≡ true → has_asked asked w ≡ true → (asked ≡ None → default ≡ None) → default_meets default asked ≡ true
default_meets_up None asked w h k none = absurd (false≢true h)
default_meets_up (Some out) None w h k none = let bad : Some out ≡ None = none refl in absurd (cc)
default_meets_up (Some out) (Some set) w h k none = met_by out set w h k

-- a value of the default that is asked for
record DefaultShared (default asked : Option ℕ) : Type 0 where
  w : ℕ
  given : default_gives default w ≡ true
  wanted : has_asked asked w ≡ true

default_meets_down : (default asked : Option ℕ) → default_meets default asked ≡ true → DefaultShared default asked
default_meets_down None None h = absurd (false≢true h)
default_meets_down None (Some set) h = absurd (false≢true h)
default_meets_down (Some out) None h = absurd (false≢true h)
default_meets_down (Some out) (Some set) h = let s = shared_by out set h in record { w = s.w; given = s.given; wanted = s.wanted }

-- ---- the net's lines

-- the cubes of the lines with an output that is asked for
abbrev asked_cubes : Option ℕ → List Line → List (List Lit)
asked_cubes asked lines = cubes_of (filter (λ (l : Line). set_meets asked l.out) lines)

lines_up : (at : ℕ → ℕ) (asked : Option ℕ) (w : ℕ) (lines : List Line) → some_gives at w lines ≡ true → has_asked asked w ≡ true → cubes_match at (asked_cubes asked lines) ≡ true
lines_up at asked w [] h k = absurd (false≢true h)
lines_up at asked w (l ∷ ls) h k =
    elim (or_cases (matches at l.cube && has l.out w) (some_gives at w ls) h) [
      | inl g ↦
          let p = and_parts (matches at l.cube) (has l.out w) g in
          rw (set_meets_up asked l.out w p.1 k) (or_left (matches at l.cube) (cubes_match at (asked_cubes asked ls)) p.0)
      | inr r ↦
          let ih = lines_up at asked w ls r k in
          elim (cases_Bool (set_meets asked l.out)) [
            | inl t ↦ rw t (or_right (matches at l.cube) (cubes_match at (asked_cubes asked ls)) ih)
            | inr f ↦ rw f ih
          ]
    ]

-- a value that the lines give and that is asked for
record LinesShared (at : ℕ → ℕ) (asked : Option ℕ) (lines : List Line) : Type 0 where
  w : ℕ
  given : some_gives at w lines ≡ true
  wanted : has_asked asked w ≡ true

shared_more : (at : ℕ → ℕ) (asked : Option ℕ) (l : Line) (ls : List Line) → LinesShared at asked ls → LinesShared at asked (l ∷ ls)
shared_more at asked l ls s = record { w = s.w; given = or_right (matches at l.cube && has l.out s.w) (some_gives at s.w ls) s.given; wanted = s.wanted }

lines_down : (at : ℕ → ℕ) (asked : Option ℕ) (values : ℕ) (lines : List Line) → AreOutputs values lines → cubes_match at (asked_cubes asked lines) ≡ true → LinesShared at asked lines
lines_down at asked values [] are h = absurd (false≢true h)
lines_down at asked values (l ∷ ls) are h =
    let behind = All-tail (λ (m : Line). IsOutput values m.out) l ls are in
    elim (cases_Bool (set_meets asked l.out)) [
      | inr f ↦ shared_more at asked l ls (lines_down at asked values ls behind (rw f at h))
      | inl t ↦
          elim (or_cases (matches at l.cube) (cubes_match at (asked_cubes asked ls)) (rw t at h)) [
            | inl g ↦
                let s = set_meets_down values asked l.out (All-head (λ (m : Line). IsOutput values m.out) l ls are) t in
                record { w = s.w; given = or_left (matches at l.cube && has l.out s.w) (some_gives at s.w ls) (and_from (matches at l.cube) (has l.out s.w) g s.given); wanted = s.wanted }
            | inr r ↦ shared_more at asked l ls (lines_down at asked values ls behind r)
          ]
    ]

-- where a line matches, the lines give some value
pub matching_gives : (at : ℕ → ℕ) (values : ℕ) (lines : List Line) → AreOutputs values lines → some_matches at lines ≡ true → (w : ℕ) × (some_gives at w lines ≡ true)
matching_gives at values [] are h = absurd (false≢true h)
matching_gives at values (l ∷ ls) are h =
    elim (or_cases (matches at l.cube) (some_matches at ls) h) [
      | inl g ↦
          let m = member_of l.out (ne_eqb l.out empty (All-head (λ (m : Line). IsOutput values m.out) l ls are).some) in
          (m.0, or_left (matches at l.cube && has l.out m.0) (some_gives at m.0 ls) (and_from (matches at l.cube) (has l.out m.0) g m.1))
      | inr r ↦
          let rest = matching_gives at values ls (All-tail (λ (m : Line). IsOutput values m.out) l ls are) r in
          (rest.0, or_right (matches at l.cube && has l.out rest.0) (some_gives at rest.0 ls) rest.1)
    ]

-- with a default that isn't empty some value is allowed at every point
default_allows : (counts : List ℕ) (values out : ℕ) (c : Cover) → AreOutputs values c.lines → IsOutput values out → c.default ≡ Some out → AllowsAtEach counts c
unfolding allowed
default_allows counts values out c are is e = record {
  some = λ at p.
      elim (cases_Bool (some_matches at c.lines)) [
        | inl t ↦
            let g = matching_gives at values c.lines are t in
            (g.0, or_left (some_gives at g.0 c.lines) (not (some_matches at c.lines) && default_gives c.default g.0) g.1)
        | inr f ↦
            let m = member_of out (ne_eqb out empty is.some) in
            let given : default_gives c.default m.0 ≡ true = ap (λ o. default_gives o m.0) e ∙ m.1 in (
              m.0,
              or_right (some_gives at m.0 c.lines) (not (some_matches at c.lines) && default_gives c.default m.0)
                  (and_from (not (some_matches at c.lines)) (default_gives c.default m.0) (not_from_false (some_matches at c.lines) f) given),
            )
      ];
}

-- a net that isn't total has no default
pub partial_bare : (counts : List ℕ) (inner : Inner) → IsInner counts inner → inner.total ≡ false → inner.cover.default ≡ None
partial_bare counts inner is partial = by inner.cover.default refl where
  by : (o : Option ℕ) → inner.cover.default ≡ o → o ≡ None
  by None e = refl
  by (Some out) e =
      absurd
      (MatchBool-at_false (AllowsAtEach counts inner.cover) (AllowsAtEach counts inner.cover → ⊥) partial is.total
      (default_allows counts (get_or counts inner.net.0 0) out inner.cover is.cover.outputs (is.cover.default out e) e))

-- ---- where the net may have a value that is asked for

-- the line is matched where this holds beside its other literals
abbrev reached : (ℕ → ℕ) → Inner → List (List Lit) → Option ℕ → Bool
reached at inner outside asked = if inner.total && is_none asked then true else cubes_match at (cubes_giving outside inner.cover asked)

-- a value that the net's cover allows and that is asked for
record MayHave (at : ℕ → ℕ) (inner : Inner) (asked : Option ℕ) : Type 0 where
  w : ℕ
  is_allowed : allowed inner.cover at w ≡ true
  wanted : has_asked asked w ≡ true

-- the cubes hold at a point where no line of the net does
pub record HoldAway (at : ℕ → ℕ) (inner : Inner) (outside : List (List Lit)) : Type 0 where
  pub away : cubes_match at outside ≡ not (some_matches at inner.cover.lines)

none_asked : (asked : Option ℕ) → is_none asked ≡ true → (w : ℕ) → has_asked asked w ≡ true
none_asked None h w = refl
none_asked (Some set) h w = absurd (false≢true h)

module _ (counts : List ℕ) (inner : Inner) (is : IsInner counts inner) (outside : List (List Lit)) (at : ℕ → ℕ) (point : IsPoint counts at) (hold : HoldAway at inner outside) where
  -- a line of the net gives a value that is asked for, or its default does where no line matches
  giving_up : (asked : Option ℕ) (w : ℕ) → (asked ≡ None → inner.cover.default ≡ None) → allowed inner.cover at w ≡ true → has_asked asked w ≡ true → cubes_match at (cubes_giving outside inner.cover asked) ≡ true
  unfolding allowed
  giving_up asked w none h k =
      let lines = inner.cover.lines in
      let rest = if default_meets inner.cover.default asked then outside else [] in
      match-append at (asked_cubes asked lines) rest
      ∙ elim (or_cases (some_gives at w lines) (not (some_matches at lines) && default_gives inner.cover.default w) h) [
        | inl g ↦ or_left (cubes_match at (asked_cubes asked lines)) (cubes_match at rest) (lines_up at asked w lines g k)
        | inr d ↦
            let p = and_parts (not (some_matches at lines)) (default_gives inner.cover.default w) d in
            or_right (cubes_match at (asked_cubes asked lines)) (cubes_match at rest)
            (rw (default_meets_up inner.cover.default asked w p.1 k none) (hold.away ∙ p.0))
      ]

  giving_down : (asked : Option ℕ) → cubes_match at (cubes_giving outside inner.cover asked) ≡ true → MayHave at inner asked
  unfolding allowed
  giving_down asked h =
      let lines = inner.cover.lines in
      let rest = if default_meets inner.cover.default asked then outside else [] in
      elim (or_cases (cubes_match at (asked_cubes asked lines)) (cubes_match at rest) (sym (match-append at (asked_cubes asked lines) rest) ∙ h)) [
        | inl g ↦
            let s = lines_down at asked (get_or counts inner.net.0 0) lines is.cover.outputs g in
            record { w = s.w; is_allowed = or_left (some_gives at s.w lines) (not (some_matches at lines) && default_gives inner.cover.default s.w) s.given; wanted = s.wanted }
        | inr d ↦
            elim (cases_Bool (default_meets inner.cover.default asked)) [
              | inl t ↦
                  let s = default_meets_down inner.cover.default asked t in
                  let away : not (some_matches at lines) ≡ true = sym hold.away ∙ (rw t at d) in
                  record {
                    w = s.w;
                    is_allowed =
                        or_right (some_gives at s.w lines) (not (some_matches at lines) && default_gives inner.cover.default s.w)
                        (and_from (not (some_matches at lines)) (default_gives inner.cover.default s.w) away s.given);
                    wanted = s.wanted;
                  }
              | inr f ↦ absurd (false≢true (rw f at d))
            ]
      ]

  reached_up : (asked : Option ℕ) (w : ℕ) → allowed inner.cover at w ≡ true → has_asked asked w ≡ true → reached at inner outside asked ≡ true
  reached_up asked w h k =
      elim (cases_Bool (inner.total && is_none asked)) [
        | inl t ↦ rw t refl
        | inr f ↦
            rw f
            (giving_up asked w
            (λ e. partial_bare counts inner is (elim (cases_Bool inner.total) [
              | inl t ↦ absurd (false≢true (sym f ∙ and_from inner.total (is_none asked) t (ap is_none e)))
              | inr n ↦ n
            ])) h k)
      ]

  reached_down : (asked : Option ℕ) → reached at inner outside asked ≡ true → MayHave at inner asked
  reached_down asked h =
      elim (cases_Bool (inner.total && is_none asked)) [
        | inl t ↦
            let p = and_parts inner.total (is_none asked) t in
            let some = (MatchBool-at_true (AllowsAtEach counts inner.cover) (AllowsAtEach counts inner.cover → ⊥) p.0 is.total).some at point in
            record { w = some.0; is_allowed = some.1; wanted = none_asked asked p.1 some.0 }
        | inr f ↦ giving_down asked (rw f at h)
      ]

-- ---- what a line gives, by a test of outputs

-- some line matches, and its output passes
abbrev pub some_with : (ℕ → Bool) → (ℕ → ℕ) → List Line → Bool
some_with p at ls = list_any (λ (l : Line). matches at l.cube && p l.out) ls

either_passes : (m c g r : Bool) → r ≡ (c && g) → ((m && g) || r) ≡ ((m || c) && g)
either_passes true c true r e = refl
either_passes true true false r e = e
either_passes true false false r e = e
either_passes false c g r e = e

pub with-lines_for : (p : ℕ → Bool) (at : ℕ → ℕ) (out : ℕ) (cs : List (List Lit)) → some_with p at (lines_for out cs) ≡ (cubes_match at cs && p out)
with-lines_for p at out [] = refl
with-lines_for p at out (c ∷ cs) = either_passes (matches at c) (cubes_match at cs) (p out) (some_with p at (lines_for out cs)) (with-lines_for p at out cs)

is_bare : (o : Option ℕ) → is_none o ≡ true → o ≡ None
is_bare None h = refl
is_bare (Some s) h = absurd (false≢true h)

unit_right : (m g : Bool) → ((m && g) || false) ≡ ((m && true) && g)
unit_right true g = or-false g
unit_right false g = refl

with-line_given : (p : ℕ → Bool) (at : ℕ → ℕ) (outside : List (List Lit)) (inner : Inner) (l : Line) → some_with p at (line_given outside inner l) ≡ ((matches at (cube_without inner.net.0 l.cube) && reached at inner outside (literal_at l.cube inner.net.0)) && p l.out)
unfolding line_given
with-line_given p at outside inner l =
    let n = inner.net.0 in
    let rest = cube_without n l.cube in
    elim (cases_Bool (inner.total && is_none (literal_at l.cube n))) [
      | inl t ↦
          let same : rest ≡ l.cube = without_none n l.cube (is_bare (literal_at l.cube n) (and_parts inner.total (is_none (literal_at l.cube n)) t).1) in
          rw t (unit_right (matches at l.cube) (p l.out) ∙ ap (λ c. (matches at c && true) && p l.out) (sym same))
      | inr f ↦
          rw f
          (with-lines_for p at l.out (flat_map (met rest) (cubes_giving outside inner.cover (literal_at l.cube n)))
          ∙ ap (λ b. b && p l.out) (matches-mets at rest (cubes_giving outside inner.cover (literal_at l.cube n))))
    ]

-- some value of the net that it may have, with which a line of the reader matches and passes
pub record Passes (p : ℕ → Bool) (at : ℕ → ℕ) (inner : Inner) (ls : List Line) : Type 0 where
  pub w : ℕ
  pub is_allowed : allowed inner.cover at w ≡ true
  pub passes : some_with p (changed inner.net.0 w at) ls ≡ true

module _ (counts : List ℕ) (inner : Inner) (is : IsInner counts inner) (outside : List (List Lit)) (at : ℕ → ℕ) (point : IsPoint counts at) (hold : HoldAway at inner outside) (p : ℕ → Bool) where
  line_down : (l : Line) → IsCube l.cube → some_with p at (line_given outside inner l) ≡ true → (w : ℕ) × (allowed inner.cover at w ≡ true) × ((matches (changed inner.net.0 w at) l.cube && p l.out) ≡ true)
  line_down l cube h =
      let n = inner.net.0 in
      let rest = cube_without n l.cube in
      let asked = literal_at l.cube n in
      let q = and_parts (matches at rest && reached at inner outside asked) (p l.out) (sym (with-line_given p at outside inner l) ∙ h) in
      let r = and_parts (matches at rest) (reached at inner outside asked) q.0 in
      let may = reached_down counts inner is outside at point hold asked r.1 in (
        may.w,
        may.is_allowed,
        and_from (matches (changed n may.w at) l.cube) (p l.out) (matches_changed at n may.w l.cube cube ∙ and_from (has_asked asked may.w) (matches at rest) may.wanted r.0) q.1,
      )

  line_up : (l : Line) (w : ℕ) → IsCube l.cube → allowed inner.cover at w ≡ true → (matches (changed inner.net.0 w at) l.cube && p l.out) ≡ true → some_with p at (line_given outside inner l) ≡ true
  line_up l w cube can h =
      let n = inner.net.0 in
      let rest = cube_without n l.cube in
      let asked = literal_at l.cube n in
      let q = and_parts (matches (changed n w at) l.cube) (p l.out) h in
      let r = and_parts (has_asked asked w) (matches at rest) (sym (matches_changed at n w l.cube cube) ∙ q.0) in
      with-line_given p at outside inner l
      ∙ and_from (matches at rest && reached at inner outside asked) (p l.out)
      (and_from (matches at rest) (reached at inner outside asked) r.1 (reached_up counts inner is outside at point hold asked w can r.0)) q.1

  -- what the lines give they give with some value of the net
  pub given_down : (ls : List Line) → All (λ (l : Line). IsCube l.cube) ls → some_with p at (lines_given outside inner ls) ≡ true → Passes p at inner ls
  given_down [] are h = absurd (false≢true h)
  given_down (l ∷ ls) are h =
      let g = λ (m : Line). matches at m.cube && p m.out in
      elim (or_cases (some_with p at (line_given outside inner l)) (some_with p at (lines_given outside inner ls)) (sym (list_any-append g (line_given outside inner l) (lines_given outside inner ls)) ∙ h)) [
        | inl r ↦
            let d = line_down l (All-head (λ (m : Line). IsCube m.cube) l ls are) r in
            record { w = d.0; is_allowed = d.1; passes = or_left (matches (changed inner.net.0 d.0 at) l.cube && p l.out) (some_with p (changed inner.net.0 d.0 at) ls) d.2 }
        | inr r ↦
            let d = given_down ls (All-tail (λ (m : Line). IsCube m.cube) l ls are) r in
            record { w = d.w; is_allowed = d.is_allowed; passes = or_right (matches (changed inner.net.0 d.w at) l.cube && p l.out) (some_with p (changed inner.net.0 d.w at) ls) d.passes }
      ]

  -- and with each value that the net may have
  pub given_up : (ls : List Line) (w : ℕ) → All (λ (l : Line). IsCube l.cube) ls → allowed inner.cover at w ≡ true → some_with p (changed inner.net.0 w at) ls ≡ true → some_with p at (lines_given outside inner ls) ≡ true
  given_up [] w are can h = absurd (false≢true h)
  given_up (l ∷ ls) w are can h =
      let g = λ (m : Line). matches at m.cube && p m.out in
      list_any-append g (line_given outside inner l) (lines_given outside inner ls)
      ∙ elim (or_cases (matches (changed inner.net.0 w at) l.cube && p l.out) (some_with p (changed inner.net.0 w at) ls) h) [
        | inl r ↦ or_left (some_with p at (line_given outside inner l)) (some_with p at (lines_given outside inner ls)) (line_up l w (All-head (λ (m : Line). IsCube m.cube) l ls are) can r)
        | inr r ↦ or_right (some_with p at (line_given outside inner l)) (some_with p at (lines_given outside inner ls)) (given_up ls w (All-tail (λ (m : Line). IsCube m.cube) l ls are) can r)
      ]
