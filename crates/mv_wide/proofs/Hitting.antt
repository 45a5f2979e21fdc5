-- Points that pass a test and are in a set, found by sets of values.
use Rattle.std.proofs.Common.{◌≡◌, ◌∙◌, ℕ, ◌+◌, ◌<◌, ◌≤◌, ◌||◌, Bool, true, false, cond, List, length, get_or, Option, refl, sym, ap, subst, ⊎_elim, arith}
use Rattle.std.specs.Prelude.{MatchBool}
use Rattle.std.specs.Bool.{OnTrue, OnFalse}
use Rattle.std.proofs.lemmas.Bool.{cases_eq, and_parts, eqb-true, eq-eqb, ne_eqb}
use Rattle.std.proofs.Math.Bool.{or-false}
use Rattle.mv_base.specs.Set.{empty, has, join, one}
use Rattle.mv_base.proofs.Sets.{has-empty, has-join, has-one}
use Rattle.mv_base.specs.declared.number.NetId.{NetId}
use Rattle.mv_cover.specs.declared.line.Line.{Line}
use Rattle.mv_diagram.specs.Choices.{AreChoices, Meets, Misses}
use Rattle.mv_diagram.specs.Sets.{Point, InRange}
use Rattle.mv_wide.specs.Choosing.{AreChosen, Hits, and_in, in_line}
use Rattle.mv_wide.proofs.Narrowing.{false_on, true_on}

pub hits_of : (counts sets : List ℕ) (set test : Point → Bool) (r : Bool) → AreChosen counts sets test → OnTrue r (Meets counts sets set)
    → OnFalse r (Misses counts sets set) → MatchBool r (Hits counts set test) (Hits counts set test → ⊥)
hits_of counts sets set test true are some none =
    record { point = some.point; range = some.fits.range; passes = are.only some.point some.fits; is = some.is }
hits_of counts sets set test false are some none = λ hit. none.each hit.point (are.fits hit.point hit.range hit.passes) hit.is

-- the same where the numbers of values and the sets go by other names
pub hits_there : (counts cs sets ss : List ℕ) (set test : Point → Bool) (r : Bool) → cs ≡ counts → ss ≡ sets → AreChosen counts sets test
    → OnTrue r (Meets cs ss set) → OnFalse r (Misses cs ss set) → MatchBool r (Hits counts set test) (Hits counts set test → ⊥)
hits_there counts cs sets ss set test r same is are some none =
    subst (λ (k : List ℕ). MatchBool r (Hits k set test) (Hits k set test → ⊥)) same
    (hits_of cs ss set test r
    (subst (λ (k : List ℕ). AreChosen cs k test) (sym is) (subst (λ (k : List ℕ). AreChosen k sets test) (sym same) are)) some none)

pub choices_there : (counts cs sets ss : List ℕ) (test : Point → Bool) → cs ≡ counts → ss ≡ sets → AreChosen counts sets test → AreChoices cs ss
choices_there counts cs sets ss test same is are =
    subst (λ (k : List ℕ). AreChoices cs k) (sym is) (subst (λ (k : List ℕ). AreChoices k sets) (sym same) are.choices)

-- where no point passes the test none does in the set
pub hits_none : (counts : List ℕ) (set test : Point → Bool) → ((p : Point) → InRange counts p → test p ≡ true → ⊥) → Hits counts set test → ⊥
hits_none counts set test none hit = none hit.point hit.range hit.passes

-- ---- a line and a value of a variable

module _ (counts cs vars vs sets : List ℕ) (left_out : Option NetId) (own : ℕ) (l : Line) (some : Bool) (same : cs ≡ counts) (is : vs ≡ vars)
    (chosen : OnTrue some (AreChosen cs sets (in_line left_out vs own l))) (yes : some ≡ true) where
  pub line_is : AreChosen counts sets (in_line left_out vars own l)
  line_is =
      subst (λ (v : List ℕ). AreChosen counts sets (in_line left_out v own l)) is
      (subst (λ (k : List ℕ). AreChosen k sets (in_line left_out vs own l)) same (true_on some (AreChosen cs sets (in_line left_out vs own l)) chosen yes))

  module _ (var value values : ℕ) (one_is : values ≡ one value) (r : Bool) where
    pub value_some : (new : List ℕ)
        → OnTrue r ((k : List ℕ) (test : Point → Bool) → AreChosen k sets test → AreChosen k new (and_in test var values)) → r ≡ true
        → AreChosen counts new (and_in (in_line left_out vars own l) var (one value))
    value_some new narrowed e =
        subst (λ v. AreChosen counts new (and_in (in_line left_out vars own l) var v)) one_is
        (true_on r ((k : List ℕ) (test : Point → Bool) → AreChosen k sets test → AreChosen k new (and_in test var values)) narrowed e counts
        (in_line left_out vars own l) line_is)

    pub value_none : (set : Point → Bool)
        → OnFalse r ((k : List ℕ) (test : Point → Bool) → AreChosen k sets test → var < length k → (p : Point) → InRange k p → and_in test var values p ≡ true → ⊥)
        → r ≡ false → var < length counts → Hits counts set (and_in (in_line left_out vars own l) var (one value)) → ⊥
    value_none set narrowed e inside =
        hits_none counts set (and_in (in_line left_out vars own l) var (one value)) (λ p range both.
        false_on r ((k : List ℕ) (test : Point → Bool) → AreChosen k sets test → var < length k → (p : Point) → InRange k p → and_in test var values p ≡ true → ⊥)
        narrowed e counts (in_line left_out vars own l) line_is inside p range
        (subst (λ v. and_in (in_line left_out vars own l) var v p ≡ true) (sym one_is) both))

-- ---- the values of a variable with which there is such a point

module _ (counts : List ℕ) (set test : Point → Bool) (var : ℕ) where
  abbrev pub HitsAt : ℕ → Type 0
  HitsAt u = Hits counts set (and_in test var (one u))

  -- the values below a number that a set has are those with which there is one
  abbrev pub AreHit : ℕ → ℕ → Type 0
  AreHit hit value = (u : ℕ) → MatchBool (has hit u) (HitsAt u) (u < value → HitsAt u → ⊥)

  by_value : (b : Bool) (P Q R S : Type 0) → (b ≡ true → P → R) → (b ≡ false → Q → S) → MatchBool b P Q → MatchBool b R S
  by_value true P Q R S f g h = f refl h
  by_value false P Q R S f g h = g refl h

  at_value : (a b : Bool) (P Q : Type 0) → a ≡ b → MatchBool b P Q → MatchBool a P Q
  at_value a b P Q e h = subst (λ x. MatchBool x P Q) (sym e) h

  pub hit_none : AreHit empty 0
  hit_none u = at_value (has empty u) false (HitsAt u) (u < 0 → HitsAt u → ⊥) (has-empty u) (λ low hit. absurd (omega (arith, low)))

  -- one value more, with which there is no point
  pub hit_skip : (hit value : ℕ) → AreHit hit value → (HitsAt value → ⊥) → AreHit hit (value + 1)
  hit_skip hit value are none u =
      by_value (has hit u) (HitsAt u) (u < value → HitsAt u → ⊥) (HitsAt u) (u < value + 1 → HitsAt u → ⊥) (λ e h. h)
      (λ e h low at.
      ⊎_elim (λ (same : u ≡ value). none (subst HitsAt same at)) (λ (apart : u ≡ value → ⊥). h (omega (arith, low, apart)) at) (cases_eq u value))
      (are u)

  -- one with which there is
  pub hit_more : (hit value : ℕ) → AreHit hit value → HitsAt value → AreHit (join hit (one value)) (value + 1)
  hit_more hit value are some u =
      let told : has (join hit (one value)) u ≡ (has hit u || has (one value) u) = has-join hit (one value) u in
      ⊎_elim
      (λ (same : u ≡ value).
      let member : has (one value) u ≡ true = has-one value u ∙ eq-eqb u value same in
      let yes : has (join hit (one value)) u ≡ true = told ∙ ap (λ b. has hit u || b) member ∙ or_true (has hit u) in
      at_value (has (join hit (one value)) u) true (HitsAt u) (u < value + 1 → HitsAt u → ⊥) yes (subst HitsAt (sym same) some))
      (λ (apart : u ≡ value → ⊥).
      let member : has (one value) u ≡ false = has-one value u ∙ ne_eqb u value apart in
      let as_before : has (join hit (one value)) u ≡ has hit u = told ∙ ap (λ b. has hit u || b) member ∙ or-false (has hit u) in
      at_value (has (join hit (one value)) u) (has hit u) (HitsAt u) (u < value + 1 → HitsAt u → ⊥) as_before
      (by_value (has hit u) (HitsAt u) (u < value → HitsAt u → ⊥) (HitsAt u) (u < value + 1 → HitsAt u → ⊥) (λ e h. h)
      (λ e h low at. h (omega (arith, low, apart)) at) (are u)))
      (cases_eq u value)
    where
      or_true : (b : Bool) → (b || true) ≡ true
      or_true true = refl
      or_true false = refl

  pub hit_step : (hit value new : ℕ) (b : Bool) → AreHit hit value → MatchBool b (HitsAt value) (HitsAt value → ⊥)
      → new ≡ cond b (join hit (one value)) hit → AreHit new (value + 1)
  hit_step hit value new true are found is = subst (λ k. AreHit k (value + 1)) (sym is) (hit_more hit value are found)
  hit_step hit value new false are found is = subst (λ k. AreHit k (value + 1)) (sym is) (hit_skip hit value are found)

  -- all values of the variable
  pub hit_all : (hit value : ℕ) → AreHit hit value → var < length counts → get_or counts var 0 ≤ value
      → (u : ℕ) → MatchBool (has hit u) (HitsAt u) (HitsAt u → ⊥)
  hit_all hit value are inside all u =
      by_value (has hit u) (HitsAt u) (u < value → HitsAt u → ⊥) (HitsAt u) (HitsAt u → ⊥) (λ e h. h)
      (λ e h at.
      let parts = and_parts (test at.point) (has (one u) (at.point var)) at.passes in
      let same : at.point var ≡ u = eqb-true (at.point var) u (sym (has-one u (at.point var)) ∙ parts.1) in
      let low = at.range.below var inside in
      h (omega (arith, same, low, all)) at)
      (are u)
