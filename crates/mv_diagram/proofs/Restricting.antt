-- Restrictions of a set, and of what it is where a test says yes or no.
use Rattle.std.proofs.Common.{◌≡◌, ℕ, ◌+◌, ◌<◌, ◌≤◌, ◌==◌, ◌&&◌, ◌⊎◌, Bool, true, false, List, nat_lt, max, slice_index, if◌then◌else◌, refl, sym, ap, ◌∙◌, inl, inr, arith}
use Rattle.std.proofs.lemmas.Bool.{cases_Bool, cases_eq, cases_lt, cases_order, eq-eqb, ne_eqb, lt-ltb, le-ltb, ltb-false, and_from, and_left, and_right, or_from, or_left, or_right, or_parts}
use Rattle.mv_diagram.specs.declared.node.Test.{Test}
use Rattle.mv_diagram.specs.Sets.{Point, InRange, with_value, greatest}
use Rattle.mv_diagram.specs.Sound.{order, IsTest, AreCounts}
use Rattle.mv_diagram.specs.Parts.{is_given, restricted, no_variable, IsRestriction}
use Rattle.mv_diagram.proofs.Points.{beside, beside_there, beside_elsewhere, value_there, value_elsewhere, InRange-with, InRange-beside, value-lt_greatest}
use Rattle.mv_diagram.proofs.Canonical.{nowhere}
use Rattle.mv_diagram.proofs.Lacking.{Reads}

module _ (counts : List ℕ) (chosen : ℕ → Bool) (given : Point) (var below : ℕ) (p : Point) where
  pub restricted_given : (v : ℕ) → is_given chosen var v ≡ true → restricted counts chosen given var below p v ≡ given v
  restricted_given v is = ap (λ b. if b then given v else (if v == var && nat_lt (p v) below then greatest counts v else p v)) is

  pub restricted_free : (v : ℕ) → is_given chosen var v ≡ false → restricted counts chosen given var below p v ≡ (if v == var && nat_lt (p v) below then greatest counts v else p v)
  restricted_free v free = ap (λ b. if b then given v else (if v == var && nat_lt (p v) below then greatest counts v else p v)) free

  pub restricted_low : (v : ℕ) → is_given chosen var v ≡ false → v ≡ var → p v < below → restricted counts chosen given var below p v ≡ greatest counts v
  restricted_low v free same less = restricted_free v free ∙ ap (λ b. if b then greatest counts v else p v) (and_from (v == var) (nat_lt (p v) below) (eq-eqb v var same) (lt-ltb (p v) below less))

  pub restricted_high : (v : ℕ) → is_given chosen var v ≡ false → below ≤ p v → restricted counts chosen given var below p v ≡ p v
  restricted_high v free high = restricted_free v free ∙ ap (λ b. if b then greatest counts v else p v) (and_right (v == var) (nat_lt (p v) below) (le-ltb (p v) below high))

  pub restricted_other : (v : ℕ) → is_given chosen var v ≡ false → (v ≡ var → ⊥) → restricted counts chosen given var below p v ≡ p v
  restricted_other v free other = restricted_free v free ∙ ap (λ b. if b then greatest counts v else p v) (and_left (v == var) (nat_lt (p v) below) (ne_eqb v var other))

  -- behind the variable, or at it where no value is read as the greatest
  pub restricted_behind : (v : ℕ) → var ≤ v → (v ≡ var → below ≡ 0) → restricted counts chosen given var below p v ≡ (if chosen v then given v else p v)
  restricted_behind v after none = elim (cases_Bool (chosen v)) [
    | inl is ↦ restricted_given v (or_left (chosen v) (nat_lt v var) is) ∙ sym (ap (λ b. if b then given v else p v) is)
    | inr not ↦ let free = or_from (chosen v) (nat_lt v var) not (le-ltb v var after) in elim (cases_eq v var) [
      | inl same ↦ let zero = none same in restricted_high v free (omega arith)
      | inr other ↦ restricted_other v free other
    ] ∙ sym (ap (λ b. if b then given v else p v) not)
  ]

  -- a restricted point has values of the variables
  pub InRange-restricted : AreCounts counts → InRange counts given → InRange counts p → InRange counts (restricted counts chosen given var below p)
  InRange-restricted are gr pr = record {
    below = λ v within. let some = are.some v within in let g = gr.below v within in let q = pr.below v within in elim (cases_Bool (is_given chosen var v)) [
      | inl is' ↦ let is = restricted_given v is' in omega arith
      | inr free ↦ elim (cases_lt (p v) below) [
        | inr high ↦ let is = restricted_high v free high in omega arith
        | inl low ↦ elim (cases_eq v var) [
          | inl same ↦ let is = restricted_low v free same low in omega arith
          | inr other ↦ let is = restricted_other v free other in omega arith
        ]
      ]
    ];
  }

-- elsewhere the point beside a test is the point
beside_other : (counts : List ℕ) (t : Test) (q : Point) (v : ℕ) → (v ≡ t.var → ⊥) → beside counts t q v ≡ q v
beside_other counts t q v other = elim (cases_eq (q t.var) t.value) [
  | inl same ↦ ap (λ (x : Point). x v) (beside_there counts t q same) ∙ value_elsewhere q t.var (greatest counts t.var) v other
  | inr apart ↦ ap (λ (x : Point). x v) (beside_elsewhere counts t q apart)
]

-- and at the variable of the test it goes by the value there
beside_same : (counts : List ℕ) (t : Test) (q r : Point) → q t.var ≡ r t.var → beside counts t q t.var ≡ beside counts t r t.var
beside_same counts t q r e = elim (cases_eq (q t.var) t.value) [
  | inl same ↦ ap (λ (x : Point). x t.var) (beside_there counts t q same) ∙ value_there q t.var (greatest counts t.var) t.var refl
      ∙ sym (ap (λ (x : Point). x t.var) (beside_there counts t r (sym e ∙ same)) ∙ value_there r t.var (greatest counts t.var) t.var refl)
  | inr apart ↦ ap (λ (x : Point). x t.var) (beside_elsewhere counts t q apart) ∙ e ∙ sym (ap (λ (x : Point). x t.var) (beside_elsewhere counts t r (λ same. apart (e ∙ same))))
]

free_after : (chosen : ℕ → Bool) (var v : ℕ) → is_given chosen var v ≡ false → var ≤ v
free_after chosen var v free = ltb-false v var (or_parts (chosen v) (nat_lt v var) free).1

alike : (l r n : ℕ) → (l ≡ r) ⊎ ((l ≡ n → ⊥) × (r ≡ n → ⊥)) → (l == n) ≡ (r == n)
alike l r n h = elim h [ inl same ↦ ap (λ x. x == n) same | inr both ↦ ne_eqb l n both.0 ∙ sym (ne_eqb r n both.1) ]

module _ (counts : List ℕ) (are : AreCounts counts) where
  -- a set is a restriction of itself
  pub restriction_whole : (whole : Point → Bool) → Reads counts 0 whole → IsRestriction counts no_variable whole whole
  unfolding nowhere
  restriction_whole whole reads = record {
    given = nowhere;
    var = 0;
    below = 0;
    range = record { below = λ v within. are.some v within };
    is = λ p range. reads.each p (restricted counts no_variable nowhere 0 0 p) (record { each = λ t is later. ap (λ x. x == t.value) (sym (restricted_behind counts no_variable nowhere 0 0 p t.var (omega arith) (λ same. refl))) });
  }

  -- the same sets in other words
  pub restriction_same : (chosen : ℕ → Bool) (whole whole' part part' : Point → Bool) → ((p : Point) → InRange counts p → whole p ≡ whole' p) → ((p : Point) → part p ≡ part' p) → IsRestriction counts chosen whole part → IsRestriction counts chosen whole' part'
  restriction_same chosen whole whole' part part' w e r = record {
    given = r.given;
    var = r.var;
    below = r.below;
    range = r.range;
    is = λ p range. sym (e p) ∙ r.is p range ∙ w (restricted counts chosen r.given r.var r.below p) (InRange-restricted counts chosen r.given r.var r.below p are r.range range);
  }

  -- at another variable another value of this one is not seen
  elsewhere : (chosen : ℕ → Bool) (g h p : Point) (var below v : ℕ) → h v ≡ g v → restricted counts chosen g var below p v ≡ restricted counts chosen h var below p v
  elsewhere chosen g h p var below v same = ap (λ x. if is_given chosen var v then x else (if v == var && nat_lt (p v) below then greatest counts v else p v)) (sym same)

  module _ (chosen : ℕ → Bool) (var value : ℕ) (within : value < slice_index counts var) (whole : Point → Bool) (reads : Reads counts (order var 0) whole) where
    -- points with the same values from this variable on
    same_at : (x y : Point) → ((v : ℕ) → var ≤ v → x v ≡ y v) → whole x ≡ whole y
    same_at x y same = reads.each x y (record {
      each = λ u iu later. let low = iu.value in let few = are.few u.var iu.variable in ap (λ z. z == u.value) (same u.var (omega arith));
    })

    -- a restriction of what the set is at a value of a variable
    pub restriction_value : (part : Point → Bool) → IsRestriction counts chosen (λ p. whole (with_value p var value)) part → IsRestriction counts chosen whole part
    restriction_value part r = elim (cases_Bool (is_given chosen r.var var)) [
      | inl fixed ↦ record {
        given = with_value r.given var value;
        var = r.var;
        below = r.below;
        range = InRange-with counts r.given var value r.range within;
        is = λ p range. r.is p range ∙ same_at _ _ (λ v from. elim (cases_eq v var) [
          | inl same ↦
              value_there (restricted counts chosen r.given r.var r.below p) var value v same
              ∙ sym (restricted_given counts chosen (with_value r.given var value) r.var r.below p v (ap (is_given chosen r.var) same ∙ fixed) ∙ value_there r.given var value v same)
          | inr other ↦
              value_elsewhere (restricted counts chosen r.given r.var r.below p) var value v other
              ∙ elsewhere chosen r.given (with_value r.given var value) p r.var r.below v (value_elsewhere r.given var value v other)
        ]);
      }
      | inr free ↦ record {
        given = with_value r.given var value;
        var = var + 1;
        below = 0;
        range = InRange-with counts r.given var value r.range within;
        is = λ p range. r.is p range ∙ same_at _ _ (λ v from. let before = free_after chosen r.var var free in elim (cases_eq v var) [
          | inl same ↦
              value_there (restricted counts chosen r.given r.var r.below p) var value v same
              ∙ sym (restricted_given counts chosen (with_value r.given var value) (var + 1) 0 p v (or_right (chosen v) (nat_lt v (var + 1)) (lt-ltb v (var + 1) (omega arith))) ∙ value_there r.given var value v same)
          | inr other ↦
              value_elsewhere (restricted counts chosen r.given r.var r.below p) var value v other
              ∙ restricted_behind counts chosen r.given r.var r.below p v (omega arith) (λ same. absurd (omega arith))
              ∙ ap (λ x. if chosen v then x else p v) (sym (value_elsewhere r.given var value v other))
              ∙ sym (restricted_behind counts chosen (with_value r.given var value) (var + 1) 0 p v (omega arith) (λ same. refl))
        ]);
      }
    ]

  module _ (chosen : ℕ → Bool) (t : Test) (is : IsTest counts t) (whole : Point → Bool) (reads : Reads counts (order t.var t.value) whole) where
    -- a test from this one on is of this variable, or of a later one
    from_here : (u : Test) → IsTest counts u → order t.var t.value ≤ order u.var u.value → ((u.var ≡ t.var) × (t.value ≤ u.value)) ⊎ (t.var < u.var)
    from_here u iu later =
        let low = is.value in
        let few = are.few t.var is.variable in
        let low' = iu.value in
        let few' = are.few u.var iu.variable in
        elim (cases_order u.var t.var) [
          | inl same ↦ inl (same, omega arith)
          | inr other ↦ elim other [ inl less ↦ absurd (omega arith) | inr more ↦ inr more ]
        ]

    -- points with the same values from this variable on
    same_from : (x y : Point) → ((v : ℕ) → t.var ≤ v → x v ≡ y v) → whole x ≡ whole y
    same_from x y same = reads.each x y (record {
      each = λ u iu later. elim (from_here u iu later) [
        | inl at ↦ ap (λ z. z == u.value) (same u.var (omega arith))
        | inr more ↦ ap (λ z. z == u.value) (same u.var (omega arith))
      ];
    })

    -- a restriction of what the set is where the test says yes
    pub restriction_yes : (part : Point → Bool) → IsRestriction counts chosen (λ p. whole (with_value p t.var t.value)) part → IsRestriction counts chosen whole part
    restriction_yes part r =
        let more = is.value in
        restriction_value chosen t.var t.value (omega arith) whole (record { each = λ p q agree. reads.each p q (record { each = λ u iu later. agree.each u iu (omega arith) }) }) part r

    -- at this variable, where the values below a number are the greatest already
    at_variable : (x given p : Point) (below n : ℕ) → chosen t.var ≡ false → t.value ≤ n → n < greatest counts t.var
        → ((p t.var < below) × (x t.var ≡ greatest counts t.var)) ⊎ ((below ≤ p t.var) × (x t.var ≡ p t.var))
        → (beside counts t x t.var == n) ≡ (restricted counts chosen given t.var (max below (t.value + 1)) p t.var == n)
    at_variable x given p below n out from less seen = alike _ _ n (elim seen [
      | inl low ↦ inl (plain (λ at. let up = value-lt_greatest counts t is in let e = low.1 in absurd (omega arith)) ∙ low.1 ∙ sym (lower (omega (arith, low.0))))
      | inr high ↦ elim (cases_order (p t.var) t.value) [
        | inl same ↦ inl (changed (high.1 ∙ same) ∙ sym (lower (omega arith)))
        | inr other ↦ elim other [
          | inl under ↦
              let l = plain (λ at. let e = high.1 in absurd (omega arith)) ∙ high.1 in
              let r = lower (omega arith) in
              inr ((λ at. absurd (omega arith)), (λ at. absurd (omega arith)))
          | inr over ↦ inl (plain (λ at. let e = high.1 in absurd (omega arith)) ∙ high.1 ∙ sym (restricted_high counts chosen given t.var (max below (t.value + 1)) p t.var here (let h = high.0 in omega arith)))
        ]
      ]
    ])
      where
        here : is_given chosen t.var t.var ≡ false
        here = or_from (chosen t.var) (nat_lt t.var t.var) out (le-ltb t.var t.var (omega arith))

        plain : (x t.var ≡ t.value → ⊥) → beside counts t x t.var ≡ x t.var
        plain apart = ap (λ (q : Point). q t.var) (beside_elsewhere counts t x apart)

        changed : x t.var ≡ t.value → beside counts t x t.var ≡ greatest counts t.var
        changed at = ap (λ (q : Point). q t.var) (beside_there counts t x at) ∙ value_there x t.var (greatest counts t.var) t.var refl

        lower : p t.var < max below (t.value + 1) → restricted counts chosen given t.var (max below (t.value + 1)) p t.var ≡ greatest counts t.var
        lower less = restricted_low counts chosen given t.var (max below (t.value + 1)) p t.var here refl less

    -- a restriction of what the set is where the test says no, of this variable or earlier ones
    no_earlier : (part : Point → Bool) (r : IsRestriction counts chosen (λ p. whole (beside counts t p)) part) (below : ℕ) → chosen t.var ≡ false → r.var ≤ t.var
        → ((p : Point) → ((p t.var < below) × (restricted counts chosen r.given r.var r.below p t.var ≡ greatest counts t.var)) ⊎ ((below ≤ p t.var) × (restricted counts chosen r.given r.var r.below p t.var ≡ p t.var)))
        → IsRestriction counts chosen whole part
    no_earlier part r below out before seen = record {
      given = r.given;
      var = t.var;
      below = max below (t.value + 1);
      range = r.range;
      is = λ p range. r.is p range ∙ reads.each _ _ (record {
        each = λ u iu later. elim (from_here u iu later) [
          | inl at ↦
              let x : Point = restricted counts chosen r.given r.var r.below p in
              let small = iu.value in
              let same = ap (slice_index counts) at.0 in
              ap (λ v. beside counts t x v == u.value) at.0
              ∙ at_variable x r.given p below u.value out at.1 (omega arith) (seen p)
              ∙ ap (λ v. restricted counts chosen r.given t.var (max below (t.value + 1)) p v == u.value) (sym at.0)
          | inr more ↦ ap (λ z. z == u.value)
              (beside_other counts t (restricted counts chosen r.given r.var r.below p) u.var (λ same. absurd (omega arith))
              ∙ restricted_behind counts chosen r.given r.var r.below p u.var (omega arith) (λ same. absurd (omega arith))
              ∙ sym (restricted_behind counts chosen r.given t.var (max below (t.value + 1)) p u.var (omega arith) (λ same. absurd (omega arith))))
        ];
      });
    }

    -- a restriction of what the set is where the test says no
    pub restriction_no : (part : Point → Bool) → IsRestriction counts chosen (λ p. whole (beside counts t p)) part → IsRestriction counts chosen whole part
    restriction_no part r = elim (cases_Bool (is_given chosen r.var t.var)) [
      | inl fixed ↦ record {
        given = beside counts t r.given;
        var = r.var;
        below = r.below;
        range = InRange-beside counts t is r.given r.range;
        is = λ p range. r.is p range ∙ same_from _ _ (λ v from. elim (cases_eq v t.var) [
          | inl same ↦
              ap (beside counts t (restricted counts chosen r.given r.var r.below p)) same
              ∙ beside_same counts t (restricted counts chosen r.given r.var r.below p) r.given (restricted_given counts chosen r.given r.var r.below p t.var fixed)
              ∙ ap (beside counts t r.given) (sym same)
              ∙ sym (restricted_given counts chosen (beside counts t r.given) r.var r.below p v (ap (is_given chosen r.var) same ∙ fixed))
          | inr apart ↦
              beside_other counts t (restricted counts chosen r.given r.var r.below p) v apart
              ∙ elsewhere chosen r.given (beside counts t r.given) p r.var r.below v (beside_other counts t r.given v apart)
        ]);
      }
      | inr free ↦ let out = (or_parts (chosen t.var) (nat_lt t.var r.var) free).0 in let before = free_after chosen r.var t.var free in elim (cases_eq r.var t.var) [
        | inl same ↦ no_earlier part r r.below out before (λ p. elim (cases_lt (p t.var) r.below) [
          | inl low ↦ inl (low, restricted_low counts chosen r.given r.var r.below p t.var free (sym same) low)
          | inr high ↦ inr (high, restricted_high counts chosen r.given r.var r.below p t.var free high)
        ])
        | inr other ↦ no_earlier part r 0 out before (λ p. inr (omega arith, restricted_other counts chosen r.given r.var r.below p t.var free (λ same. other (sym same))))
      ]
    ]
