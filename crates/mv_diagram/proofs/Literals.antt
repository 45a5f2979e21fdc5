-- The set of a literal, as it is made from its last test to its first.
use Rattle.std.proofs.Common.{◌≡◌, ℕ, zero, suc, add-one, ◌+◌, ◌-◌, ◌*◌, ◌<◌, ◌≤◌, ◌==◌, ◌&&◌, Bool, true, false, List, length, Option, slice_index, nat_le, nat_lt, if◌then◌else◌, refl, sym, ap, ◌∙◌, inl, inr, arith}
use Rattle.std.proofs.lemmas.Bool.{cases_eq, cases_lt, eq-eqb, ne_eqb, eqb-true, and_from, and_left, and_right, le-leb, lt-leb, lt-ltb, le-ltb}
use Rattle.mv_base.specs.declared.limits.TheConstants.{MAX_VALUES}
use Rattle.mv_base.specs.Set.{has}
use Rattle.mv_diagram.specs.declared.node.Node.{Node}
use Rattle.mv_diagram.specs.declared.node.Test.{Test}
use Rattle.mv_diagram.specs.Sets.{Point, greatest, has_diagram, holds}
use Rattle.mv_diagram.specs.Sound.{order, first, IsTest, IsReduced}
use Rattle.mv_diagram.specs.Works.{IsLacking}
use Rattle.mv_diagram.proofs.Following.{Agree, first-end, holds_end}
use Rattle.mv_diagram.proofs.Points.{beside, beside_there, beside_elsewhere, value_there}
use Rattle.mv_diagram.proofs.Growing.{no_node, held_low}
use Rattle.mv_diagram.proofs.Lacking.{Reads, Agree-more, lacking_no, lacking_same, lacking_within, reads_beside}
use Rattle.mv_diagram.proofs.Applying.{both_same}
use Rattle.mv_diagram.specs.declared.memo.Operation.TheVariants.{And}

-- the value that tests from some value on see: no test is of the greatest
unfoldable pub seen : ℕ → ℕ → ℕ → ℕ
seen count low v = if nat_le low v && nat_lt v (count - 1) then v else count - 1

pub seen_there : (count low v : ℕ) → low ≤ v → v < count - 1 → seen count low v ≡ v
unfolding seen
seen_there count low v above below = ap (λ b. if b then v else count - 1) (and_from (nat_le low v) (nat_lt v (count - 1)) (le-leb low v above) (lt-ltb v (count - 1) below))

pub seen_below : (count low v : ℕ) → v < low → seen count low v ≡ count - 1
unfolding seen
seen_below count low v less = ap (λ b. if b then v else count - 1) (and_left (nat_le low v) (nat_lt v (count - 1)) (lt-leb low v less))

pub seen_past : (count low v : ℕ) → count - 1 ≤ v → seen count low v ≡ count - 1
unfolding seen
seen_past count low v more = ap (λ b. if b then v else count - 1) (and_right (nat_le low v) (nat_lt v (count - 1)) (le-ltb v (count - 1) more))

-- all tests see each value
pub seen_all : (count v : ℕ) → v < count → seen count 0 v ≡ v
seen_all count v less = elim (cases_lt v (count - 1)) [
  | inl below ↦ seen_there count 0 v (omega arith) below
  | inr more ↦ let past = seen_past count 0 v more in omega arith
]

-- one test more sees one value more
pub seen_more : (count low v : ℕ) → (v ≡ low → ⊥) → seen count low v ≡ seen count (low + 1) v
seen_more count low v apart = elim (cases_lt v (count - 1)) [
  | inr more ↦ seen_past count low v more ∙ sym (seen_past count (low + 1) v more)
  | inl below ↦ elim (cases_lt v low) [
    | inl less ↦ seen_below count low v less ∙ sym (seen_below count (low + 1) v (omega arith))
    | inr above ↦ elim (cases_eq v low) [
      | inl same ↦ absurd (apart same)
      | inr other ↦ seen_there count low v above below ∙ sym (seen_there count (low + 1) v (omega arith) below)
    ]
  ]
]

-- the literal as tests from some value on see it
abbrev pub literal_from : List ℕ → ℕ → ℕ → ℕ → Point → Bool
literal_from counts var set low p = has set (seen (slice_index counts var) low (p var))

-- the points of a set with such a literal
abbrev pub limited : List ℕ → ℕ → ℕ → ℕ → (Point → Bool) → Point → Bool
limited counts var set low z p = literal_from counts var set low p && z p

-- zero or one, by whether it has all points
pub record IsEnd (counts : List ℕ) (ns : List (Option Node)) (b : Bool) (d : ℕ) : Type 0 where
  pub held : has_diagram ns d ≡ true
  pub last : first counts ns d ≡ length counts * MAX_VALUES
  pub all : (p : Point) → holds counts ns d p ≡ b

pub end_of : (counts : List ℕ) (ns : List (Option Node)) (b : Bool) (d : ℕ) → d ≡ (if b then 1 else 0) → IsEnd counts ns b d
end_of counts ns b d e = record {
  held = held_low ns d (low b e);
  last = first-end counts ns d (no_node ns d (low b e));
  all = λ p. holds_end counts ns d p (no_node ns d (low b e)) ∙ one b e;
}
  where
    low : (b : Bool) → d ≡ (if b then 1 else 0) → d < 2
    low true e = omega arith
    low false e = omega arith

    one : (b : Bool) → d ≡ (if b then 1 else 0) → (d == 1) ≡ b
    one true e = ap (λ n. n == 1) e
    one false e = ap (λ n. n == 1) e

-- the last test sees the greatest value alone
pub literal_last : (counts : List ℕ) (var set low : ℕ) (p : Point) → low ≡ slice_index counts var - 1 → has set low ≡ literal_from counts var set low p
literal_last counts var set low p e = ap (has set) (elim (cases_lt (p var) low) [
  | inl less ↦ e ∙ sym (seen_below (slice_index counts var) low (p var) less)
  | inr more ↦ e ∙ sym (seen_past (slice_index counts var) low (p var) (omega arith))
])

module _ (counts : List ℕ) (ns : List (Option Node)) (s : IsReduced counts ns) (var set : ℕ) (variable : var < length counts) where
  -- a test more
  pub literal_step : (z : Bool) (low : ℕ) (p : Point) (y n : Bool) → low + 1 < slice_index counts var → y ≡ (has set low && z) → n ≡ (literal_from counts var set (low + 1) p && z)
      → (if p var == low then y else n) ≡ (literal_from counts var set low p && z)
  literal_step z low p y n below ey en = elim (cases_eq (p var) low) [
    | inl same ↦ ap (λ b. if b then y else n) (eq-eqb _ _ same) ∙ ey ∙ ap (λ v. has set v && z) (sym (seen_there (slice_index counts var) low low (omega arith) (omega arith)) ∙ ap (seen (slice_index counts var) low) (sym same))
    | inr other ↦ ap (λ b. if b then y else n) (ne_eqb _ _ other) ∙ en ∙ ap (λ v. has set v && z) (sym (seen_more (slice_index counts var) low (p var) other))
  ]

  literal_reads : (low : ℕ) → low + 1 < slice_index counts var → Reads counts (order var low) (literal_from counts var set low)
  literal_reads low below = record { each = λ p q agree. ap (has set) (same p q agree) }
    where
      count : ℕ
      count = slice_index counts var

      one_way : (p q : Point) → Agree counts (order var low) p q → low ≤ p var → p var < slice_index counts var - 1 → p var ≡ q var
      one_way p q agree above less =
          let few = s.values.few var variable in
          let test : Test = record { var = var; value = p var } in
          let is : IsTest counts test = record { variable = variable; value = omega arith } in
          sym (eqb-true _ _ (sym (agree.each test is (omega arith)) ∙ eq-eqb (p var) (p var) refl))

      other_way : (p q : Point) → Agree counts (order var low) p q → Agree counts (order var low) q p
      other_way p q agree = record { each = λ t is later. sym (agree.each t is later) }

      hidden : (q : Point) → ((low ≤ q var) → (q var < slice_index counts var - 1) → ⊥) → seen (slice_index counts var) low (q var) ≡ slice_index counts var - 1
      hidden q never = elim (cases_lt (q var) low) [
        | inl less ↦ seen_below (slice_index counts var) low (q var) less
        | inr above ↦ elim (cases_lt (q var) (slice_index counts var - 1)) [
          | inl less ↦ absurd (never above less)
          | inr more ↦ seen_past (slice_index counts var) low (q var) more
        ]
      ]

      same : (p q : Point) → Agree counts (order var low) p q → seen (slice_index counts var) low (p var) ≡ seen (slice_index counts var) low (q var)
      same p q agree = elim (cases_lt (p var) low) [
        | inl less ↦ seen_below (slice_index counts var) low (p var) less ∙ sym (hidden q (λ above small. let e = one_way q p (other_way p q agree) above small in omega arith))
        | inr above ↦ elim (cases_lt (p var) (slice_index counts var - 1)) [
          | inl less ↦ ap (seen (slice_index counts var) low) (one_way p q agree above less)
          | inr more ↦ seen_past (slice_index counts var) low (p var) more ∙ sym (hidden q (λ up small. let e = one_way q p (other_way p q agree) up small in omega arith))
        ]
      ]

  -- the literal that the later tests see is what the whole is where the test says no
  pub literal_past : (low : ℕ) (p : Point) → seen (slice_index counts var) (low + 1) (p var) ≡ seen (slice_index counts var) low (beside counts (record { var = var; value = low }) p var)
  literal_past low p = elim (cases_eq (p var) low) [
    | inl same ↦
        let there = ap (λ (q : Point). q var) (beside_there counts (record { var = var; value = low }) p same) ∙ value_there p var (greatest counts var) var refl in
        seen_below (slice_index counts var) (low + 1) (p var) (omega arith)
        ∙ sym (seen_past (slice_index counts var) low (greatest counts var) (omega arith))
        ∙ ap (seen (slice_index counts var) low) (sym there)
    | inr other ↦
        sym (seen_more (slice_index counts var) low (p var) other)
        ∙ ap (λ (q : Point). seen (slice_index counts var) low (q var)) (sym (beside_elsewhere counts (record { var = var; value = low }) p other))
  ]

  module _ (z : Point → Bool) (behind : Reads counts (order (var + 1) 0) z) where
    pub limited_reads : (low : ℕ) → low + 1 < slice_index counts var → Reads counts (order var low) (limited counts var set low z)
    limited_reads low below = let few = s.values.few var variable in record {
      each = λ p q agree. both_same And _ _ _ _ ((literal_reads low below).each p q agree) (behind.each p q (Agree-more counts (order var low) (order (var + 1) 0) p q (omega arith) agree));
    }

    pub limited_past : (low : ℕ) (p : Point) → limited counts var set (low + 1) z p ≡ limited counts var set low z (beside counts (record { var = var; value = low }) p)
    limited_past low p = both_same And _ _ _ _ (ap (has set) (literal_past low p)) (sym (reads_beside counts ns s z p (record { var = var; value = low }) behind))

    -- where no diagram has the points that the later tests see, none has the whole
    lacking_more : (low : ℕ) → low + 1 < slice_index counts var → IsLacking counts ns (limited counts var set (low + 1) z) → IsLacking counts ns (limited counts var set low z)
    lacking_more low below lacking =
        lacking_no counts ns s (record { var = var; value = low }) (record { variable = variable; value = below }) (limited counts var set low z) (limited_reads low below)
        (lacking_same counts ns s _ _ (limited_past low) lacking)

    pub lacking_literal : (low : ℕ) → low < slice_index counts var → IsLacking counts ns (limited counts var set low z) → IsLacking counts ns (λ p. has set (p var) && z p)
    lacking_literal zero below lacking = lacking_within counts ns s _ _ (λ p range. ap (λ v. has set v && z p) (seen_all (slice_index counts var) (p var) (range.below var variable))) lacking
    lacking_literal (suc low) below lacking = lacking_literal low (omega arith) (lacking_more low (omega arith) (rw add-one lacking))
