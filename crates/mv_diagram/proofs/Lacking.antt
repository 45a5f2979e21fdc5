-- Where no held diagram has a set: then none has a set of which that one is a part.
use Rattle.std.proofs.Common.{◌≡◌, ℕ, zero, suc, ◌+◌, ◌*◌, ◌<◌, ◌≤◌, Bool, true, List, length, slice_index, Option, Some, None, refl, sym, ap, ◌∙◌, inl, inr, arith}
use Rattle.std.proofs.lemmas.Bool.{cases_eq, cases_lt, cases_order}
use Rattle.mv_base.specs.declared.limits.TheConstants.{MAX_VALUES}
use Rattle.mv_diagram.specs.declared.node.Node.{Node}
use Rattle.mv_diagram.specs.declared.node.Test.{Test}
use Rattle.mv_diagram.specs.Sets.{Point, InRange, SameSet, with_value, greatest, node_at, has_diagram, holds}
use Rattle.mv_diagram.specs.Sound.{order, first, IsTest, IsReduced}
use Rattle.mv_diagram.specs.Works.{IsLacking}
use Rattle.mv_diagram.proofs.Following.{Agree, holds_agree, holds_end, steps, node_is, first-node, first-end, no-later, ended}
use Rattle.mv_diagram.proofs.Points.{beside, beside_there, beside_elsewhere, value_there, Agree-both, Agree-later, InRange-with, InRange-beside, greatest_lt, holds_both, holds_beside, holds_yes, holds_no, holds_no_beside, holds_later, rest_later}
use Rattle.mv_diagram.proofs.Canonical.{tells, test_here}

-- a set that is decided by the tests from one on
pub record Reads (counts : List ℕ) (from : ℕ) (set : Point → Bool) : Type 0 where
  pub each : (p q : Point) → Agree counts from p q → set p ≡ set q

pub Agree-more : (counts : List ℕ) (from more : ℕ) (p q : Point) → from ≤ more → Agree counts from p q → Agree counts more p q
Agree-more counts from more p q less agree = record { each = λ t is later. agree.each t is (omega arith) }

module _ (counts : List ℕ) (ns : List (Option Node)) (s : IsReduced counts ns) where
  pub Reads-diagram : (d from : ℕ) → from ≤ first counts ns d → Reads counts from (λ p. holds counts ns d p)
  Reads-diagram d from later = record { each = λ p q agree. holds_agree counts ns s p q d from later agree }

  -- a diagram with such a set has no earlier test
  pub first_reads : (d from : ℕ) (set : Point → Bool) → from ≤ length counts * MAX_VALUES → SameSet counts (λ p. holds counts ns d p) set → Reads counts from set → from ≤ first counts ns d
  first_reads d from set within same reads = elim (cases_lt (first counts ns d) from) [
    | inr there ↦ there
    | inl less ↦ by (node_at ns d) refl less
  ]
    where
      by : (o : Option Node) → node_at ns d ≡ o → first counts ns d < from → from ≤ first counts ns d
      by None e less = let end = first-end counts ns d e in absurd (omega arith)
      by (Some n) e less =
          let there = first-node counts ns d n e in
          let is = (node_is counts ns s d n e).test in
          let more = is.value in
          let low = greatest_lt counts n.test is in
          absurd (tells counts ns s d n e (λ p range.
          same.each _ (InRange-with counts p n.test.var n.test.value range (omega arith))
          ∙ reads.each _ _ (Agree-more counts (order n.test.var n.test.value + 1) from _ _ (omega arith) (Agree-both counts ns s p n.test.var n.test.value))
          ∙ sym (same.each _ (InRange-with counts p n.test.var (greatest counts n.test.var) range low))))

  -- what a held diagram is at a value of a variable is held
  value_of : (k d var value : ℕ) → steps counts ≤ first counts ns d + k → has_diagram ns d ≡ true → order var 0 ≤ first counts ns d
      → (r : ℕ) × (has_diagram ns r ≡ true) × ((p : Point) → holds counts ns r p ≡ holds counts ns d (with_value p var value))
  value_of zero d var value enough held later = let none = ended counts ns s d (omega arith) in (d, held, λ p. holds_end counts ns d p none ∙ sym (holds_end counts ns d (with_value p var value) none))
  value_of (suc k) d var value enough held later = by (node_at ns d) refl (λ c more hc. value_of k c var value (omega arith) hc (omega arith))
    where
      by : (o : Option Node) → node_at ns d ≡ o
          → ((c : ℕ) → first counts ns d < first counts ns c → has_diagram ns c ≡ true → (r : ℕ) × (has_diagram ns r ≡ true) × ((p : Point) → holds counts ns r p ≡ holds counts ns c (with_value p var value)))
          → (r : ℕ) × (has_diagram ns r ≡ true) × ((p : Point) → holds counts ns r p ≡ holds counts ns d (with_value p var value))
      by None e below = (d, held, λ p. holds_end counts ns d p e ∙ sym (holds_end counts ns d (with_value p var value) e))
      by (Some n) e below = elim (cases_eq n.test.var var) [
        | inl same ↦ elim (cases_eq n.test.value value) [
          | inl at ↦ (n.yes.0, (node_is counts ns s d n e).yes_held, λ p. holds_yes counts ns s d n p e ∙ ap (λ v. holds counts ns d (with_value p v n.test.value)) same ∙ ap (λ x. holds counts ns d (with_value p var x)) at)
          | inr apart ↦
              let r = below n.no.0 (no-later counts ns s d n e) (node_is counts ns s d n e).no_held in (
                r.0,
                r.1,
                λ p. r.2 p ∙ holds_no counts ns s d n (with_value p var value) e (λ h. apart (sym h ∙ value_there p var value n.test.var same)),
              )
        ]
        | inr other ↦ (d, held, λ p. sym (holds_later counts ns s d p var value (rest_later counts ns s d var n e other later)))
      ]

  module _ (d : ℕ) (t : Test) (is : IsTest counts t) (held : has_diagram ns d ≡ true) (later : order t.var t.value ≤ first counts ns d) where
    -- and so is what it is where a test says yes, and where it says no
    yes_of : (r : ℕ) × (has_diagram ns r ≡ true) × ((p : Point) → holds counts ns r p ≡ holds counts ns d (with_value p t.var t.value))
    yes_of = elim (cases_order (order t.var t.value) (first counts ns d)) [
      | inl level ↦
          let here = test_here counts ns s d t is level in
          let n = here.0 in
          (n.yes.0, (node_is counts ns s d n here.1).yes_held, λ p. holds_yes counts ns s d n p here.1 ∙ ap (λ (u : Test). holds counts ns d (with_value p u.var u.value)) here.2)
      | inr other ↦ elim other [
        | inl less ↦
            let r = value_of (steps counts) d t.var (greatest counts t.var) (omega arith) held (omega arith) in
            (r.0, r.1, λ p. r.2 p ∙ sym (holds_both counts ns s d p t.var t.value less))
        | inr more ↦ absurd (omega arith)
      ]
    ]

    no_of : (r : ℕ) × (has_diagram ns r ≡ true) × ((p : Point) → holds counts ns r p ≡ holds counts ns d (beside counts t p))
    no_of = elim (cases_order (order t.var t.value) (first counts ns d)) [
      | inl level ↦
          let here = test_here counts ns s d t is level in
          let n = here.0 in
          (n.no.0, (node_is counts ns s d n here.1).no_held, λ p. holds_no_beside counts ns s d n p here.1 ∙ ap (λ (u : Test). holds counts ns d (beside counts u p)) here.2)
      | inr other ↦ elim other [
        | inl less ↦ (d, held, λ p. sym (holds_beside counts ns s d t p less))
        | inr more ↦ absurd (omega arith)
      ]
    ]

  module _ (t : Test) (is : IsTest counts t) (set : Point → Bool) (reads : Reads counts (order t.var t.value) set) where
    within : order t.var t.value ≤ length counts * MAX_VALUES
    within = let low = is.value in let few = s.values.few t.var is.variable in let inside = is.variable in omega arith

    pub lacking_yes : IsLacking counts ns (λ p. set (with_value p t.var t.value)) → IsLacking counts ns set
    lacking_yes lacking = record {
      none = λ d held same.
          let r = yes_of d t is held (first_reads d (order t.var t.value) set within same reads) in
          let more = is.value in
          lacking.none r.0 r.1 (record { each = λ p range. r.2 p ∙ same.each _ (InRange-with counts p t.var t.value range (omega arith)) });
    }

    pub lacking_no : IsLacking counts ns (λ p. set (beside counts t p)) → IsLacking counts ns set
    lacking_no lacking = record {
      none = λ d held same.
          let r = no_of d t is held (first_reads d (order t.var t.value) set within same reads) in
          lacking.none r.0 r.1 (record { each = λ p range. r.2 p ∙ same.each _ (InRange-beside counts t is p range) });
    }

  -- where no diagram has what a set is at a value of a variable, none has the set
  pub lacking_value : (var value : ℕ) → var < length counts → value < slice_index counts var → (set : Point → Bool) → Reads counts (order var 0) set → IsLacking counts ns (λ p. set (with_value p var value)) → IsLacking counts ns set
  lacking_value var value inside below set reads lacking = record {
    none = λ d held same.
        let r = value_of (steps counts) d var value (omega arith) held (first_reads d (order var 0) set (omega arith) same reads) in
        lacking.none r.0 r.1 (record { each = λ p range. r.2 p ∙ same.each _ (InRange-with counts p var value range below) });
  }

  -- the same set in other words
  pub lacking_within : (a b : Point → Bool) → ((p : Point) → InRange counts p → a p ≡ b p) → IsLacking counts ns a → IsLacking counts ns b
  lacking_within a b alike lacking = record { none = λ d held same. lacking.none d held (record { each = λ p range. same.each p range ∙ sym (alike p range) }) }

  pub lacking_same : (a b : Point → Bool) → ((p : Point) → a p ≡ b p) → IsLacking counts ns a → IsLacking counts ns b
  lacking_same a b alike lacking = lacking_within a b (λ p range. alike p) lacking

  -- a set of later tests doesn't see the variable
  pub reads_later : (z : Point → Bool) (p : Point) (var value : ℕ) → Reads counts (order (var + 1) 0) z → z (with_value p var value) ≡ z p
  reads_later z p var value reads = reads.each (with_value p var value) p (Agree-later counts ns s p var value)

  pub reads_beside : (z : Point → Bool) (p : Point) (t : Test) → Reads counts (order (t.var + 1) 0) z → z (beside counts t p) ≡ z p
  reads_beside z p t reads = elim (cases_eq (p t.var) t.value) [
    | inl same ↦ ap z (beside_there counts t p same) ∙ reads_later z p t.var (greatest counts t.var) reads
    | inr apart ↦ ap z (beside_elsewhere counts t p apart)
  ]
