-- Points of diagrams that fit.
use Rattle.std.proofs.Common.{◌≡◌, ℕ, ◌+◌, ◌-◌, ◌*◌, ◌<◌, ◌≤◌, ◌==◌, ◌&&◌, Bool, true, false, not, List, length, slice_index, Option, Some, None, is_some, refl, sym, ap, subst, ◌∙◌, inl, inr, true≢false, arith}
use Rattle.std.specs.Bool.{OnTrue, OnFalse}
use Rattle.std.proofs.lemmas.Bool.{cases_Bool, cases_eq, cases_lt, eq-eqb, ne_eqb, and_parts}
use Rattle.std.proofs.Math.Bool.{and-false, and-true}
use Rattle.std.proofs.Math.ListN.{set}
use Rattle.std.proofs.lemmas.List.{get_or-set_other, length-set}
use Rattle.mv_base.specs.declared.limits.TheConstants.{MAX_VALUES}
use Rattle.mv_base.specs.Set.{empty, has, one, minus}
use Rattle.mv_base.proofs.Sets.{has-empty, has-one, has-minus}
use Rattle.mv_pool.specs.Walks.{mark}
use Rattle.mv_pool.specs.declared.pool.Id.{Id}
use Rattle.mv_pool.proofs.Positions.{passes_within}
use Rattle.mv_diagram.specs.declared.node.Dd.{Dd}
use Rattle.mv_diagram.specs.declared.node.Node.{Node}
use Rattle.mv_diagram.specs.Choices.{AreChoices, AreMissed, Fits, IsMarkedAt, LeadsTo, MarksAt, Meets, Misses, TestsFirst, set_at}
use Rattle.mv_diagram.specs.Links.{place_of}
use Rattle.mv_diagram.specs.Roots.{IsPlaceBelow}
use Rattle.mv_diagram.specs.Sets.{Point, with_value, has_diagram, holds, node_at}
use Rattle.mv_diagram.specs.Sound.{first, order, IsReduced}
use Rattle.mv_diagram.proofs.Following.{first-end, first-node, first-le, holds_end, node_is, no-later}
use Rattle.mv_diagram.proofs.Looking.{step_yes, step_no}
use Rattle.mv_diagram.proofs.Points.{value_there, value_elsewhere, InRange-with, holds_later}
use Rattle.mv_diagram.proofs.Reclaiming.{held_place, placed_is}

-- a held diagram's place is one of the places
pub place_below : (ns : List (Option Node)) (d : Dd) (count : ℕ) → has_diagram ns d.0 ≡ true → count ≡ length ns → IsPlaceBelow count d
place_below ns d count held long = record { below = λ id at. let inside = passes_within is_some refl ns id.0 (held_place ns d.0 id held at) in omega arith }

module _ (counts sets : List ℕ) (are : AreChoices counts sets) where
  -- a point that fits keeps fitting with another value of a set
  pub Fits-with : (p : Point) (var value : ℕ) → var < length counts → has (set_at sets var) value ≡ true → Fits counts sets p → Fits counts sets (with_value p var value)
  Fits-with p var value inside is fits = record {
    range = InRange-with counts p var value fits.range (are.within var value inside is);
    each = λ v within. elim (cases_eq v var) [
      | inl same ↦ ap (λ x. has (set_at sets v) x) (value_there p var value v same) ∙ ap (λ x. has (set_at sets x) value) same ∙ is
      | inr other ↦ ap (λ x. has (set_at sets v) x) (value_elsewhere p var value v other) ∙ fits.each v within
    ];
  }

  -- some point fits
  pick : (v : ℕ) → (value : ℕ) × (v < length counts → (value < slice_index counts v) × (has (set_at sets v) value ≡ true))
  pick v = elim (cases_lt v (length counts)) [
    | inl less ↦ let some = are.some v less in (some.value, λ inside. (some.below, some.is))
    | inr more ↦ (0, λ inside. absurd (omega arith))
  ]

  some_fits : Fits counts sets (λ v. (pick v).0)
  some_fits = record { range = record { below = λ v inside. ((pick v).1 inside).0 }; each = λ v inside. ((pick v).1 inside).1 }

  module _ (ns : List (Option Node)) (s : IsReduced counts ns) where
    -- a diagram without tests
    pub meets_end : (d : ℕ) (r : Bool) → node_at ns d ≡ None → r ≡ (d == 1) → OnTrue r (Meets counts sets (λ p. holds counts ns d p))
    meets_end d true none is = record { point = λ v. (pick v).0; fits = some_fits; is = holds_end counts ns d (λ v. (pick v).0) none ∙ sym is }
    meets_end d false none is = tt

    pub misses_end : (d : ℕ) (r : Bool) → node_at ns d ≡ None → r ≡ (d == 1) → OnFalse r (Misses counts sets (λ p. holds counts ns d p))
    misses_end d true none is = tt
    misses_end d false none is = record { each = λ p fits there. true≢false (sym there ∙ holds_end counts ns d p none ∙ sym is) }

    -- at first all values are left
    pub leads_all : (d var : ℕ) → has_diagram ns d ≡ true → order var 0 ≤ first counts ns d → var < length counts → (left : ℕ) → left ≡ set_at sets var → LeadsTo counts ns sets d var left d
    leads_all d var held later inside left is = record {
      held = held;
      later = later;
      among = λ x h. ap (λ l. has l x) (sym is) ∙ h;
      there = λ p h. refl;
      gone = λ p fits out there. true≢false (sym (fits.each var inside) ∙ ap (λ l. has l (p var)) (sym is) ∙ out);
    }

    -- a diagram of later variables than the first test's stands behind
    pub stands_behind : (d : ℕ) (front : Node) → node_at ns d ≡ Some front → (c : ℕ) → order (front.test.var + 1) 0 ≤ first counts ns c → length counts * MAX_VALUES - first counts ns c < length counts * MAX_VALUES - first counts ns d
    stands_behind d front e c later =
        let here = first-node counts ns d front e in
        let is = (node_is counts ns s d front e).test in
        let more = is.value in
        let few = s.values.few front.test.var is.variable in
        let most = first-le counts ns s c in
        omega arith

    pub child_behind : (rest var : ℕ) (n : Node) → TestsFirst ns rest var n → order (var + 1) 0 ≤ first counts ns n.yes.0
    child_behind rest var n tests = subst (λ v. order (v + 1) 0 ≤ first counts ns n.yes.0) tests.variable (node_is counts ns s rest n tests.at).yes_later

    pub child_held : (rest var : ℕ) (n : Node) → TestsFirst ns rest var n → has_diagram ns n.yes.0 ≡ true
    child_held rest var n tests = (node_is counts ns s rest n tests.at).yes_held

    -- the first test of a diagram
    pub front_later : (d : ℕ) (front : Node) → node_at ns d ≡ Some front → order front.test.var 0 ≤ first counts ns d
    front_later d front e = let here = first-node counts ns d front e in omega arith

    pub front_inside : (d : ℕ) (front : Node) → node_at ns d ≡ Some front → front.test.var < length counts
    front_inside d front e = (node_is counts ns s d front e).test.variable

    module _ (d var left rest : ℕ) (inside : var < length counts) (leads : LeadsTo counts ns sets d var left rest) (n : Node) (tests : TestsFirst ns rest var n) where
      at_value : (p : Point) → p var ≡ n.test.value → holds counts ns rest p ≡ holds counts ns n.yes.0 p
      at_value p e = step_yes counts ns s rest n p tests.at (ap p tests.variable ∙ e)

      past_value : (p : Point) → (p var ≡ n.test.value → ⊥) → holds counts ns rest p ≡ holds counts ns n.no.0 p
      past_value p apart = step_no counts ns s rest n p tests.at (λ e. apart (ap p (sym tests.variable) ∙ e))

      no_held : has_diagram ns n.no.0 ≡ true
      no_held = (node_is counts ns s rest n tests.at).no_held

      no_later : order var 0 ≤ first counts ns n.no.0
      no_later = let low = leads.later in let more = no-later counts ns s rest n tests.at in omega arith

      -- a value that isn't left
      pub leads_past : has left n.test.value ≡ false → LeadsTo counts ns sets d var left n.no.0
      leads_past out = record {
        held = no_held;
        later = no_later;
        among = leads.among;
        there = λ p h. leads.there p h ∙ past_value p (λ e. true≢false (sym h ∙ ap (has left) e ∙ out));
        gone = leads.gone;
      }

      -- a value that leads to no point
      pub leads_less : Misses counts sets (λ p. holds counts ns n.yes.0 p) → has left n.test.value ≡ true → (less : ℕ) → less ≡ minus left (one n.test.value) → LeadsTo counts ns sets d var less n.no.0
      leads_less misses in' less is = record {
        held = no_held;
        later = no_later;
        among = λ x h. leads.among x (and_parts _ _ (sym (minus_at x) ∙ h)).0;
        there = λ p h. leads.there p (and_parts _ _ (sym (minus_at (p var)) ∙ h)).0 ∙ past_value p (λ e. true≢false (sym h ∙ out p e));
        gone = λ p fits out' there. elim (cases_eq (p var) n.test.value) [
          | inl same ↦ misses.each p fits (sym (at_value p same) ∙ sym (leads.there p (ap (has left) same ∙ in')) ∙ there)
          | inr apart ↦ leads.gone p fits (kept p apart out') there
        ];
      }
        where
          minus_at : (x : ℕ) → has less x ≡ (has left x && not (x == n.test.value))
          minus_at x = ap (λ l. has l x) is ∙ has-minus left (one n.test.value) x ∙ ap (λ b. has left x && not b) (has-one n.test.value x)

          out : (p : Point) → p var ≡ n.test.value → has less (p var) ≡ false
          out p e = minus_at (p var) ∙ ap (λ b. has left (p var) && not b) (eq-eqb _ _ e) ∙ and-false (has left (p var))

          kept : (p : Point) → (p var ≡ n.test.value → ⊥) → has less (p var) ≡ false → has left (p var) ≡ false
          kept p apart out' = sym (and-true (has left (p var))) ∙ ap (λ b. has left (p var) && not b) (sym (ne_eqb _ _ apart)) ∙ sym (minus_at (p var)) ∙ out'

      -- a point where the test says yes
      pub meets_yes : has left n.test.value ≡ true → Meets counts sets (λ p. holds counts ns n.yes.0 p) → Meets counts sets (λ p. holds counts ns d p)
      meets_yes in' meets = record {
        point = with_value meets.point var n.test.value;
        fits = Fits-with meets.point var n.test.value inside (leads.among n.test.value in') meets.fits;
        is = leads.there (with_value meets.point var n.test.value) (ap (has left) (value_there meets.point var n.test.value var refl) ∙ in')
            ∙ at_value (with_value meets.point var n.test.value) (value_there meets.point var n.test.value var refl)
            ∙ holds_later counts ns s n.yes.0 meets.point var n.test.value (child_behind rest var n tests)
            ∙ meets.is;
      }

    -- a point of what is left, at one of the values that are left
    pub meets_rest : (d var left rest value : ℕ) → var < length counts → LeadsTo counts ns sets d var left rest → order (var + 1) 0 ≤ first counts ns rest → has left value ≡ true → Meets counts sets (λ p. holds counts ns rest p) → Meets counts sets (λ p. holds counts ns d p)
    meets_rest d var left rest value inside leads later in' meets = record {
      point = with_value meets.point var value;
      fits = Fits-with meets.point var value inside (leads.among value in') meets.fits;
      is = leads.there (with_value meets.point var value) (ap (has left) (value_there meets.point var value var refl) ∙ in') ∙ holds_later counts ns s rest meets.point var value later ∙ meets.is;
    }

    pub misses_rest : (d var left rest : ℕ) → LeadsTo counts ns sets d var left rest → Misses counts sets (λ p. holds counts ns rest p) → Misses counts sets (λ p. holds counts ns d p)
    misses_rest d var left rest leads misses = record {
      each = λ p fits there. elim (cases_Bool (has left (p var))) [
        | inl in' ↦ misses.each p fits (sym (leads.there p in') ∙ there)
        | inr out ↦ leads.gone p fits out there
      ];
    }

    -- where no value is left
    pub misses_none : (d var left rest : ℕ) → LeadsTo counts ns sets d var left rest → ((x : ℕ) → has left x ≡ false) → Misses counts sets (λ p. holds counts ns d p)
    misses_none d var left rest leads none = record { each = λ p fits there. leads.gone p fits (none (p var)) there }

    -- a diagram that misses may be marked
    pub missed_more : (d : ℕ) (marks marks' : List Bool) → AreMissed counts ns sets marks → Misses counts sets (λ p. holds counts ns d p) → MarksAt marks marks' d → AreMissed counts ns sets marks'
    missed_more d marks marks' missed misses more = record {
      long = more.long ∙ missed.long;
      each = λ e id at is. elim (more.each id.0 is) [
        | inl was ↦ missed.each e id at was
        | inr new ↦ let here = placed_is d new.0 new.1 in let there = placed_is e id at in let same = new.2 in
            let alike : d ≡ e = omega arith in subst (λ x. Misses counts sets (λ p. holds counts ns x p)) alike misses
      ];
    }

    -- a marked diagram misses
    pub missed_marked : (d : ℕ) (marks : List Bool) → AreMissed counts ns sets marks → IsMarkedAt marks d → Misses counts sets (λ p. holds counts ns d p)
    missed_marked d marks missed is = missed.each d is.id is.at is.is

-- no place is marked at first
pub missed_none : (counts sets : List ℕ) (ns : List (Option Node)) (marks : List Bool) → length marks ≡ length ns → ((n : ℕ) → mark marks n ≡ false) → AreMissed counts ns sets marks
missed_none counts sets ns marks long none = record { long = long; each = λ d id at is. absurd (true≢false (sym is ∙ none id.0)) }

-- the marks of a diagram's place
pub marked_at : (marks : List Bool) (d : ℕ) (id : Id) (b : Bool) → place_of d ≡ Some id → mark marks id.0 ≡ b → OnTrue b (IsMarkedAt marks d)
marked_at marks d id true at is = record { id = id; at = at; is = is }
marked_at marks d id false at is = tt

pub marks_same : (marks : List Bool) (d : ℕ) → MarksAt marks marks d
marks_same marks d = record { long = refl; each = λ n h. inl h }

pub marks_new : (marks : List Bool) (d : ℕ) (id : Id) → place_of d ≡ Some id → MarksAt marks (set marks id.0 true) d
marks_new marks d id at = record {
  long = length-set marks id.0 true;
  each = λ n h. elim (cases_eq n id.0) [
    | inl same ↦ inr (id, at, sym same)
    | inr other ↦ inl (sym (get_or-set_other marks id.0 n true false other) ∙ h)
  ];
}

-- a diagram without tests stands behind each variable
pub end_later : (counts : List ℕ) (ns : List (Option Node)) (d var : ℕ) → node_at ns d ≡ None → var < length counts → order (var + 1) 0 ≤ first counts ns d
end_later counts ns d var none inside = let end = first-end counts ns d none in omega arith

-- the empty set has no value
pub none_left : (left : ℕ) → left ≡ empty → (x : ℕ) → has left x ≡ false
none_left left is x = ap (λ l. has l x) is ∙ has-empty x
