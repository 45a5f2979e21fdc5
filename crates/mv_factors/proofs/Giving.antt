-- Sets that give a variable one value, by what operations on them answer.
use Rattle.std.proofs.Common.{◌≡◌, ◌≤◌, ◌<◌, ◌+◌, ◌&&◌, ℕ, Bool, true, false, List, [], ◌∷◌, refl, sym, ap, subst, ◌∙◌, inl, inr, arith, true≢false}
use Rattle.std.proofs.lemmas.Bool.{cases_lt, cases_order, ltb-true, lt-ltb, eq-eqb}
use Rattle.mv_base.specs.Set.{full, one, has as has_value}
use Rattle.mv_base.proofs.Sets.{has-full, has-one}
use Rattle.mv_diagram.specs.declared.node.Dd.{Dd}
use Rattle.mv_diagram.specs.Sets.{Point, InRange, SameSet}
use Rattle.mv_diagram.specs.Diagrams.{Contents, IsHeld, Keeps, has}
use Rattle.mv_diagram.specs.Quantified.{Agreeing, Spreads}
use Rattle.mv_factors.specs.Functions.{AreBelow, IsApart, IsFunction, IsTotal, is_this}
use Rattle.mv_factors.proofs.Agreeing.{agrees_back, agrees_self}

-- a point in range, and a point nearby, where the variables are the same
range_along : (cs ds : List ℕ) (p : Point) → cs ≡ ds → InRange cs p → InRange ds p
range_along cs ds p same range = subst (λ (x : List ℕ). InRange x p) same range

-- each point agrees with one of the set
pub total_by : (old new : Contents) (set some all : Dd) (var : ℕ) → new.counts ≡ old.counts
    → Spreads new (var ∷ []) true (λ q. has old set q) some → SameSet new.counts (λ p. has new some p) (λ p. has new all p)
    → ((p : Point) → has new all p ≡ true) → IsTotal old.counts (λ p. has old set p) var
total_by old new set some all var counts spread same is = record {
  each = λ p range.
      let there = range_along old.counts new.counts p (sym counts) range in
      let near = spread.some p there (same.each p there ∙ is p) in
      subst (λ (cs : List ℕ). Agreeing cs (is_this var) (λ q. has old set q) true p) counts near;
}

-- all values are below one
pub below_by : (old new : Contents) (low all : Dd) (var value set : ℕ) → new.counts ≡ old.counts → set ≡ full value
    → ((p : Point) → InRange new.counts p → has new low p ≡ has_value set (p var))
    → SameSet new.counts (λ p. has new low p) (λ p. has new all p) → ((p : Point) → has new all p ≡ true) → AreBelow old.counts var value
below_by old new low all var value set counts full_set lows same is = record {
  each = λ p range.
      let there = range_along old.counts new.counts p (sym counts) range in
      ltb-true (p var) value
      (sym (has-full value (p var)) ∙ ap (λ s. has_value s (p var)) (sym full_set) ∙ sym (lows p there) ∙ same.each p there ∙ is p);
}

module _ (old c d e : Contents) (set low this both none : Dd) (var value lows thises : ℕ) where
  -- no point agrees with one of the set that has a smaller value, and with one that has this value
  pub apart_by : Keeps old c → Keeps c d → Keeps d e → IsHeld old set → IsHeld c low → lows ≡ full value → thises ≡ one value
      → Spreads c (var ∷ []) true (λ q. has old set q && has_value lows (q var)) low
      → Spreads d (var ∷ []) true (λ q. has c set q && has_value thises (q var)) this
      → ((p : Point) → has e both p ≡ (has d low p && has d this p))
      → SameSet e.counts (λ p. has e both p) (λ p. has e none p)
      → ((p : Point) → has e none p ≡ false)
      → IsApart old.counts (λ p. has old set p) var value
  apart_by first second third held low_held is_full is_one smaller equal meet same empty = record {
    none = λ p q rp rq agree ip iq less at.
        let rc : InRange c.counts p = range_along old.counts c.counts p (sym first.counts) rp in
        let rd : InRange d.counts q = range_along old.counts d.counts q (sym (second.counts ∙ first.counts)) rq in
        let re : InRange e.counts p = range_along old.counts e.counts p (sym (third.counts ∙ second.counts ∙ first.counts)) rp in
        let left : has d low p ≡ true =
        second.sets low p low_held
        ∙ smaller.all p p rc (agrees_self (is_this var) p) (ap (λ x. x && has_value lows (p var)) ip ∙ low_value p less) in
        let right : has d this p ≡ true =
        equal.all p q rd agree (ap (λ x. x && has_value thises (q var)) (first.sets set q held ∙ iq) ∙ this_value q at) in
        true≢false (sym (meet p ∙ ap (λ x. x && has d this p) left ∙ right) ∙ same.each p re ∙ empty p);
  }
    where
      low_value : (p : Point) → p var < value → has_value lows (p var) ≡ true
      low_value p less = ap (λ s. has_value s (p var)) is_full ∙ has-full value (p var) ∙ lt-ltb (p var) value less

      this_value : (q : Point) → q var ≡ value → has_value thises (q var) ≡ true
      this_value q at = ap (λ s. has_value s (q var)) is_one ∙ has-one value (q var) ∙ eq-eqb (q var) value at

-- no two points of the set agree
pub function_by : (counts : List ℕ) (set : Point → Bool) (var value : ℕ) → IsTotal counts set var
    → ((v : ℕ) → 1 ≤ v → v < value → IsApart counts set var v) → AreBelow counts var value → IsFunction counts set var
function_by counts set var value total apart below = record {
  total = total.each;
  one = λ p q rp rq agree ip iq.
      let bp = below.each p rp in
      let bq = below.each q rq in
      elim (cases_order (p var) (q var)) [
        | inl same ↦ same
        | inr other ↦ elim other [
          | inl less ↦ absurd ((apart (q var) (omega arith) bq).none p q rp rq agree ip iq less refl)
          | inr more ↦ absurd ((apart (p var) (omega arith) bp).none q p rq rp (agrees_back (is_this var) p q agree) iq ip more refl)
        ]
      ];
}

-- the same, where diagrams were added
pub grows_then : (a b c : Contents) → Keeps a b → Keeps b c → Keeps a c
grows_then a b c first second = record {
  counts = second.counts ∙ first.counts;
  cap = second.cap ∙ first.cap;
  reclaims = second.reclaims ∙ first.reclaims;
  places = let x = first.places in let y = second.places in omega arith;
  held = λ d held. second.held d (first.held d held);
  sets = λ d p held. second.sets d p (first.held d held) ∙ first.sets d p held;
}

pub below_along : (cs ds : List ℕ) (var value : ℕ) → cs ≡ ds → AreBelow cs var value → AreBelow ds var value
below_along cs ds var value same below = subst (λ (x : List ℕ). AreBelow x var value) same below

pub apart_before : (old mid : Contents) (set : Dd) (var value : ℕ) → Keeps old mid → IsHeld old set
    → IsApart mid.counts (λ p. has mid set p) var value → IsApart old.counts (λ p. has old set p) var value
apart_before old mid set var value keeps held apart = record {
  none = λ p q rp rq agree ip iq.
      apart.none p q (range_along old.counts mid.counts p (sym keeps.counts) rp)
      (range_along old.counts mid.counts q (sym keeps.counts) rq) agree (keeps.sets set p held ∙ ip) (keeps.sets set q held ∙ iq);
}

-- one value more
pub apart_more : (counts : List ℕ) (set : Point → Bool) (var value : ℕ) → ((v : ℕ) → 1 ≤ v → v < value → IsApart counts set var v)
    → IsApart counts set var value → (v : ℕ) → 1 ≤ v → v < value + 1 → IsApart counts set var v
apart_more counts set var value before here v low less = elim (cases_lt v value) [
  | inl under ↦ before v low under
  | inr over ↦ let same : value ≡ v = omega arith in subst (IsApart counts set var) same here
]
