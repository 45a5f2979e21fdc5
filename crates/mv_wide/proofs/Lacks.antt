-- The points of which some set misses a point, over several sets, and over what is left where variables are eliminated.
use Rattle.std.proofs.Common.{◌≡◌, ◌∙◌, ℕ, zero, suc, ◌+◌, ◌-◌, ◌<◌, ◌≤◌, ◌⊎◌, ◌==◌, Bool, true, false, nat_lt, cond, List, length, sym, ap, subst, ⊎_elim, inl, inr, arith}
use Rattle.std.proofs.lemmas.Bool.{cases_eq, cases_Bool, and_from, and_parts, lt-ltb, ltb-true, ne_eqb, true≢false}
use Rattle.mv_diagram.specs.Sets.{Point, InRange}
use Rattle.mv_factors.specs.Families.{Family, Keeps, before, set_at}
use Rattle.mv_factors.specs.Leaving.{Eliminates, IsInAll}
use Rattle.mv_factors.proofs.Keeping.{Keeps-fewer}
use Rattle.mv_diagram.specs.Quantified.{AgreesOutside}
use Rattle.mv_wide.specs.Families.{AddsLacking, AddsMissed, AddsMissedIn, AreCopies, IsInEach, IsInOthers, IsLacking, IsMissed, IsMissedIn, IsNearEach, between}

between_true : (last k : ℕ) → 0 < k → k < last → between last k ≡ true
between_true last k low high = and_from (nat_lt 0 k) (nat_lt k last) (lt-ltb 0 k low) (lt-ltb k last high)

-- between places they are before the last
pub between_before : (f g : Family) (last : ℕ) → Keeps f g (before last) → Keeps f g (between last)
between_before f g last keeps =
    Keeps-fewer f g (before last) (between last) (λ k is. (and_parts (nat_lt 0 k) (nat_lt k last) is).1) keeps

pub between_fewer : (f g : Family) (last more : ℕ) → last ≤ more → Keeps f g (between more) → Keeps f g (between last)
between_fewer f g last more low keeps =
    Keeps-fewer f g (between more) (between last)
    (λ k is.
    let parts = and_parts (nat_lt 0 k) (nat_lt k last) is in
    let some : 0 < k = ltb-true 0 k parts.0 in
    let less : k < last = ltb-true k last parts.1 in
    between_true more k some (omega arith))
    keeps

module _ (f g : Family) (last tables left_out place : ℕ) (vars : ℕ → Bool) (keeps : Keeps f g (between last)) (low : tables < last) (some : 0 < place)
    (inside : place < last) (p : Point) where
  -- where the sets stay, the same points are missed
  missed_before : IsMissed g tables left_out place vars p → IsMissed f tables left_out place vars p
  missed_before m = record {
    other = m.other;
    range = subst (λ (cs : List ℕ). InRange cs m.other) keeps.counts m.range;
    agrees = m.agrees;
    others = λ k first high apart. sym (keeps.sets k m.other (between_true last k first (omega arith))) ∙ m.others k first high apart;
    missed = sym (keeps.sets place m.other (between_true last place some inside)) ∙ m.missed;
  }

  missed_after : IsMissed f tables left_out place vars p → IsMissed g tables left_out place vars p
  missed_after m = record {
    other = m.other;
    range = subst (λ (cs : List ℕ). InRange cs m.other) (sym keeps.counts) m.range;
    agrees = m.agrees;
    others = λ k first high apart. keeps.sets k m.other (between_true last k first (omega arith)) ∙ m.others k first high apart;
    missed = keeps.sets place m.other (between_true last place some inside) ∙ m.missed;
  }

-- no set yet
pub missed_none : (f : Family) (tables left_out from : ℕ) (vars : ℕ → Bool) → AddsMissedIn f f tables left_out from from vars
missed_none f tables left_out from vars = record {
  only = λ p range yes. inl yes;
  kept = λ p old. old;
  all = λ p range m. let a = m.first in let b = m.last in absurd (omega arith);
}

-- one set more
pub missed_more : (old now new : Family) (tables left_out from k last : ℕ) (vars : ℕ → Bool) → AddsMissedIn old now tables left_out from k vars
    → Keeps old now (between last) → AddsMissed now new tables left_out k vars → tables < last → 0 < from → from ≤ k → k < last
    → AddsMissedIn old new tables left_out from (k + 1) vars
missed_more old now new tables left_out from k last vars adds keeps step low some first inside =
    let there : (p : Point) → InRange old.contents.counts p → InRange now.contents.counts p = λ p range.
    subst (λ (cs : List ℕ). InRange cs p) (sym keeps.counts) range in
    record {
      only = λ p range yes.
          ⊎_elim
          (λ (early : set_at now 0 p ≡ true).
          ⊎_elim
          (λ (start : set_at old 0 p ≡ true). inl start)
          (λ (m : IsMissedIn old tables left_out from k vars p).
          let less = m.last in
          inr (record { place = m.place; first = m.first; last = omega arith; is = m.is }))
          (adds.only p range early))
          (λ (m : IsMissed now tables left_out k vars p).
          inr (record {
            place = k;
            first = first;
            last = omega arith;
            is = missed_before old now last tables left_out k vars keeps low (omega arith) inside p m;
          }))
          (step.only p (there p range) yes);
      kept = λ p start. step.kept p (adds.kept p start);
      all = λ p range m.
          ⊎_elim
          (λ (same : m.place ≡ k).
          step.all p (there p range)
          (missed_after old now last tables left_out k vars keeps low (omega arith) inside p
          (subst (λ n. IsMissed old tables left_out n vars p) same m.is)))
          (λ (apart : m.place ≡ k → ⊥).
          let less = m.last in
          step.kept p (adds.all p range (record { place = m.place; first = m.first; last = omega arith; is = m.is })))
          (cases_eq m.place k);
    }

-- a point is in each of so many sets, or one of them misses it
abbrev Found : Family → ℕ → ℕ → Point → Type 0
Found f from to q = (j : ℕ) × (from ≤ j) × (j < to) × (set_at f j q ≡ false)

found : (f : Family) (from n : ℕ) (q : Point) → IsInEach f from (from + n) q ⊎ Found f from (from + n) q
found f from zero q = inl (record { each = λ k low high. absurd (omega arith) })
found f from (suc n) q =
    ⊎_elim
    (λ (all : IsInEach f from (from + n) q).
    ⊎_elim
    (λ (yes : set_at f (from + n) q ≡ true).
    inl (record {
      each = λ k low high.
          ⊎_elim (λ (same : k ≡ from + n). ap (λ m. set_at f m q) same ∙ yes)
          (λ (apart : k ≡ from + n → ⊥). all.each k low (omega arith)) (cases_eq k (from + n));
    }))
    (λ (no : set_at f (from + n) q ≡ false). inr (from + n, omega arith, omega arith, no))
    (cases_Bool (set_at f (from + n) q)))
    (λ (some : Found f from (from + n) q). let less = some.2 in inr (some.0, some.1, omega arith, some.3))
    (found f from n q)

module _ (f h e g : Family) (tables left_out : ℕ) (hidden beside : ℕ → Bool) (last : ℕ) (is : last ≡ length f.list)
    (long : length f.list ≡ tables + 1) (copies : AreCopies f h 1 tables 0 (length f.list)) (first : Keeps f h (before (length f.list)))
    (copied : length h.list ≡ length f.list + tables) (gone : Eliminates h e last hidden) (second : Keeps h e (before last))
    (same : length e.list ≡ length h.list) where
  one_more : (j : ℕ) → ((1 + j) == 0) ≡ false
  one_more j = ne_eqb (1 + j) 0 (λ eq. absurd (omega arith))

  to_copies : (q : Point) → IsInEach f 1 (tables + 1) q → IsInAll h last q
  to_copies q each = record {
    each = λ k low high.
        let spot : length f.list + (k - length f.list) ≡ k = omega arith in
        let inside : k - length f.list < tables = omega arith in
        ap (λ n. set_at h n q) (sym spot) ∙ copies.each (k - length f.list) q inside
        ∙ (λ i. cond (one_more (k - length f.list) i) true (set_at f (1 + (k - length f.list)) q))
        ∙ each.each (1 + (k - length f.list)) (omega arith) (omega arith);
  }

  from_copies : (q : Point) → IsInAll h last q → IsInEach f 1 (tables + 1) q
  from_copies q all = record {
    each = λ k low high.
        let back : 1 + (k - 1) ≡ k = omega arith in
        let inside : k - 1 < tables = omega arith in
        ap (λ n. set_at f n q) (sym back)
        ∙ sym (copies.each (k - 1) q inside ∙ (λ i. cond (one_more (k - 1) i) true (set_at f (1 + (k - 1)) q)))
        ∙ all.each (length f.list + (k - 1)) (omega arith) (omega arith);
  }

  counts : e.contents.counts ≡ f.contents.counts
  counts = second.counts ∙ first.counts

  early : (k : ℕ) (q : Point) → k < length f.list → set_at e k q ≡ set_at f k q
  early k q low = second.sets k q (lt-ltb k last (omega arith)) ∙ first.sets k q (lt-ltb k (length f.list) low)

  lacking : (p : Point) → IsMissedIn e tables left_out last (length e.list) beside p → IsLacking f tables left_out hidden beside p
  lacking p m = record {
    other = m.is.other;
    range = subst (λ (cs : List ℕ). InRange cs m.is.other) counts m.is.range;
    agrees = m.is.agrees;
    others = record { each = λ k low high apart. sym (early k m.is.other (omega arith)) ∙ m.is.others k low high apart };
    none = λ near.
        let over = subst (λ (cs : List ℕ). InRange cs near.other) (sym first.counts) near.range in
        let here = subst (λ (cs : List ℕ). InRange cs m.is.other) second.counts m.is.range in
        let all = gone.all m.is.other near.other here over near.agrees (to_copies near.other near.each) in
        true≢false (sym (all.each m.place m.first m.last) ∙ m.is.missed);
  }

  missing : (p q : Point) → InRange f.contents.counts q → AgreesOutside beside p q → IsInOthers f tables left_out q
      → IsMissedIn e tables left_out last (length e.list) beside p ⊎ IsNearEach f (tables + 1) hidden q
  missing p q range agrees others =
      let over = subst (λ (cs : List ℕ). InRange cs q) (sym first.counts) range in
      let size : last + (length e.list - last) ≡ length e.list = omega arith in
      ⊎_elim
      (λ (each : IsInEach e last (last + (length e.list - last)) q).
      let all : IsInAll e last q = record { each = λ k low high. each.each k low (omega arith) } in
      let near = gone.some q over all in
      inr (record {
        other = near.other;
        range = subst (λ (cs : List ℕ). InRange cs near.other) first.counts near.range;
        agrees = near.agrees;
        each = from_copies near.other near.is;
      }))
      (λ (some : Found e last (last + (length e.list - last)) q).
      let less = some.2 in
      inl (record {
        place = some.0;
        first = some.1;
        last = omega arith;
        is = record {
          other = q;
          range = subst (λ (cs : List ℕ). InRange cs q) (sym counts) range;
          agrees = agrees;
          others = λ k low high apart. early k q (omega arith) ∙ others.each k low high apart;
          missed = some.3;
        };
      }))
      (found e last (length e.list - last) q)

  pub adds_lacking : AddsMissedIn e g tables left_out last (length e.list) beside → AddsLacking f g tables left_out hidden beside
  adds_lacking adds =
      let there : (p : Point) → InRange f.contents.counts p → InRange e.contents.counts p = λ p range.
      subst (λ (cs : List ℕ). InRange cs p) (sym counts) range in
      record {
        only = λ p range yes.
            ⊎_elim (λ (old : set_at e 0 p ≡ true). inl (sym (early 0 p (omega arith)) ∙ old))
            (λ (m : IsMissedIn e tables left_out last (length e.list) beside p). inr (lacking p m))
            (adds.only p (there p range) yes);
        kept = λ p old. adds.kept p (early 0 p (omega arith) ∙ old);
        all = λ p q range over agrees others.
            ⊎_elim
            (λ (m : IsMissedIn e tables left_out last (length e.list) beside p). inl (adds.all p (there p range) m))
            (λ (near : IsNearEach f (tables + 1) hidden q). inr near)
            (missing p q over agrees others);
      }
