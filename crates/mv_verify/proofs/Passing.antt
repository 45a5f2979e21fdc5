-- What is passed is no difference.
use Rattle.std.proofs.Common.{◌≡◌, ◌∙◌, ℕ, ◌+◌, ◌<◌, ◌≤◌, Bool, List, length, set, subst, ⊎_elim, arith, get_or-set_other, get_or-set_same, ap}
use Rattle.std.specs.Prelude.{slice_index}
use Rattle.std.proofs.lemmas.Bool.{cases_lt}
use Rattle.mv_net.specs.declared.parts.NetParts.{NetParts}
use Rattle.mv_net.specs.Formed.{WellFormed}
use Rattle.mv_verify.specs.Sides.{ports_of, count_at, Shows}
use Rattle.mv_verify.specs.Prefixes.{IsSame, IsBefore, Opens, IsFine, IsNext, AreLast}
use Rattle.mv_verify.proofs.Ports.{shown_below}
use Rattle.mv_verify.proofs.Asking.{opens_less, opens_same, shown_same, same_turned}
use Rattle.mv_verify.proofs.Orders.{before_next, before_last}

-- all that come before these first values are no difference
pub record IsPassed (free : Bool) (left right : NetParts) (points all end : ℕ) (now : ℕ → ℕ) : Type 0 where
  pub each : (t : ℕ → ℕ) → IsBefore end t now → IsFine free left right points all t

-- first values that don't open
pub closed_fine : (free : Bool) (left right : NetParts) (points all end : ℕ) (now t : ℕ → ℕ) → end ≤ all → (Opens free left right points end now → ⊥) → IsSame end t now → IsFine free left right points all t
closed_fine free left right points all end now t le closed same = λ o. absurd (closed (opens_same free left right points end t now same (opens_less free left right points end all t le o)))

-- all values, which the right network shows
pub shown_fine : (free : Bool) (left right : NetParts) (points all : ℕ) (now t : ℕ → ℕ) → Shows right all now → IsSame all t now → IsFine free left right points all t
shown_fine free left right points all now t s same = λ o. shown_same right all now t (same_turned all t now same) s

-- nothing comes before no values
pub none_passed : (free : Bool) (left right : NetParts) (points all : ℕ) (now : ℕ → ℕ) → IsPassed free left right points all 0 now
none_passed free left right points all now = record { each = λ t b. absurd (omega (arith, b.within)) }

-- one value more, the least
pub deeper_passed : (free : Bool) (left right : NetParts) (points all end : ℕ) (values : List ℕ) → end < length values → IsPassed free left right points all end (slice_index values) → IsPassed free left right points all (end + 1) (slice_index (set values end 0))
deeper_passed free left right points all end values inside passed = record {
  each = λ t b.
      let now = slice_index (set values end 0) in
      let here : now end ≡ 0 = get_or-set_same values end 0 0 inside in
      let kept : (k : ℕ) → k < end → now k ≡ slice_index values k = λ k less. get_or-set_other values end k 0 0 (λ e. absurd (omega arith)) in
      let p = b.place in
      let within : p < end + 1 = b.within in
      let low : t p < now p = b.less in
      ⊎_elim
      (λ (less : p < end).
      let same : now p ≡ slice_index values p = kept p less in
      passed.each t (record {
        place = p;
        within = less;
        same = record { each = λ k l. b.same.each k l ∙ kept k (omega arith) };
        less = omega arith;
      }))
      (λ (past : end ≤ p).
      let same : p ≡ end = omega arith in
      let is : now p ≡ 0 = ap now same ∙ here in
      absurd (omega arith))
      (cases_lt p end);
}

-- the next first values
pub next_passed : (free : Bool) (left right : NetParts) (points all end next : ℕ) (old new : ℕ → ℕ) → WellFormed left → end ≤ all → all ≤ length (ports_of left) → IsPassed free left right points all end old → ((t : ℕ → ℕ) → IsSame end t old → IsFine free left right points all t) → IsNext (count_at left) old new end next → IsPassed free left right points all next new
next_passed free left right points all end next old new formed le inside passed fine n = record {
  each = λ t b o.
      ⊎_elim
      (λ (before : IsBefore end t old). passed.each t before o)
      (λ (same : IsSame end t old). fine t same o)
      (before_next (count_at left) old new end next t n (λ k less. shown_below left all t k formed inside o.shown (omega arith)) b);
}

-- and behind the last
pub last_passed : (free : Bool) (left right : NetParts) (points all end : ℕ) (old : ℕ → ℕ) → WellFormed left → end ≤ all → all ≤ length (ports_of left) → IsPassed free left right points all end old → ((t : ℕ → ℕ) → IsSame end t old → IsFine free left right points all t) → AreLast (count_at left) old end → (t : ℕ → ℕ) → IsFine free left right points all t
last_passed free left right points all end old formed le inside passed fine n t o =
    ⊎_elim
    (λ (before : IsBefore end t old). passed.each t before o)
    (λ (same : IsSame end t old). fine t same o)
    (before_last (count_at left) old end t n (λ k less. shown_below left all t k formed inside o.shown (omega arith)))

-- ---- the same of equal networks

pub fine_moved : (free : Bool) (left right l r : NetParts) (points all many : ℕ) (t : ℕ → ℕ) → l ≡ left → r ≡ right → many ≡ all → IsFine free l r points many t → IsFine free left right points all t
fine_moved free left right l r points all many t is_left is_right is_all h =
    let P : NetParts → Type 0 = λ x. IsFine free x r points many t in
    let Q : NetParts → Type 0 = λ x. IsFine free left x points many t in
    let R : ℕ → Type 0 = λ n. IsFine free left right points n t in
    subst R is_all (subst Q is_right (subst P is_left h))

pub passed_moved : (free : Bool) (left right l r : NetParts) (points all many end : ℕ) (now : ℕ → ℕ) → l ≡ left → r ≡ right → many ≡ all → IsPassed free l r points many end now → IsPassed free left right points all end now
passed_moved free left right l r points all many end now is_left is_right is_all h = record {
  each = λ t b. fine_moved free left right l r points all many t is_left is_right is_all (h.each t b);
}
