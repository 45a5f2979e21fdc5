-- The least of so many values that a cover doesn't give.
use Rattle.std.proofs.Common.{◌≡◌, ◌∙◌, ℕ, ◌+◌, ◌<◌, ◌≤◌, ◌↔◌, Bool, true, false, ◌&&◌, ◌||◌, not, nat_lt, List, Option, Some, None, MatchOption, IsNone, IfSome, IsTrue, length, take, get_or, refl, sym, ap, subst, arith, ⊎_elim}
use Rattle.std.specs.List.{list_any}
use Rattle.std.proofs.lemmas.Bool.{and_from, and_left, and_parts, cases_Bool, false≢true, lt-ltb, ltb-true, not-false, not-true, not_from_false}
use Rattle.std.proofs.lemmas.List.{take_all}
use Rattle.std.proofs.lemmas.List.Folds.{list_any_more}
use Rattle.mv_base.specs.declared.number.Value.{Value}
use Rattle.mv_base.specs.Set.{has, empty, full, join, minus}
use Rattle.mv_base.proofs.Sets.{has-empty, has-full, has-join, has-minus}
use Rattle.mv_cover.specs.Covers.{default_gives}
use Rattle.mv_cover.specs.declared.cover.Cover.{Cover}
use Rattle.mv_cover.specs.declared.line.Line.{Line}
use Rattle.mv_merging.specs.Verdicts.{cover_has}
use Rattle.mv_alike.specs.Given.{IsEachGiven, IsLeastAbsent}

-- one output more
pub output_more : (lines : List Line) (i : ℕ) (l : Line) (all out v : ℕ) → i < length lines → l ≡ get_or lines i l → out ≡ l.out
    → has all v ≡ list_any (λ (l : Line). has l.out v) (take i lines) → has (join all out) v ≡ list_any (λ (l : Line). has l.out v) (take (i + 1) lines)
output_more lines i l all out v lt is e h =
    has-join all out v
    ∙ (ap (λ b. b || has out v) h
    ∙ (ap (λ o. list_any (λ (l : Line). has l.out v) (take i lines) || has o v) (e ∙ ap (λ (l : Line). l.out) is)
    ∙ sym (list_any_more (λ (l : Line). has l.out v) lines i l lt)))

-- the outputs, and the default
pub given_is : (c : Cover) (lines : List Line) (all default both v : ℕ) → lines ≡ c.lines → has all v ≡ list_any (λ (l : Line). has l.out v) lines
    → has default v ≡ default_gives c.default v → both ≡ join all default → has both v ≡ cover_has v c
given_is c lines all default both v e a d is =
    ap (λ s. has s v) is
    ∙ (has-join all default v
    ∙ (ap (λ b. b || has default v) (a ∙ ap (list_any (λ (l : Line). has l.out v)) e) ∙ ap (λ b. list_any (λ (l : Line). has l.out v) c.lines || b) d))

-- a value is among those left where it is low enough and isn't given
left_is : (values given s v : ℕ) → s ≡ minus (full values) given → has s v ≡ (nat_lt v values && not (has given v))
left_is values given s v e = ap (λ t. has t v) e ∙ (has-minus (full values) given v ∙ ap (λ b. b && not (has given v)) (has-full values v))

is_left : (values given s v : ℕ) → s ≡ minus (full values) given → v < values → has given v ≡ false → has s v ≡ true
is_left values given s v e low h = left_is values given s v e ∙ and_from (nat_lt v values) (not (has given v)) (lt-ltb v values low) (not_from_false (has given v) h)

pub least_left : (values given s : ℕ) (c : Cover) (result : Option Value) → s ≡ minus (full values) given → ((v : ℕ) → has given v ≡ cover_has v c)
    → (IsNone result ↔ (s ≡ empty)) → IfSome result (λ v. IsTrue (has s v.0))
    → IfSome result (λ v. (u : ℕ) → IsTrue (has s u) → v.0 ≤ u)
    → MatchOption result (IsEachGiven values c) (λ v. IsLeastAbsent values c v.0)
least_left values given s c None e same none some least = record {
  each = λ v low.
      ⊎_elim
      (λ (h : has given v ≡ true). sym (same v) ∙ h)
      (λ (h : has given v ≡ false).
      absurd (false≢true (sym (has-empty v) ∙ (ap (λ t. has t v) (sym (none.0 refl)) ∙ is_left values given s v e low h))))
      (cases_Bool (has given v));
}
least_left values given s c (Some value) e same none some least =
    let parts = and_parts (nat_lt value.0 values) (not (has given value.0)) (sym (left_is values given s value.0 e) ∙ some) in
    record {
      low = ltb-true value.0 values parts.0;
      absent = sym (same value.0) ∙ not-true (has given value.0) parts.1;
      least = λ u lt.
          ⊎_elim
          (λ (h : has given u ≡ true). sym (same u) ∙ h)
          (λ (h : has given u ≡ false).
          let low = ltb-true value.0 values parts.0 in
          let le = least u (is_left values given s u e (omega (arith, lt, low)) h) in
          absurd (omega (arith, le, lt)))
          (cases_Bool (has given u));
    }
