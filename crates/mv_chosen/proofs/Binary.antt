-- The table that says one value for each point takes one of the values of a total table of a net with two values at most.
use Rattle.std.proofs.Common.{◌≡◌, ◌∙◌, ℕ, ◌<◌, ◌≤◌, Bool, true, false, ◌&&◌, ◌||◌, not, List, [], ◌∷◌, map, Option, Some, IsTrue, refl, sym, ap, subst, ⊎_elim, arith}
use Rattle.std.specs.Prelude.{◌↔◌, if◌then◌else◌}
use Rattle.std.proofs.lemmas.Bool.{cases_Bool, cases_eq, cond-true, cond-false, and_parts, and_from, or_cases, or_parts, or_left, or_right, false≢true, ltb-true}
use Rattle.mv_base.specs.Set.{has, one}
use Rattle.mv_base.proofs.Sets.{has-full, least_of}
use Rattle.mv_base.specs.declared.limits.TheConstants.{MAX_VALUES}
use Rattle.mv_cover.specs.declared.cover.Cover.{Cover}
use Rattle.mv_cover.specs.declared.line.Line.{Line}
use Rattle.mv_cover.specs.Cubes.{matches}
use Rattle.mv_cover.specs.Covers.{allowed, cube_reads, lines_read, some_gives, some_matches, default_gives}
use Rattle.mv_cover.specs.Covering.{IsPoint}
use Rattle.mv_cover.specs.Lines.{IsOutput}
use Rattle.mv_net.specs.declared.parts.FlatNet.{FlatNet}
use Rattle.mv_net.specs.declared.parts.NetParts.{NetParts}
use Rattle.mv_net.specs.Nets.{slot, values_in, table_in}
use Rattle.mv_net.specs.Formed.{AllLines, IsCover, WellFormed}
use Rattle.mv_net.specs.Total.{IsTotal}
use Rattle.mv_net.proofs.Known.{values_few}
use Rattle.mv_net.proofs.Plainness.{one_same, one_has}
use Rattle.mv_net.proofs.Totals.{allowed_below}
use Rattle.mv_meaning.proofs.Rewired.{cover_at}
use Rattle.mv_chosen.specs.Binary.{gives_one, lacks_one, lines_for, binary_choice}
use Rattle.mv_chosen.specs.Chosen.{TakesOne, TakesOneAt}

-- ---- a set of one value

pub one_only : (u v : ℕ) → IsTrue (has (one u) v) ↔ (v ≡ u)
one_only u v = (λ h. one_same v u h, λ e. ap (has (one u)) e ∙ one_has u)

-- ---- the lines of one value

module _ (test : Line → Bool) (value : ℕ) where
  -- a line of these is picked, or isn't
  picked : (l : Line) (ls : List Line) → test l ≡ true → lines_for test value (l ∷ ls) ≡ record { cube = l.cube; out = one value } ∷ lines_for test value ls
  picked l ls h = cond-true (test l) _ _ h

  skipped : (l : Line) (ls : List Line) → test l ≡ false → lines_for test value (l ∷ ls) ≡ lines_for test value ls
  skipped l ls h = cond-false (test l) _ _ h

  -- they read no net besides
  for_reads : (ls : List Line) (m : ℕ) → lines_read (lines_for test value ls) m ≡ true → lines_read ls m ≡ true
  for_reads [] m h = h
  for_reads (l ∷ ls) m h =
      ⊎_elim
      (λ (y : test l ≡ true).
      ⊎_elim
      (λ (here : cube_reads l.cube m ≡ true). or_left (cube_reads l.cube m) (lines_read ls m) here)
      (λ (rest : lines_read (lines_for test value ls) m ≡ true). or_right (cube_reads l.cube m) (lines_read ls m) (for_reads ls m rest))
      (or_cases (cube_reads l.cube m) (lines_read (lines_for test value ls) m) (sym (ap (λ ks. lines_read ks m) (picked l ls y)) ∙ h)))
      (λ (n : test l ≡ false). or_right (cube_reads l.cube m) (lines_read ls m) (for_reads ls m (sym (ap (λ ks. lines_read ks m) (skipped l ls n)) ∙ h)))
      (cases_Bool (test l))

  -- they give the value where one matches, and no other
  for_gives : (at : ℕ → ℕ) (v : ℕ) (ls : List Line) → some_gives at v (lines_for test value ls) ≡ (some_matches at (lines_for test value ls) && has (one value) v)
  for_gives at v [] = refl
  for_gives at v (l ∷ ls) =
      ⊎_elim
      (λ (y : test l ≡ true).
      ap (some_gives at v) (picked l ls y)
      ∙ (ap (λ b. (matches at l.cube && has (one value) v) || b) (for_gives at v ls)
      ∙ (both (matches at l.cube) (some_matches at (lines_for test value ls)) (has (one value) v)
      ∙ sym (ap (λ ks. some_matches at ks && has (one value) v) (picked l ls y)))))
      (λ (n : test l ≡ false).
      ap (some_gives at v) (skipped l ls n) ∙ (for_gives at v ls ∙ sym (ap (λ ks. some_matches at ks && has (one value) v) (skipped l ls n))))
      (cases_Bool (test l))
    where
      both : (a b c : Bool) → ((a && c) || (b && c)) ≡ ((a || b) && c)
      both true true true = refl
      both true true false = refl
      both true false true = refl
      both true false false = refl
      both false b c = refl

  -- with another value elsewhere: which value it is
  for_allowed : (other : ℕ) (at : ℕ → ℕ) (v : ℕ) (ls : List Line) → allowed (record { lines = lines_for test value ls; default = Some (one other) }) at v ≡ (if some_matches at (lines_for test value ls) then has (one value) v else has (one other) v)
  unfolding allowed
  for_allowed other at v ls = ap (λ b. b || (not (some_matches at (lines_for test value ls)) && has (one other) v)) (for_gives at v ls) ∙ by_match (some_matches at (lines_for test value ls)) (has (one value) v) (has (one other) v)
    where
      by_match : (m a b : Bool) → ((m && a) || (not m && b)) ≡ (if m then a else b)
      by_match true true b = refl
      by_match true false b = refl
      by_match false a b = refl

-- ---- what the lines of the table give

-- where a line that gives 1 matches, the lines give 1, and else they don't
ones_match : (at : ℕ → ℕ) (ls : List Line) → some_matches at (lines_for gives_one 1 ls) ≡ some_gives at 1 ls
ones_match at [] = refl
ones_match at (l ∷ ls) =
    ⊎_elim
    (λ (y : gives_one l ≡ true).
    ap (some_matches at) (picked gives_one 1 l ls y)
    ∙ (ap (λ b. matches at l.cube || b) (ones_match at ls)
    ∙ ap (λ b. b || some_gives at 1 ls) (sym (ap (λ b. matches at l.cube && b) y ∙ and_true (matches at l.cube)))))
    (λ (n : gives_one l ≡ false).
    ap (some_matches at) (skipped gives_one 1 l ls n)
    ∙ (ones_match at ls ∙ ap (λ b. b || some_gives at 1 ls) (sym (ap (λ b. matches at l.cube && b) n ∙ and_false (matches at l.cube)))))
    (cases_Bool (gives_one l))
  where
    and_true : (b : Bool) → (b && true) ≡ b
    and_true true = refl
    and_true false = refl

    and_false : (b : Bool) → (b && false) ≡ false
    and_false true = refl
    and_false false = refl

-- a line that gives something matches: the lines give 1, or one that doesn't give 1 matches
zeros_match : (at : ℕ → ℕ) (ls : List Line) → some_matches at ls ≡ true → some_matches at (lines_for lacks_one 0 ls) ≡ false → some_gives at 1 ls ≡ true
zeros_match at [] met none = met
zeros_match at (l ∷ ls) met none =
    ⊎_elim
    (λ (y : gives_one l ≡ true).
    ⊎_elim
    (λ (here : matches at l.cube ≡ true). or_left (matches at l.cube && has l.out 1) (some_gives at 1 ls) (and_from (matches at l.cube) (has l.out 1) here y))
    (λ (rest : some_matches at ls ≡ true).
    or_right (matches at l.cube && has l.out 1) (some_gives at 1 ls)
    (zeros_match at ls rest (sym (ap (some_matches at) (skipped lacks_one 0 l ls (ap not y))) ∙ none)))
    (or_cases (matches at l.cube) (some_matches at ls) met))
    (λ (n : gives_one l ≡ false).
    let parts = or_parts (matches at l.cube) (some_matches at (lines_for lacks_one 0 ls)) (sym (ap (some_matches at) (picked lacks_one 0 l ls (ap not n))) ∙ none) in
    or_right (matches at l.cube && has l.out 1) (some_gives at 1 ls)
    (zeros_match at ls
    (⊎_elim
    (λ (here : matches at l.cube ≡ true). absurd (false≢true (sym parts.0 ∙ here)))
    (λ (rest : some_matches at ls ≡ true). rest)
    (or_cases (matches at l.cube) (some_matches at ls) met))
    parts.1))
    (cases_Bool (gives_one l))

-- some of two values at most, and not 1, is 0
gives_zero : (values out : ℕ) → values ≤ 2 → values ≤ MAX_VALUES → IsOutput values out → has out 1 ≡ false → has out 0 ≡ true
gives_zero values out two few is none =
    let below : (v : ℕ) → has out v ≡ true → v < values = λ v h. ltb-true v values (sym (has-full values v) ∙ is.within v h) in
    let least = least_of out (record { below = λ v h. let low = below v h in omega arith }) is.some in
    let low : least.0 < values = below least.0 least.1.member in
    ⊎_elim
    (λ (e : least.0 ≡ 1). absurd (false≢true (sym none ∙ subst (λ v. has out v ≡ true) e least.1.member)))
    (λ (ne : least.0 ≡ 1 → ⊥). let zero_is : least.0 ≡ 0 = omega (arith, ne) in subst (λ v. has out v ≡ true) zero_is least.1.member)
    (cases_eq least.0 1)

-- a line that doesn't give 1 matches: the lines give 0
zeros_give : (nets : List (Option FlatNet)) (values : ℕ) (at : ℕ → ℕ) (ls : List Line) → values ≤ 2 → values ≤ MAX_VALUES → AllLines nets values ls → some_matches at (lines_for lacks_one 0 ls) ≡ true → some_gives at 0 ls ≡ true
zeros_give nets values at [] two few all met = met
zeros_give nets values at (l ∷ ls) two few all met =
    ⊎_elim
    (λ (y : gives_one l ≡ true).
    or_right (matches at l.cube && has l.out 0) (some_gives at 0 ls)
    (zeros_give nets values at ls two few all.2 (sym (ap (some_matches at) (skipped lacks_one 0 l ls (ap not y))) ∙ met)))
    (λ (n : gives_one l ≡ false).
    ⊎_elim
    (λ (here : matches at l.cube ≡ true).
    or_left (matches at l.cube && has l.out 0) (some_gives at 0 ls)
    (and_from (matches at l.cube) (has l.out 0) here (gives_zero values l.out two few all.1 n)))
    (λ (rest : some_matches at (lines_for lacks_one 0 ls) ≡ true).
    or_right (matches at l.cube && has l.out 0) (some_gives at 0 ls) (zeros_give nets values at ls two few all.2 rest))
    (or_cases (matches at l.cube) (some_matches at (lines_for lacks_one 0 ls)) (sym (ap (some_matches at) (picked lacks_one 0 l ls (ap not n))) ∙ met)))
    (cases_Bool (gives_one l))

-- ---- the table that says one value

only_by : (new : Cover) (at : ℕ → ℕ) (value : ℕ) → ((v : ℕ) → allowed new at v ≡ has (one value) v) → (v : ℕ) → IsTrue (allowed new at v) ↔ (v ≡ value)
only_by new at value same v = (λ h. (one_only value v).0 (sym (same v) ∙ h), λ e. same v ∙ (one_only value v).1 e)

lines_allow : (c : Cover) (at : ℕ → ℕ) (v : ℕ) → some_gives at v c.lines ≡ true → IsTrue (allowed c at v)
unfolding allowed
lines_allow c at v h = or_left (some_gives at v c.lines) (not (some_matches at c.lines) && default_gives c.default v) h

default_allows : (c : Cover) (at : ℕ → ℕ) (v : ℕ) → some_matches at c.lines ≡ false → default_gives c.default v ≡ true → IsTrue (allowed c at v)
unfolding allowed
default_allows c at v none h =
    or_right (some_gives at v c.lines) (not (some_matches at c.lines) && default_gives c.default v)
    (and_from (not (some_matches at c.lines)) (default_gives c.default v) (ap not none) h)

by_lines : (c : Cover) (at : ℕ → ℕ) (v : ℕ) → default_gives c.default v ≡ false → IsTrue (allowed c at v) → some_gives at v c.lines ≡ true
unfolding allowed
by_lines c at v none h =
    ⊎_elim
    (λ (given : some_gives at v c.lines ≡ true). given)
    (λ (d : (not (some_matches at c.lines) && default_gives c.default v) ≡ true).
    absurd (false≢true (sym none ∙ (and_parts (not (some_matches at c.lines)) (default_gives c.default v) d).1)))
    (or_cases (some_gives at v c.lines) (not (some_matches at c.lines) && default_gives c.default v) h)

module _ (net : NetParts) (n : ℕ) (c : Cover) (formed : WellFormed net) (table : table_in (slot net.nets n) ≡ Some c) (two : values_in (slot net.nets n) ≤ 2) (total : IsTotal net.nets c) where
  abbrev ones : Cover
  ones = record { lines = lines_for gives_one 1 c.lines; default = Some (one 0) }

  abbrev zeros : Cover
  zeros = record { lines = lines_for lacks_one 0 c.lines; default = Some (one 1) }

  is : IsCover net.nets (values_in (slot net.nets n)) c
  is = cover_at net n c formed table

  -- what is allowed and isn't 1 is 0
  allows_zero : (at : ℕ → ℕ) → IsPoint (map values_in net.nets) at → default_gives c.default 1 ≡ false → some_gives at 1 c.lines ≡ false → IsTrue (allowed c at 0)
  allows_zero at point bare none =
      let some = total.some at point in
      let low : some.value < values_in (slot net.nets n) = allowed_below net.nets (values_in (slot net.nets n)) c at some.value is some.is_allowed in
      ⊎_elim
      (λ (e : some.value ≡ 1). absurd (false≢true (sym none ∙ by_lines c at 1 bare (subst (λ v. IsTrue (allowed c at v)) e some.is_allowed))))
      (λ (ne : some.value ≡ 1 → ⊥). let zero_is : some.value ≡ 0 = omega (arith, ne) in subst (λ v. IsTrue (allowed c at v)) zero_is some.is_allowed)
      (cases_eq some.value 1)

  ones_take : default_gives c.default 1 ≡ false → (at : ℕ → ℕ) → IsPoint (map values_in net.nets) at → TakesOneAt c ones at
  ones_take bare at point =
      ⊎_elim
      (λ (y : some_gives at 1 c.lines ≡ true). record {
        value = 1;
        was_allowed = lines_allow c at 1 y;
        only = only_by ones at 1 (λ v. for_allowed gives_one 1 0 at v c.lines ∙ cond-true (some_matches at ones.lines) (has (one 1) v) (has (one 0) v) (ones_match at c.lines ∙ y));
      })
      (λ (none : some_gives at 1 c.lines ≡ false). record {
        value = 0;
        was_allowed = allows_zero at point bare none;
        only = only_by ones at 0 (λ v. for_allowed gives_one 1 0 at v c.lines ∙ cond-false (some_matches at ones.lines) (has (one 1) v) (has (one 0) v) (ones_match at c.lines ∙ none));
      })
      (cases_Bool (some_gives at 1 c.lines))

  -- what a line doesn't say is 1
  allows_one : (at : ℕ → ℕ) → default_gives c.default 1 ≡ true → some_matches at zeros.lines ≡ false → IsTrue (allowed c at 1)
  allows_one at given none =
      ⊎_elim
      (λ (met : some_matches at c.lines ≡ true). lines_allow c at 1 (zeros_match at c.lines met none))
      (λ (missed : some_matches at c.lines ≡ false). default_allows c at 1 missed given)
      (cases_Bool (some_matches at c.lines))

  zeros_take : default_gives c.default 1 ≡ true → (at : ℕ → ℕ) → TakesOneAt c zeros at
  zeros_take given at =
      ⊎_elim
      (λ (y : some_matches at zeros.lines ≡ true). record {
        value = 0;
        was_allowed = lines_allow c at 0 (zeros_give net.nets (values_in (slot net.nets n)) at c.lines two (values_few net n formed) is.lines y);
        only = only_by zeros at 0 (λ v. for_allowed lacks_one 0 1 at v c.lines ∙ cond-true (some_matches at zeros.lines) (has (one 0) v) (has (one 1) v) y);
      })
      (λ (none : some_matches at zeros.lines ≡ false). record {
        value = 1;
        was_allowed = allows_one at given none;
        only = only_by zeros at 1 (λ v. for_allowed lacks_one 0 1 at v c.lines ∙ cond-false (some_matches at zeros.lines) (has (one 0) v) (has (one 1) v) none);
      })
      (cases_Bool (some_matches at zeros.lines))

  pub binary_takes : TakesOne net.nets c (binary_choice c)
  unfolding binary_choice
  binary_takes =
      ⊎_elim
      (λ (given : default_gives c.default 1 ≡ true).
      subst (TakesOne net.nets c) (sym (cond-true (default_gives c.default 1) zeros ones given))
      (record { reads = record { each = λ m h. for_reads lacks_one 0 c.lines m h }; each = λ at point. zeros_take given at }))
      (λ (bare : default_gives c.default 1 ≡ false).
      subst (TakesOne net.nets c) (sym (cond-false (default_gives c.default 1) zeros ones bare))
      (record { reads = record { each = λ m h. for_reads gives_one 1 c.lines m h }; each = λ at point. ones_take bare at point }))
      (cases_Bool (default_gives c.default 1))
