-- A table made deterministic allows only what the table allowed, and some value where it did, and reads no net besides.
use Rattle.std.proofs.Common.{◌≡◌, ◌∙◌, ℕ, ◌≤◌, Bool, true, false, not, ◌&&◌, Option, Some, None, List, [], inl, inr, refl, sym, ap}
use Rattle.std.proofs.lemmas.Bool.{cases_Bool, false≢true, and_parts, and_from, or_cases, or_left, or_right, not_from_false}
use Rattle.mv_base.specs.Set.{has}
use Rattle.mv_base.specs.declared.limits.TheConstants.{MAX_VALUES}
use Rattle.mv_cover.specs.Covering.{IsPoint}
use Rattle.mv_cover.specs.Covers.{allowed, cover_reads, default_gives, some_gives, some_matches}
use Rattle.mv_cover.specs.Lines.{IsOutput}
use Rattle.mv_cover.specs.declared.cover.Cover.{Cover}
use Rattle.mv_cover.proofs.Single.{gives-matches}
use Rattle.mv_composite.specs.Inside.{IsCoverOver}
use Rattle.mv_determine.specs.Determined.{determined_from, determined_of, least_default, least_of}
use Rattle.mv_determine.proofs.Least.{least_there, one_only, one_there}
use Rattle.mv_determine.proofs.Outside.{over_none}
use Rattle.mv_determine.proofs.Following.{determined_gives, determined_matches, determined_outputs, determined_reads, some_given}

module _ (counts : List ℕ) (values : ℕ) (c : Cover) (few : values ≤ MAX_VALUES) (is : IsCoverOver counts values c) (at : ℕ → ℕ) (point : IsPoint counts at) where
  -- a line holds where one did
  same_matches : some_matches at (determined_from counts [] c.lines) ≡ some_matches at c.lines
  same_matches = determined_matches counts at point [] c.lines (over_none counts) is.cubes ∙ and_true (some_matches at c.lines)
    where
      and_true : (b : Bool) → (b && true) ≡ b
      and_true true = refl
      and_true false = refl

  default_before : (o : Option ℕ) → ((out : ℕ) → o ≡ Some out → IsOutput values out) → (v : ℕ) → default_gives (least_default o) v ≡ true → default_gives o v ≡ true
  default_before None outs v h = h
  default_before (Some out) outs v h = ap (has out) (one_only (least_of out) v h) ∙ least_there values out few (outs out refl)

  pub determined_within : (v : ℕ) → allowed (determined_of counts c) at v ≡ true → allowed c at v ≡ true
  unfolding allowed
  determined_within v h =
      let new = determined_from counts [] c.lines in
      elim (or_cases (some_gives at v new) (not (some_matches at new) && default_gives (least_default c.default) v) h) [
        | inl gives ↦
            or_left (some_gives at v c.lines) (not (some_matches at c.lines) && default_gives c.default v)
            (determined_gives counts values few at point v [] c.lines (over_none counts) is.cubes is.outputs gives)
        | inr beside ↦
            let p = and_parts (not (some_matches at new)) (default_gives (least_default c.default) v) beside in
            or_right (some_gives at v c.lines) (not (some_matches at c.lines) && default_gives c.default v)
            (and_from (not (some_matches at c.lines)) (default_gives c.default v) (ap not (sym same_matches) ∙ p.0) (default_before c.default is.default v p.1))
      ]

  default_after : (o : Option ℕ) → ((out : ℕ) → o ≡ Some out → IsOutput values out) → (v : ℕ) → default_gives o v ≡ true → (w : ℕ) × (default_gives (least_default o) w ≡ true)
  default_after None outs v h = absurd (false≢true h)
  default_after (Some out) outs v h = (least_of out, one_there (least_of out))

  pub determined_keeps : (v : ℕ) → allowed c at v ≡ true → (w : ℕ) × (allowed (determined_of counts c) at w ≡ true)
  unfolding allowed
  determined_keeps v h =
      let new = determined_from counts [] c.lines in
      elim (cases_Bool (some_matches at c.lines)) [
        | inl t ↦
            let g = some_given values few at new (determined_outputs counts values few [] c.lines is.outputs) (same_matches ∙ t) in
            (g.0, or_left (some_gives at g.0 new) (not (some_matches at new) && default_gives (least_default c.default) g.0) g.1)
        | inr f ↦
            elim (or_cases (some_gives at v c.lines) (not (some_matches at c.lines) && default_gives c.default v) h) [
              | inl gives ↦ absurd (false≢true (sym f ∙ gives-matches at v c.lines gives))
              | inr beside ↦
                  let p = and_parts (not (some_matches at c.lines)) (default_gives c.default v) beside in
                  let g = default_after c.default is.default v p.1 in (
                    g.0,
                    or_right (some_gives at g.0 new) (not (some_matches at new) && default_gives (least_default c.default) g.0)
                        (and_from (not (some_matches at new)) (default_gives (least_default c.default) g.0) (not_from_false (some_matches at new) (same_matches ∙ f)) g.1),
                  )
            ]
      ]

pub table_reads : (counts : List ℕ) (c : Cover) (n : ℕ) → cover_reads (determined_of counts c) n ≡ true → cover_reads c n ≡ true
table_reads counts c n h =
    elim (determined_reads counts n [] c.lines h) [
      | inl before ↦ absurd (false≢true before)
      | inr own ↦ own
    ]
