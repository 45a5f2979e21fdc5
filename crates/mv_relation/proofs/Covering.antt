-- The sets of a cover's lines and of its default make up what the cover allows.
use Rattle.std.proofs.Common.{◌≡◌, ◌∙◌, ℕ, ◌&&◌, ◌||◌, Bool, true, false, not, Option, Some, None, List, sym, ap, subst, refl}
use Rattle.mv_base.specs.Set.{has}
use Rattle.mv_cover.specs.declared.line.Line.{Line}
use Rattle.mv_cover.specs.declared.cover.Cover.{Cover}
use Rattle.mv_cover.specs.Covers.{allowed, default_gives, some_gives, some_matches}
use Rattle.mv_diagram.specs.Sets.{Point, InRange}
use Rattle.mv_factors.specs.Families.{Family, set_at}
use Rattle.mv_relation.specs.Relations.{assigned, chooses, has_some}
use Rattle.mv_relation.specs.Placing.{some_choose, some_holds}
use Rattle.mv_relation.proofs.Holding.{holds-gives, holds-matches}

and_false : (a : Bool) → (a && false) ≡ false
and_false true = refl
and_false false = refl

or_false : (a : Bool) → (a || false) ≡ a
or_false true = refl
or_false false = refl

and_true : (a : Bool) → (a && true) ≡ a
and_true true = refl
and_true false = refl

module _ (vars : List ℕ) (own : ℕ) (p : Point) (c : Cover) (ls : List Line) (lines : ls ≡ c.lines) where
  gives : some_holds vars own true p ls ≡ some_gives (assigned vars p) (p own) c.lines
  gives = ap (some_holds vars own true p) lines ∙ holds-gives vars own p c.lines

  matched : some_holds vars own false p ls ≡ some_matches (assigned vars p) c.lines
  matched = ap (some_holds vars own false p) lines ∙ holds-matches vars own p c.lines

  -- without a default
  pub allowed_bare : c.default ≡ None → some_holds vars own true p ls ≡ allowed c (assigned vars p) (p own)
  unfolding allowed
  allowed_bare none =
      gives
      ∙ sym (or_false (some_gives (assigned vars p) (p own) c.lines))
      ∙ ap (λ b. some_gives (assigned vars p) (p own) c.lines || b)
      (sym (and_false (not (some_matches (assigned vars p) c.lines)))
      ∙ ap (λ (d : Option ℕ). not (some_matches (assigned vars p) c.lines) && default_gives d (p own)) (sym none))

  -- and with one
  allowed_beside : (out : ℕ) → c.default ≡ Some out
      → (some_holds vars own true p ls || (not (some_holds vars own false p ls) && has out (p own))) ≡ allowed c (assigned vars p) (p own)
  unfolding allowed
  allowed_beside out some =
      ap (λ b. b || (not (some_holds vars own false p ls) && has out (p own))) gives
      ∙ ap (λ b. some_gives (assigned vars p) (p own) c.lines || (not b && has out (p own))) matched
      ∙ ap (λ (d : Option ℕ). some_gives (assigned vars p) (p own) c.lines || (not (some_matches (assigned vars p) c.lines) && default_gives d (p own)))
      (sym some)

  chosen_beside : has_some c.default ≡ true → (some_choose vars p ls || not (some_holds vars own false p ls)) ≡ chooses c (assigned vars p)
  chosen_beside some =
      ap (λ (xs : List Line). some_choose vars p xs || not (some_holds vars own false p ls)) lines
      ∙ ap (λ b. some_choose vars p c.lines || not b) matched
      ∙ ap (λ b. some_choose vars p c.lines || b)
      (sym (and_true (not (some_matches (assigned vars p) c.lines)))
      ∙ ap (λ b. not (some_matches (assigned vars p) c.lines) && b) (sym some))

module _ (f g h : Family) (place count : ℕ) (here : place ≡ count) (counts : g.contents.counts ≡ f.contents.counts)
    (vars : List ℕ) (own : ℕ) (c : Cover) (ls : List Line) (lines : ls ≡ c.lines) where
  along : (p : Point) → InRange f.contents.counts p → InRange g.contents.counts p
  along p range = subst (λ (cs : List ℕ). InRange cs p) (sym counts) range

  pub cover_set : (out : ℕ) → c.default ≡ Some out
      → ((p : Point) → InRange f.contents.counts p → set_at g count p ≡ some_holds vars own true p ls)
      → ((p : Point) → InRange g.contents.counts p → set_at h place p
      ≡ (set_at g place p || (not (some_holds vars own false p ls) && has out (p own))))
      → (p : Point) → InRange f.contents.counts p → set_at h count p ≡ allowed c (assigned vars p) (p own)
  cover_set out some first second p range =
      ap (λ k. set_at h k p) (sym here)
      ∙ second p (along p range)
      ∙ ap (λ b. b || (not (some_holds vars own false p ls) && has out (p own))) (ap (λ k. set_at g k p) here ∙ first p range)
      ∙ allowed_beside vars own p c ls lines out some

  pub choice_set : has_some c.default ≡ true
      → ((p : Point) → InRange f.contents.counts p → set_at g count p ≡ some_choose vars p ls)
      → ((p : Point) → InRange g.contents.counts p → set_at h place p ≡ (set_at g place p || not (some_holds vars own false p ls)))
      → (p : Point) → InRange f.contents.counts p → set_at h count p ≡ chooses c (assigned vars p)
  choice_set some first second p range =
      ap (λ k. set_at h k p) (sym here)
      ∙ second p (along p range)
      ∙ ap (λ b. b || not (some_holds vars own false p ls)) (ap (λ k. set_at g k p) here ∙ first p range)
      ∙ chosen_beside vars own p c ls lines some
