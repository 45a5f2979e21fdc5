-- The instances in which a walk is, and the marks of their models.
use Rattle.std.proofs.Common.{◌≡◌, ℕ, suc, ◌+◌, ◌<◌, Bool, true, false, List, [], ◌∷◌, ◌++◌, length, get_or, set, replicate, Some, None, refl, sym, ◌∙◌, ap, ⊎_elim, arith}
use Rattle.std.proofs.lemmas.Bool.{cases_Bool, false≢true}
use Rattle.std.proofs.lemmas.List.{get_or-set_same, get_or-set_other, get_or-replicate, set-set, set-get_or, length-map, length-set, length-replicate}
use Rattle.mv_base.specs.Names.{among, same_word}
use Rattle.mv_base.proofs.NameLemmas.{same_word_is, same_word_refl}
use Rattle.mv_design.specs.declared.design.Design.{Design}
use Rattle.mv_design.specs.declared.design.FileModel.{FileModel}
use Rattle.mv_design.specs.declared.design.Instance.{Instance}
use Rattle.mv_design.specs.Nets.{root_of}
use Rattle.mv_tree.specs.Places.{path_in}
use Rattle.mv_walk.specs.declared.walker.Walker.{Walker}
use Rattle.mv_walk.specs.Commands.{place_named}
use Rattle.mv_walk.specs.Steps.{round_from, path_from, level_of, trail_of, AreMarks}
use Rattle.mv_walk.proofs.Placed.{place_within, one_name}

-- ---- one instance more

pub round-push : (round : List (List ℕ)) (ps : List Instance) (p : Instance) → round_from round (ps ++ p ∷ []) ≡ p.model ∷ round_from round ps
round-push round [] p = refl
round-push round (q ∷ ps) p = round-push (q.model ∷ round) ps p

pub path-push : (path : List ℕ) (ps : List Instance) (p : Instance) → path_from path (ps ++ p ∷ []) ≡ path_in (path_from path ps) p.name
path-push path [] p = refl
path-push path (q ∷ ps) p = path-push (path_in path q.name) ps p

pub length-round : (round : List (List ℕ)) (ps : List Instance) → length (round_from round ps) ≡ length round + length ps
length-round round [] = omega arith
length-round round (p ∷ ps) = let e = length-round (p.model ∷ round) ps in omega arith

-- a level stands one deeper than there are instances round it
pub level_deep : (d : Design) (m : FileModel) (trail : List Instance) → length (level_of d m trail).round ≡ suc (length trail)
level_deep d m trail = let e : length (level_of d m trail).round ≡ 1 + length trail = length-round ((root_of d).name ∷ []) trail in omega arith

-- there are as many of these as the walk keeps
pub length-trail : (w : Walker) → length (trail_of w) ≡ length w.trail.items
length-trail w = length-map w.trail.items _

-- ---- marks

-- no mark stands where there are no names
pub unmarked : (ms : List FileModel) → AreMarks ms [] (replicate (length ms) false)
unmarked ms = record {
  many = length-replicate (length ms) false;
  each = λ name k e. get_or-replicate (length ms) k false false (place_within ms name k e);
}

-- a name more is marked
pub marked_more : (ms : List FileModel) (names : List (List ℕ)) (marks : List Bool) (name : List ℕ) (k : ℕ) → AreMarks ms names marks → place_named ms name ≡ Some k
    → AreMarks ms (name ∷ names) (set marks k true)
marked_more ms names marks name k h at = record {
  many = length-set marks k true ∙ h.many;
  each = λ other j e. ⊎_elim
      (λ (y : same_word other name ≡ true). rw y (here other j e (same_word_is other name y)))
      (λ (n : same_word other name ≡ false). rw n (there other j e n))
      (cases_Bool (same_word other name));
}
  where
    within : k < length marks
    within = let w = place_within ms name k at in let l : length marks ≡ length ms = h.many in omega arith

    some_is : (a b : ℕ) → Some a ≡ Some b → a ≡ b
    some_is a b e = cc

    here : (other : List ℕ) (j : ℕ) → place_named ms other ≡ Some j → other ≡ name → get_or (set marks k true) j false ≡ true
    here other j e is = rw (← some_is k j (sym at ∙ (ap (place_named ms) (sym is) ∙ e))) (get_or-set_same marks k true false within)

    there : (other : List ℕ) (j : ℕ) → place_named ms other ≡ Some j → same_word other name ≡ false → get_or (set marks k true) j false ≡ among other names
    there other j e n =
        get_or-set_other marks k j true false (λ (same : j ≡ k). false≢true (sym n ∙ (ap (same_word other) (sym (one_name ms other name k (e ∙ ap Some same) at)) ∙ same_word_refl other)))
        ∙ h.each other j e

-- a mark that was set and taken away
pub marked_back : (marks : List Bool) (k : ℕ) → get_or marks k false ≡ false → set (set marks k true) k false ≡ marks
marked_back marks k e = set-set marks k true false ∙ (ap (set marks k) (sym e) ∙ set-get_or marks k false)

-- where a root's name has no place, nothing is marked
pub rooted_nowhere : (ms : List FileModel) (name : List ℕ) → place_named ms name ≡ None → AreMarks ms (name ∷ []) (replicate (length ms) false)
rooted_nowhere ms name none = record {
  many = (unmarked ms).many;
  each = λ other k e. (unmarked ms).each other k e ∙ ⊎_elim
      (λ (y : same_word other name ≡ true). absurd (apart k (sym none ∙ (ap (place_named ms) (sym (same_word_is other name y)) ∙ e))))
      (λ (n : same_word other name ≡ false). rw n refl)
      (cases_Bool (same_word other name));
}
  where
    apart : (k : ℕ) → None ≡ Some k → ⊥
    apart k e = cc

pub rooted_at : (ms : List FileModel) (name : List ℕ) (k : ℕ) → place_named ms name ≡ Some k → AreMarks ms (name ∷ []) (set (replicate (length ms) false) k true)
rooted_at ms name k e = marked_more ms [] (replicate (length ms) false) name k (unmarked ms) e

pub ruleset rooted = (rooted_nowhere, rooted_at)
