-- The walk from the root of a design.
use Rattle.std.proofs.Common.{◌≡◌, ℕ, zero, suc, ◌+◌, ◌<◌, ◌==◌, Bool, true, false, List, [], ◌∷◌, ◌++◌, length, map, get_or, Some, None, refl, sym, ◌∙◌, ap, subst, arith, slice_get}
use Rattle.std.proofs.lemmas.Bool.{false≢true}
use Rattle.std.proofs.lemmas.Bool.Decides.{nat_tests}
use Rattle.mv_base.specs.declared.limits.TheConstants.{MAX_DEPTH}
use Rattle.mv_design.specs.declared.design.Design.{Design}
use Rattle.mv_design.specs.declared.design.FileModel.{FileModel}
use Rattle.mv_design.specs.declared.design.Instance.{Instance}
use Rattle.mv_design.specs.Nets.{root_of, no_model}
use Rattle.mv_tree.specs.Tree.{NoMore, Unfolds, size_of}
use Rattle.mv_walk.specs.declared.walker.Walker.{Walker}
use Rattle.mv_walk.specs.Walk.{Level, root_level, visit, visits, visits_faults, walk_faults}
use Rattle.mv_walk.specs.Trees.{tree_of}
use Rattle.mv_walk.specs.Commands.{model_at}
use Rattle.mv_walk.specs.Openings.{openings, AreOpened}
use Rattle.mv_walk.specs.Steps.{AreMarks, IsAt, IsStart, Walked, level_of, round_of, trail_of}
use Rattle.mv_walk.proofs.Visits.{insides}
use Rattle.mv_walk.proofs.Grown.{grown_tree}

-- ---- a root without commands

no_visits : (n : ℕ) (d : Design) (l : Level) → l.model.instances ≡ [] → visits n d l ≡ []
no_visits zero d l e = ap (λ ps. map (visit l) ps) e
no_visits (suc n) d l e = ap (λ ps. map (visit l) ps ++ insides n d l ps) e

pub no_faults : (d : Design) → (root_of d).instances ≡ [] → walk_faults d ≡ []
unfolding walk_faults
no_faults d e = ap (visits_faults d 0) (no_visits MAX_DEPTH d (root_level (root_of d)) e)

pub no_instances : (d : Design) → (root_of d).instances ≡ [] → AreOpened d []
no_instances d e = record {
  tree = NoMore;
  has = record { unfolds = subst (λ (ps : List Instance). Unfolds d ps NoMore) (sym e) tt; bound = tt; shallow = tt; few = omega arith };
  is = refl;
}

-- ---- the root by its place

pub root_missing : (d : Design) → slice_get d.models d.root ≡ None → (root_of d).instances ≡ []
unfolding root_of
root_missing d e = missing d.models d.root e
  where
    missing : (ms : List FileModel) (k : ℕ) → slice_get ms k ≡ None → (get_or ms k no_model).instances ≡ []
    missing [] k e = refl
    missing (m ∷ ms) zero e = cc
    missing (m ∷ ms) (suc k) e = missing ms k e

-- the model at the place of the root
pub record IsRoot (d : Design) (m : FileModel) : Type 0 where
  pub is : root_of d ≡ m
  pub at : model_at d.models d.root ≡ root_of d
  pub within : d.root < length d.models

pub root_found : (d : Design) (m : FileModel) → slice_get d.models d.root ≡ Some m → IsRoot d m
unfolding root_of
root_found d m e = record { is = found d.models d.root m e; at = refl; within = inside d.models d.root m e }
  where
    found : (ms : List FileModel) (k : ℕ) (m : FileModel) → slice_get ms k ≡ Some m → get_or ms k no_model ≡ m
    found [] k m e = cc
    found (x ∷ ms) zero m e = cc
    found (x ∷ ms) (suc k) m e = found ms k m e

    inside : (ms : List FileModel) (k : ℕ) (m : FileModel) → slice_get ms k ≡ Some m → k < length ms
    inside [] k m e = cc
    inside (x ∷ ms) zero m e = omega arith
    inside (x ∷ ms) (suc k) m e = let h = inside ms k m e in omega arith

-- ---- the walk

-- a walk that begins is in the root
pub starts_at : (d : Design) (m : FileModel) (w : Walker) (levels : ℕ) → levels ≡ MAX_DEPTH → IsRoot d m → IsStart d m.name w → IsAt d levels w
starts_at d m w levels deep root h = record {
  marked = record {
    marks = subst (λ ps. AreMarks d.models (round_of d ps) w.marks.items) (sym h.trail)
        (subst (λ (x : FileModel). AreMarks d.models (x.name ∷ []) w.marks.items) (sym root.is) h.marks);
  };
  depth = let e = ap length h.trail in omega arith;
  few = let e = h.count in omega arith;
  listed = let e = ap length h.list in let f = h.count in omega arith;
}

-- what it tells is what is wrong with the design
pub faults_of : (d : Design) (m : FileModel) (w : Walker) (levels : ℕ) → levels ≡ MAX_DEPTH → IsRoot d m → IsStart d m.name w
    → visits_faults d w.count (visits levels d (level_of d (model_at d.models d.root) (trail_of w))) ≡ walk_faults d
unfolding walk_faults
faults_of d m w levels deep root h =
    ap (λ ps. visits_faults d w.count (visits levels d (level_of d (model_at d.models d.root) ps))) h.trail
    ∙ (ap (λ x. visits_faults d w.count (visits levels d (level_of d x []))) root.at
    ∙ (ap (λ k. visits_faults d k (visits levels d (root_level (root_of d)))) h.count
    ∙ ap (λ n. visits_faults d 0 (visits n d (root_level (root_of d)))) deep))

-- and what it lists are its instances
pub lists_all : (d : Design) (m : FileModel) (w new : Walker) (levels : ℕ) → levels ≡ MAX_DEPTH → IsRoot d m → IsStart d m.name w → walk_faults d ≡ []
    → Walked (openings d 0 (length w.list + 1) 0 (tree_of levels d (model_at d.models d.root))) (size_of (tree_of levels d (model_at d.models d.root))) w new → AreOpened d new.list
lists_all d m w new levels deep root h none walked = record {
  tree = tree_of MAX_DEPTH d (root_of d);
  has = grown_tree d none;
  is = walked.list ∙ (ap (λ xs. xs ++ openings d 0 (length xs + 1) 0 (tree_of levels d (model_at d.models d.root))) h.list
      ∙ (ap (λ x. openings d 0 1 0 (tree_of levels d x)) root.at ∙ ap (λ n. openings d 0 1 0 (tree_of n d (root_of d))) deep));
}

-- a walk that begins in a design, known under another name
pub record Begins (d k : Design) (m : FileModel) (w : Walker) (levels : ℕ) : Type 0 where
  pub same : k ≡ d
  pub deep : levels ≡ MAX_DEPTH
  pub root : IsRoot d m
  pub start : IsStart k m.name w

pub begins : (d k : Design) (m : FileModel) (w : Walker) (levels : ℕ) → k ≡ d → levels ≡ MAX_DEPTH → Some m ≡ slice_get d.models d.root → IsStart k m.name w → Begins d k m w levels
begins d k m w levels same deep root start = record { same = same; deep = deep; root = root_found d m (sym root); start = start }

start_of : (d k : Design) (m : FileModel) (w : Walker) (levels : ℕ) → Begins d k m w levels → IsStart d m.name w
start_of d k m w levels h = subst (λ x. IsStart x m.name w) h.same h.start

pub begins_at : (d k : Design) (m : FileModel) (w : Walker) (levels : ℕ) → Begins d k m w levels → IsAt k levels w
begins_at d k m w levels h = subst (λ x. IsAt x levels w) (sym h.same) (starts_at d m w levels h.deep h.root (start_of d k m w levels h))

pub begins_within : (d k : Design) (m : FileModel) (w : Walker) (levels : ℕ) → Begins d k m w levels → d.root < length k.models
begins_within d k m w levels h = subst (λ x. d.root < length x.models) (sym h.same) h.root.within

pub begins_faults : (d k : Design) (m : FileModel) (w : Walker) (levels : ℕ) → Begins d k m w levels
    → visits_faults k w.count (visits levels k (level_of k (model_at k.models d.root) (trail_of w))) ≡ walk_faults d
begins_faults d k m w levels h =
    ap (λ x. visits_faults x w.count (visits levels x (level_of x (model_at x.models d.root) (trail_of w)))) h.same ∙ faults_of d m w levels h.deep h.root (start_of d k m w levels h)

pub begins_list : (d k : Design) (m : FileModel) (w new : Walker) (levels : ℕ) → Begins d k m w levels
    → visits_faults k w.count (visits levels k (level_of k (model_at k.models d.root) (trail_of w))) ≡ []
    → Walked (openings k 0 (length w.list + 1) 0 (tree_of levels k (model_at k.models d.root))) (size_of (tree_of levels k (model_at k.models d.root))) w new → AreOpened d new.list
begins_list d k m w new levels h none walked =
    lists_all d m w new levels h.deep h.root (start_of d k m w levels h) (sym (begins_faults d k m w levels h) ∙ none)
    (subst (λ x. Walked (openings x 0 (length w.list + 1) 0 (tree_of levels x (model_at x.models d.root))) (size_of (tree_of levels x (model_at x.models d.root))) w new) h.same walked)

-- a list of no length
pub nothing_of : {X : Type 0} (xs : List X) (b : Bool) → b ≡ (length xs == 0) → b ≡ true → xs ≡ []
nothing_of [] b e t = refl
nothing_of (x ∷ xs) b e t = absurd (false≢true (not_zero (length xs) ∙ (sym e ∙ t)))
  where
    not_zero : (n : ℕ) → false ≡ (suc n == 0)
    not_zero n = grind (arith, nat_tests)
