-- Where no fault is told, the commands make a tree of instances.
use Rattle.std.proofs.Common.{◌≡◌, ℕ, suc, zero, ◌+◌, ◌<◌, ◌≤◌, List, [], ◌∷◌, length, map, refl, sym, ◌∙◌, ap, subst, arith}
use Rattle.std.proofs.lemmas.List.{length-append, length-map}
use Rattle.mv_base.specs.declared.limits.TheConstants.{MAX_DEPTH, MAX_INSTANCES}
use Rattle.mv_fault.proofs.Nothing.{left-nothing, right-nothing}
use Rattle.mv_design.specs.declared.design.Design.{Design}
use Rattle.mv_design.specs.declared.design.Instance.{Instance}
use Rattle.mv_design.specs.Nets.{root_of}
use Rattle.mv_tree.specs.Tree.{Instances, NoMore, Unfolds, IsWithinDepth, size_of}
use Rattle.mv_tree.specs.Bound.{AreBound}
use Rattle.mv_walk.specs.Walk.{Level, Visit, root_level, level_in, visit, visits_at, visits, visit_faults, visits_faults, walk_faults, HasTree}
use Rattle.mv_walk.specs.Trees.{trees, tree_of, HasSomeTree}
use Rattle.mv_walk.proofs.Visits.{insides, insides-cons, visits_faults-append, passes, fits-bound}

-- the instances that the commands of a level make, and how many these are, down to so many levels
pub record Grown (n : ℕ) (d : Design) (l : Level) : Type 0 where
  pub unfolds : Unfolds d l.model.instances (tree_of n d l.model)
  pub bound : AreBound l.model (tree_of n d l.model)
  pub shallow : IsWithinDepth n (tree_of n d l.model)
  pub size : length (visits n d l) ≡ size_of (tree_of n d l.model)

-- the same of some of the commands
record GrownOf (n : ℕ) (d : Design) (l : Level) (ps : List Instance) (tree : Instances) : Type 0 where
  unfolds : Unfolds d ps tree
  bound : AreBound l.model tree
  shallow : IsWithinDepth (suc n) tree
  size : length ps + length (insides n d l ps) ≡ size_of tree

-- no command stands too deep
pub none_deep : (d : Design) (c : ℕ) (l : Level) (ps : List Instance) → length l.round ≡ suc MAX_DEPTH → visits_faults d c (map (visit l) ps) ≡ []
    → ps ≡ []
none_deep d c l [] deep e = refl
none_deep d c l (p ∷ ps) deep e =
    let h = (passes d c l p (left-nothing (visit_faults d c (visit l p)) _ e)).1 in
    let shallow : length l.round ≤ MAX_DEPTH = h.shallow in
    absurd (omega arith)

grown_of : (n : ℕ) (d : Design) (l : Level)
    → ((m : Level) (c : ℕ) → n + length m.round ≡ suc MAX_DEPTH → visits_faults d c (visits n d m) ≡ [] → Grown n d m)
    → suc n + length l.round ≡ suc MAX_DEPTH → (c k : ℕ) (ps : List Instance)
    → visits_faults d c (map (visit l) ps) ≡ [] → visits_faults d k (insides n d l ps) ≡ []
    → GrownOf n d l ps (trees (tree_of n d) d ps)
grown_of n d l each deep c k [] here there = record { unfolds = tt; bound = tt; shallow = tt; size = refl }
grown_of n d l each deep c k (p ∷ ps) here there =
    let found = passes d c l p (left-nothing (visit_faults d c (visit l p)) _ here) in
    let m = found.0 in
    let h = found.1 in
    let below = level_in l p m in
    let parts = visits_faults-append d k (visits n d below) (insides n d l ps) in
    let faults = sym parts ∙ (ap (visits_faults d k) (sym (insides-cons n d l p ps m h.named)) ∙ there) in
    let inside = each below k (omega arith) (left-nothing (visits_faults d k (visits n d below)) _ faults) in
    let rest = grown_of n d l each deep (suc c) (k + length (visits n d below)) ps
    (right-nothing (visit_faults d c (visit l p)) _ here) (right-nothing (visits_faults d k (visits n d below)) _ faults) in
    let size : length (p ∷ ps) + length (insides n d l (p ∷ ps)) ≡ 1 + size_of (tree_of n d m) + size_of (trees (tree_of n d) d ps) =
    omega (arith, ap length (insides-cons n d l p ps m h.named) ∙ length-append (visits n d below) (insides n d l ps), inside.size, rest.size) in
    rw h.named (record {
      unfolds = (record { is = refl; named = h.named }, inside.unfolds, rest.unfolds);
      bound = (fits-bound l p m h.fits, inside.bound, rest.bound);
      shallow = (inside.shallow, rest.shallow);
      size = size;
    })

-- the commands of a level without faults, and those inside their instances, make a tree
pub grown : (n : ℕ) (d : Design) (l : Level) (c : ℕ) → n + length l.round ≡ suc MAX_DEPTH → visits_faults d c (visits n d l) ≡ [] → Grown n d l
grown zero d l c deep e =
    let none = none_deep d c l l.model.instances (omega arith) e in
    record {
      unfolds = subst (λ (ps : List Instance). Unfolds d ps NoMore) (sym none) tt;
      bound = tt;
      shallow = tt;
      size = ap (λ ps. length (map (visit l) ps)) none;
    }
grown (suc n) d l c deep e =
    let faults = sym (visits_faults-append d c (visits_at l) (insides n d l l.model.instances)) ∙ e in
    let g = grown_of n d l (λ m k. grown n d m k) deep c (c + length (visits_at l)) l.model.instances
    (left-nothing (visits_faults d c (visits_at l)) _ faults) (right-nothing (visits_faults d c (visits_at l)) _ faults) in
    record {
      unfolds = g.unfolds;
      bound = g.bound;
      shallow = g.shallow;
      size = length-append (visits_at l) (insides n d l l.model.instances) ∙ (ap (λ k. k + length (insides n d l l.model.instances)) (length-map l.model.instances (visit l)) ∙ g.size);
    }

-- there are no more commands than there may be instances
pub few_visits : (d : Design) (c : ℕ) (vs : List Visit) → c ≤ MAX_INSTANCES → visits_faults d c vs ≡ [] → c + length vs ≤ MAX_INSTANCES
few_visits d c [] h e = omega arith
few_visits d c (v ∷ vs) h e =
    let one = (passes d c v.level v.instance (left-nothing (visit_faults d c v) _ e)).1 in
    let few : c < MAX_INSTANCES = one.few in
    let rest : suc c + length vs ≤ MAX_INSTANCES = few_visits d (suc c) vs (omega arith) (right-nothing (visit_faults d c v) _ e) in
    omega arith

few_instances : (n : ℕ) (d : Design) (l : Level) → Grown n d l → visits_faults d 0 (visits n d l) ≡ [] → size_of (tree_of n d l.model) ≤ MAX_INSTANCES
few_instances n d l g e =
    let few : 0 + length (visits n d l) ≤ MAX_INSTANCES = few_visits d 0 (visits n d l) (omega arith) e in
    omega (arith, g.size)

-- a root level stands at the top
root_deep : (d : Design) → MAX_DEPTH + length (root_level (root_of d)).round ≡ suc MAX_DEPTH
root_deep d = refl

-- a design without faults has a tree: that of its commands, as far down as they go
pub grown_tree : (d : Design) → walk_faults d ≡ [] → HasTree d (tree_of MAX_DEPTH d (root_of d))
unfolding walk_faults
grown_tree d e =
    let g = grown MAX_DEPTH d (root_level (root_of d)) 0 (root_deep d) e in
    record { unfolds = g.unfolds; bound = g.bound; shallow = g.shallow; few = few_instances MAX_DEPTH d (root_level (root_of d)) g e }

pub some_tree : (d : Design) → walk_faults d ≡ [] → HasSomeTree d
some_tree d e = record { tree = tree_of MAX_DEPTH d (root_of d); has = grown_tree d e }
