-- Where the commands make a tree of instances that passes no limit, no fault is told.
use Rattle.std.proofs.Common.{◌≡◌, ℕ, suc, zero, ◌+◌, ◌<◌, ◌≤◌, true, false, List, [], ◌∷◌, length, map, Some, refl, sym, ◌∙◌, ap, subst, arith, ⊎_elim}
use Rattle.std.proofs.lemmas.List.{length-append, length-map}
use Rattle.std.proofs.lemmas.Bool.{cases_Bool, or_cases, false≢true}
use Rattle.mv_base.specs.Names.{among, same_word}
use Rattle.mv_base.proofs.NameLemmas.{same_word_is}
use Rattle.mv_base.specs.declared.limits.TheConstants.{MAX_DEPTH, MAX_INSTANCES}
use Rattle.mv_fault.proofs.Firsts.{append-nothing}
use Rattle.mv_design.specs.declared.design.Design.{Design}
use Rattle.mv_design.specs.declared.design.FileModel.{FileModel}
use Rattle.mv_design.specs.declared.design.Instance.{Instance}
use Rattle.mv_design.specs.Nets.{root_of}
use Rattle.mv_tree.specs.Tree.{Instances, NoMore, More, model_named, Unfolds, IsWithinDepth, size_of}
use Rattle.mv_tree.specs.Bound.{AreBound, IsBound}
use Rattle.mv_walk.specs.Walk.{Level, root_level, level_in, visit, visits_at, visits, visit_faults, visits_faults, walk_faults, HasTree}
use Rattle.mv_walk.specs.Trees.{IsRootNamed}
use Rattle.mv_walk.proofs.Unique.{one_tree}
use Rattle.mv_walk.proofs.Visits.{insides, insides-cons, visits_faults-append, passing, bound-fits}

-- a model that is found has the name
pub named_is : (ms : List FileModel) (name : List ℕ) (m : FileModel) → model_named ms name ≡ Some m → m.name ≡ name
named_is [] name m e = cc
named_is (x ∷ xs) name m e = ⊎_elim
    (λ (y : same_word name x.name ≡ true). (let f = rw y at e in let g : x ≡ m = cc f in ap (λ (z : FileModel). z.name) (sym g) ∙ sym (same_word_is name x.name y)))
    (λ (n : same_word name x.name ≡ false). named_is xs name m (rw n at e))
    (cases_Bool (same_word name x.name))

-- in a tree of this model stand at least so many instances
abbrev HasMany : Design → ℕ → List ℕ → Type 0
HasMany d size name = (m : FileModel) (tree : Instances) → model_named d.models name ≡ Some m → Unfolds d m.instances tree → size ≤ size_of tree

-- the same of each model round a level, and its own
record AreMany (d : Design) (l : Level) (size : ℕ) : Type 0 where
  each : (name : List ℕ) → among name l.round ≡ true → HasMany d size name

-- and so of what is inside an instance, since no tree is inside itself
many_inside : (d : Design) (l : Level) (size : ℕ) (p : Instance) (m : FileModel) (inside : Instances) → AreMany d l size → model_named d.models p.model ≡ Some m
    → Unfolds d m.instances inside → size_of inside ≤ size → AreMany d (level_in l p m) (size_of inside)
many_inside d l size p m inside many e u less = record { each = each }
  where
    each : (name : List ℕ) → among name (m.name ∷ l.round) ≡ true → HasMany d (size_of inside) name
    each name a n tree f v = ⊎_elim
        (λ (y : same_word name m.name ≡ true). (
        let g : name ≡ p.model = same_word_is name m.name y ∙ named_is d.models p.model m e in
        let h : model_named d.models name ≡ Some m = ap (model_named d.models) g ∙ e in
        let k : n ≡ m = cc (h, f) in
        let w : inside ≡ tree = one_tree d m.instances inside tree u (subst (λ (z : FileModel). Unfolds d z.instances tree) k v) in
        let s : size_of inside ≡ size_of tree = ap size_of w in
        omega arith
        ))
        (λ (y : among name l.round ≡ true). (let s : size ≤ size_of tree = many.each name y n tree f v in omega arith))
        (or_cases (same_word name m.name) (among name l.round) a)

-- how many instances are inside those of a level
abbrev pub inner : Instances → ℕ
inner NoMore = 0
inner (More instance model inside rest) = size_of inside + inner rest

inner_size : (d : Design) (ps : List Instance) (tree : Instances) → Unfolds d ps tree → length ps + inner tree ≡ size_of tree
inner_size d [] NoMore u = refl
inner_size d [] (More instance model inside rest) u = absurd u
inner_size d (p ∷ ps) NoMore u = absurd u
inner_size d (p ∷ ps) (More instance model inside rest) u = let r = inner_size d ps rest u.2 in omega (arith, r)

joined : (a b x y : ℕ) → a ≡ b → x ≡ y → a + x ≡ b + y
joined a b x y e f = cc

-- commands that make this tree are as many as its instances, and none has a fault
record Silent (n : ℕ) (d : Design) (l : Level) (c : ℕ) (tree : Instances) : Type 0 where
  none : visits_faults d c (visits n d l) ≡ []
  size : length (visits n d l) ≡ size_of tree

not_among : (d : Design) (l : Level) (size : ℕ) (p : Instance) (m : FileModel) (inside : Instances) → AreMany d l size → model_named d.models p.model ≡ Some m
    → Unfolds d m.instances inside → size_of inside < size → among p.model l.round ≡ false
not_among d l size p m inside many e u less = ⊎_elim
    (λ (y : among p.model l.round ≡ true). (let s : size ≤ size_of inside = many.each p.model y m inside e u in absurd (omega arith)))
    (λ (n : among p.model l.round ≡ false). n)
    (cases_Bool (among p.model l.round))

here_silent : (d : Design) (l : Level) (size : ℕ) → AreMany d l size → length l.round ≤ MAX_DEPTH → (c : ℕ) (ps : List Instance) (tree : Instances)
    → Unfolds d ps tree → AreBound l.model tree → size_of tree ≤ size → c + size_of tree ≤ MAX_INSTANCES → visits_faults d c (map (visit l) ps) ≡ []
here_silent d l size many deep c [] tree u b less few = refl
here_silent d l size many deep c (p ∷ ps) NoMore u b less few = absurd u
here_silent d l size many deep c (p ∷ ps) (More instance model inside rest) u b less few =
    append-nothing (visit_faults d c (visit l p)) _
    (passing d c l p model (record {
      named = u.0.named;
      new = not_among d l size p model inside many u.0.named u.1 (omega arith);
      shallow = deep;
      few = omega arith;
      fits = bound-fits l p model (subst (λ (q : Instance). IsBound l.model q model) u.0.is b.0);
    }))
    (here_silent d l size many deep (suc c) ps rest u.2 b.2 (omega arith) (omega arith))

there_silent : (n : ℕ) (d : Design) (l : Level) (size : ℕ)
    → ((m : Level) (c : ℕ) (tree : Instances) → n + length m.round ≡ suc MAX_DEPTH → Unfolds d m.model.instances tree → AreBound m.model tree → IsWithinDepth n tree
    → c + size_of tree ≤ MAX_INSTANCES → AreMany d m (size_of tree) → Silent n d m c tree)
    → AreMany d l size → suc n + length l.round ≡ suc MAX_DEPTH → (c : ℕ) (ps : List Instance) (tree : Instances)
    → Unfolds d ps tree → AreBound l.model tree → IsWithinDepth (suc n) tree → size_of tree ≤ size → c + inner tree ≤ MAX_INSTANCES
    → (visits_faults d c (insides n d l ps) ≡ []) × (length (insides n d l ps) ≡ inner tree)
there_silent n d l size each many deep c [] NoMore u b w less few = (refl, refl)
there_silent n d l size each many deep c [] (More instance model inside rest) u b w less few = absurd u
there_silent n d l size each many deep c (p ∷ ps) NoMore u b w less few = absurd u
there_silent n d l size each many deep c (p ∷ ps) (More instance model inside rest) u b w less few =
    let below = level_in l p model in
    let cons = insides-cons n d l p ps model u.0.named in
    let i = each below c inside (omega arith) u.1 b.1 w.0 (omega arith) (many_inside d l size p model inside many u.0.named u.1 (omega arith)) in
    let isize : length (visits n d below) ≡ size_of inside = i.size in
    let r = there_silent n d l size each many deep (c + length (visits n d below)) ps rest u.2 b.2 w.1 (omega arith) (omega arith) in (
      ap (visits_faults d c) cons ∙ (visits_faults-append d c (visits n d below) (insides n d l ps) ∙ append-nothing (visits_faults d c (visits n d below)) _ i.none r.0),
      ap length cons ∙ (length-append (visits n d below) (insides n d l ps) ∙ joined _ _ _ _ i.size r.1),
    )

flat : (d : Design) (ps : List Instance) (tree : Instances) → Unfolds d ps tree → IsWithinDepth 0 tree → (ps ≡ []) × (tree ≡ NoMore)
flat d [] NoMore u w = (refl, refl)
flat d [] (More instance model inside rest) u w = absurd w
flat d (p ∷ ps) NoMore u w = absurd u
flat d (p ∷ ps) (More instance model inside rest) u w = absurd w

silent : (n : ℕ) (d : Design) (l : Level) (c : ℕ) (tree : Instances) → n + length l.round ≡ suc MAX_DEPTH → Unfolds d l.model.instances tree → AreBound l.model tree
    → IsWithinDepth n tree → c + size_of tree ≤ MAX_INSTANCES → AreMany d l (size_of tree) → Silent n d l c tree
silent zero d l c tree deep u b w few many =
    let e = flat d l.model.instances tree u w in
    record {
      none = ap (λ ps. visits_faults d c (map (visit l) ps)) e.0;
      size = ap (λ ps. length (map (visit l) ps)) e.0 ∙ sym (ap size_of e.1);
    }
silent (suc n) d l c tree deep u b w few many =
    let instances = l.model.instances in
    let total = inner_size d instances tree u in
    let tops : length (visits_at l) ≡ length instances = length-map instances (visit l) in
    let here = here_silent d l (size_of tree) many (omega arith) c instances tree u b (omega arith) few in
    let there = there_silent n d l (size_of tree) (λ m k t. silent n d m k t) many deep (c + length (visits_at l)) instances tree u b w (omega arith) (omega (arith, total)) in
    record {
      none = visits_faults-append d c (visits_at l) (insides n d l instances) ∙ append-nothing (visits_faults d c (visits_at l)) _ here there.0;
      size = length-append (visits_at l) (insides n d l instances) ∙ (joined _ _ _ _ tops there.1 ∙ total);
    }

-- in a tree of the root stand as many instances as in any other
many_root : (d : Design) (tree : Instances) → IsRootNamed d → Unfolds d (root_of d).instances tree → AreMany d (root_level (root_of d)) (size_of tree)
many_root d tree root u = record { each = each }
  where
    each : (name : List ℕ) → among name ((root_of d).name ∷ []) ≡ true → HasMany d (size_of tree) name
    each name a m other f v = ⊎_elim
        (λ (y : same_word name (root_of d).name ≡ true). (
        let h : model_named d.models name ≡ Some (root_of d) = ap (model_named d.models) (same_word_is name (root_of d).name y) ∙ root.named in
        let k : m ≡ root_of d = cc (h, f) in
        let w : tree ≡ other = one_tree d (root_of d).instances tree other u (subst (λ (z : FileModel). Unfolds d z.instances other) k v) in
        let s : size_of tree ≡ size_of other = ap size_of w in
        omega arith
        ))
        (λ (y : false ≡ true). absurd (false≢true y))
        (or_cases (same_word name (root_of d).name) false a)

root_silent : (n : ℕ) (d : Design) (tree : Instances) → n ≡ MAX_DEPTH → IsRootNamed d → Unfolds d (root_of d).instances tree → AreBound (root_of d) tree
    → IsWithinDepth n tree → size_of tree ≤ MAX_INSTANCES → visits_faults d 0 (visits n d (root_level (root_of d))) ≡ []
root_silent n d tree e root u b w few =
    let s = silent n d (root_level (root_of d)) 0 tree (omega arith) u b w (omega arith) (many_root d tree root u) in
    s.none

pub no_fault : (d : Design) (tree : Instances) → IsRootNamed d → HasTree d tree → walk_faults d ≡ []
unfolding walk_faults
no_fault d tree root h = root_silent MAX_DEPTH d tree refl root h.unfolds h.bound h.shallow h.few
