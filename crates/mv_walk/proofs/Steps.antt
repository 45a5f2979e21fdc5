-- What a walk did command by command is what the definitions say of all commands.
use Rattle.std.proofs.Common.{◌≡◌, ℕ, zero, suc, ◌+◌, ◌-◌, ◌<◌, ◌≤◌, true, false, List, [], ◌∷◌, ◌++◌, length, map, drop, get_or, set, Option, Some, None, IsSome, unwrap_or, refl, sym, ◌∙◌, ap, subst, arith, append_assoc}
use Rattle.std.proofs.lemmas.List.{append-nil, length-append, length-map, drop_all}
use Rattle.mv_base.specs.Names.{among}
use Rattle.mv_base.specs.declared.limits.TheConstants.{MAX_DEPTH, MAX_INSTANCES}
use Rattle.mv_fault.specs.Tells.{first}
use Rattle.mv_fault.specs.declared.flat.FlatFault.{FlatFault}
use Rattle.mv_fault.proofs.Firsts.{append-nothing, first-append, first-behind}
use Rattle.mv_fault.proofs.Nothing.{left-nothing, right-nothing}
use Rattle.mv_design.specs.declared.design.Design.{Design}
use Rattle.mv_design.specs.declared.design.FileModel.{FileModel}
use Rattle.mv_design.specs.declared.design.Instance.{Instance}
use Rattle.mv_design.specs.Nets.{root_of}
use Rattle.mv_tree.specs.Tree.{Instances, NoMore, More, model_named, size_of}
use Rattle.mv_walk.specs.declared.command.Command.{Command}
use Rattle.mv_walk.specs.declared.command.Found.{Found}
use Rattle.mv_walk.specs.declared.opened.Opened.{Opened}
use Rattle.mv_walk.specs.declared.walker.Walker.{Walker}
use Rattle.mv_walk.specs.Walk.{Level, level_in, visit, visits_at, visits, visit_faults, visits_faults}
use Rattle.mv_walk.specs.Trees.{trees, tree_of}
use Rattle.mv_walk.specs.Commands.{AreCommands, FindsModel, model_at, place_named, command_instance}
use Rattle.mv_walk.specs.Openings.{openings}
use Rattle.mv_walk.specs.Steps.{AreMarks, CanOpen, Entered, FindsPlace, IsAt, Left, Walked, level_of, instance_model, opening, round_of, trail_of}
use Rattle.mv_walk.proofs.Visits.{insides, insides-cons, visits_faults-append, passes, Passes}
use Rattle.mv_walk.proofs.Grown.{grown, none_deep, few_visits}
use Rattle.mv_walk.proofs.Nothing.{inner, named_is}
use Rattle.mv_walk.proofs.Placed.{named_at, unnamed_at}
use Rattle.mv_walk.proofs.Trails.{level_deep, round-push, path-push, marked_more, marked_back}
use Rattle.mv_walk.proofs.Listed.{IsNth, nth_command}

-- ---- levels

-- the level one instance further in
pub level_below : (d : Design) (m n : FileModel) (trail : List Instance) (p : Instance) → n.name ≡ p.model → level_of d n (trail ++ p ∷ []) ≡ level_in (level_of d m trail) p n
level_below d m n trail p e = rw (round-push ((root_of d).name ∷ []) trail p, path-push [] trail p, e) refl

-- ---- commands here and inside

-- faults here come before those inside
pub told_above : (levels : ℕ) (d : Design) (c : ℕ) (l : Level) (f : FlatFault) → first (visits_faults d c (visits_at l)) ≡ Some f → first (visits_faults d c (visits levels d l)) ≡ Some f
told_above zero d c l f e = e
told_above (suc n) d c l f e = ap first (visits_faults-append d c (visits_at l) (insides n d l l.model.instances)) ∙ first-append f (visits_faults d c (visits_at l)) _ e

-- a level with commands has levels below it
pub record HasBelow (levels : ℕ) (l : Level) : Type 0 where
  pub none : levels ≡ 0 → l.model.instances ≡ []

pub has_below : (d : Design) (c : ℕ) (levels : ℕ) (l : Level) → levels + length l.round ≡ suc MAX_DEPTH → visits_faults d c (visits_at l) ≡ [] → HasBelow levels l
has_below d c levels l deep e = record { none = λ (z : levels ≡ 0). none_deep d c l l.model.instances (omega arith) e }

visits_split : (levels : ℕ) (d : Design) (l : Level) → HasBelow levels l → visits levels d l ≡ visits_at l ++ insides (levels - 1) d l l.model.instances
visits_split zero d l h =
    let P : List Instance → Type 0 = λ ps. visits_at l ≡ visits_at l ++ insides (0 - 1) d l ps in
    subst P (sym (h.none refl)) (sym (append-nil (visits_at l)))
visits_split (suc n) d l h = let e : n ≡ suc n - 1 = omega arith in ap (λ k. visits_at l ++ insides k d l l.model.instances) e

pub tree_split : (levels : ℕ) (d : Design) (l : Level) → HasBelow levels l → tree_of levels d l.model ≡ trees (tree_of (levels - 1) d) d l.model.instances
tree_split zero d l h =
    let P : List Instance → Type 0 = λ ps. NoMore ≡ trees (tree_of (0 - 1) d) d ps in
    subst P (sym (h.none refl)) refl
tree_split (suc n) d l h = let e : n ≡ suc n - 1 = omega arith in ap (λ k. trees (tree_of k d) d l.model.instances) e

faults_split : (levels : ℕ) (d : Design) (c : ℕ) (l : Level) → HasBelow levels l
    → visits_faults d c (visits levels d l) ≡ visits_faults d c (visits_at l) ++ visits_faults d (c + length l.model.instances) (insides (levels - 1) d l l.model.instances)
faults_split levels d c l h =
    ap (visits_faults d c) (visits_split levels d l h) ∙ (visits_faults-append d c (visits_at l) (insides (levels - 1) d l l.model.instances)
    ∙ ap (λ k. visits_faults d c (visits_at l) ++ visits_faults d (c + k) (insides (levels - 1) d l l.model.instances)) (length-map l.model.instances (visit l)))

-- ---- one of the commands

-- the command at a place has no fault, where none has
pub passes_at : (d : Design) (c : ℕ) (l : Level) (ps : List Instance) (i : ℕ) (q : Instance) → i < length ps → visits_faults d c (map (visit l) ps) ≡ []
    → (m : FileModel) × Passes d (c + i) l (get_or ps i q) m
passes_at d c l [] i q h e = absurd (omega arith)
passes_at d c l (p ∷ ps) zero q h e =
    let f : c ≡ c + 0 = omega arith in
    subst (λ (k : ℕ). (m : FileModel) × Passes d k l p m) f (passes d c l p (left-nothing (visit_faults d c (visit l p)) _ e))
passes_at d c l (p ∷ ps) (suc i) q h e =
    let f : suc c + i ≡ c + suc i = omega arith in
    subst (λ (k : ℕ). (m : FileModel) × Passes d k l (get_or ps i q) m) f (passes_at d (suc c) l ps i q (omega arith) (right-nothing (visit_faults d c (visit l p)) _ e))

finds_place : (ms : List FileModel) (round : FileModel) (p : Instance) (m : FileModel) (o : Option Found) → model_named ms p.model ≡ Some m → FindsModel ms round p o → FindsPlace ms p o
finds_place ms round p m None e h = let n : model_named ms p.model ≡ None = unnamed_at ms p.model h in absurd cc
finds_place ms round p m (Some f) e h = h.place

-- the model of a command is the one with its name
pub instance_model-named : (d : Design) (p : Instance) (m : FileModel) → model_named d.models p.model ≡ Some m → instance_model d p ≡ m
instance_model-named d p m e = by (place_named d.models p.model) refl
  where
    same : (a b : FileModel) → Some a ≡ Some b → a ≡ b
    same a b f = cc

    by : (o : Option ℕ) → place_named d.models p.model ≡ o → instance_model d p ≡ m
    by None f = let n : model_named d.models p.model ≡ None = unnamed_at d.models p.model f in absurd cc
    by (Some k) f = rw f (same (model_at d.models k) m (sym (named_at d.models p.model k f) ∙ e))

-- ---- lists of instances

pub length-openings : (d : Design) (round next instance : ℕ) (tree : Instances) → length (openings d round next instance tree) ≡ size_of tree
length-openings d round next instance NoMore = refl
length-openings d round next instance (More p m inside rest) =
    let a = length-openings d next (next + 1) 0 inside in
    let b = length-openings d round (next + 1 + size_of inside) (instance + 1) rest in
    let e = length-append (openings d next (next + 1) 0 inside) (openings d round (next + 1 + size_of inside) (instance + 1) rest) in
    omega (arith, a, b, e)

-- commands with models make one instance each
trees_size : (f : FileModel → Instances) (d : Design) (c : ℕ) (l : Level) (ps : List Instance) → visits_faults d c (map (visit l) ps) ≡ [] → length ps + inner (trees f d ps) ≡ size_of (trees f d ps)
trees_size f d c l [] e = refl
trees_size f d c l (p ∷ ps) e =
    let h = passes d c l p (left-nothing (visit_faults d c (visit l p)) _ e) in
    let r = trees_size f d (suc c) l ps (right-nothing (visit_faults d c (visit l p)) _ e) in
    rw h.1.named (omega (arith, r))

-- ---- commands one after another

-- the walk is before the command at place i of a level, in the middle of what it does there: it has done what there is to do
-- but for the instances of that command and of those behind it
pub record IsBefore (d : Design) (n : ℕ) (l : Level) (number i : ℕ) (start now : Walker) : Type 0 where
  pub list : now.list ++ openings d number (length now.list + 1) i (trees (tree_of n d) d (drop i l.model.instances))
      ≡ start.list ++ openings d number (length start.list + 1) 0 (trees (tree_of n d) d l.model.instances)
  pub count : now.count + inner (trees (tree_of n d) d (drop i l.model.instances)) ≡ start.count + size_of (trees (tree_of n d) d l.model.instances)
  pub trail : trail_of now ≡ trail_of start
  pub marks : now.marks.items ≡ start.marks.items
  pub listed : length now.list + length (drop i l.model.instances) ≤ now.count
  pub few : now.count ≤ MAX_INSTANCES
  pub faults : visits_faults d now.count (insides n d l (drop i l.model.instances)) ≡ visits_faults d (start.count + length l.model.instances) (insides n d l l.model.instances)

-- so it is before the first, when it has looked at all
pub before_first : (d : Design) (n : ℕ) (l : Level) (number : ℕ) (start : Walker) (count : ℕ) → length start.list ≤ start.count
    → visits_faults d start.count (visits_at l) ≡ [] → count ≡ start.count + length l.model.instances → count ≤ MAX_INSTANCES
    → IsBefore d n l number 0 start (record start { count = count })
before_first d n l number start count listed here is few = record {
  list = refl;
  count = let t = trees_size (tree_of n d) d start.count l l.model.instances here in omega (arith, t);
  trail = refl;
  marks = refl;
  listed = omega arith;
  few = few;
  faults = ap (λ k. visits_faults d k (insides n d l l.model.instances)) is;
}

step_list : (new a b r : List Opened) (o : Opened) → new ≡ a ++ (o ∷ (b ++ [])) → new ++ r ≡ a ++ (o ∷ (b ++ r))
step_list new a b r o e = ap (λ xs. xs ++ r) (e ∙ ap (λ xs. a ++ (o ∷ xs)) (append-nil b)) ∙ append_assoc a (o ∷ b) r

-- the commands from a place on are the one there and those behind it
pub record IsSplit (d : Design) (l : Level) (i : ℕ) (p : Instance) (m : FileModel) : Type 0 where
  pub rest : drop i l.model.instances ≡ p ∷ drop (i + 1) l.model.instances
  pub named : model_named d.models p.model ≡ Some m

trees_next : (f : FileModel → Instances) (d : Design) (l : Level) (i : ℕ) (p : Instance) (m : FileModel) → IsSplit d l i p m
    → trees f d (drop i l.model.instances) ≡ More p m (f m) (trees f d (drop (i + 1) l.model.instances))
trees_next f d l i p m s = ap (trees f d) s.rest ∙ (rw s.named refl)

insides_next : (n : ℕ) (d : Design) (l : Level) (i : ℕ) (p : Instance) (m : FileModel) → IsSplit d l i p m
    → insides n d l (drop i l.model.instances) ≡ visits n d (level_in l p m) ++ insides n d l (drop (i + 1) l.model.instances)
insides_next n d l i p m s = ap (insides n d l) s.rest ∙ insides-cons n d l p (drop (i + 1) l.model.instances) m s.named

-- the faults from here on are those inside the instance, and then those behind
faults_next : (n : ℕ) (d : Design) (c : ℕ) (l : Level) (i : ℕ) (p : Instance) (m : FileModel) → IsSplit d l i p m
    → visits_faults d c (insides n d l (drop i l.model.instances))
    ≡ visits_faults d c (visits n d (level_in l p m)) ++ visits_faults d (c + length (visits n d (level_in l p m))) (insides n d l (drop (i + 1) l.model.instances))
faults_next n d c l i p m s = ap (visits_faults d c) (insides_next n d l i p m s) ∙ visits_faults-append d c (visits n d (level_in l p m)) (insides n d l (drop (i + 1) l.model.instances))

-- a fault inside an instance is the first of all that are left
pub told_inside : (n : ℕ) (d : Design) (l : Level) (number i : ℕ) (p : Instance) (m : FileModel) (start now : Walker) (f : FlatFault) → IsBefore d n l number i start now → IsSplit d l i p m
    → first (visits_faults d now.count (visits n d (level_in l p m))) ≡ Some f → first (visits_faults d (start.count + length l.model.instances) (insides n d l l.model.instances)) ≡ Some f
told_inside n d l number i p m start now f b s e =
    ap first (sym b.faults ∙ faults_next n d now.count l i p m s) ∙ first-append f (visits_faults d now.count (visits n d (level_in l p m))) _ e

-- behind an instance in which there is no fault it is before the next command
pub before_next : (n : ℕ) (d : Design) (l : Level) (number i : ℕ) (p : Instance) (m : FileModel) (start now new : Walker) → IsBefore d n l number i start now → IsSplit d l i p m
    → n + length (level_in l p m).round ≡ suc MAX_DEPTH → instance_model d p ≡ m → visits_faults d now.count (visits n d (level_in l p m)) ≡ []
    → Walked (opening d number (length now.list + 1) i p (tree_of n d m)) (size_of (tree_of n d m)) now new → IsBefore d n l number (i + 1) start new
before_next n d l number i p m start now new b s deep is e w =
    let below = level_in l p m in
    let inside = tree_of n d m in
    let rest = trees (tree_of n d) d (drop (i + 1) l.model.instances) in
    let next = length now.list + 1 in
    let g = grown n d below now.count deep e in
    let size : length (visits n d below) ≡ size_of inside = g.size in
    let o : Opened = record { model = unwrap_or (place_named d.models p.model) 0; round = number; instance = i } in
    let inner_list = openings d next (next + 1) 0 inside in
    let many : length inner_list ≡ size_of inside = length-openings d next (next + 1) 0 inside in
    let grew : new.list ≡ now.list ++ (o ∷ (inner_list ++ [])) = w.list in
    let longer : length new.list ≡ length now.list + length (o ∷ (inner_list ++ [])) = ap length grew ∙ length-append now.list (o ∷ (inner_list ++ [])) in
    let tail : length (inner_list ++ []) ≡ length inner_list = ap length (append-nil inner_list) in
    let long : length new.list + 1 ≡ next + 1 + size_of inside = omega (arith, longer, tail, many) in
    let trees_here : trees (tree_of n d) d (drop i l.model.instances) ≡ More p m inside rest = trees_next (tree_of n d) d l i p m s in
    let drops : length (drop i l.model.instances) ≡ length (p ∷ drop (i + 1) l.model.instances) = ap length s.rest in
    let inners : inner (trees (tree_of n d) d (drop i l.model.instances)) ≡ size_of inside + inner rest = ap inner trees_here in
    record {
      list = ap (λ k. new.list ++ openings d number k (i + 1) rest) long
          ∙ (step_list new.list now.list inner_list (openings d number (next + 1 + size_of inside) (i + 1) rest) o grew
          ∙ (ap (λ t. now.list ++ openings d number next i t) (sym trees_here) ∙ b.list));
      count = let c = w.count in let h = b.count in omega (arith, c, h, inners);
      trail = w.trail ∙ b.trail;
      marks = w.marks ∙ b.marks;
      listed = let c = w.count in let h = b.listed in omega (arith, c, h, drops, longer, tail, many);
      few = let c = w.count in let f = few_visits d now.count (visits n d below) b.few e in omega (arith, c, f, size);
      faults = let c = w.count in
          ap (λ k. visits_faults d k (insides n d l (drop (i + 1) l.model.instances))) (let k : new.count ≡ now.count + length (visits n d below) = omega (arith, c, size) in k)
          ∙ (sym (ap (λ fs. fs ++ visits_faults d (now.count + length (visits n d below)) (insides n d l (drop (i + 1) l.model.instances))) e)
          ∙ (sym (faults_next n d now.count l i p m s) ∙ b.faults));
    }

-- behind the last command it has done all
pub record IsDone (d : Design) (levels : ℕ) (l : Level) (number : ℕ) (start now : Walker) : Type 0 where
  pub none : visits_faults d start.count (visits levels d l) ≡ []
  pub walked : Walked (openings d number (length start.list + 1) 0 (tree_of levels d l.model)) (size_of (tree_of levels d l.model)) start now

pub done_all : (d : Design) (levels : ℕ) (l : Level) (number i : ℕ) (start now : Walker) → IsBefore d (levels - 1) l number i start now → HasBelow levels l
    → visits_faults d start.count (visits_at l) ≡ [] → length l.model.instances ≤ i → IsDone d levels l number start now
done_all d levels l number i start now b h here end =
    let gone : drop i l.model.instances ≡ [] = drop_all i l.model.instances end in
    let whole = tree_split levels d l h in
    let no_trees : trees (tree_of (levels - 1) d) d (drop i l.model.instances) ≡ NoMore = ap (trees (tree_of (levels - 1) d) d) gone in
    record {
      none = faults_split levels d start.count l h ∙ append-nothing (visits_faults d start.count (visits_at l)) _ here (sym b.faults ∙ ap (λ ps. visits_faults d now.count (insides (levels - 1) d l ps)) gone);
      walked = record {
        list = sym (append-nil now.list)
            ∙ (sym (ap (λ t. now.list ++ openings d number (length now.list + 1) i t) no_trees)
            ∙ (b.list ∙ ap (λ t. start.list ++ openings d number (length start.list + 1) 0 t) (sym whole)));
        count = let c = b.count in let z = ap inner no_trees in let s = ap size_of whole in omega (arith, c, z, s);
        trail = b.trail;
        marks = b.marks;
      };
    }

-- a fault inside comes behind those here
pub told_behind : (levels : ℕ) (d : Design) (c : ℕ) (l : Level) (f : FlatFault) → HasBelow levels l → visits_faults d c (visits_at l) ≡ []
    → first (visits_faults d (c + length l.model.instances) (insides (levels - 1) d l l.model.instances)) ≡ Some f → first (visits_faults d c (visits levels d l)) ≡ Some f
told_behind levels d c l f h here e = ap first (faults_split levels d c l h) ∙ first-behind f (visits_faults d c (visits_at l)) _ here e

-- ---- one instance

-- what is known of a walk that goes into an instance
pub record Enters (d : Design) (levels : ℕ) (old mid : Walker) (p : Instance) (o : Opened) : Type 0 where
  pub at : IsAt d levels old
  pub deep : 0 < levels
  pub looked : length old.list < old.count
  pub place : place_named d.models p.model ≡ Some o.model
  pub new : among p.model (round_of d (trail_of old)) ≡ false
  pub entered : Entered old mid p o

pub entered_at : (d : Design) (levels : ℕ) (old mid : Walker) (p : Instance) (o : Opened) → Enters d levels old mid p o → IsAt d (levels - 1) mid
entered_at d levels old mid p o h = record {
  marked = record {
    marks = subst (λ ms. AreMarks d.models (round_of d (trail_of mid)) ms) (sym h.entered.marks)
        (subst (λ names. AreMarks d.models names (set old.marks.items o.model true)) (sym (ap (round_of d) h.entered.trail ∙ round-push ((root_of d).name ∷ []) (trail_of old) p))
        (marked_more d.models (round_of d (trail_of old)) old.marks.items p.model o.model h.at.marked.marks h.place));
  };
  depth = let a = h.at.depth in let b = ap length h.entered.trail ∙ length-append (trail_of old) (p ∷ []) in let z = h.deep in omega arith;
  few = let a = h.at.few in let b = h.entered.count in omega arith;
  listed = let a = h.looked in let b = h.entered.count in let e = ap length h.entered.list ∙ length-append old.list (o ∷ []) in omega arith;
}

-- a walk that went in, through what is inside and out again walked through the instance
abbrev opened_as : ℕ → ℕ → ℕ → Opened
opened_as model round instance = record { model = model; round = round; instance = instance }

opened_same : (o : Opened) (k r a : ℕ) → k ≡ o.model → o.round ≡ r → o.instance ≡ a → opened_as k r a ≡ o
opened_same o k r a e f g =
    ap (λ x. opened_as x r a) e ∙ (ap (λ x. opened_as o.model x a) (sym f) ∙ ap (λ x. opened_as o.model o.round x) (sym g))

pub walked_one : (d : Design) (levels : ℕ) (old mid there new : Walker) (p : Instance) (o : Opened) (number instance : ℕ) → Enters d levels old mid p o → o.round ≡ number → o.instance ≡ instance
    → Walked (openings d (length mid.list) (length mid.list + 1) 0 (tree_of (levels - 1) d (model_at d.models o.model))) (size_of (tree_of (levels - 1) d (model_at d.models o.model))) mid there
    → Left there new o.model
    → Walked (opening d number (length old.list + 1) instance p (tree_of (levels - 1) d (instance_model d p))) (size_of (tree_of (levels - 1) d (instance_model d p))) old new
walked_one d levels old mid there new p o number instance h round at w left =
    let place : unwrap_or (place_named d.models p.model) 0 ≡ o.model = ap (λ k. unwrap_or k 0) h.place in
    let model : instance_model d p ≡ model_at d.models o.model = ap (model_at d.models) place in
    let tree = tree_of (levels - 1) d (model_at d.models o.model) in
    let next : length mid.list ≡ length old.list + 1 = ap length h.entered.list ∙ length-append old.list (o ∷ []) in
    let inner_list = openings d (length old.list + 1) (length old.list + 1 + 1) 0 tree in
    let listed : there.list ≡ (old.list ++ o ∷ []) ++ inner_list = w.list ∙ (ap (λ xs. xs ++ openings d (length mid.list) (length mid.list + 1) 0 tree) h.entered.list
    ∙ ap (λ k. (old.list ++ o ∷ []) ++ openings d k (k + 1) 0 tree) next) in
    let same = opened_same o (unwrap_or (place_named d.models p.model) 0) number instance place round at in
    subst (λ m. Walked (openings d number (length old.list + 1) instance (More p m (tree_of (levels - 1) d m) NoMore)) (size_of (tree_of (levels - 1) d m)) old new) (sym model) (record {
      list = left.list ∙ (listed ∙ (append_assoc old.list (o ∷ []) inner_list
          ∙ (ap (λ xs. old.list ++ (o ∷ xs)) (sym (append-nil inner_list)) ∙ ap (λ x. old.list ++ (x ∷ (inner_list ++ []))) (sym same))));
      count = let a = left.count in let b = w.count in let e = h.entered.count in omega arith;
      trail = left.trail (trail_of old) p (w.trail ∙ h.entered.trail);
      marks = left.marks ∙ (ap (λ ms. set ms o.model false) (w.marks ∙ h.entered.marks) ∙ marked_back old.marks.items o.model (h.at.marked.marks.each p.model o.model h.place ∙ h.new));
    })

-- ---- a command in the middle of a level

-- the walk is before the command at place i of a level, whose commands have no fault
pub record Opening (d : Design) (levels : ℕ) (m : FileModel) (number i : ℕ) (start now : Walker) (c : Command) : Type 0 where
  pub at : IsAt d levels start
  pub before : IsBefore d (levels - 1) (level_of d m (trail_of start)) number i start now
  pub here : visits_faults d start.count (visits_at (level_of d m (trail_of start))) ≡ []
  pub nth : IsNth d.models m i c

pub at_command : (d : Design) (levels : ℕ) (m : FileModel) (number i : ℕ) (start now : Walker) (c : Command) (cs : List Command) → IsAt d levels start
    → IsBefore d (levels - 1) (level_of d m (trail_of start)) number i start now → visits_faults d start.count (visits_at (level_of d m (trail_of start))) ≡ []
    → AreCommands d.models m cs → i < length cs → c ≡ get_or cs i c → Opening d levels m number i start now c
at_command d levels m number i start now c cs at before here are within is = record { at = at; before = before; here = here; nth = nth_command d.models m cs i c are within is }

-- what that says of the walk and of the command, whose model this is
pub record IsReady (d : Design) (levels : ℕ) (m : FileModel) (i : ℕ) (start now : Walker) (c : Command) (n : FileModel) : Type 0 where
  pub deep : 0 < levels
  pub at : IsAt d levels now
  pub looked : length now.list < now.count
  pub can : CanOpen d now c
  pub split : IsSplit d (level_of d m (trail_of start)) i (command_instance c) n
  pub model : instance_model d (command_instance c) ≡ n
  pub below : level_of d (instance_model d (command_instance c)) (trail_of now ++ command_instance c ∷ []) ≡ level_in (level_of d m (trail_of start)) (command_instance c) n
  pub deeper : levels - 1 + length (level_in (level_of d m (trail_of start)) (command_instance c) n).round ≡ suc MAX_DEPTH

at_now : (d : Design) (levels number i : ℕ) (l : Level) (start now : Walker) → IsAt d levels start → IsBefore d (levels - 1) l number i start now → IsAt d levels now
at_now d levels number i l start now at b = record {
  marked = record {
    marks = subst (λ ms. AreMarks d.models (round_of d (trail_of now)) ms) (sym b.marks)
        (subst (λ ps. AreMarks d.models (round_of d ps) start.marks.items) (sym b.trail) at.marked.marks);
  };
  depth = let x = at.depth in let y = ap length b.trail in omega arith;
  few = b.few;
  listed = let x = b.listed in omega arith;
}

pub ready : (d : Design) (levels : ℕ) (m : FileModel) (number i : ℕ) (start now : Walker) (c : Command) → Opening d levels m number i start now c → (n : FileModel) × IsReady d levels m i start now c n
ready d levels m number i start now c h =
    let l = level_of d m (trail_of start) in
    let p = command_instance c in
    let found = passes_at d start.count l m.instances i p h.nth.within h.here in
    let n = found.0 in
    let q = found.1 in
    let named : model_named d.models p.model ≡ Some n = ap (λ (x : Instance). model_named d.models x.model) (sym h.nth.is) ∙ q.named in
    let new : among p.model l.round ≡ false = ap (λ (x : Instance). among x.model l.round) (sym h.nth.is) ∙ q.new in
    let shallow : length l.round ≤ MAX_DEPTH = q.shallow in
    let round : length l.round ≡ suc (length (trail_of start)) = level_deep d m (trail_of start) in
    let depth = h.at.depth in
    let model : instance_model d p ≡ n = instance_model-named d p n named in
    let listed = h.before.listed in
    let rest : length (drop i m.instances) ≡ suc (length (drop (i + 1) m.instances)) = ap length h.nth.rest in (
      n,
      record {
        deep = omega arith;
        at = at_now d levels number i l start now h.at h.before;
        looked = omega arith;
        can = record { found = finds_place d.models m p n c.found named h.nth.command.found; new = ap (λ ps. among p.model (round_of d ps)) h.before.trail ∙ new };
        split = record { rest = h.nth.rest; named = named };
        model = model;
        below = ap (λ x. level_of d x (trail_of now ++ p ∷ [])) model ∙ (ap (λ ps. level_of d n (ps ++ p ∷ [])) h.before.trail ∙ level_below d m n (trail_of start) p (named_is d.models p.model n named));
        deeper = omega arith;
      },
    )

-- a fault inside the instance of the command is the first of all
pub opening_told : (d : Design) (levels : ℕ) (m : FileModel) (number i : ℕ) (start now : Walker) (c : Command) (f : FlatFault) → Opening d levels m number i start now c
    → first (visits_faults d now.count (visits (levels - 1) d (level_of d (instance_model d (command_instance c)) (trail_of now ++ command_instance c ∷ [])))) ≡ Some f
    → first (visits_faults d start.count (visits levels d (level_of d m (trail_of start)))) ≡ Some f
opening_told d levels m number i start now c f h e =
    let l = level_of d m (trail_of start) in
    let r = ready d levels m number i start now c h in
    let k = r.1 in
    let depth = h.at.depth in
    let round : length l.round ≡ suc (length (trail_of start)) = level_deep d m (trail_of start) in
    told_behind levels d start.count l f (has_below d start.count levels l (omega arith) h.here) h.here
    (told_inside (levels - 1) d l number i (command_instance c) r.0 start now f h.before k.split (ap (λ x. first (visits_faults d now.count (visits (levels - 1) d x))) (sym k.below) ∙ e))

-- where there is none, the walk is before the next command
pub opening_next : (d : Design) (levels : ℕ) (m : FileModel) (number i : ℕ) (start now new : Walker) (c : Command) → Opening d levels m number i start now c
    → visits_faults d now.count (visits (levels - 1) d (level_of d (instance_model d (command_instance c)) (trail_of now ++ command_instance c ∷ []))) ≡ []
    → Walked (opening d number (length now.list + 1) i (command_instance c) (tree_of (levels - 1) d (instance_model d (command_instance c)))) (size_of (tree_of (levels - 1) d (instance_model d (command_instance c)))) now new
    → IsBefore d (levels - 1) (level_of d m (trail_of start)) number (i + 1) start new
opening_next d levels m number i start now new c h none w =
    let l = level_of d m (trail_of start) in
    let p = command_instance c in
    let r = ready d levels m number i start now c h in
    let k = r.1 in
    before_next (levels - 1) d l number i p r.0 start now new h.before k.split k.deeper k.model (ap (λ x. visits_faults d now.count (visits (levels - 1) d x)) (sym k.below) ∙ none)
    (subst (λ x. Walked (opening d number (length now.list + 1) i p (tree_of (levels - 1) d x)) (size_of (tree_of (levels - 1) d x)) now new) k.model w)

-- a command that the walk goes into has a model that is found
pub can_found : (d : Design) (w : Walker) (c : Command) → CanOpen d w c → IsSome c.found
can_found d w c h = by c.found h.found
  where
    by : (o : Option Found) → FindsPlace d.models c.instance.now o → IsSome o
    by None f = absurd f
    by (Some x) f = refl

-- at its place
pub can_place : (d : Design) (w : Walker) (c : Command) (f : Found) → CanOpen d w c → c.found ≡ Some f → place_named d.models c.instance.now.model ≡ Some f.place
can_place d w c f h e = subst (FindsPlace d.models c.instance.now) e h.found
