-- The first fault of a command, check by check.
use Rattle.std.proofs.Common.{◌≡◌, ℕ, suc, ◌+◌, ◌<◌, ◌≤◌, Bool, true, false, [], ◌++◌, length, map, drop, get_or, Option, Some, None, refl, sym, ◌∙◌, ap, subst, arith}
use Rattle.std.specs.Prelude.{nat_lt, nat_le}
use Rattle.std.specs.Option.{option_map}
use Rattle.std.proofs.lemmas.Bool.Decides.{nat_tests}
use Rattle.std.proofs.lemmas.List.{get_or_default}
use Rattle.mv_base.specs.Names.{among}
use Rattle.mv_base.specs.declared.limits.TheConstants.{MAX_DEPTH, MAX_INSTANCES}
use Rattle.mv_fault.specs.Tells.{first}
use Rattle.mv_fault.proofs.Firsts.{first-append}
use Rattle.mv_fault.specs.declared.fault.Which.TheVariants.{Depth, Instances}
use Rattle.mv_fault.specs.declared.flat.FlatFault.{FlatFault}
use Rattle.mv_fault.specs.declared.flat.FlatFault.TheVariants.{NoSuchModel, Recursive, Limit}
use Rattle.mv_design.specs.declared.design.Design.{Design}
use Rattle.mv_design.specs.declared.design.FileModel.{FileModel}
use Rattle.mv_design.specs.declared.design.Instance.{Instance}
use Rattle.mv_tree.specs.Tree.{model_named}
use Rattle.mv_tree.specs.Places.{path_in}
use Rattle.mv_walk.specs.declared.command.Command.{Command}
use Rattle.mv_walk.specs.declared.command.Found.{Found}
use Rattle.mv_walk.specs.declared.command.PortFault.{PortFault}
use Rattle.mv_walk.specs.declared.walker.Walker.{Walker}
use Rattle.mv_walk.specs.Walk.{Level, visit, bound_port_faults, visit_faults, visits_faults}
use Rattle.mv_walk.specs.Misfits.{Misfit, misfit_fault, misfits, misfit_in, misfit_of}
use Rattle.mv_walk.specs.Commands.{FindsModel, IsCommand, IsFound, model_at}
use Rattle.mv_walk.specs.Steps.{IsMarked, level_of, path_from, round_of, trail_of}
use Rattle.mv_walk.proofs.Misfits.{bound_port_faults-misfits, first-map, first-none}
use Rattle.mv_walk.proofs.Placed.{named_at, unnamed_at, place_within}
use Rattle.mv_walk.proofs.Trails.{level_deep}
use Rattle.mv_walk.proofs.Visits.{passes}
use Rattle.mv_walk.proofs.Listed.{IsNth}

deep_test : (n : ℕ) → MAX_DEPTH < n → nat_lt MAX_DEPTH n ≡ true
deep_test n h = grind (arith, nat_tests)

shallow_test : (n : ℕ) → n ≤ MAX_DEPTH → nat_lt MAX_DEPTH n ≡ false
shallow_test n h = grind (arith, nat_tests)

many_test : (n : ℕ) → MAX_INSTANCES ≤ n → nat_le MAX_INSTANCES n ≡ true
many_test n h = grind (arith, nat_tests)

few_test : (n : ℕ) → n < MAX_INSTANCES → nat_le MAX_INSTANCES n ≡ false
few_test n h = grind (arith, nat_tests)

-- there is no model of the name
pub first-unnamed : (d : Design) (c : ℕ) (l : Level) (p : Instance) → model_named d.models p.model ≡ None → first (visit_faults d c (visit l p)) ≡ Some (NoSuchModel p.model)
first-unnamed d c l p e = rw e refl

-- it is that of an instance round the command
pub first-recursive : (d : Design) (c : ℕ) (l : Level) (p : Instance) (m : FileModel) → model_named d.models p.model ≡ Some m → among p.model l.round ≡ true
    → first (visit_faults d c (visit l p)) ≡ Some (Recursive p.model)
first-recursive d c l p m e r = rw (e, r) refl

-- it isn't
pub record IsNew (d : Design) (l : Level) (p : Instance) (m : FileModel) : Type 0 where
  pub named : model_named d.models p.model ≡ Some m
  pub new : among p.model l.round ≡ false

pub first-deep : (d : Design) (c : ℕ) (l : Level) (p : Instance) (m : FileModel) → IsNew d l p m → MAX_DEPTH < length l.round
    → first (visit_faults d c (visit l p)) ≡ Some (Limit Depth (MAX_DEPTH + 1))
first-deep d c l p m h deep = rw (h.named, h.new, deep_test (length l.round) deep) refl

pub first-many : (d : Design) (c : ℕ) (l : Level) (p : Instance) (m : FileModel) → IsNew d l p m → length l.round ≤ MAX_DEPTH → MAX_INSTANCES ≤ c
    → first (visit_faults d c (visit l p)) ≡ Some (Limit Instances (MAX_INSTANCES + 1))
first-many d c l p m h shallow many = rw (h.named, h.new, shallow_test (length l.round) shallow, many_test c many) refl

-- within the limits the faults are those of the bindings
pub ports_alone : (d : Design) (c : ℕ) (l : Level) (p : Instance) (m : FileModel) → IsNew d l p m → length l.round ≤ MAX_DEPTH → c < MAX_INSTANCES
    → visit_faults d c (visit l p) ≡ bound_port_faults l p m
ports_alone d c l p m h shallow few = rw (h.named, h.new, shallow_test (length l.round) shallow, few_test c few) refl

-- the first of these is the first misfit, told with where the instance stands
pub first-port : (l : Level) (p : Instance) (m : FileModel) (o : Option Misfit) → o ≡ first (misfits l.model p m)
    → first (bound_port_faults l p m) ≡ option_map (misfit_fault l.path (path_in l.path p.name)) o
first-port l p m o e =
    ap first (bound_port_faults-misfits l p m) ∙ (first-map (misfit_fault l.path (path_in l.path p.name)) (misfits l.model p m) ∙ ap (option_map (misfit_fault l.path (path_in l.path p.name))) (sym e))

pub no-port : (l : Level) (p : Instance) (m : FileModel) → None ≡ first (misfits l.model p m) → bound_port_faults l p m ≡ []
no-port l p m e = first-none (bound_port_faults l p m) (first-port l p m None e)

-- ---- a command that the walk looks at

-- a walk with its marks looks at a command whose model is found
pub record Looks (d : Design) (m : FileModel) (w : Walker) (c : Command) (f : Found) : Type 0 where
  pub marked : IsMarked d w
  pub found : IsFound d.models m c.instance.now f

pub looks : (d : Design) (m : FileModel) (w : Walker) (c : Command) (f : Found) → IsMarked d w → IsCommand d.models m c → c.found ≡ Some f → Looks d m w c f
looks d m w c f marked is e = record { marked = marked; found = subst (FindsModel d.models m c.instance.now) e is.found }

-- its mark says whether its name is that of an instance in which the walk is
looks_mark : (d : Design) (m : FileModel) (w : Walker) (c : Command) (f : Found) (b : Bool) → Looks d m w c f → b ≡ get_or w.marks.items f.place b
    → among c.instance.now.model (round_of d (trail_of w)) ≡ b
looks_mark d m w c f b h e =
    let within : f.place < length d.models = place_within d.models c.instance.now.model f.place h.found.place in
    let many : length w.marks.items ≡ length d.models = h.marked.marks.many in
    sym (h.marked.marks.each c.instance.now.model f.place h.found.place) ∙ (get_or_default w.marks.items f.place false b (omega arith) ∙ sym e)

looks_named : (d : Design) (m : FileModel) (w : Walker) (c : Command) (f : Found) → Looks d m w c f → model_named d.models c.instance.now.model ≡ Some (model_at d.models f.place)
looks_named d m w c f h = named_at d.models c.instance.now.model f.place h.found.place

pub told_unnamed : (d : Design) (m : FileModel) (w : Walker) (c : Command) (count : ℕ) → IsCommand d.models m c → c.found ≡ None
    → first (visit_faults d count (visit (level_of d m (trail_of w)) c.instance.now)) ≡ Some (NoSuchModel c.instance.now.model)
told_unnamed d m w c count is e =
    first-unnamed d count (level_of d m (trail_of w)) c.instance.now (unnamed_at d.models c.instance.now.model (subst (FindsModel d.models m c.instance.now) e is.found))

pub told_recursive : (d : Design) (m : FileModel) (w : Walker) (c : Command) (f : Found) (b : Bool) (count : ℕ) → Looks d m w c f → b ≡ get_or w.marks.items f.place b → b ≡ true
    → first (visit_faults d count (visit (level_of d m (trail_of w)) c.instance.now)) ≡ Some (Recursive c.instance.now.model)
told_recursive d m w c f b count h e y =
    first-recursive d count (level_of d m (trail_of w)) c.instance.now (model_at d.models f.place) (looks_named d m w c f h) (looks_mark d m w c f b h e ∙ y)

pub looks_new : (d : Design) (m : FileModel) (w : Walker) (c : Command) (f : Found) (b : Bool) → Looks d m w c f → b ≡ get_or w.marks.items f.place b → b ≡ false
    → IsNew d (level_of d m (trail_of w)) c.instance.now (model_at d.models f.place)
looks_new d m w c f b h e n = record { named = looks_named d m w c f h; new = looks_mark d m w c f b h e ∙ n }

pub told_deep : (d : Design) (m : FileModel) (w : Walker) (c : Command) (f : Found) (count : ℕ) → IsNew d (level_of d m (trail_of w)) c.instance.now (model_at d.models f.place) → MAX_DEPTH ≤ length (trail_of w)
    → first (visit_faults d count (visit (level_of d m (trail_of w)) c.instance.now)) ≡ Some (Limit Depth (MAX_DEPTH + 1))
told_deep d m w c f count h deep =
    first-deep d count (level_of d m (trail_of w)) c.instance.now (model_at d.models f.place) h (let e : length (level_of d m (trail_of w)).round ≡ suc (length (trail_of w)) = level_deep d m (trail_of w) in omega arith)

-- it stands within the limits
pub record Fits (d : Design) (m : FileModel) (w : Walker) (c : Command) (f : Found) : Type 0 where
  pub found : IsFound d.models m c.instance.now f
  pub new : IsNew d (level_of d m (trail_of w)) c.instance.now (model_at d.models f.place)
  pub shallow : length (trail_of w) < MAX_DEPTH

pub told_many : (d : Design) (m : FileModel) (w : Walker) (c : Command) (f : Found) (count : ℕ) → Fits d m w c f → MAX_INSTANCES ≤ count
    → first (visit_faults d count (visit (level_of d m (trail_of w)) c.instance.now)) ≡ Some (Limit Instances (MAX_INSTANCES + 1))
told_many d m w c f count h many =
    let shallow : length (trail_of w) < MAX_DEPTH = h.shallow in
    first-many d count (level_of d m (trail_of w)) c.instance.now (model_at d.models f.place) h.new (let e : length (level_of d m (trail_of w)).round ≡ suc (length (trail_of w)) = level_deep d m (trail_of w) in omega arith) many

alone : (d : Design) (m : FileModel) (w : Walker) (c : Command) (f : Found) (count : ℕ) → Fits d m w c f → count < MAX_INSTANCES
    → visit_faults d count (visit (level_of d m (trail_of w)) c.instance.now) ≡ bound_port_faults (level_of d m (trail_of w)) c.instance.now (model_at d.models f.place)
alone d m w c f count h few =
    let shallow : length (trail_of w) < MAX_DEPTH = h.shallow in
    ports_alone d count (level_of d m (trail_of w)) c.instance.now (model_at d.models f.place) h.new (let e : length (level_of d m (trail_of w)).round ≡ suc (length (trail_of w)) = level_deep d m (trail_of w) in omega arith) few

pub told_misfit : (d : Design) (m : FileModel) (w : Walker) (c : Command) (f : Found) (count : ℕ) (fault : PortFault) → Fits d m w c f → count < MAX_INSTANCES → f.fault ≡ Some fault
    → first (visit_faults d count (visit (level_of d m (trail_of w)) c.instance.now))
    ≡ Some (misfit_fault (path_from [] (trail_of w)) (path_in (path_from [] (trail_of w)) c.instance.now.name) (misfit_of fault))
told_misfit d m w c f count fault h few e =
    ap first (alone d m w c f count h few) ∙ first-port (level_of d m (trail_of w)) c.instance.now (model_at d.models f.place) (Some (misfit_of fault)) (sym (ap misfit_in e) ∙ h.found.fault)

pub told_none : (d : Design) (m : FileModel) (w : Walker) (c : Command) (f : Found) (count : ℕ) → Fits d m w c f → count < MAX_INSTANCES → f.fault ≡ None
    → visit_faults d count (visit (level_of d m (trail_of w)) c.instance.now) ≡ []
told_none d m w c f count h few e =
    alone d m w c f count h few ∙ no-port (level_of d m (trail_of w)) c.instance.now (model_at d.models f.place) (sym (ap misfit_in e) ∙ h.found.fault)

-- ---- the commands of a level one after another

faults_next : (d : Design) (c : ℕ) (l : Level) (m : FileModel) (i : ℕ) (command : Command) → IsNth d.models m i command
    → visits_faults d c (map (visit l) (drop i m.instances)) ≡ visit_faults d c (visit l command.instance.now) ++ visits_faults d (c + 1) (map (visit l) (drop (i + 1) m.instances))
faults_next d c l m i command h =
    let e : suc c ≡ c + 1 = omega arith in
    ap (λ ps. visits_faults d c (map (visit l) ps)) h.rest ∙ ap (λ k. visit_faults d c (visit l command.instance.now) ++ visits_faults d k (map (visit l) (drop (i + 1) m.instances))) e

-- the fault of a command is the first of a level, where those before it have none
pub told_here : (d : Design) (l : Level) (m : FileModel) (start c i : ℕ) (command : Command) (f : FlatFault) → visits_faults d c (map (visit l) (drop i m.instances)) ≡ visits_faults d start (map (visit l) m.instances)
    → IsNth d.models m i command → first (visit_faults d c (visit l command.instance.now)) ≡ Some f → first (visits_faults d start (map (visit l) m.instances)) ≡ Some f
told_here d l m start c i command f e h t = ap first (sym e ∙ faults_next d c l m i command h) ∙ first-append f (visit_faults d c (visit l command.instance.now)) _ t

pub none_here : (d : Design) (l : Level) (m : FileModel) (start c i : ℕ) (command : Command) → visits_faults d c (map (visit l) (drop i m.instances)) ≡ visits_faults d start (map (visit l) m.instances)
    → IsNth d.models m i command → visit_faults d c (visit l command.instance.now) ≡ [] → visits_faults d (c + 1) (map (visit l) (drop (i + 1) m.instances)) ≡ visits_faults d start (map (visit l) m.instances)
none_here d l m start c i command e h none =
    sym (ap (λ fs. fs ++ visits_faults d (c + 1) (map (visit l) (drop (i + 1) m.instances))) none) ∙ (sym (faults_next d c l m i command h) ∙ e)

pub few_here : (d : Design) (c : ℕ) (l : Level) (p : Instance) → visit_faults d c (visit l p) ≡ [] → c + 1 ≤ MAX_INSTANCES
few_here d c l p e = let h : c < MAX_INSTANCES = ((passes d c l p e).1).few in omega arith
