-- Where a walk is, and what it does.
use Rattle.std.specs.Prelude.{◌≡◌, ℕ, ◌+◌, ◌≤◌, Bool, true, false, Option, Some, None, List, [], ◌∷◌, ◌++◌, map, length, slice_index_or, slice_set, unwrap_or}
use Rattle.mv_base.specs.Names.{among}
use Rattle.mv_base.specs.declared.limits.TheConstants.{MAX_DEPTH, MAX_INSTANCES}
use Rattle.mv_design.specs.declared.design.Design.{Design}
use Rattle.mv_design.specs.declared.design.FileModel.{FileModel}
use Rattle.mv_design.specs.declared.design.Instance.{Instance}
use Rattle.mv_design.specs.Nets.{root_of}
use Rattle.mv_tree.specs.Tree.{Instances, NoMore, More}
use Rattle.mv_tree.specs.Places.{path_in}
use Rattle.mv_walk.specs.declared.command.Command.{Command}
use Rattle.mv_walk.specs.declared.command.Found.{Found}
use Rattle.mv_walk.specs.declared.opened.Opened.{Opened}
use Rattle.mv_walk.specs.declared.walker.Walker.{Walker}
use Rattle.mv_walk.specs.Walk.{Level}
use Rattle.mv_walk.specs.Commands.{model_at, command_instance, place_named}
use Rattle.mv_walk.specs.Openings.{openings}

-- ---- where a walk is

-- the names of the models of these instances, the last first, before those round them
abbrev pub round_from : List (List ℕ) → List Instance → List (List ℕ)
round_from round [] = round
round_from round (p ∷ ps) = round_from (p.model ∷ round) ps

-- the path of the nets of the last of these instances, which stand in one another, behind the path
-- round them
abbrev pub path_from : List ℕ → List Instance → List ℕ
path_from path [] = path
path_from path (p ∷ ps) = path_from (path_in path p.name) ps

-- the names of the models of the instances round a place in a design, with that of the root
abbrev pub round_of : Design → List Instance → List (List ℕ)
round_of d trail = round_from ((root_of d).name ∷ []) trail

-- the level inside the last of these instances, whose model this is
abbrev pub level_of : Design → FileModel → List Instance → Level
level_of d m trail = record { model = m; round = round_of d trail; path = path_from [] trail }

-- the commands of the instances in which a walk is, the outermost first
abbrev pub trail_of : Walker → List Instance
trail_of w = map (λ p. p.now) w.trail.items

-- the level on which a walk is, in an instance of the model at a place
abbrev pub level_at : Design → ℕ → Walker → Level
level_at d model w = level_of d (model_at d.models model) (trail_of w)

-- the model of a command, if it has one
abbrev pub instance_model : Design → Instance → FileModel
instance_model d p = model_at d.models (unwrap_or (place_named d.models p.model) 0)

-- the level inside the instance of a command, seen from where a walk is
abbrev pub level_inside : Design → Walker → Instance → Level
level_inside d w p = level_of d (instance_model d p) (trail_of w ++ p ∷ [])

-- of each model that is the first of its name, whether that name is one of these
pub record AreMarks (ms : List FileModel) (names : List (List ℕ)) (marks : List Bool) : Type 0 where
  pub many : length marks ≡ length ms
  pub each : (name : List ℕ) (k : ℕ) → place_named ms name ≡ Some k
      → slice_index_or marks k false ≡ among name names

-- the marks of a walk are those of the instances in which it is
pub record IsMarked (d : Design) (w : Walker) : Type 0 where
  pub marks : AreMarks d.models (round_of d (trail_of w)) w.marks.items

-- a walk is in an instance below which stand no more than so many levels, and has looked at all
-- that it lists
pub record IsAt (d : Design) (levels : ℕ) (w : Walker) : Type 0 where
  pub marked : IsMarked d w
  pub depth : levels + length (trail_of w) ≡ MAX_DEPTH
  pub few : w.count ≤ MAX_INSTANCES
  pub listed : length w.list ≤ w.count

-- ---- what a walk does

-- it went into an instance
pub record Entered (old new : Walker) (p : Instance) (o : Opened) : Type 0 where
  pub list : new.list ≡ old.list ++ o ∷ []
  pub count : new.count ≡ old.count
  pub trail : trail_of new ≡ trail_of old ++ p ∷ []
  pub marks : new.marks.items ≡ slice_set old.marks.items o.model true

-- it went out of one
pub record Left (old new : Walker) (place : ℕ) : Type 0 where
  pub list : new.list ≡ old.list
  pub count : new.count ≡ old.count
  pub trail : (trail : List Instance) (p : Instance) → trail_of old ≡ trail ++ p ∷ []
      → trail_of new ≡ trail
  pub marks : new.marks.items ≡ slice_set old.marks.items place false

-- it listed these instances, looked at so many commands, and is where it was
pub record Walked (opened : List Opened) (looked : ℕ) (old new : Walker) : Type 0 where
  pub list : new.list ≡ old.list ++ opened
  pub count : new.count ≡ old.count + looked
  pub trail : trail_of new ≡ trail_of old
  pub marks : new.marks.items ≡ old.marks.items

-- a walk that begins: it is in the root, of this name, and has listed nothing
pub record IsStart (d : Design) (name : List ℕ) (w : Walker) : Type 0 where
  pub list : w.list ≡ []
  pub count : w.count ≡ 0
  pub trail : trail_of w ≡ []
  pub marks : AreMarks d.models (name ∷ []) w.marks.items

-- the place of a command's model is found
abbrev pub FindsPlace : List FileModel → Instance → Option Found → Type 0
FindsPlace ms p None = ⊥
FindsPlace ms p (Some f) = place_named ms p.model ≡ Some f.place

-- a command's model is found, and isn't that of an instance in which the walk is
pub record CanOpen (d : Design) (w : Walker) (c : Command) : Type 0 where
  pub found : FindsPlace d.models (command_instance c) c.found
  pub new : among (command_instance c).model (round_of d (trail_of w)) ≡ false

-- the instance of a command, and those inside it, as they are listed
abbrev pub opening : Design → ℕ → ℕ → ℕ → Instance → Instances → List Opened
opening d round next instance p inside =
    openings d round next instance (More p (instance_model d p) inside NoMore)
