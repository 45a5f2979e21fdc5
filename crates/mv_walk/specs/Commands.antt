-- What is found of the models and the commands of a design by name.
use Rattle.std.specs.Prelude.{◌≡◌, ℕ, ◌<◌, ◌||◌, Option, Some, None, List, [], ◌∷◌, map, length, All, slice_index_or, nat_eq, if◌then◌else◌}
use Rattle.std.specs.Option.{option_or}
use Rattle.std.specs.Cmp.Lexicographic.{pointwise}
use Rattle.indexmap.specs.IndexMap.{IndexMap, get}
use Rattle.mv_base.specs.Names.{same_word, among, place_of}
use Rattle.mv_fault.specs.Tells.{first}
use Rattle.mv_design.specs.declared.design.Bind.{Bind}
use Rattle.mv_design.specs.declared.design.Decl.{Decl}
use Rattle.mv_design.specs.declared.design.FileModel.{FileModel}
use Rattle.mv_design.specs.declared.design.Instance.{Instance}
use Rattle.mv_design.specs.Nets.{no_model}
use Rattle.mv_tree.specs.Bound.{formals_of}
use Rattle.mv_tree.specs.Places.{is_bound}
use Rattle.mv_walk.specs.declared.command.Command.{Command}
use Rattle.mv_walk.specs.declared.command.Found.{Found}
use Rattle.mv_walk.specs.Misfits.{misfits, misfit_in}

-- ---- numbers found by name

-- a map leads each name to what a function says of it
pub record Finds {S : Type 0} (numbers : IndexMap (List ℕ) ℕ S) (says : List ℕ → Option ℕ)
    : Type 0 where
  pub each : (name : List ℕ) → get (pointwise nat_eq) numbers name ≡ says name

-- a number of a name, behind what is known already
abbrev pub also : (List ℕ → Option ℕ) → List ℕ → ℕ → List ℕ → Option ℕ
also says name number other =
    option_or (says other) (if same_word other name then Some number else None)

-- what the maps say before and after a name got its number, unless it had one
pub record FindsFirst {S : Type 0} (old new : IndexMap (List ℕ) ℕ S) (name : List ℕ) (number : ℕ)
    : Type 0 where
  pub finds : (says : List ℕ → Option ℕ) → Finds old says → Finds new (also says name number)

-- ---- sets of names

-- a set has these names
pub record HasNames (set names : List (List ℕ)) : Type 0 where
  pub each : (name : List ℕ) → among name set ≡ among name names

-- what a set has after names were added to it
pub record HasAdded (old names new : List (List ℕ)) : Type 0 where
  pub each : (name : List ℕ) → among name new ≡ (among name old || among name names)

-- a set has the formals that are bound
pub record HasBound (binds : List Bind) (set : List (List ℕ)) : Type 0 where
  pub each : (net : List ℕ) → among net set ≡ is_bound binds net

-- ---- the ports of a model

-- how many values a net has, if it is declared
abbrev pub declared_count : List Decl → List ℕ → Option ℕ
declared_count [] net = None
declared_count (d ∷ ds) net = if same_word net d.net then Some (length d.values)
    else declared_count ds net

-- the formals of a model, and how many values its declared nets have
pub record ArePorts {S : Type 0} (m : FileModel) (names : List (List ℕ))
    (numbers : IndexMap (List ℕ) ℕ S) : Type 0 where
  pub formals : HasNames names (formals_of m)
  pub counts : Finds numbers (declared_count m.decls)

-- ---- models and commands

-- the names of models
abbrev pub names_of : List FileModel → List (List ℕ)
names_of ms = map (λ m. m.name) ms

-- the model at a place
abbrev pub model_at : List FileModel → ℕ → FileModel
model_at ms k = slice_index_or ms k no_model

-- the place of the first model with a name
abbrev pub place_named : List FileModel → List ℕ → Option ℕ
place_named ms name = place_of name (names_of ms)

-- a command has this model, whose first misfit with the bindings is known
pub record IsFound (ms : List FileModel) (round : FileModel) (p : Instance) (f : Found)
    : Type 0 where
  pub place : place_named ms p.model ≡ Some f.place
  pub fault : misfit_in f.fault ≡ first (misfits round p (model_at ms f.place))

-- a command has this model, if it has one
abbrev pub FindsModel : List FileModel → FileModel → Instance → Option Found → Type 0
FindsModel ms round p None = place_named ms p.model ≡ None
FindsModel ms round p (Some f) = IsFound ms round p f

-- what a command says
abbrev pub command_instance : Command → Instance
command_instance c = c.instance.now

-- a command of a model
pub record IsCommand (ms : List FileModel) (round : FileModel) (c : Command) : Type 0 where
  pub found : FindsModel ms round (command_instance c) c.found

-- the commands of a model
pub record AreCommands (ms : List FileModel) (round : FileModel) (cs : List Command) : Type 0 where
  pub instances : map command_instance cs ≡ round.instances
  pub each : All (IsCommand ms round) cs

-- the commands of models, one list for each
pub record AreKnown {S : Type 0} (ms : List FileModel) (numbers : IndexMap (List ℕ) ℕ S)
    (all : List (List Command)) : Type 0 where
  pub places : Finds numbers (place_named ms)
  pub many : length all ≡ length ms
  pub each : (k : ℕ) → k < length ms → AreCommands ms (model_at ms k) (slice_index_or all k [])
