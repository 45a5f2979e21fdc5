-- What the commands of models make, each said once however often its model is instanced. For
-- private functions.
use Rattle.std.specs.Prelude.{◌≡◌, ℕ, ◌<◌, List, [], length, slice_index_or}
use Rattle.mv_design.specs.declared.design.FileModel.{FileModel}
use Rattle.mv_design.specs.declared.design.Instance.{Instance}
use Rattle.mv_design.specs.Nets.{no_model}
use Rattle.mv_tree.specs.Places.{all_nets}
use Rattle.mv_unfold.specs.declared.commands.Command.{Command}
use Rattle.mv_unfold.specs.ByName.{FindsFirst, formals_bound}
use Rattle.mv_unfold.specs.Locals.{AreOwn}
use Rattle.mv_unfold.specs.Placed.{model_place, no_instance}

-- a command that makes nothing
abbrev pub no_command : Command
no_command = record { model = 0; own = []; formals = record { names = []; numbers = [] } }

-- the command makes an instance of the model with this number, of whose nets these are its own, and
-- these are the formals that it binds
pub record IsCommand (ms : List FileModel) (p : Instance) (c : Command) : Type 0 where
  pub model : c.model ≡ model_place ms p.model
  pub below : c.model < length ms
  pub own : AreOwn (all_nets (slice_index_or ms c.model no_model)) p.binds c.own
  pub formals : FindsFirst c.formals (formals_bound p.binds)

-- what the commands of a model make
pub record AreCommandsOf (ms : List FileModel) (instances : List Instance) (row : List Command)
    : Type 0 where
  pub long : length row ≡ length instances
  pub each : (j : ℕ) → j < length row
      → IsCommand ms (slice_index_or instances j no_instance) (slice_index_or row j no_command)

-- what the commands of each model make
pub record AreCommands (ms : List FileModel) (all : List (List Command)) : Type 0 where
  pub long : length all ≡ length ms
  pub each : (k : ℕ) → k < length all
      → AreCommandsOf ms (slice_index_or ms k no_model).instances (slice_index_or all k [])
