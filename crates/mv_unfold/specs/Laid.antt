-- A design with what is known of its places. For private functions.
use Rattle.std.specs.Prelude.{◌≡◌, ℕ, ◌-◌, ◌<◌, List, [], ◌∷◌, map, length, slice_index_or}
use Rattle.mv_design.specs.declared.design.Design.{Design}
use Rattle.mv_design.specs.declared.design.Instance.{Instance}
use Rattle.mv_design.specs.Nets.{root_of}
use Rattle.mv_tree.specs.Places.{Place, all_nets}
use Rattle.mv_walk.specs.declared.opened.Opened.{Opened}
use Rattle.mv_unfold.specs.declared.layout.Layout.{Layout}
use Rattle.mv_unfold.specs.Commands.{AreCommands}
use Rattle.mv_unfold.specs.Locals.{AreOwn}
use Rattle.mv_unfold.specs.Placed.{ArePlaced, places_by, instance_in, place_at}

-- the numbers of the models of the root and of all instances
abbrev pub model_numbers : Design → List Opened → List ℕ
model_numbers d list = d.root ∷ map (λ o. o.model) list

-- what is known of a design is right
pub record IsLaid (l : Layout) : Type 0 where
  pub placed : ArePlaced l.design.now l.opened.now
  pub rooted : l.design.now.root < length l.design.now.models
  pub nets : l.nets ≡ map all_nets l.design.now.models
  pub commands : AreCommands l.design.now.models l.commands
  pub models : l.models ≡ model_numbers l.design.now l.opened.now
  pub root : AreOwn (all_nets (root_of l.design.now)) [] l.root

-- its places, the root first
abbrev pub places_of : Layout → List Place
places_of l = places_by l.design.now l.opened.now

-- an instance that stands nowhere
abbrev pub no_opened : Opened
no_opened = record { model = 0; round = 0; instance = 0 }

-- the instance whose place has this number
abbrev pub opened_at : Layout → ℕ → Opened
opened_at l n = slice_index_or l.opened.now (n - 1) no_opened

-- the command that makes it
abbrev pub laid_instance : Layout → ℕ → Instance
laid_instance l n = instance_in (places_of l) (opened_at l n)

-- the name in the whole of a net of the place with a number
abbrev pub home_in : Layout → ℕ → List ℕ → List ℕ
home_in l n net = (place_at (places_of l) n).home net
