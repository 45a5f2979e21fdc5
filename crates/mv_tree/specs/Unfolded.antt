-- A design as one model without instances: the tables, latches and reset tables of all instances
-- over the nets of the whole.
use Rattle.std.specs.Prelude.{ℕ, suc, ◌+◌, List, [], ◌∷◌, ◌++◌, length, map}
use Rattle.std.specs.List.{flat_map}
use Rattle.mv_design.specs.declared.design.Decl.{Decl}
use Rattle.mv_design.specs.declared.design.FileLatch.{FileLatch}
use Rattle.mv_design.specs.declared.design.FileModel.{FileModel}
use Rattle.mv_design.specs.declared.table.FileTable.{FileTable}
use Rattle.mv_design.specs.ByLine.{before_line}
use Rattle.mv_design.specs.Values.{values_of}
use Rattle.mv_tree.specs.Tree.{Instances, NoMore, More}
use Rattle.mv_tree.specs.Places.{Place, places, own_nets}

-- a table over other names, at another line
abbrev pub renamed : (List ℕ → List ℕ) → ℕ → FileTable → FileTable
renamed home line t =
    record {
      line = line;
      inputs = map home t.inputs;
      outputs = map home t.outputs;
      rows = t.rows;
      default = t.default;
    }

-- a latch over the names of the whole
abbrev pub placed_latch : Place → FileLatch → FileLatch
placed_latch p l = record { line = l.line; input = p.home l.input; output = p.home l.output }

-- the values of a net that is at home in a place
abbrev pub placed_decl : Place → List ℕ → Decl
placed_decl p net = record { net = p.home net; values = values_of p.model.decls net }

-- tables over other names, by their number: the line of each is how many tables stand before it in
-- the whole
abbrev pub numbered : (List ℕ → List ℕ) → ℕ → List FileTable → List FileTable
numbered home at [] = []
numbered home at (t ∷ ts) = renamed home at t ∷ numbered home (suc at) ts

-- the tables of all places, behind so many others
abbrev pub tables_in : ℕ → List Place → List FileTable
tables_in at [] = []
tables_in at (p ∷ ps) = numbered p.home at p.model.tables
    ++ tables_in (at + length p.model.tables) ps

-- a reset table of a place, behind so many tables of other places: its line is how many tables
-- stand before it in the whole
abbrev pub placed_reset : ℕ → Place → FileTable → FileTable
placed_reset at p t =
    renamed p.home (at + length (before_line (λ x. x.line) t.line p.model.tables)) t

-- the reset tables of all places
abbrev pub resets_in : ℕ → List Place → List FileTable
resets_in at [] = []
resets_in at (p ∷ ps) = map (placed_reset at p) p.model.resets
    ++ resets_in (at + length p.model.tables) ps

-- the latches of all places
abbrev pub latches_in : List Place → List FileLatch
latches_in ps = flat_map (λ p. map (placed_latch p) p.model.latches) ps

-- the nets of all places, with their values
abbrev pub decls_in : List Place → List Decl
decls_in ps = flat_map (λ p. map (placed_decl p) (own_nets p)) ps

-- the root with the tables, latches and reset tables of all places
abbrev pub joined : FileModel → List Place → FileModel
joined root ps = record {
  name = root.name;
  inputs = root.inputs;
  outputs = root.outputs;
  decls = decls_in ps;
  tables = tables_in 0 ps;
  latches = latches_in ps;
  resets = resets_in 0 ps;
  instances = [];
}

-- a root with its instances as one model. One without instances is that already
unfoldable pub unfolded : FileModel → Instances → FileModel
unfolded root NoMore = root
unfolded root (More instance model inside rest) =
    joined root (places root (More instance model inside rest))
