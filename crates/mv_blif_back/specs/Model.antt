-- The design that the text of a network as BLIF says: its tables, latches and reset tables, each
-- with the number of its line.
use Rattle.std.specs.Prelude.{ℕ, ◌+◌, nat_lt, Option, Some, None, List, [], ◌∷◌, ◌++◌, length, map, if◌then◌else◌}
use Rattle.mv_cover.specs.declared.cover.Cover.{Cover}
use Rattle.mv_design.specs.declared.table.FileTable.{FileTable}
use Rattle.mv_design.specs.declared.design.FileLatch.{FileLatch}
use Rattle.mv_design.specs.declared.design.FileModel.{FileModel}
use Rattle.mv_latch.specs.declared.latch.BlifLatch.{BlifLatch}
use Rattle.mv_net.specs.declared.parts.FlatLatch.{FlatLatch}
use Rattle.mv_net.specs.declared.parts.FlatNet.{FlatNet}
use Rattle.mv_net.specs.declared.parts.NetParts.{NetParts}
use Rattle.mv_net.specs.Nets.{slot, name_in}
use Rattle.mv_net.specs.Index.{is_reset}
use Rattle.mv_text.specs.Text.{fanins_of, names_of}
use Rattle.mv_blif.specs.declared.design.BlifDesign.{BlifDesign}
use Rattle.mv_blif_line.specs.Tables.{row_of}
use Rattle.mv_blif_line.specs.Latches.{constant_reset}
use Rattle.mv_blif_text.specs.BlifText.{choice_words, net_words}
use Rattle.mv_blif_back.specs.Rows.{default_of, one_entry}

-- the table of a cover over these fanins, which begins on line n
abbrev pub gate_said : List (Option FlatNet) → ℕ → List ℕ → List ℕ → Cover → FileTable
gate_said nets n name fanins c = record {
  line = n;
  inputs = map (λ m. name_in (slot nets m)) fanins;
  outputs = name ∷ [];
  rows = map row_of (choice_words fanins c);
  default = Some (one_entry (default_of (choice_words fanins c)));
}

-- that of a net's cover, if it has one
abbrev pub cover_said : List (Option FlatNet) → ℕ → List ℕ → Option Cover → List FileTable
cover_said nets n name None = []
cover_said nets n name (Some c) = gate_said nets n name (fanins_of (length nets) c) c ∷ []

-- that of a number's net: a reset net's value stands in the line of its latch
abbrev pub net_said : List (Option FlatNet) → ℕ → Option FlatNet → List FileTable
net_said nets n None = []
net_said nets n (Some f) = if is_reset (Some f.kind) then [] else cover_said nets n f.name f.table

-- those of nets, of which the first stands on line n
abbrev pub tables_said : List (Option FlatNet) → ℕ → List (Option FlatNet) → List FileTable
tables_said nets n [] = []
tables_said nets n (f ∷ fs) = net_said nets n f
    ++ tables_said nets (n + length (net_words nets f)) fs

-- latches, of which the first stands on line n
abbrev pub latches_said : List (Option FlatNet) → ℕ → List FlatLatch → List FileLatch
latches_said nets n [] = []
latches_said nets n (l ∷ ls) =
    record {
      line = n;
      input = name_in (slot nets l.input.0);
      output = name_in (slot nets l.output.0);
    }
    ∷ latches_said nets (n + 1) ls

-- the reset table of a latch on line n, where it begins with 0 or 1
abbrev pub reset_said : List (Option FlatNet) → ℕ → FlatLatch → ℕ → List FileTable
reset_said nets n l init =
    if nat_lt init 2 then constant_reset n (name_in (slot nets l.output.0)) init ∷ [] else []

-- those of latches, of which the first stands on line n
abbrev pub resets_said : List (Option FlatNet) → ℕ → List FlatLatch → List BlifLatch
    → List FileTable
resets_said nets n (l ∷ ls) (b ∷ bs) = reset_said nets n l b.init
    ++ resets_said nets (n + 1) ls bs
resets_said nets n _ _ = []

-- the model of a network
unfoldable pub model_said : NetParts → List BlifLatch → FileModel
model_said net bs = record {
  name = net.root;
  inputs = names_of net.nets net.inputs;
  outputs = names_of net.nets net.outputs;
  decls = [];
  tables = tables_said net.nets (4 + length net.latches) net.nets;
  latches = latches_said net.nets 4 net.latches;
  resets = resets_said net.nets 4 net.latches bs;
  instances = [];
}

-- the design: this model, and what is said of its latches
abbrev pub design_said : NetParts → List BlifLatch → BlifDesign
design_said net bs =
    record {
      design = record { root = 0; models = model_said net bs ∷ [] };
      latches = bs;
    }
