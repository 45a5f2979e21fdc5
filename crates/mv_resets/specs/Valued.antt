-- What a model with a net for each reset value allows: a valuation of all its nets, those of reset
-- values among them.
use Rattle.std.specs.Prelude.{◌≡◌, ℕ, Bool, true, false, ◌&&◌, nat_eq, nat_lt, List, [], ◌∷◌, map, if◌then◌else◌}
use Rattle.std.specs.List.{list_all}
use Rattle.mv_base.specs.Meaning.{LatchPort, Meaning}
use Rattle.mv_base.specs.Names.{among}
use Rattle.mv_design.specs.declared.design.FileLatch.{FileLatch}
use Rattle.mv_design.specs.declared.design.FileModel.{FileModel}
use Rattle.mv_design.specs.Nets.{drivers, nets_named, latch_inputs, latch_outputs}
use Rattle.mv_design.specs.Values.{values_of, count_of}
use Rattle.mv_design.specs.Meaning.{in_values, table_holds, port}
use Rattle.mv_resets.specs.Resets.{reset_name}

-- the latch has a reset net
abbrev pub has_reset_net : FileModel → List ℕ → Bool
has_reset_net m latch = among (reset_name latch) (drivers m)

-- the reset value of a latch: that of its reset net, or any of its values where it has none
abbrev pub reset_is : FileModel → (List ℕ → ℕ) → List ℕ → ℕ → Bool
reset_is m value latch r = if has_reset_net m latch then nat_eq r (value (reset_name latch))
    else nat_lt r (count_of m.decls latch)

-- one reset value for each latch
abbrev pub resets_are : FileModel → (List ℕ → ℕ) → List (List ℕ) → List ℕ → Bool
resets_are m value [] [] = true
resets_are m value [] (_ ∷ _) = false
resets_are m value (_ ∷ _) [] = false
resets_are m value (w ∷ ws) (r ∷ rs) = reset_is m value w r && resets_are m value ws rs

-- the model allows outputs o, next latch values n and reset values r together, under inputs i and
-- latch values s
pub record AllowsNets (m : FileModel) (i s o n r : List ℕ) : Type 0 where
  pub value : List ℕ → ℕ
  pub range : in_values m.decls value (nets_named m) ≡ true
  pub tables : list_all (table_holds value) m.tables ≡ true
  pub inputs : map value m.inputs ≡ i
  pub states : map value (latch_outputs m) ≡ s
  pub outputs : map value m.outputs ≡ o
  pub next : map value (latch_inputs m) ≡ n
  pub resets : resets_are m value (latch_outputs m) r ≡ true

-- a latch as it is seen from outside
abbrev pub latch_seen : FileModel → FileLatch → LatchPort
latch_seen m l =
    record {
      name = l.output;
      values = values_of m.decls l.output;
      has_reset = has_reset_net m l.output;
    }

-- what the model means
unfoldable pub of_nets : FileModel → Meaning
of_nets m =
    record {
      interface =
          record {
            inputs = map (port m) m.inputs;
            outputs = map (port m) m.outputs;
            latches = map (latch_seen m) m.latches;
          };
      allows = AllowsNets m;
    }
