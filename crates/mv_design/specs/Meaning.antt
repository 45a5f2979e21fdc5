-- What a model without instances means, after the description of BLIF-MV by Kukimoto: a valuation
-- gives each net one of its values, and it is allowed where each table allows the values of its
-- columns. Nothing is said of an order of evaluation.
use Rattle.std.specs.Prelude.{◌≡◌, ℕ, Bool, true, false, ◌&&◌, ◌||◌, not, nat_lt, List, [], ◌∷◌, map}
use Rattle.std.specs.List.{list_all, list_any}
use Rattle.mv_base.specs.Names.{among}
use Rattle.mv_base.specs.Meaning.{Port, LatchPort, Meaning}
use Rattle.mv_design.specs.declared.design.Decl.{Decl}
use Rattle.mv_design.specs.declared.design.FileLatch.{FileLatch}
use Rattle.mv_design.specs.declared.design.FileModel.{FileModel}
use Rattle.mv_design.specs.declared.table.FileTable.{FileTable}
use Rattle.mv_design.specs.Values.{values_of, count_of}
use Rattle.mv_design.specs.Tables.{table_allows}
use Rattle.mv_design.specs.Nets.{nets_named, latch_inputs, latch_outputs}

-- the value of each of these nets is one of the net's
abbrev pub in_values : List Decl → (List ℕ → ℕ) → List (List ℕ) → Bool
in_values ds value nets = list_all (λ net. nat_lt (value net) (count_of ds net)) nets

-- the table allows the values of its columns
abbrev pub table_holds : (List ℕ → ℕ) → FileTable → Bool
table_holds value t = table_allows t.rows t.default (map value t.inputs) (map value t.outputs)

-- the table is a reset table of this latch: its output names the latch
abbrev pub is_reset_of : FileLatch → FileTable → Bool
is_reset_of l t = among l.output t.outputs

-- the latch has a reset table
abbrev pub has_reset_table : List FileTable → FileLatch → Bool
has_reset_table resets l = list_any (is_reset_of l) resets

-- the table allows the latch to begin with a value, if it is a reset table of this latch
abbrev pub lets_begin : (List ℕ → ℕ) → FileLatch → ℕ → FileTable → Bool
lets_begin value l r t = not (is_reset_of l t)
    || table_allows t.rows t.default (map value t.inputs) (r ∷ [])

-- a latch may begin with a value: it is one of the latch's, and the latch's reset table, where it
-- has one, allows it
abbrev pub may_begin : FileModel → (List ℕ → ℕ) → FileLatch → ℕ → Bool
may_begin m value l r = nat_lt r (count_of m.decls l.output)
    && list_all (lets_begin value l r) m.resets

-- latches may begin with these values, one for each
abbrev pub may_begin_all : FileModel → (List ℕ → ℕ) → List FileLatch → List ℕ → Bool
may_begin_all m value [] [] = true
may_begin_all m value [] (_ ∷ _) = false
may_begin_all m value (_ ∷ _) [] = false
may_begin_all m value (l ∷ ls) (r ∷ rs) = may_begin m value l r && may_begin_all m value ls rs

-- the model allows outputs o, next latch values n and reset values r together, under inputs i and
-- latch values s: some valuation that each table allows has these values, and the reset tables
-- allow the reset values under it
pub record AllowsModel (m : FileModel) (i s o n r : List ℕ) : Type 0 where
  pub value : List ℕ → ℕ
  pub range : in_values m.decls value (nets_named m) ≡ true
  pub tables : list_all (table_holds value) m.tables ≡ true
  pub inputs : map value m.inputs ≡ i
  pub states : map value (latch_outputs m) ≡ s
  pub outputs : map value m.outputs ≡ o
  pub next : map value (latch_inputs m) ≡ n
  pub resets : may_begin_all m value m.latches r ≡ true

-- a net as it is seen from outside: its name, and the names of its values
abbrev pub port : FileModel → List ℕ → Port
port m net = record { name = net; values = values_of m.decls net }

-- a latch as it is seen from outside: the net that it drives, and whether it has a reset table
abbrev pub latch_port : FileModel → FileLatch → LatchPort
latch_port m l =
    record {
      name = l.output;
      values = values_of m.decls l.output;
      has_reset = has_reset_table m.resets l;
    }

-- what a model means: its inputs, outputs and latches as they are seen from outside, and what it
-- allows
unfoldable pub of_model : FileModel → Meaning
of_model m =
    record {
      interface =
          record {
            inputs = map (port m) m.inputs;
            outputs = map (port m) m.outputs;
            latches = map (latch_port m) m.latches;
          };
      allows = AllowsModel m;
    }
