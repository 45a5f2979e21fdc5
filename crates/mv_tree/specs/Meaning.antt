-- What a design with instances means, after the description of BLIF-MV by Kukimoto: a valuation
-- gives each net of the root and of each instance one of its values; it is allowed where each table
-- allows the values of its columns, and each formal that is bound has the value of the net round
-- it. There is no flat list of nets, and no order of evaluation.
use Rattle.std.specs.Prelude.{◌≡◌, ℕ, Bool, true, List, [], ◌∷◌, ◌++◌, map, nat_eq}
use Rattle.std.specs.List.{list_all, flat_map}
use Rattle.mv_base.specs.Meaning.{LatchPort, Meaning}
use Rattle.mv_design.specs.declared.design.Bind.{Bind}
use Rattle.mv_design.specs.declared.design.FileLatch.{FileLatch}
use Rattle.mv_design.specs.declared.design.FileModel.{FileModel}
use Rattle.mv_design.specs.Nets.{latch_inputs, latch_outputs}
use Rattle.mv_design.specs.Meaning.{in_values, table_holds, has_reset_table, may_begin_all, port}
use Rattle.mv_tree.specs.Tree.{Instances, NoMore, More}
use Rattle.mv_tree.specs.Places.{Place, places, all_nets}

-- valuations of instances: of each the values of its nets, and the valuations of those inside it
pub data Values : Type 0 where
  NoValues : Values
  At : (here : List ℕ → ℕ) (inside rest : Values) → Values

-- a model allows these values of its nets: each is one of the net's, and each table allows those of
-- its columns
pub record AllowsValues (m : FileModel) (here : List ℕ → ℕ) : Type 0 where
  pub range : in_values m.decls here (all_nets m) ≡ true
  pub tables : list_all (table_holds here) m.tables ≡ true

-- each formal that is bound has the value of the net round it
abbrev pub binds_hold : (List ℕ → ℕ) → (List ℕ → ℕ) → List Bind → Bool
binds_hold round here binds = list_all (λ b. nat_eq (here b.formal) (round b.actual)) binds

-- the valuations of instances are consistent with each other, and with the values round them
abbrev pub AreConsistent : (List ℕ → ℕ) → Instances → Values → Type 0
AreConsistent round NoMore NoValues = Unit {0}
AreConsistent round NoMore (At _ _ _) = ⊥
AreConsistent round (More _ _ _ _) NoValues = ⊥
AreConsistent round (More instance model inside rest) (At here inner others) =
    AllowsValues model here × (binds_hold round here instance.binds ≡ true)
    × AreConsistent here inside inner × AreConsistent round rest others

-- a model, and values of its nets
pub record Valued : Type 0 where
  pub model : FileModel
  pub value : List ℕ → ℕ

-- the models of instances in unfolding order, with the values of their nets
abbrev pub valued_in : Instances → Values → List Valued
valued_in NoMore _ = []
valued_in (More _ _ _ _) NoValues = []
valued_in (More instance model inside rest) (At here inner others) =
    record { model = model; value = here } ∷ (valued_in inside inner ++ valued_in rest others)

-- the values of all latch outputs
abbrev pub states_of : List Valued → List ℕ
states_of xs = flat_map (λ x. map x.value (latch_outputs x.model)) xs

-- the values of all latch inputs
abbrev pub nexts_of : List Valued → List ℕ
nexts_of xs = flat_map (λ x. map x.value (latch_inputs x.model)) xs

-- the latches of a model may begin with the first of these values, and those of the others with the
-- rest
pub record BeginsWith (x : Valued) (Others : List ℕ → Type 0) (r : List ℕ) : Type 0 where
  pub here : List ℕ
  pub rest : List ℕ
  pub joined : r ≡ here ++ rest
  pub begins : may_begin_all x.model x.value x.model.latches here ≡ true
  pub others : Others rest

-- all latches may begin with these values
abbrev pub BeginWith : List Valued → List ℕ → Type 0
BeginWith [] r = r ≡ []
BeginWith (x ∷ xs) r = BeginsWith x (BeginWith xs) r

-- a root with instances allows outputs o, next latch values n and reset values r together, under
-- inputs i and latch values s
pub record AllowsTree (root : FileModel) (tree : Instances) (i s o n r : List ℕ) : Type 0 where
  pub value : List ℕ → ℕ
  pub inside : Values
  pub here : AllowsValues root value
  pub consistent : AreConsistent value tree inside
  pub inputs : map value root.inputs ≡ i
  pub states : states_of (record { model = root; value = value } ∷ valued_in tree inside) ≡ s
  pub outputs : map value root.outputs ≡ o
  pub next : nexts_of (record { model = root; value = value } ∷ valued_in tree inside) ≡ n
  pub resets : BeginWith (record { model = root; value = value } ∷ valued_in tree inside) r

-- a latch of a place as it is seen from outside: the name and values of the net that it drives, and
-- whether it has a reset table
abbrev pub placed_port : Place → FileLatch → LatchPort
placed_port p l =
    record {
      name = p.home l.output;
      values = p.values l.output;
      has_reset = has_reset_table p.model.resets l;
    }

-- the latches of all places
abbrev pub ports_of : List Place → List LatchPort
ports_of ps = flat_map (λ p. map (placed_port p) p.model.latches) ps

-- what a root with instances means: its inputs, its outputs and all latches as they are seen from
-- outside, and what it allows
unfoldable pub of_tree : FileModel → Instances → Meaning
of_tree root tree = record {
  interface =
      record {
        inputs = map (port root) root.inputs;
        outputs = map (port root) root.outputs;
        latches = ports_of (places root tree);
      };
  allows = AllowsTree root tree;
}
