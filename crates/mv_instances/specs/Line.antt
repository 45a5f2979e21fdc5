-- The line of an instance, `.subckt MODEL INSTANCE F=A ..`, after the description of BLIF-MV by
-- Kukimoto: its faults, from left to right, and the instance that it says.
use Rattle.std.specs.Prelude.{ℕ, not, List, [], ◌∷◌, ◌++◌, drop, map, slice_index_or}
use Rattle.mv_base.specs.Names.{among, is_model_name}
use Rattle.mv_design.specs.declared.design.Instance.{Instance}
use Rattle.mv_fault.specs.declared.fault.ParseFault.{ParseFault}
use Rattle.mv_fault.specs.declared.fault.ParseFault.TheVariants.{Missing, BadName, Repeated}
use Rattle.mv_fault.specs.Tells.{when}
use Rattle.mv_instances.specs.Binding.{binding_of, bindings_faults}

-- the fault of the name of a model, or of an instance
unfoldable pub own_name_faults : ℕ → List ℕ → List ParseFault
own_name_faults n w = when (not (is_model_name w)) (BadName n w)

-- the faults of an instance's name, where instances of the model have these names
unfoldable pub instance_name_faults : ℕ → List (List ℕ) → List ℕ → List ParseFault
instance_name_faults n known w = own_name_faults n w ++ when (among w known) (Repeated n w)

-- the faults of the words behind the command `word`
unfoldable pub instance_faults : ℕ → List ℕ → List (List ℕ) → List (List ℕ) → List ParseFault
instance_faults n word known [] = Missing n word ∷ []
instance_faults n word known (model ∷ []) = own_name_faults n model ++ Missing n word ∷ []
instance_faults n word known (model ∷ instance ∷ words) = own_name_faults n model
    ++ instance_name_faults n known instance ++ bindings_faults n word [] words

-- the instance's name among the words behind the command
abbrev pub instance_name : List (List ℕ) → List ℕ
instance_name words = slice_index_or words 1 []

-- the instance that these words say, on a line with this number
unfoldable pub instance_said : ℕ → List (List ℕ) → Instance
instance_said n words =
    record {
      line = n;
      model = slice_index_or words 0 [];
      name = instance_name words;
      binds = map binding_of (drop 2 words);
    }
