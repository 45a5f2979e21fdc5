-- A line without a fault: lawful names, no formal twice, and an instance with a name of its own.
use Rattle.std.proofs.Common.{◌≡◌, ℕ, true, false, not, List, [], ◌∷◌, ◌++◌, append_assoc, refl, subst, ◌≤◌, length, arith}
use Rattle.std.specs.Prelude.{map, All}
use Rattle.std.proofs.lemmas.Bool.{not-false}
use Rattle.std.proofs.lemmas.List.{append-nil}
use Rattle.std.proofs.lemmas.List.Elements.{All-nil, All-cons}
use Rattle.mv_base.specs.Names.{among, is_net_name, is_model_name, names_differ}
use Rattle.mv_base.proofs.NameLemmas.{differ-push}
use Rattle.mv_design.specs.declared.design.Bind.{Bind}
use Rattle.mv_fault.specs.declared.fault.ParseFault.TheVariants.{Missing, BadName, Repeated}
use Rattle.mv_fault.specs.Tells.{when}
use Rattle.mv_fault.proofs.Nothing.{left-nothing, right-nothing, when-nothing}
use Rattle.mv_instances.specs.Binding.{before_equal, binding_of, lacks_side, binding_faults, bindings_faults}
use Rattle.mv_instances.specs.Line.{own_name_faults, instance_name_faults, instance_faults, instance_name, instance_said}
use Rattle.mv_design.specs.Proper.{IsFileBind, IsFileInstance}

-- a binding without a fault: its names are lawful, and its formal wasn't bound before
record IsNewBind (bound : List (List ℕ)) (b : Bind) : Type 0 where
  lawful : IsFileBind b
  new : among b.formal bound ≡ false

new_bind : (n : ℕ) (word : List ℕ) (bound : List (List ℕ)) (b : Bind) → binding_faults n word bound b ≡ [] → IsNewBind bound b
unfolding binding_faults
new_bind n word bound b none =
    let lacks = when (lacks_side b) (Missing n word) in
    let formal = when (not (is_net_name b.formal)) (BadName n b.formal) in
    let twice = when (among b.formal bound) (Repeated n b.formal) in
    let actual = when (not (is_net_name b.actual)) (BadName n b.actual) in
    let front : lacks ++ formal ++ twice ≡ [] = left-nothing (lacks ++ formal ++ twice) actual none in
    record {
      lawful = record {
        formal = not-false _ (when-nothing _ _ (right-nothing lacks formal (left-nothing (lacks ++ formal) twice front)));
        actual = not-false _ (when-nothing _ _ (right-nothing (lacks ++ formal ++ twice) actual none));
      };
      new = when-nothing _ _ (right-nothing (lacks ++ formal) twice front);
    }

-- the formals of bindings
abbrev pub formals : List Bind → List (List ℕ)
formals binds = map (λ b. b.formal) binds

-- lawful bindings, none of whose formals is bound before
pub record AreNewBinds (bound words : List (List ℕ)) : Type 0 where
  pub lawful : All IsFileBind (map binding_of words)
  pub differ : names_differ (bound ++ formals (map binding_of words)) ≡ true

new_binds : (n : ℕ) (word : List ℕ) (bound words : List (List ℕ)) → bindings_faults n word bound words ≡ [] → names_differ bound ≡ true → AreNewBinds bound words
new_binds n word bound [] none d = record { lawful = All-nil IsFileBind; differ = rw (append-nil bound) d }
new_binds n word bound (w ∷ words) none d =
    let here = binding_faults n word bound (binding_of w) in
    let behind = bindings_faults n word (bound ++ before_equal w ∷ []) words in
    let bind = new_bind n word bound (binding_of w) (left-nothing here behind none) in
    let rest = new_binds n word (bound ++ before_equal w ∷ []) words (right-nothing here behind none) (differ-push bound (before_equal w) d bind.new) in
    record {
      lawful = All-cons IsFileBind (binding_of w) (map binding_of words) bind.lawful rest.lawful;
      differ = subst (λ ws. names_differ ws ≡ true) (append_assoc bound (before_equal w ∷ []) (formals (map binding_of words))) rest.differ;
    }

own_name-lawful : (n : ℕ) (w : List ℕ) → own_name_faults n w ≡ [] → is_model_name w ≡ true
unfolding own_name_faults
own_name-lawful n w none = not-false _ (when-nothing _ _ none)

instance_name-lawful : (n : ℕ) (known : List (List ℕ)) (w : List ℕ) → instance_name_faults n known w ≡ [] → is_model_name w ≡ true
unfolding instance_name_faults
instance_name-lawful n known w none = own_name-lawful n w (left-nothing (own_name_faults n w) (when (among w known) (Repeated n w)) none)

instance_name-new : (n : ℕ) (known : List (List ℕ)) (w : List ℕ) → instance_name_faults n known w ≡ [] → among w known ≡ false
unfolding instance_name_faults
instance_name-new n known w none = when-nothing _ _ (right-nothing (own_name_faults n w) (when (among w known) (Repeated n w)) none)

pub instance-lawful : (n : ℕ) (word : List ℕ) (known words : List (List ℕ)) → instance_faults n word known words ≡ [] → IsFileInstance (instance_said n words)
unfolding instance_faults instance_said
instance-lawful n word known [] none = cc
instance-lawful n word known (model ∷ []) none = let lacks : Missing n word ∷ [] ≡ [] = right-nothing (own_name_faults n model) (Missing n word ∷ []) none in cc
instance-lawful n word known (model ∷ instance ∷ words) none =
    let names = own_name_faults n model ++ instance_name_faults n known instance in
    let front : names ≡ [] = left-nothing names (bindings_faults n word [] words) none in
    let binds = new_binds n word [] words (right-nothing names (bindings_faults n word [] words) none) refl in
    record {
      model = own_name-lawful n model (left-nothing (own_name_faults n model) (instance_name_faults n known instance) front);
      name = instance_name-lawful n known instance (right-nothing (own_name_faults n model) (instance_name_faults n known instance) front);
      binds = binds.lawful;
      differ = binds.differ;
    }

-- the words of such a line are a model and an instance at least
pub instance-enough : (n : ℕ) (word : List ℕ) (known words : List (List ℕ)) → instance_faults n word known words ≡ [] → 2 ≤ length words
unfolding instance_faults
instance-enough n word known [] none = cc
instance-enough n word known (model ∷ []) none = let lacks : Missing n word ∷ [] ≡ [] = right-nothing (own_name_faults n model) (Missing n word ∷ []) none in cc
instance-enough n word known (model ∷ instance ∷ words) none = omega arith

pub instance-new : (n : ℕ) (word : List ℕ) (known words : List (List ℕ)) → instance_faults n word known words ≡ [] → among (instance_name words) known ≡ false
unfolding instance_faults
instance-new n word known [] none = cc
instance-new n word known (model ∷ []) none = let lacks : Missing n word ∷ [] ≡ [] = right-nothing (own_name_faults n model) (Missing n word ∷ []) none in cc
instance-new n word known (model ∷ instance ∷ words) none =
    let names = own_name_faults n model ++ instance_name_faults n known instance in
    instance_name-new n known instance (right-nothing (own_name_faults n model) (instance_name_faults n known instance) (left-nothing names (bindings_faults n word [] words) none))
