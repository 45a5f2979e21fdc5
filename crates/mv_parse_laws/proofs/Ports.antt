-- Lines of inputs and outputs without a fault: lawful names, all different.
use Rattle.std.proofs.Common.{◌≡◌, ℕ, true, not, List, [], ◌∷◌, ◌++◌, length}
use Rattle.std.specs.Prelude.{nat_lt}
use Rattle.std.proofs.lemmas.Bool.{not-false}
use Rattle.mv_base.specs.Names.{among, is_net_name, is_model_name}
use Rattle.mv_fault.specs.declared.fault.ParseFault.TheVariants.{BadName, ModelTwice, Extra, Repeated}
use Rattle.mv_fault.specs.Tells.{when}
use Rattle.mv_fault.proofs.Nothing.{left-nothing, right-nothing, when-nothing}
use Rattle.mv_line.specs.Ports.{port_faults}
use Rattle.mv_line.specs.Words.{first_of}
use Rattle.mv_parse.specs.Grammar.{model_name_faults, model_faults}
use Rattle.mv_parse_laws.proofs.Names.{IsNames, IsNames-push, IsNames-nil, IsNames-cons}

pub ports-named : (n : ℕ) (earlier words : List (List ℕ)) → port_faults n earlier words ≡ [] → IsNames is_net_name earlier → IsNames is_net_name (earlier ++ words)
ports-named n earlier [] none h = IsNames-nil is_net_name earlier h
ports-named n earlier (w ∷ words) none h =
    let bad = when (not (is_net_name w)) (BadName n w) in
    let twice = when (among w earlier) (Repeated n w) in
    let rest = port_faults n (earlier ++ w ∷ []) words in
    let here : bad ++ twice ≡ [] = left-nothing (bad ++ twice) rest none in
    let more : IsNames is_net_name (earlier ++ w ∷ []) = IsNames-push is_net_name earlier w h (not-false _ (when-nothing _ _ (left-nothing bad twice here))) (when-nothing _ _ (right-nothing bad twice here)) in
    IsNames-cons is_net_name earlier w words (ports-named n (earlier ++ w ∷ []) words (right-nothing (bad ++ twice) rest none) more)

-- the name of a model
name-lawful : (n : ℕ) (word : List ℕ) (names words : List (List ℕ)) → model_name_faults n word names words ≡ [] → is_model_name (first_of words) ≡ true
name-lawful n word names [] none = cc
name-lawful n word names (w ∷ words) none =
    let bad = when (not (is_model_name w)) (BadName n w) in
    let twice = when (among w names) (ModelTwice n w) in
    let extra = when (nat_lt 0 (length words)) (Extra n word) in
    not-false _ (when-nothing _ _ (left-nothing bad twice (left-nothing (bad ++ twice) extra none)))

pub model-named : (n : ℕ) (word : List ℕ) (names words : List (List ℕ)) → model_faults n word names words ≡ [] → is_model_name (first_of words) ≡ true
unfolding model_faults
model-named n word names words none = name-lawful n word names words (right-nothing _ (model_name_faults n word names words) none)
