-- The commands of models, put into lists one by one.
use Rattle.std.proofs.Common.{◌≡◌, ℕ, ◌+◌, ◌<◌, ◌≤◌, List, [], ◌∷◌, ◌++◌, length, map, take, drop, get_or, All, sym, ◌∙◌, ap, subst, arith}
use Rattle.std.proofs.lemmas.List.{map-append, length-map, take_more, drop_more}
use Rattle.std.proofs.lemmas.List.Elements.{All-push}
use Rattle.std.proofs.Math.ListN.{get_or-map}
use Rattle.mv_design.specs.declared.design.FileModel.{FileModel}
use Rattle.mv_design.specs.declared.design.Instance.{Instance}
use Rattle.mv_walk.specs.declared.command.Command.{Command}
use Rattle.mv_walk.specs.Commands.{AreCommands, IsCommand, model_at, command_instance}

-- ---- the commands of one model

-- the commands so far
pub record AreSome (ms : List FileModel) (round : FileModel) (ps : List Instance) (cs : List Command) : Type 0 where
  pub instances : map command_instance cs ≡ ps
  pub each : All (IsCommand ms round) cs

pub some_more : (ms : List FileModel) (round : FileModel) (ps : List Instance) (i : ℕ) (p : Instance) (now new : List Command) (c : Command) → AreSome ms round (take i ps) now → i < length ps
    → p ≡ get_or ps i p → command_instance c ≡ p → IsCommand ms round c → new ≡ now ++ c ∷ [] → AreSome ms round (take (i + 1) ps) new
some_more ms round ps i p now new c h within is instance command e = subst (AreSome ms round (take (i + 1) ps)) (sym e) (record {
  instances = map-append command_instance now (c ∷ []) ∙ (ap (λ xs. xs ++ command_instance c ∷ []) h.instances ∙ (ap (λ x. take i ps ++ x ∷ []) (instance ∙ is) ∙ sym (take_more ps i p within)));
  each = All-push (IsCommand ms round) now c h.each command;
})

-- ---- those of all models

-- the lists so far, one for each of so many models
pub record AreLists (ms : List FileModel) (n : ℕ) (all : List (List Command)) : Type 0 where
  pub many : length all ≡ n
  pub each : (k : ℕ) → k < n → AreCommands ms (model_at ms k) (get_or all k [])

-- ---- one of the commands of a model

-- the command at a place
pub record IsNth (ms : List FileModel) (round : FileModel) (i : ℕ) (c : Command) : Type 0 where
  pub command : IsCommand ms round c
  pub within : i < length round.instances
  pub is : get_or round.instances i (command_instance c) ≡ command_instance c
  pub rest : drop i round.instances ≡ command_instance c ∷ drop (i + 1) round.instances

pub nth_command : (ms : List FileModel) (round : FileModel) (cs : List Command) (i : ℕ) (c : Command) → AreCommands ms round cs → i < length cs → c ≡ get_or cs i c → IsNth ms round i c
nth_command ms round cs i c h below is = record {
  command = subst (IsCommand ms round) (sym is) (h.each i c below);
  within = within;
  is = at;
  rest = drop_more round.instances i (command_instance c) within ∙ ap (λ p. p ∷ drop (i + 1) round.instances) at;
}
  where
    within : i < length round.instances
    within = let a = ap length h.instances in let b = length-map cs command_instance in omega arith

    at : get_or round.instances i (command_instance c) ≡ command_instance c
    at = ap (λ ps. get_or ps i (command_instance c)) (sym h.instances) ∙ (get_or-map command_instance cs i c ∙ ap command_instance (sym is))

-- behind the last command there are no instances
pub behind_commands : (ms : List FileModel) (round : FileModel) (cs : List Command) (i : ℕ) → AreCommands ms round cs → length cs ≤ i → length round.instances ≤ i
behind_commands ms round cs i h end = let a = ap length h.instances in let b = length-map cs command_instance in omega arith
