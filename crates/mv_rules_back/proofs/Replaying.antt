-- The rules that are read back from the text of entries.
use Rattle.std.proofs.Common.{◌≡◌, ◌∙◌, ℕ, ◌+◌, Bool, List, [], ◌∷◌, length, map, All, refl, sym, ap, subst}
use Rattle.mv_lex.specs.Lines.{lines_of}
use Rattle.mv_entry.specs.declared.rule.Rule.{Rule}
use Rattle.mv_entry.specs.Entries.{Entry, Applied, Noted, rule_lines, rules_of, print}
use Rattle.mv_net.specs.declared.parts.NetParts.{NetParts}
use Rattle.mv_rules.specs.Replaying.{Replays}
use Rattle.mv_step.specs.declared.step.Step.{Step}
use Rattle.mv_step.specs.Certificates.{steps_of}
use Rattle.mv_step.specs.Printed.{Lists}
use Rattle.mv_entries_back.specs.Printable.{Printable}
use Rattle.mv_entries_back.specs.Told.{steps_told}
use Rattle.mv_entries_back.proofs.Printed.{steps-back, steps-faultless}

-- the rules of some steps, in order
abbrev rules_in : List Step → List Rule
rules_in steps = map (λ (s : Step). s.rule) steps

-- the rules of the steps that are told are those of the entries
rules_told : (number : ℕ) (es : List Entry) → rules_in (steps_told number es) ≡ rules_of es
rules_told number [] = refl
rules_told number (Applied rule ∷ es) = ap (λ (rules : List Rule). rule ∷ rules) (rules_told (number + length (rule_lines rule)) es)
rules_told number (Noted note ∷ es) = rules_told (number + 1) es

pub print_lists : (es : List Entry) → All Printable es → Lists (lines_of (print es)) (rules_of es)
print_lists es all = record {
  faultless = steps-faultless es all;
  rules_are = ap rules_in (steps-back es all) ∙ rules_told 1 es;
}

pub replayed_from_print : (free : Bool) (es : List Entry) (old new : NetParts) → All Printable es → Replays free (rules_of es) old new → Replays free (rules_in (steps_of (lines_of (print es)))) old new
replayed_from_print free es old new all p = subst (λ (rules : List Rule). Replays free rules old new) (sym (print_lists es all).rules_are) p
