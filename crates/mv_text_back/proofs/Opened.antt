-- What the lines of one model say before its end and behind it, and the faults of a line within it.
use Rattle.std.proofs.Common.{◌≡◌, ◌∙◌, Bool, true, false, not, List, [], ◌∷◌, ◌++◌, refl}
use Rattle.std.specs.Prelude.{Some, None}
use Rattle.std.specs.List.{list_all}
use Rattle.std.proofs.lemmas.Bool.{and_from, and_parts, not-true}
use Rattle.std.proofs.lemmas.List.Folds.{list_all-append}
use Rattle.mv_base.proofs.Lists.{all-weaker}
use Rattle.mv_lex.specs.declared.lines.LexLine.{LexLine}
use Rattle.mv_lex.proofs.Cuts.{has_none, closed-none, open_piece-none}
use Rattle.mv_parse.specs.declared.command.Command.{Command}
use Rattle.mv_parse.specs.declared.command.Command.TheVariants.{End, Root}
use Rattle.mv_parse.specs.declared.known.Known.{Known}
use Rattle.mv_parse.specs.Commands.{command_at, is_model, is_end, is_root}
use Rattle.mv_parse.specs.Known.{says_root, ends_part, open_part, models_of, model_names, open_model, file_model, known}
use Rattle.mv_parse.specs.Grammar.{body_faults, line_faults, faults_at}
use Rattle.mv_parse.proofs.Parts.{unrooted-first, open_part-end}
use Rattle.mv_parse.proofs.Knowns.{models-end}
use Rattle.mv_parse.proofs.NamedRoots.{no-root, root-more}

-- a command that neither ends its model nor names the root
abbrev pub stays : Command → Bool
stays End = false
stays Root = false
stays _ = true

stays-no_end : (c : Command) → stays c ≡ true → not (is_end c) ≡ true
stays-no_end End e = cc
stays-no_end _ e = refl

stays-no_root : (c : Command) → stays c ≡ true → not (is_root c) ≡ true
stays-no_root Root e = cc
stays-no_root _ e = refl

-- a line that goes on with its model
abbrev pub goes_on : LexLine → Bool
goes_on l = stays (command_at l)

none_end : (ls : List LexLine) → list_all goes_on ls ≡ true → has_none ends_part ls ≡ true
none_end ls e = all-weaker goes_on _ (λ l y. stays-no_end (command_at l) y) ls e

none_root : (ls : List LexLine) → list_all goes_on ls ≡ true → has_none says_root ls ≡ true
none_root ls e = all-weaker goes_on _ (λ l y. stays-no_root (command_at l) y) ls e

-- one more line that goes on
pub going-push : (c : Command) (ls : List LexLine) (l : LexLine) → list_all goes_on ls ≡ true → command_at l ≡ c → stays c ≡ true
    → list_all goes_on (ls ++ l ∷ []) ≡ true
going-push c ls l e is on =
    let one : goes_on l ≡ true = rw is on in
    list_all-append goes_on ls (l ∷ []) ∙ and_from (list_all goes_on ls) (list_all goes_on (l ∷ [])) e (and_from (goes_on l) true one refl)

-- such lines are one part, that is open
one_part : (h : LexLine) (ls : List LexLine) → list_all goes_on (h ∷ ls) ≡ true → open_part (h ∷ ls) ≡ h ∷ ls
one_part h ls e =
    let first = (and_parts (goes_on h) (list_all goes_on ls) e).0 in
    rw (open_piece-none ends_part (h ∷ ls) (none_end (h ∷ ls) e)) (unrooted-first h ls (not-true (says_root h) (stays-no_root (command_at h) first)))

no_models : (ls : List LexLine) → list_all goes_on ls ≡ true → models_of ls ≡ []
no_models ls e = rw (closed-none ends_part ls (none_end ls e)) refl

-- one model, open, with its first line and the lines behind
abbrev pub opened : LexLine → List LexLine → Known
opened h ls = record { models = []; names = []; root = None; inside = Some (open_model h ls) }

pub known-going : (h : LexLine) (ls : List LexLine) → list_all goes_on (h ∷ ls) ≡ true → known (h ∷ ls) ≡ opened h ls
unfolding known
known-going h ls e = rw (no_models (h ∷ ls) e, no-root (h ∷ ls) (none_root (h ∷ ls) e), one_part h ls e) refl

end_no_root : (c : Command) → is_end c ≡ true → is_root c ≡ false
end_no_root End y = refl
end_no_root _ y = cc

-- one model, ended
abbrev pub ended : LexLine → List LexLine → Known
ended h ls =
    let models = file_model (open_model h ls) ls ∷ [] in
    record { models = models; names = model_names models; root = None; inside = None }

pub known-closed : (h : LexLine) (ls : List LexLine) (l : LexLine) → list_all goes_on (h ∷ ls) ≡ true → is_end (command_at l) ≡ true
    → known (h ∷ ls ++ l ∷ []) ≡ ended h ls
unfolding known
known-closed h ls l e y =
    let all = h ∷ ls in
    let no_root = root-more all l (end_no_root (command_at l) y) in
    rw (models-end all l y, no_models all e, open_part-end all l y, one_part h ls e, no_root, no-root all (none_root all e)) refl

-- the faults of a line within the model
pub faults-going : (c : Command) (h : LexLine) (ls : List LexLine) (l : LexLine) → list_all goes_on (h ∷ ls) ≡ true → command_at l ≡ c
    → is_model c ≡ false → is_root c ≡ false → faults_at (h ∷ ls) l ≡ body_faults c (Some (open_model h ls)) ls l
unfolding line_faults
faults-going c h ls l e is no_model no_root = rw (is, known-going h ls e, one_part h ls e, no_model, no_root) refl
