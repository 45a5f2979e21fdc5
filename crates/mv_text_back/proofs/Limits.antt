-- Lines whose faults are limits of the program alone.
use Rattle.std.proofs.Common.{◌≡◌, ◌∙◌, Bool, true, false, not, List, [], ◌∷◌, ◌++◌, filter, refl, sym, ap, subst, append-nil, append_assoc}
use Rattle.std.specs.List.{list_all}
use Rattle.std.proofs.lemmas.Bool.{and_parts, and_from}
use Rattle.std.proofs.lemmas.List.Folds.{list_all-append}
use Rattle.mv_lex.specs.declared.lines.LexLine.{LexLine}
use Rattle.mv_fault.specs.declared.fault.ParseFault.{ParseFault}
use Rattle.mv_fault.specs.Tells.{when}
use Rattle.mv_parse.specs.Known.{known}
use Rattle.mv_parse.specs.Grammar.{faults_at, file_faults, faults_behind, is_limit}

abbrev pub only_limits : List ParseFault → Bool
only_limits fs = list_all is_limit fs

pub limits-append : (fs gs : List ParseFault) → only_limits fs ≡ true → only_limits gs ≡ true → only_limits (fs ++ gs) ≡ true
limits-append fs gs p q = list_all-append is_limit fs gs ∙ and_from (only_limits fs) (only_limits gs) p q

pub when-limit : (test : Bool) (f : ParseFault) → is_limit f ≡ true → only_limits (when test f) ≡ true
when-limit true f e = and_from (is_limit f) true e refl
when-limit false f e = refl

-- then nothing else is told
pub accepted-from_limits : (fs : List ParseFault) → only_limits fs ≡ true → filter (λ f. not (is_limit f)) fs ≡ []
accepted-from_limits [] e = refl
accepted-from_limits (f ∷ fs) e =
    let p = and_parts (is_limit f) (only_limits fs) e in
    rw p.0 (accepted-from_limits fs p.1)

-- each of these lines has no other fault where it stands behind those before
abbrev pub AreFine : List LexLine → List LexLine → Type 0
AreFine before [] = Unit {0}
AreFine before (l ∷ ls) = (only_limits (faults_at before l) ≡ true) × AreFine (before ++ l ∷ []) ls

pub AreFine-append : (before xs ys : List LexLine) → AreFine before xs → AreFine (before ++ xs) ys → AreFine before (xs ++ ys)
AreFine-append before [] ys a b = subst (λ (p : List LexLine). AreFine p ys) (append-nil before) b
AreFine-append before (x ∷ xs) ys a b =
    (a.0, AreFine-append (before ++ x ∷ []) xs ys a.1 (subst (λ (p : List LexLine). AreFine p ys) (sym (append_assoc before (x ∷ []) xs)) b))

pub limits-behind : (before ls : List LexLine) → AreFine before ls → file_faults (known (before ++ ls)) ≡ [] → only_limits (faults_behind before ls) ≡ true
limits-behind before [] fine e = ap only_limits (ap (λ ls. file_faults (known ls)) (sym (append-nil before)) ∙ e)
limits-behind before (l ∷ ls) fine e =
    limits-append (faults_at before l) (faults_behind (before ++ l ∷ []) ls) fine.0 (limits-behind (before ++ l ∷ []) ls fine.1 (ap (λ p. file_faults (known p)) (append_assoc before (l ∷ []) ls) ∙ e))
