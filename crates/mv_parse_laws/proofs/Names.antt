-- Lawful names, all different; and names of values without a fault.
use Rattle.std.proofs.Common.{◌≡◌, ℕ, Bool, true, false, not, List, [], ◌∷◌, ◌++◌, append_assoc, refl, sym, ◌∙◌, subst}
use Rattle.std.specs.List.{list_all}
use Rattle.std.proofs.lemmas.Bool.{and_from, not-false}
use Rattle.std.proofs.lemmas.List.{append-nil}
use Rattle.std.proofs.lemmas.List.Folds.{list_all-append}
use Rattle.mv_base.specs.Names.{among, is_value_name, names_differ}
use Rattle.mv_base.proofs.NameLemmas.{differ-push}
use Rattle.mv_fault.specs.declared.fault.ParseFault.TheVariants.{BadName, Repeated}
use Rattle.mv_fault.specs.Tells.{when}
use Rattle.mv_fault.proofs.Nothing.{left-nothing, right-nothing, when-nothing}
use Rattle.mv_decl.specs.Line.{value_faults, value_name_faults}

-- each passes a test of names, and no two are alike
pub record IsNames (test : List ℕ → Bool) (ws : List (List ℕ)) : Type 0 where
  pub lawful : list_all test ws ≡ true
  pub differ : names_differ ws ≡ true

pub no-names : (test : List ℕ → Bool) → IsNames test []
no-names test = record { lawful = refl; differ = refl }

pub IsNames-push : (test : List ℕ → Bool) (ws : List (List ℕ)) (w : List ℕ) → IsNames test ws → test w ≡ true → among w ws ≡ false → IsNames test (ws ++ w ∷ [])
IsNames-push test ws w h y new =
    record {
      lawful = list_all-append test ws (w ∷ []) ∙ and_from _ _ h.lawful (and_from _ _ y refl);
      differ = differ-push ws w h.differ new;
    }

-- the names behind others, one by one
pub IsNames-nil : (test : List ℕ → Bool) (ws : List (List ℕ)) → IsNames test ws → IsNames test (ws ++ [])
IsNames-nil test ws h = subst (IsNames test) (sym (append-nil ws)) h

pub IsNames-cons : (test : List ℕ → Bool) (ws : List (List ℕ)) (w : List ℕ) (more : List (List ℕ)) → IsNames test ((ws ++ w ∷ []) ++ more) → IsNames test (ws ++ w ∷ more)
IsNames-cons test ws w more h = subst (IsNames test) (append_assoc ws (w ∷ []) more) h

-- ---- names of values

value-lawful : (n : ℕ) (earlier : List (List ℕ)) (w : List ℕ) → value_faults n earlier w ≡ [] → is_value_name w ≡ true
unfolding value_faults
value-lawful n earlier w none = not-false _ (when-nothing _ _ (left-nothing _ _ none))

value-new : (n : ℕ) (earlier : List (List ℕ)) (w : List ℕ) → value_faults n earlier w ≡ [] → among w earlier ≡ false
unfolding value_faults
value-new n earlier w none = when-nothing (among w earlier) (Repeated n w) (right-nothing (when (not (is_value_name w)) (BadName n w)) (when (among w earlier) (Repeated n w)) none)

pub values-named : (n : ℕ) (earlier ws : List (List ℕ)) → value_name_faults n earlier ws ≡ [] → IsNames is_value_name earlier → IsNames is_value_name (earlier ++ ws)
values-named n earlier [] none h = IsNames-nil is_value_name earlier h
values-named n earlier (w ∷ ws) none h =
    let here : value_faults n earlier w ≡ [] = left-nothing _ (value_name_faults n (earlier ++ w ∷ []) ws) none in
    let more : IsNames is_value_name (earlier ++ w ∷ []) = IsNames-push is_value_name earlier w h (value-lawful n earlier w here) (value-new n earlier w here) in
    IsNames-cons is_value_name earlier w ws (values-named n (earlier ++ w ∷ []) ws (right-nothing (value_faults n earlier w) (value_name_faults n (earlier ++ w ∷ []) ws) none) more)
