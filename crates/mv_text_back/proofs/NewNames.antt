-- Lists of lawful names, no two alike, have no fault.
use Rattle.std.proofs.Common.{◌≡◌, ◌∙◌, ℕ, Bool, true, false, not, List, [], ◌∷◌, ◌++◌, refl, sym, ap, append_assoc}
use Rattle.std.specs.List.{list_all}
use Rattle.std.proofs.lemmas.Bool.{and_parts, false≢true, false_from_ne_true}
use Rattle.mv_base.specs.Names.{among, is_net_name, is_value_name, names_differ}
use Rattle.mv_base.proofs.NameLemmas.{differ-repeated}
use Rattle.mv_fault.specs.declared.fault.ParseFault.TheVariants.{Repeated, BadName}
use Rattle.mv_fault.specs.Tells.{when}
use Rattle.mv_decl.specs.Line.{value_faults, value_name_faults}
use Rattle.mv_line.specs.Ports.{port_faults}

-- a word is none of those before it
pub new-word : (earlier : List (List ℕ)) (w : List ℕ) (words : List (List ℕ)) → names_differ (earlier ++ w ∷ words) ≡ true → among w earlier ≡ false
new-word earlier w words differ = false_from_ne_true _ (λ y. false≢true (sym (differ-repeated earlier words w y) ∙ differ))

-- the faults of one name
one_new : (lawful : Bool) (n : ℕ) (earlier : List (List ℕ)) (w : List ℕ) (words : List (List ℕ)) → lawful ≡ true → names_differ (earlier ++ w ∷ words) ≡ true → when (not lawful) (BadName n w) ++ when (among w earlier) (Repeated n w) ≡ []
one_new lawful n earlier w words e differ = rw (e, new-word earlier w words differ) refl

pushed : (earlier : List (List ℕ)) (w : List ℕ) (words : List (List ℕ)) → names_differ (earlier ++ w ∷ words) ≡ true → names_differ ((earlier ++ w ∷ []) ++ words) ≡ true
pushed earlier w words differ = ap names_differ (append_assoc earlier (w ∷ []) words) ∙ differ

-- names of nets behind others
pub ports-none : (n : ℕ) (earlier words : List (List ℕ)) → list_all is_net_name words ≡ true → names_differ (earlier ++ words) ≡ true → port_faults n earlier words ≡ []
ports-none n earlier [] lawful differ = refl
ports-none n earlier (w ∷ words) lawful differ =
    let p = and_parts (is_net_name w) (list_all is_net_name words) lawful in
    ap (λ fs. fs ++ port_faults n (earlier ++ w ∷ []) words) (one_new (is_net_name w) n earlier w words p.0 differ)
    ∙ ports-none n (earlier ++ w ∷ []) words p.1 (pushed earlier w words differ)

-- names of values behind others
pub names-none : (n : ℕ) (earlier words : List (List ℕ)) → list_all is_value_name words ≡ true → names_differ (earlier ++ words) ≡ true → value_name_faults n earlier words ≡ []
unfolding value_faults
names-none n earlier [] lawful differ = refl
names-none n earlier (w ∷ words) lawful differ =
    let p = and_parts (is_value_name w) (list_all is_value_name words) lawful in
    ap (λ fs. fs ++ value_name_faults n (earlier ++ w ∷ []) words) (one_new (is_value_name w) n earlier w words p.0 differ)
    ∙ names-none n (earlier ++ w ∷ []) words p.1 (pushed earlier w words differ)
