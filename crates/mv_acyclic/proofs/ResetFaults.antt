-- The faults of reset tables, and models without them.
use Rattle.std.proofs.Common.{◌≡◌, ℕ, true, false, not, List, [], ◌∷◌, ◌++◌, length, map, refl, sym, ◌∙◌, ap}
use Rattle.std.specs.List.{list_all}
use Rattle.std.proofs.lemmas.Bool.{and_from, not-false}
use Rattle.std.proofs.lemmas.List.{append-nil, append_assoc, nil_from_length}
use Rattle.mv_base.specs.Names.{among, names_differ}
use Rattle.mv_base.proofs.NameLemmas.{differ-push}
use Rattle.mv_design.specs.declared.design.FileModel.{FileModel}
use Rattle.mv_design.specs.declared.table.FileTable.{FileTable}
use Rattle.mv_design.specs.Nets.{latch_outputs, output_of}
use Rattle.mv_fault.specs.declared.flat.FlatFault.TheVariants.{NoLatch, ResetTwice}
use Rattle.mv_fault.specs.Tells.{when}
use Rattle.mv_fault.proofs.Nothing.{left-nothing, right-nothing, when-nothing}
use Rattle.mv_acyclic.specs.Driving.{with_names}
use Rattle.mv_acyclic.specs.Sound.{reset_owner_faults, resets_named, model_reset_faults, HasResetsOfLatches}
use Rattle.mv_acyclic.proofs.Names.{among-with_names}

-- the same names are latches, in whatever order, and however often they stand there
latches_same : (us ws seen names : List (List ℕ)) → ((w : List ℕ) → among w us ≡ among w ws) → reset_owner_faults us seen names ≡ reset_owner_faults ws seen names
latches_same us ws seen [] h = refl
latches_same us ws seen (n ∷ ns) h =
    ap (λ b. when (not b) (NoLatch n) ++ (when (among n seen) (ResetTwice n) ++ reset_owner_faults us (seen ++ n ∷ []) ns)) (h n)
    ∙ ap (λ fs. when (not (among n ws)) (NoLatch n) ++ (when (among n seen) (ResetTwice n) ++ fs)) (latches_same us ws (seen ++ n ∷ []) ns h)

-- the faults of a model's reset tables, as the latches tell them, each of which stands there once
pub reset_faults_are : (m : FileModel) (latches : List (List ℕ)) (resets : List FileTable) → latches ≡ with_names [] (latch_outputs m) → resets ≡ m.resets
    → reset_owner_faults latches [] (map output_of resets) ≡ model_reset_faults m
unfolding model_reset_faults
reset_faults_are m latches resets e f =
    ap (λ rs. reset_owner_faults latches [] (map output_of rs)) f
    ∙ latches_same latches (latch_outputs m) [] (resets_named m) (λ w. ap (among w) e ∙ among-with_names w [] (latch_outputs m))

-- without reset tables there are none
pub no_resets : (m : FileModel) → length m.resets ≡ 0 → model_reset_faults m ≡ []
unfolding model_reset_faults
no_resets m e = ap (λ rs. reset_owner_faults (latch_outputs m) [] (map output_of rs)) (nil_from_length m.resets e)

pub ruleset resets_told = (reset_faults_are, no_resets)

own_latches : (latches seen names : List (List ℕ)) → names_differ seen ≡ true → reset_owner_faults latches seen names ≡ []
    → (list_all (λ w. among w latches) names ≡ true) × (names_differ (seen ++ names) ≡ true)
own_latches latches seen [] d e = (refl, ap names_differ (append-nil seen) ∙ d)
own_latches latches seen (n ∷ ns) d e =
    let unknown = when (not (among n latches)) (NoLatch n) in
    let again = when (among n seen) (ResetTwice n) in
    let rest = reset_owner_faults latches (seen ++ n ∷ []) ns in
    let others : again ++ rest ≡ [] = right-nothing unknown (again ++ rest) e in
    let known : among n latches ≡ true = not-false _ (when-nothing (not (among n latches)) (NoLatch n) (left-nothing unknown (again ++ rest) e)) in
    let new : among n seen ≡ false = when-nothing (among n seen) (ResetTwice n) (left-nothing again rest others) in
    let r = own_latches latches (seen ++ n ∷ []) ns (differ-push seen n d new) (right-nothing again rest others) in
    (and_from (among n latches) _ known r.0, ap names_differ (sym (append_assoc seen (n ∷ []) ns)) ∙ r.1)

-- where the reset tables have no fault, each has its own latch
pub resets_of_latches : (m : FileModel) → model_reset_faults m ≡ [] → HasResetsOfLatches m
unfolding model_reset_faults
resets_of_latches m e = let r = own_latches (latch_outputs m) [] (resets_named m) refl e in record { latches = r.0; differ = r.1 }
