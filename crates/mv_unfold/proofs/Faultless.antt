-- A whole with good nets and short names has no fault.
use Rattle.std.proofs.Common.{◌≡◌, ℕ, ◌+◌, ◌≤◌, true, false, not, List, [], ◌∷◌, ◌++◌, length, take, refl, sym, ◌∙◌, ap, arith, ⊎_elim}
use Rattle.std.specs.Prelude.{nat_lt, ◌==◌}
use Rattle.std.specs.List.{AllByRecursion, list_all, flat_map}
use Rattle.std.proofs.lemmas.Bool.{false≢true, and_parts, cases_Bool, or_left, or_right}
use Rattle.std.proofs.lemmas.Bool.Decides.{nat_tests}
use Rattle.std.proofs.lemmas.List.{append_assoc, take_all}
use Rattle.std.proofs.lemmas.List.Elements.{recursion_from_All}
use Rattle.mv_base.specs.Names.{same_word, among, names_differ}
use Rattle.mv_base.specs.declared.limits.TheConstants.{MAX_FLAT_NETS, MAX_FLAT_NAME_BYTES}
use Rattle.mv_base.proofs.NameLemmas.{differ-repeated, same_word_refl}
use Rattle.mv_fault.specs.Tells.{when}
use Rattle.mv_fault.specs.declared.fault.Which.TheVariants.{Nets, NetName}
use Rattle.mv_fault.specs.declared.flat.FlatFault.TheVariants.{NameClash, Limit, DrivenTwice, NoLatch, ResetTwice, Undriven}
use Rattle.mv_fault.proofs.Firsts.{append-nothing}
use Rattle.mv_design.specs.declared.design.FileModel.{FileModel}
use Rattle.mv_design.specs.Nets.{drivers_of, latch_outputs}
use Rattle.mv_tree.specs.Tree.{Instances}
use Rattle.mv_tree.specs.Places.{Place, places, homes}
use Rattle.mv_tree.specs.Unfolded.{unfolded}
use Rattle.mv_acyclic.specs.Sound.{HasResetsOfLatches, reset_owner_faults, model_reset_faults, resets_named, twice_at, undriven_at}
use Rattle.mv_unfold.specs.Whole.{flat_name_faults, home_faults, place_faults, whole_faults, HasGoodNets, HasShortNames}
use Rattle.mv_unfold.proofs.Looked.{placed_none}

-- ---- names

-- a name isn't among those before it, where all differ
not_before : (seen ws : List (List ℕ)) (w : List ℕ) → names_differ (seen ++ w ∷ ws) ≡ true → among w seen ≡ false
not_before seen ws w d =
    ⊎_elim (λ (y : among w seen ≡ true). absurd (false≢true (sym (differ-repeated seen ws w y) ∙ d))) (λ (n : among w seen ≡ false). n)
    (cases_Bool (among w seen))

not_more : (m n : ℕ) → n ≤ m → nat_lt m n ≡ false
not_more m n h = grind (arith, nat_tests)

no_name_faults : (seen ws : List (List ℕ)) → names_differ (seen ++ ws) ≡ true → ((w : List ℕ) → among w ws ≡ true → length w ≤ MAX_FLAT_NAME_BYTES)
    → flat_name_faults seen ws ≡ []
no_name_faults seen [] d h = refl
no_name_faults seen (u ∷ us) d h =
    let short = not_more MAX_FLAT_NAME_BYTES (length u) (h u (or_left _ _ (same_word_refl u))) in
    let new = not_before seen us u d in
    ap (λ b. when b (Limit NetName (length u)) ++ (when (among u seen) (NameClash u) ++ flat_name_faults (seen ++ u ∷ []) us)) short
    ∙ (ap (λ b. when b (NameClash u) ++ flat_name_faults (seen ++ u ∷ []) us) new
    ∙ no_name_faults (seen ++ u ∷ []) us (ap names_differ (append_assoc seen (u ∷ []) us) ∙ d) (λ w e. h w (or_right (same_word w u) _ e)))

no_home_faults : (ws : List (List ℕ)) → names_differ ws ≡ true → length ws ≤ MAX_FLAT_NETS → ((w : List ℕ) → among w ws ≡ true → length w ≤ MAX_FLAT_NAME_BYTES)
    → home_faults ws ≡ []
unfolding home_faults
no_home_faults ws d few short =
    append-nothing (flat_name_faults [] (take MAX_FLAT_NETS ws)) (when (nat_lt MAX_FLAT_NETS (length ws)) (Limit Nets (MAX_FLAT_NETS + 1)))
    (ap (flat_name_faults []) (take_all MAX_FLAT_NETS ws few) ∙ no_name_faults [] ws d short)
    (ap (λ b. when b (Limit Nets (MAX_FLAT_NETS + 1))) (not_more MAX_FLAT_NETS (length ws) few))

-- ---- drivers

once : (n : ℕ) → (n == 1) ≡ true → nat_lt 1 n ≡ false
once n e = grind (arith, nat_tests)

some : (n : ℕ) → (n == 1) ≡ true → (n == 0) ≡ false
some n e = grind (arith, nat_tests)

none_twice : (m : FileModel) (ws : List (List ℕ)) → list_all (λ w. drivers_of m w == 1) ws ≡ true → flat_map (twice_at m) ws ≡ []
none_twice m [] e = refl
none_twice m (w ∷ ws) e =
    let q = and_parts (drivers_of m w == 1) (list_all (λ u. drivers_of m u == 1) ws) e in
    append-nothing (twice_at m w) (flat_map (twice_at m) ws) (ap (λ b. when b (DrivenTwice w)) (once (drivers_of m w) q.0)) (none_twice m ws q.1)

none_undriven : (m : FileModel) (ws : List (List ℕ)) → list_all (λ w. drivers_of m w == 1) ws ≡ true → flat_map (undriven_at m) ws ≡ []
none_undriven m [] e = refl
none_undriven m (w ∷ ws) e =
    let q = and_parts (drivers_of m w == 1) (list_all (λ u. drivers_of m u == 1) ws) e in
    append-nothing (undriven_at m w) (flat_map (undriven_at m) ws) (ap (λ b. when b (Undriven w)) (some (drivers_of m w) q.0)) (none_undriven m ws q.1)

-- ---- reset tables

no_latch_faults : (latches seen ws : List (List ℕ)) → list_all (λ w. among w latches) ws ≡ true → names_differ (seen ++ ws) ≡ true
    → reset_owner_faults latches seen ws ≡ []
no_latch_faults latches seen [] h d = refl
no_latch_faults latches seen (u ∷ us) h d =
    let q = and_parts (among u latches) (list_all (λ w. among w latches) us) h in
    let new = not_before seen us u d in
    ap (λ b. when (not b) (NoLatch u) ++ (when (among u seen) (ResetTwice u) ++ reset_owner_faults latches (seen ++ u ∷ []) us)) q.0
    ∙ (ap (λ b. when b (ResetTwice u) ++ reset_owner_faults latches (seen ++ u ∷ []) us) new
    ∙ no_latch_faults latches (seen ++ u ∷ []) us q.1 (ap names_differ (append_assoc seen (u ∷ []) us) ∙ d))

no_reset_faults : (m : FileModel) → HasResetsOfLatches m → model_reset_faults m ≡ []
unfolding model_reset_faults
no_reset_faults m h = no_latch_faults (latch_outputs m) [] (resets_named m) h.latches h.differ

-- ---- all of them

no_place_faults : (ps : List Place) → AllByRecursion (λ p. HasResetsOfLatches p.model) ps → flat_map place_faults ps ≡ []
no_place_faults [] h = refl
no_place_faults (p ∷ ps) h =
    append-nothing (place_faults p) (flat_map place_faults ps) (placed_none p p.model refl (no_reset_faults p.model h.0)) (no_place_faults ps h.1)

pub no_faults : (root : FileModel) (tree : Instances) → HasGoodNets root tree → HasShortNames root tree → whole_faults root tree ≡ []
unfolding whole_faults
no_faults root tree good short =
    let m = unfolded root tree in
    let ps = places root tree in
    let ns = homes ps in
    append-nothing (home_faults ns) (flat_map (twice_at m) ns ++ (flat_map (undriven_at m) ns ++ flat_map place_faults ps))
    (no_home_faults ns good.differ short.few short.short)
    (append-nothing (flat_map (twice_at m) ns) (flat_map (undriven_at m) ns ++ flat_map place_faults ps) (none_twice m ns good.driven)
    (append-nothing (flat_map (undriven_at m) ns) (flat_map place_faults ps) (none_undriven m ns good.driven)
    (no_place_faults ps (recursion_from_All (λ p. HasResetsOfLatches p.model) ps good.resets))))
