-- The faults of reset tables, model by model, and the names of their latches in the whole.
use Rattle.std.proofs.Common.{◌≡◌, ◌≢◌, ◌⊎◌, ℕ, ◌+◌, ◌<◌, Bool, true, false, not, Some, None, List, [], ◌∷◌, ◌++◌, length, get_or, map, drop, refl, sym, ◌∙◌, ap, subst, arith, ⊎_elim, inl, inr}
use Rattle.std.specs.Prelude.{nat_eq, slice_set}
use Rattle.std.specs.List.{flat_map}
use Rattle.std.proofs.lemmas.Bool.Decides.{nat_tests}
use Rattle.std.proofs.lemmas.List.{drop_more, get_or-set_other, length-set}
use Rattle.std.proofs.lemmas.Option.{same_Some}
use Rattle.mv_base.specs.Names.{among}
use Rattle.mv_fault.specs.Tells.{when, first}
use Rattle.mv_fault.proofs.Firsts.{first-append}
use Rattle.mv_fault.specs.declared.flat.FlatFault.{FlatFault}
use Rattle.mv_fault.specs.declared.flat.FlatFault.TheVariants.{NoLatch, ResetTwice, Memory}
use Rattle.mv_design.specs.declared.design.Design.{Design}
use Rattle.mv_design.specs.declared.design.FileModel.{FileModel}
use Rattle.mv_design.specs.Nets.{no_model, latch_outputs}
use Rattle.mv_tree.specs.Places.{Place, root_place, actual_of, path_in}
use Rattle.mv_tree.proofs.Inside.{through-bound, through-own}
use Rattle.mv_acyclic.specs.Sound.{reset_owner_faults, resets_named, model_reset_faults}
use Rattle.mv_unfold.specs.declared.layout.Layout.{Layout}
use Rattle.mv_unfold.specs.Laid.{places_of, opened_at, laid_instance}
use Rattle.mv_unfold.specs.Placed.{model_at, place_at, IsPlaced}
use Rattle.mv_unfold.specs.Resets.{at_home, AreLooked}
use Rattle.mv_unfold.specs.Whole.{resets_faults, place_faults}

-- ---- names

pub home_bound : (l : Layout) (n : ℕ) (net actual : List ℕ) → IsPlaced l.design.now (places_of l) n (opened_at l n) → actual_of (laid_instance l n).binds net ≡ Some actual
    → (place_at (places_of l) (opened_at l n).round).home actual ≡ (place_at (places_of l) n).home net
home_bound l n net actual p e =
    let round = place_at (places_of l) (opened_at l n).round in
    let instance = laid_instance l n in
    sym (ap (λ (q : Place). q.home net) p.is ∙ through-bound round.home (λ x. path_in round.path instance.name ++ x) instance.binds net actual e)

pub home_own : (l : Layout) (n : ℕ) (net : List ℕ) → IsPlaced l.design.now (places_of l) n (opened_at l n) → actual_of (laid_instance l n).binds net ≡ None
    → (place_at (places_of l) n).path ++ net ≡ (place_at (places_of l) n).home net
home_own l n net p e =
    let round = place_at (places_of l) (opened_at l n).round in
    let instance = laid_instance l n in
    ap (λ (q : Place). q.path ++ net) p.is
    ∙ sym (ap (λ (q : Place). q.home net) p.is ∙ through-own round.home (λ x. path_in round.path instance.name ++ x) instance.binds net e)

-- ---- the faults of a place

map_when : (f : FlatFault → FlatFault) (b : Bool) (x : FlatFault) (rest : List FlatFault) → map f (when b x ++ rest) ≡ when b (f x) ++ map f rest
map_when f true x rest = refl
map_when f false x rest = refl

told_at_home : (p : Place) (seen ws : List (List ℕ)) → resets_faults p seen ws ≡ map (at_home p) (reset_owner_faults (latch_outputs p.model) seen ws)
told_at_home p seen [] = refl
told_at_home p seen (w ∷ ws) =
    let rest = reset_owner_faults (latch_outputs p.model) (seen ++ w ∷ []) ws in
    sym (map_when (at_home p) (not (among w (latch_outputs p.model))) (NoLatch w) (when (among w seen) (ResetTwice w) ++ rest)
    ∙ ap (λ fs. when (not (among w (latch_outputs p.model))) (NoLatch (p.home w)) ++ fs)
    (map_when (at_home p) (among w seen) (ResetTwice w) rest ∙ ap (λ fs. when (among w seen) (ResetTwice (p.home w)) ++ fs) (sym (told_at_home p (seen ++ w ∷ []) ws))))

pub placed_faults : (p : Place) → place_faults p ≡ map (at_home p) (model_reset_faults p.model)
unfolding model_reset_faults
placed_faults p = told_at_home p [] (resets_named p.model)

pub placed_none : (p : Place) (m : FileModel) → p.model ≡ m → model_reset_faults m ≡ [] → place_faults p ≡ []
placed_none p m is e = placed_faults p ∙ ap (map (at_home p)) (ap model_reset_faults is ∙ e)

map_nothing : (f : FlatFault → FlatFault) (xs : List FlatFault) → map f xs ≡ [] → xs ≡ []
map_nothing f [] e = refl
map_nothing f (x ∷ xs) e = cc

pub none_placed : (p : Place) (m : FileModel) → p.model ≡ m → place_faults p ≡ [] → model_reset_faults m ≡ []
none_placed p m is e = ap model_reset_faults (sym is) ∙ map_nothing (at_home p) (model_reset_faults p.model) (sym (placed_faults p) ∙ e)

first_map : (f : FlatFault → FlatFault) (xs : List FlatFault) (x : FlatFault) → first xs ≡ Some x → first (map f xs) ≡ Some (f x)
first_map f [] x e = cc
first_map f (y ∷ ys) x e = ap Some (ap f (same_Some y x e))

pub placed_first : (p : Place) (m : FileModel) (fault f : FlatFault) → p.model ≡ m → f ≡ at_home p fault → (fault ≡ Memory) ⊎ (first (model_reset_faults m) ≡ Some fault)
    → (f ≡ Memory) ⊎ (first (place_faults p) ≡ Some f)
placed_first p m fault f is e h =
    ⊎_elim (λ (g : fault ≡ Memory). inl (e ∙ ap (at_home p) g))
    (λ (g : first (model_reset_faults m) ≡ Some fault).
    inr (ap first (placed_faults p) ∙ (first_map (at_home p) (model_reset_faults p.model) fault (ap (λ (x : FileModel). first (model_reset_faults x)) is ∙ g) ∙ ap Some (sym e)))) h

-- ---- place by place

-- the faults of the places from one on, where it has none
pub faults_more : (ps : List Place) (n : ℕ) → n < length ps → place_faults (place_at ps n) ≡ []
    → flat_map place_faults (drop (n + 1) ps) ≡ flat_map place_faults (drop n ps)
faults_more ps n lt e =
    sym (ap (flat_map place_faults) (drop_more ps n (root_place no_model) lt) ∙ ap (λ fs. fs ++ flat_map place_faults (drop (n + 1) ps)) e)

-- the faults of the places from one on begin with its own
pub faults_first : (ps : List Place) (n : ℕ) (f : FlatFault) → n < length ps → first (place_faults (place_at ps n)) ≡ Some f
    → first (flat_map place_faults (drop n ps)) ≡ Some f
faults_first ps n f lt e =
    ap (λ qs. first (flat_map place_faults qs)) (drop_more ps n (root_place no_model) lt)
    ∙ first-append f (place_faults (place_at ps n)) (flat_map place_faults (drop (n + 1) ps)) e

-- one model more was looked at
pub looked_more : (d : Design) (looked new : List Bool) (k : ℕ) → AreLooked d looked → k < length d.models → model_reset_faults (model_at d k) ≡ []
    → new ≡ slice_set looked k true → AreLooked d new
looked_more d looked new k h lt e is =
    subst (AreLooked d) (sym is)
    (record { long = length-set looked k true ∙ h.long; right = λ j q. by j q (nat_eq j k) refl })
  where
    by : (j : ℕ) → get_or (slice_set looked k true) j false ≡ true → (b : Bool) → nat_eq j k ≡ b → model_reset_faults (model_at d j) ≡ []
    by j q true p = let same : j ≡ k = grind (arith, nat_tests) in ap (λ i. model_reset_faults (model_at d i)) same ∙ e
    by j q false p = let ne : j ≢ k = grind (arith, nat_tests) in h.right j (sym (get_or-set_other looked k j true false ne) ∙ q)
