-- What is told of the instances of a design, of its nets and reset tables, and of what is above what in its one model, is a fault of
-- the design.
use Rattle.std.proofs.Common.{◌≡◌, ◌⊎◌, ℕ, suc, ◌+◌, Bool, true, false, not, ◌==◌, List, [], ◌∷◌, ◌++◌, length, take, Option, Some, None, refl, sym, ◌∙◌, ap, subst, inl, inr, ⊎_elim}
use Rattle.std.specs.Prelude.{nat_le, nat_lt}
use Rattle.std.specs.List.{flat_map, list_all}
use Rattle.std.proofs.lemmas.Bool.{and_from, and_parts, false≢true}
use Rattle.std.proofs.lemmas.List.Folds.{list_all-append}
use Rattle.mv_base.specs.Names.{among}
use Rattle.mv_base.specs.declared.limits.TheConstants.{MAX_DEPTH, MAX_FLAT_NAME_BYTES, MAX_FLAT_NETS, MAX_INSTANCES}
use Rattle.mv_fault.specs.Tells.{when, first}
use Rattle.mv_fault.specs.declared.fault.Which.TheVariants.{Depth, Instances, NetName, Nets}
use Rattle.mv_fault.specs.declared.flat.FlatFault.{FlatFault}
use Rattle.mv_fault.specs.declared.flat.FlatFault.TheVariants.{Cycle, ResetReadsLatch, Memory, Limit, NameClash, DrivenTwice, Undriven, NoLatch, ResetTwice, Recursive, NoFormal, PortValues, PortOpen}
use Rattle.mv_design.specs.declared.design.Bind.{Bind}
use Rattle.mv_design.specs.declared.design.Design.{Design}
use Rattle.mv_design.specs.declared.design.FileModel.{FileModel}
use Rattle.mv_design.specs.declared.design.Instance.{Instance}
use Rattle.mv_design.specs.Nets.{root_of, drivers_of, latch_outputs}
use Rattle.mv_design.specs.Values.{count_of}
use Rattle.mv_tree.specs.Tree.{Instances as Tree, model_named}
use Rattle.mv_tree.specs.Places.{Place, homes, is_bound, path_in, places}
use Rattle.mv_tree.specs.Bound.{formals_of}
use Rattle.mv_tree.specs.Unfolded.{unfolded}
use Rattle.mv_walk.specs.Walk.{Level, Visit, bind_faults, open_faults, bound_port_faults, root_level, visit_faults, visits, visits_faults, walk_faults, HasTree}
use Rattle.mv_acyclic.specs.Sound.{resets_named, long_at, twice_at, undriven_at, TellsAbove}
use Rattle.mv_unfold.specs.Sound.{IsFault}
use Rattle.mv_unfold.specs.Whole.{home_faults, flat_name_faults, place_faults, resets_faults, whole_faults, HasWholeFault}

-- ---- lists of faults without one of what is above what

-- the fault isn't of what is above what
abbrev isnt_above : FlatFault → Bool
isnt_above (Cycle _) = false
isnt_above (ResetReadsLatch _ _) = false
isnt_above _ = true

abbrev NoneAbove : List FlatFault → Type 0
NoneAbove fs = list_all isnt_above fs ≡ true

none_both : (us vs : List FlatFault) → NoneAbove us → NoneAbove vs → NoneAbove (us ++ vs)
none_both us vs h k = list_all-append isnt_above us vs ∙ and_from _ _ h k

none_when : (b : Bool) (f : FlatFault) → isnt_above f ≡ true → NoneAbove (when b f)
none_when true f h = and_from _ _ h refl
none_when false f h = refl

none_flat : {X : Type 0} (f : X → List FlatFault) → ((x : X) → NoneAbove (f x)) → (xs : List X) → NoneAbove (flat_map f xs)
none_flat f each [] = refl
none_flat f each (x ∷ xs) = none_both (f x) (flat_map f xs) (each x) (none_flat f each xs)

first_passes : (fs : List FlatFault) (f : FlatFault) → NoneAbove fs → first fs ≡ Some f → isnt_above f ≡ true
first_passes [] f none e = cc
first_passes (g ∷ gs) f none e = let s : g ≡ f = cc in ap isnt_above (sym s) ∙ (and_parts (isnt_above g) _ none).0

-- ---- the faults of instances

none_of_bind : (l : Level) (path : List ℕ) (m : FileModel) (b : Bind) → NoneAbove (bind_faults l path m b)
none_of_bind l path m b =
    none_both (when (not (among b.formal (formals_of m))) (NoFormal (path ++ b.formal))) _ (none_when _ (NoFormal (path ++ b.formal)) refl)
    (none_when (not (count_of m.decls b.formal == count_of l.model.decls b.actual)) (PortValues (path ++ b.formal) (l.path ++ b.actual)) refl)

none_of_ports : (l : Level) (p : Instance) (m : FileModel) → NoneAbove (bound_port_faults l p m)
none_of_ports l p m =
    let path = path_in l.path p.name in
    none_both (flat_map (bind_faults l path m) p.binds) _ (none_flat (bind_faults l path m) (none_of_bind l path m) p.binds)
    (none_flat (open_faults p.binds path) (λ net. none_when (not (is_bound p.binds net)) (PortOpen (path ++ net)) refl) m.inputs)

none_of_visit : (d : Design) (c : ℕ) (v : Visit) → NoneAbove (visit_faults d c v)
none_of_visit d c v = of_model (model_named d.models v.instance.model) refl
  where
    of_model : (o : Option FileModel) → model_named d.models v.instance.model ≡ o → NoneAbove (visit_faults d c v)
    of_model None e = rw e refl
    of_model (Some m) e =
        rw e
        (none_both (when (among v.instance.model v.level.round) (Recursive v.instance.model)) _ (none_when _ (Recursive v.instance.model) refl)
        (none_both (when (nat_lt MAX_DEPTH (length v.level.round)) (Limit Depth (MAX_DEPTH + 1))) _ (none_when _ (Limit Depth (MAX_DEPTH + 1)) refl)
        (none_both (when (nat_le MAX_INSTANCES c) (Limit Instances (MAX_INSTANCES + 1))) _ (none_when _ (Limit Instances (MAX_INSTANCES + 1)) refl)
        (none_of_ports v.level v.instance m))))

none_of_visits : (d : Design) (c : ℕ) (vs : List Visit) → NoneAbove (visits_faults d c vs)
none_of_visits d c [] = refl
none_of_visits d c (v ∷ vs) = none_both (visit_faults d c v) (visits_faults d (suc c) vs) (none_of_visit d c v) (none_of_visits d (suc c) vs)

none_of_walk : (d : Design) → NoneAbove (walk_faults d)
unfolding walk_faults
none_of_walk d = none_of_visits d 0 (visits MAX_DEPTH d (root_level (root_of d)))

-- ---- the faults of nets and reset tables

none_of_names : (seen ws : List (List ℕ)) → NoneAbove (flat_name_faults seen ws)
none_of_names seen [] = refl
none_of_names seen (w ∷ ws) =
    none_both (long_at w) _ (none_when (nat_lt MAX_FLAT_NAME_BYTES (length w)) (Limit NetName (length w)) refl)
    (none_both (when (among w seen) (NameClash w)) _ (none_when _ (NameClash w) refl) (none_of_names (seen ++ w ∷ []) ws))

none_of_homes : (ws : List (List ℕ)) → NoneAbove (home_faults ws)
unfolding home_faults
none_of_homes ws =
    none_both (flat_name_faults [] (take MAX_FLAT_NETS ws)) _ (none_of_names [] (take MAX_FLAT_NETS ws))
    (none_when (nat_lt MAX_FLAT_NETS (length ws)) (Limit Nets (MAX_FLAT_NETS + 1)) refl)

none_of_resets : (p : Place) (seen ws : List (List ℕ)) → NoneAbove (resets_faults p seen ws)
none_of_resets p seen [] = refl
none_of_resets p seen (w ∷ ws) =
    none_both (when (not (among w (latch_outputs p.model))) (NoLatch (p.home w))) _ (none_when _ (NoLatch (p.home w)) refl)
    (none_both (when (among w seen) (ResetTwice (p.home w))) _ (none_when _ (ResetTwice (p.home w)) refl) (none_of_resets p (seen ++ w ∷ []) ws))

none_of_whole : (root : FileModel) (tree : Tree) → NoneAbove (whole_faults root tree)
unfolding whole_faults
none_of_whole root tree =
    let m = unfolded root tree in
    let nets = homes (places root tree) in
    none_both (home_faults nets) _ (none_of_homes nets)
    (none_both (flat_map (twice_at m) nets) _ (none_flat (twice_at m) (λ w. none_when (nat_lt 1 (drivers_of m w)) (DrivenTwice w) refl) nets)
    (none_both (flat_map (undriven_at m) nets) _ (none_flat (undriven_at m) (λ w. none_when (drivers_of m w == 0) (Undriven w) refl) nets)
    (none_flat place_faults (λ p. none_of_resets p [] (resets_named p.model)) (places root tree))))

-- ---- what is told is a fault

memory_is_fault : (d : Design) (f : FlatFault) → f ≡ Memory → IsFault d f
memory_is_fault d f e = let P : FlatFault → Type 0 = IsFault d in subst P (sym e) tt

first_is_fault : (d : Design) (f : FlatFault) → isnt_above f ≡ true → (first (walk_faults d) ≡ Some f) ⊎ HasWholeFault d f → IsFault d f
first_is_fault d (Cycle net) other h = absurd (false≢true other)
first_is_fault d (ResetReadsLatch latch reached) other h = absurd (false≢true other)
first_is_fault d Memory other h = tt
first_is_fault d _ other h = h

pub walk_is_fault : (d : Design) (f : FlatFault) → (f ≡ Memory) ⊎ (first (walk_faults d) ≡ Some f) → IsFault d f
walk_is_fault d f told =
    ⊎_elim (λ (e : f ≡ Memory). memory_is_fault d f e)
    (λ (e : first (walk_faults d) ≡ Some f). first_is_fault d f (first_passes (walk_faults d) f (none_of_walk d) e) (inl e))
    told

pub whole_is_fault : (d : Design) (f : FlatFault) → (f ≡ Memory) ⊎ HasWholeFault d f → IsFault d f
whole_is_fault d f told =
    ⊎_elim (λ (e : f ≡ Memory). memory_is_fault d f e)
    (λ (h : HasWholeFault d f). first_is_fault d f (first_passes (whole_faults (root_of d) h.tree) f (none_of_whole (root_of d) h.tree) h.first) (inr h))
    told

-- what is told of the one model, where nothing else is wrong
pub above_is_fault : (d : Design) (tree : Tree) (f : FlatFault) → HasTree d tree → whole_faults (root_of d) tree ≡ []
    → TellsAbove (homes (places (root_of d) tree)) (unfolded (root_of d) tree) f → IsFault d f
above_is_fault d tree (Cycle net) has none told = record { tree = tree; has = has; none = none; first = told }
above_is_fault d tree (ResetReadsLatch latch reached) has none told = record { tree = tree; has = has; none = none; acyclic = told.0; first = told.1 }
above_is_fault d tree Memory has none told = tt
above_is_fault d tree _ has none told = absurd told
