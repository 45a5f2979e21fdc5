-- The faults of an instance's bindings are what of them doesn't fit, told with where the instance stands.
use Rattle.std.proofs.Common.{◌≡◌, ℕ, Bool, true, false, List, [], ◌∷◌, ◌++◌, map, Some, None, refl, sym, ◌∙◌, ap}
use Rattle.std.specs.List.{flat_map}
use Rattle.std.specs.Option.{option_map}
use Rattle.std.proofs.lemmas.List.{map-append}
use Rattle.mv_fault.specs.Tells.{when, first}
use Rattle.mv_fault.specs.declared.flat.FlatFault.{FlatFault}
use Rattle.mv_design.specs.declared.design.Bind.{Bind}
use Rattle.mv_design.specs.declared.design.FileModel.{FileModel}
use Rattle.mv_design.specs.declared.design.Instance.{Instance}
use Rattle.mv_tree.specs.Places.{path_in, is_bound}
use Rattle.mv_walk.specs.Walk.{Level, bind_faults, open_faults, bound_port_faults}
use Rattle.mv_walk.specs.Misfits.{Misfit, misfit_fault, bind_misfits, open_misfits, misfits}

told_when : (outer inner : List ℕ) (t : Bool) (m : Misfit) → when t (misfit_fault outer inner m) ≡ map (misfit_fault outer inner) (when t m)
told_when outer inner true m = refl
told_when outer inner false m = refl

told_each : {X : Type 0} (outer inner : List ℕ) (f : X → List FlatFault) (g : X → List Misfit) → ((x : X) → f x ≡ map (misfit_fault outer inner) (g x)) → (xs : List X)
    → flat_map f xs ≡ map (misfit_fault outer inner) (flat_map g xs)
told_each outer inner f g h [] = refl
told_each outer inner f g h (x ∷ xs) =
    ap (λ fs. fs ++ flat_map f xs) (h x) ∙ (ap (λ fs. map (misfit_fault outer inner) (g x) ++ fs) (told_each outer inner f g h xs)
    ∙ sym (map-append (misfit_fault outer inner) (g x) (flat_map g xs)))

told_both : (outer inner : List ℕ) (a b : Bool) (x y : Misfit) → when a (misfit_fault outer inner x) ++ when b (misfit_fault outer inner y) ≡ map (misfit_fault outer inner) (when a x ++ when b y)
told_both outer inner true b x y = ap (λ fs. misfit_fault outer inner x ∷ fs) (told_when outer inner b y)
told_both outer inner false b x y = told_when outer inner b y

told_bind : (l : Level) (path : List ℕ) (m : FileModel) (b : Bind) → bind_faults l path m b ≡ map (misfit_fault l.path path) (bind_misfits l.model m b)
told_bind l path m b = told_both l.path path _ _ _ _

told_open : (outer : List ℕ) (binds : List Bind) (path net : List ℕ) → open_faults binds path net ≡ map (misfit_fault outer path) (open_misfits (is_bound binds) net)
told_open outer binds path net = told_when outer path _ _

pub bound_port_faults-misfits : (l : Level) (p : Instance) (m : FileModel) → bound_port_faults l p m ≡ map (misfit_fault l.path (path_in l.path p.name)) (misfits l.model p m)
bound_port_faults-misfits l p m =
    let outer = l.path in
    let inner = path_in l.path p.name in
    ap (λ fs. fs ++ flat_map (open_faults p.binds inner) m.inputs) (told_each outer inner (bind_faults l inner m) (bind_misfits l.model m) (told_bind l inner m) p.binds)
    ∙ (ap (λ fs. map (misfit_fault outer inner) (flat_map (bind_misfits l.model m) p.binds) ++ fs) (told_each outer inner (open_faults p.binds inner) (open_misfits (is_bound p.binds)) (told_open outer p.binds inner) m.inputs)
    ∙ sym (map-append (misfit_fault outer inner) (flat_map (bind_misfits l.model m) p.binds) (flat_map (open_misfits (is_bound p.binds)) m.inputs)))

-- the first of them
pub first-map : {X Y : Type 0} (f : X → Y) (xs : List X) → first (map f xs) ≡ option_map f (first xs)
first-map f [] = refl
first-map f (x ∷ xs) = refl

-- none is first only of nothing
pub first-none : {X : Type 0} (xs : List X) → first xs ≡ None → xs ≡ []
first-none [] e = refl
first-none (x ∷ xs) e = absurd (none x e)
  where
    none : {X : Type 0} (x : X) → Some x ≡ None → ⊥
    none x e = cc

-- where tests are the same, so is what isn't bound
pub open_misfits-same : (p q : List ℕ → Bool) → ((net : List ℕ) → p net ≡ q net) → (nets : List (List ℕ)) → flat_map (open_misfits p) nets ≡ flat_map (open_misfits q) nets
open_misfits-same p q h [] = refl
open_misfits-same p q h (net ∷ nets) = rw (h net) (ap (λ ms. open_misfits q net ++ ms) (open_misfits-same p q h nets))
