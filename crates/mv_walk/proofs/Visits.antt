-- The faults of commands one after another, and of one command.
use Rattle.std.proofs.Common.{◌≡◌, ℕ, suc, ◌+◌, ◌<◌, ◌≤◌, Bool, true, false, not, List, [], ◌∷◌, ◌++◌, length, Option, Some, None, refl, sym, ◌∙◌, ap, append_assoc, arith}
use Rattle.std.specs.Prelude.{nat_lt, nat_le, ◌==◌}
use Rattle.std.specs.List.{list_all, flat_map}
use Rattle.std.proofs.lemmas.List.{append-nil}
use Rattle.std.proofs.lemmas.Bool.{not-false, and_from, and_parts}
use Rattle.std.proofs.lemmas.Bool.Decides.{nat_tests}
use Rattle.mv_base.specs.Names.{among}
use Rattle.mv_base.proofs.Lists.{flat_map-nothing}
use Rattle.mv_base.specs.declared.limits.TheConstants.{MAX_DEPTH, MAX_INSTANCES}
use Rattle.mv_fault.specs.Tells.{when}
use Rattle.mv_fault.proofs.Nothing.{left-nothing, right-nothing, when-nothing}
use Rattle.mv_fault.proofs.Firsts.{append-nothing}
use Rattle.mv_fault.specs.declared.fault.Which.TheVariants.{Depth, Instances}
use Rattle.mv_fault.specs.declared.flat.FlatFault.{FlatFault}
use Rattle.mv_fault.specs.declared.flat.FlatFault.TheVariants.{NoSuchModel, Recursive, Limit}
use Rattle.mv_design.specs.declared.design.Bind.{Bind}
use Rattle.mv_design.specs.declared.design.Design.{Design}
use Rattle.mv_design.specs.declared.design.FileModel.{FileModel}
use Rattle.mv_design.specs.declared.design.Instance.{Instance}
use Rattle.mv_design.specs.Values.{count_of}
use Rattle.mv_tree.specs.Tree.{model_named}
use Rattle.mv_tree.specs.Places.{path_in, is_bound}
use Rattle.mv_tree.specs.Bound.{formals_of, IsBound}
use Rattle.mv_walk.specs.Walk.{Level, Visit, level_in, levels_in, visit, visits, bind_faults, open_faults, bound_port_faults, visit_faults, visits_faults}

-- ---- commands one after another

grouped : {X : Type 0} (a b c : List X) → a ++ (b ++ c) ≡ (a ++ b) ++ c
grouped a b c = sym (append_assoc a b c)

pub visits_faults-append : (d : Design) (c : ℕ) (us vs : List Visit) → visits_faults d c (us ++ vs) ≡ visits_faults d c us ++ visits_faults d (c + length us) vs
visits_faults-append d c [] vs = ap (λ n. visits_faults d n vs) (omega arith)
visits_faults-append d c (u ∷ us) vs =
    let e : suc c + length us ≡ c + length (u ∷ us) = omega arith in
    ap (λ fs. visit_faults d c u ++ fs) (visits_faults-append d (suc c) us vs ∙ ap (λ n. visits_faults d (suc c) us ++ visits_faults d n vs) e)
    ∙ grouped (visit_faults d c u) (visits_faults d (suc c) us) (visits_faults d (c + length (u ∷ us)) vs)

-- the commands inside the instances of these
abbrev pub insides : ℕ → Design → Level → List Instance → List Visit
insides n d l ps = flat_map (λ p. flat_map (visits n d) (levels_in d l p)) ps

-- those inside the first instance, and inside the others
pub insides-cons : (n : ℕ) (d : Design) (l : Level) (p : Instance) (ps : List Instance) (m : FileModel) → model_named d.models p.model ≡ Some m
    → insides n d l (p ∷ ps) ≡ visits n d (level_in l p m) ++ insides n d l ps
insides-cons n d l p ps m e = rw e (ap (λ vs. vs ++ insides n d l ps) (append-nil (visits n d (level_in l p m))))

-- ---- one command

-- a command has no fault behind so many others
pub record Passes (d : Design) (c : ℕ) (l : Level) (p : Instance) (m : FileModel) : Type 0 where
  pub named : model_named d.models p.model ≡ Some m
  pub new : among p.model l.round ≡ false
  pub shallow : length l.round ≤ MAX_DEPTH
  pub few : c < MAX_INSTANCES
  pub fits : bound_port_faults l p m ≡ []

not_above : (n : ℕ) → nat_lt MAX_DEPTH n ≡ false → n ≤ MAX_DEPTH
not_above n e = grind (arith, nat_tests)

above : (n : ℕ) → n ≤ MAX_DEPTH → nat_lt MAX_DEPTH n ≡ false
above n e = grind (arith, nat_tests)

not_many : (n : ℕ) → nat_le MAX_INSTANCES n ≡ false → n < MAX_INSTANCES
not_many n e = grind (arith, nat_tests)

many : (n : ℕ) → n < MAX_INSTANCES → nat_le MAX_INSTANCES n ≡ false
many n e = grind (arith, nat_tests)

nothing : (f : FlatFault) → f ∷ [] ≡ [] → ⊥
nothing f e = cc

pub passes : (d : Design) (c : ℕ) (l : Level) (p : Instance) → visit_faults d c (visit l p) ≡ [] → (m : FileModel) × Passes d c l p m
passes d c l p e = of_model (model_named d.models p.model) refl
  where
    of_model : (o : Option FileModel) → model_named d.models p.model ≡ o → (m : FileModel) × Passes d c l p m
    of_model None n = absurd (nothing (NoSuchModel p.model) (rw n at e))
    of_model (Some m) n =
        let h = rw n at e in
        let depth = right-nothing (when (among p.model l.round) (Recursive p.model)) _ h in
        let count = right-nothing (when (nat_lt MAX_DEPTH (length l.round)) (Limit Depth (MAX_DEPTH + 1))) _ depth in (
          m,
          record {
            named = n;
            new = when-nothing _ _ (left-nothing (when (among p.model l.round) (Recursive p.model)) _ h);
            shallow = not_above _ (when-nothing _ _ (left-nothing (when (nat_lt MAX_DEPTH (length l.round)) (Limit Depth (MAX_DEPTH + 1))) _ depth));
            few = not_many c (when-nothing _ _ (left-nothing (when (nat_le MAX_INSTANCES c) (Limit Instances (MAX_INSTANCES + 1))) _ count));
            fits = right-nothing (when (nat_le MAX_INSTANCES c) (Limit Instances (MAX_INSTANCES + 1))) _ count;
          },
        )

pub passing : (d : Design) (c : ℕ) (l : Level) (p : Instance) (m : FileModel) → Passes d c l p m → visit_faults d c (visit l p) ≡ []
passing d c l p m h = rw (h.named, h.new, above (length l.round) h.shallow, many c h.few) h.fits

-- ---- bindings

bind_formal : (l : Level) (path : List ℕ) (m : FileModel) (b : Bind) → bind_faults l path m b ≡ [] → among b.formal (formals_of m) ≡ true
bind_formal l path m b e = not-false _ (when-nothing _ _ (left-nothing (when _ _) _ e))

bind_count : (l : Level) (path : List ℕ) (m : FileModel) (b : Bind) → bind_faults l path m b ≡ [] → (count_of m.decls b.formal == count_of l.model.decls b.actual) ≡ true
bind_count l path m b e = not-false _ (when-nothing _ _ (right-nothing (when (not (among b.formal (formals_of m))) _) _ e))

open_bound : (binds : List Bind) (path net : List ℕ) → open_faults binds path net ≡ [] → is_bound binds net ≡ true
open_bound binds path net e = not-false _ (when-nothing _ _ e)

-- what makes nothing of each element passes a test that follows
pub all-nothing : {X Y : Type 0} (f : X → List Y) (p : X → Bool) → ((x : X) → f x ≡ [] → p x ≡ true) → (xs : List X) → flat_map f xs ≡ [] → list_all p xs ≡ true
all-nothing f p h [] e = refl
all-nothing f p h (x ∷ xs) e = and_from (p x) _ (h x (left-nothing (f x) _ e)) (all-nothing f p h xs (right-nothing (f x) _ e))

pub fits-bound : (l : Level) (p : Instance) (m : FileModel) → bound_port_faults l p m ≡ [] → IsBound l.model p m
fits-bound l p m e =
    let path = path_in l.path p.name in
    let binds = left-nothing (flat_map (bind_faults l path m) p.binds) _ e in
    let opens = right-nothing (flat_map (bind_faults l path m) p.binds) _ e in
    record {
      formals = all-nothing (bind_faults l path m) _ (bind_formal l path m) p.binds binds;
      counts = all-nothing (bind_faults l path m) _ (bind_count l path m) p.binds binds;
      closed = all-nothing (open_faults p.binds path) _ (open_bound p.binds path) m.inputs opens;
    }

no_bind_fault : (l : Level) (path : List ℕ) (m : FileModel) (b : Bind) → among b.formal (formals_of m) ≡ true
    → (count_of m.decls b.formal == count_of l.model.decls b.actual) ≡ true → bind_faults l path m b ≡ []
no_bind_fault l path m b e h = rw (e, h) refl

no_open_fault : (binds : List Bind) (path net : List ℕ) → is_bound binds net ≡ true → open_faults binds path net ≡ []
no_open_fault binds path net e = rw e refl

-- where nothing is made of elements that pass two tests, nothing is made of a list of them
none_made : {X Y : Type 0} (f : X → List Y) (p q : X → Bool) → ((x : X) → p x ≡ true → q x ≡ true → f x ≡ []) → (xs : List X)
    → list_all p xs ≡ true → list_all q xs ≡ true → flat_map f xs ≡ []
none_made f p q h [] e g = refl
none_made f p q h (x ∷ xs) e g =
    let a = and_parts (p x) (list_all p xs) e in
    let b = and_parts (q x) (list_all q xs) g in
    append-nothing (f x) _ (h x a.0 b.0) (none_made f p q h xs a.1 b.1)

pub bound-fits : (l : Level) (p : Instance) (m : FileModel) → IsBound l.model p m → bound_port_faults l p m ≡ []
bound-fits l p m h =
    append-nothing (flat_map (bind_faults l (path_in l.path p.name) m) p.binds) _
    (none_made (bind_faults l (path_in l.path p.name) m) _ _ (λ b. no_bind_fault l (path_in l.path p.name) m b) p.binds h.formals h.counts)
    (flat_map-nothing (open_faults p.binds (path_in l.path p.name)) _ (λ net. no_open_fault p.binds (path_in l.path p.name) net) m.inputs h.closed)
