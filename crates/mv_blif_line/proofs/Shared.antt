-- The first of faults that a line of BLIF-MV can have too, told as a fault of BLIF.
use Rattle.std.proofs.Common.{◌≡◌, ◌⊎◌, ⊎_elim, inl, inr, List, [], ◌∷◌, ◌++◌, refl, ap, ◌∙◌}
use Rattle.std.specs.Prelude.{Some}
use Rattle.mv_fault.specs.declared.fault.ParseFault.{ParseFault}
use Rattle.mv_fault.specs.declared.fault.ParseFault.TheVariants.{Memory as no_memory}
use Rattle.mv_fault.specs.Tells.{first}
use Rattle.mv_fault.proofs.Firsts.{first-append}
use Rattle.mv_blif_line.specs.declared.fault.BlifFault.{BlifFault}
use Rattle.mv_blif_line.specs.declared.fault.BlifFault.TheVariants.{Line, Memory}
use Rattle.mv_blif_line.specs.Faults.{shared_fault, shared}

-- a fault is want of memory, or one of a line
told_fault : (f : ParseFault) → (shared_fault f ≡ Memory) ⊎ (shared_fault f ≡ Line f)
told_fault no_memory = inl refl
told_fault f = inr refl

shared-first : (f : ParseFault) (fs : List ParseFault) → first fs ≡ Some f → first (shared fs) ≡ Some (Line f)
shared-first f [] e = cc
shared-first f (g ∷ fs) e = cc

-- the first of shared faults, before others
pub told_before : (f : ParseFault) (e : BlifFault) (fs : List ParseFault) (more : List BlifFault) → e ≡ shared_fault f
    → (f ≡ no_memory) ⊎ (first fs ≡ Some f) → (e ≡ Memory) ⊎ (first (shared fs ++ more) ≡ Some e)
told_before f e fs more is told =
    ⊎_elim
    (λ (m : f ≡ no_memory). inl (is ∙ ap shared_fault m))
    (λ (h : first fs ≡ Some f).
    ⊎_elim
    (λ (m : shared_fault f ≡ Memory). inl (is ∙ m))
    (λ (l : shared_fault f ≡ Line f). inr (rw (is ∙ l) (first-append (Line f) (shared fs) more (shared-first f fs h))))
    (told_fault f))
    told

-- alone
pub told_shared : (f : ParseFault) (e : BlifFault) (fs : List ParseFault) → e ≡ shared_fault f
    → (f ≡ no_memory) ⊎ (first fs ≡ Some f) → (e ≡ Memory) ⊎ (first (shared fs) ≡ Some e)
told_shared f e fs is told =
    ⊎_elim
    (λ (m : f ≡ no_memory). inl (is ∙ ap shared_fault m))
    (λ (h : first fs ≡ Some f).
    ⊎_elim
    (λ (m : shared_fault f ≡ Memory). inl (is ∙ m))
    (λ (l : shared_fault f ≡ Line f). inr (rw (is ∙ l) (shared-first f fs h)))
    (told_fault f))
    told

pub ruleset sharing = (told_before, told_shared)
