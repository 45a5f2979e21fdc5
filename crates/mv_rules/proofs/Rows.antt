-- Rows of checks: at most one fault is that of the first check that fails, and none is where all hold.
use Rattle.std.proofs.Common.{◌≡◌, ◌∙◌, ℕ, sym, subst, inl, inr}
use Rattle.mv_entry.specs.declared.fault.RuleFault.{RuleFault}
use Rattle.mv_plans.specs.Checks.{Passed, Unless, With}

-- ---- at most one fault

-- the checks of a row have at most one first fault
pub record HasOneFault (Rest : RuleFault → Type 0) : Type 0 where
  pub one : (f g : RuleFault) → Rest f → Rest g → f ≡ g

pub passed_one : HasOneFault Passed
passed_one = record { one = λ f g p q. absurd p }

pub unless_one : (Holds : Type 0) (fault : RuleFault) (Rest : RuleFault → Type 0) → HasOneFault Rest → HasOneFault (Unless Holds fault Rest)
unless_one Holds fault Rest rest = record { one = both }
  where
    both : (f g : RuleFault) → Unless Holds fault Rest f → Unless Holds fault Rest g → f ≡ g
    both f g (inl p) (inl q) = p.1 ∙ sym q.1
    both f g (inl p) (inr q) = absurd (p.0 q.0)
    both f g (inr p) (inl q) = absurd (q.0 p.0)
    both f g (inr p) (inr q) = rest.one f g p.1 q.1

pub with_one : (IsIt : ℕ → Type 0) (Rest : ℕ → RuleFault → Type 0) → ((n m : ℕ) → IsIt n → IsIt m → n ≡ m) → ((n : ℕ) → HasOneFault (Rest n)) → HasOneFault (With IsIt Rest)
with_one IsIt Rest same rest = record { one = both }
  where
    both : (f g : RuleFault) → With IsIt Rest f → With IsIt Rest g → f ≡ g
    both f g (inl p) (inl q) = p.1 ∙ sym q.1
    both f g (inl p) (inr q) = absurd (p.0 q.0 q.1)
    both f g (inr p) (inl q) = absurd (q.0 p.0 p.1)
    both f g (inr p) (inr q) = (rest p.0).one f g p.2 (subst (λ n. Rest n g) (same q.0 p.0 q.1 p.1) q.2)

-- ---- no fault where all checks hold

-- no check of a row fails
pub record FailsNever (Rest : RuleFault → Type 0) : Type 0 where
  pub none : (f : RuleFault) → Rest f → ⊥

pub passed_never : FailsNever Passed
passed_never = record { none = λ f p. p }

pub unless_never : (Holds : Type 0) (fault : RuleFault) (Rest : RuleFault → Type 0) → Holds → FailsNever Rest → FailsNever (Unless Holds fault Rest)
unless_never Holds fault Rest holds rest = record { none = none }
  where
    none : (f : RuleFault) → Unless Holds fault Rest f → ⊥
    none f (inl p) = p.0 holds
    none f (inr p) = rest.none f p.1

pub with_never : (IsIt : ℕ → Type 0) (Rest : ℕ → RuleFault → Type 0) (n : ℕ) → IsIt n → ((m : ℕ) → IsIt m → n ≡ m) → FailsNever (Rest n) → FailsNever (With IsIt Rest)
with_never IsIt Rest n is same rest = record { none = none }
  where
    none : (f : RuleFault) → With IsIt Rest f → ⊥
    none f (inl p) = p.0 n is
    none f (inr p) = rest.none f (subst (λ m. Rest m f) (sym (same p.0 p.1)) p.2)
