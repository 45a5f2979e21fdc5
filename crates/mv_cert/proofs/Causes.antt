-- No rule fails for want of memory: that says nothing of it.
use Rattle.std.proofs.Common.{◌≡◌, ◌∙◌, ℕ, Bool, true, false, inl, inr, refl, sym, ap}
use Rattle.std.proofs.lemmas.Bool.{false≢true}
use Rattle.mv_entry.specs.declared.rule.Rule.{Rule}
use Rattle.mv_entry.specs.declared.rule.Rule.TheVariants.{Remove, Add, Divide, Wire, Collapse, Narrow, Fill, Merge, Encode}
use Rattle.mv_entry.specs.declared.fault.RuleFault.{RuleFault}
use Rattle.mv_entry.specs.declared.fault.RuleFault.TheVariants.{Memory}
use Rattle.mv_net.specs.declared.parts.NetParts.{NetParts}
use Rattle.mv_rules.specs.Applies.{Fails}
use Rattle.mv_plans.specs.Checks.{Passed, Unless, With}

abbrev is_memory : RuleFault → Bool
is_memory Memory = true
is_memory _ = false

-- the checks of a row never fail for want of memory
record Spares (Row : RuleFault → Type 0) : Type 0 where
  none : Row Memory → ⊥

passed_spares : Spares Passed
passed_spares = record { none = λ x. x }

unless_spares : (Holds : Type 0) (fault : RuleFault) (Rest : RuleFault → Type 0) → is_memory fault ≡ false → Spares Rest → Spares (Unless Holds fault Rest)
unless_spares Holds fault Rest other rest = record { none = λ f. by f }
  where
    by : Unless Holds fault Rest Memory → ⊥
    by (inl p) = false≢true (sym (ap is_memory p.1 ∙ other))
    by (inr p) = rest.none p.1

with_spares : (IsIt : ℕ → Type 0) (Rest : ℕ → RuleFault → Type 0) → ((n : ℕ) → Spares (Rest n)) → Spares (With IsIt Rest)
with_spares IsIt Rest rest = record { none = λ f. by f }
  where
    by : With IsIt Rest Memory → ⊥
    by (inl p) = false≢true (sym (ap is_memory p.1))
    by (inr p) = (rest p.0).none p.2

row_spares : (free : Bool) (rule : Rule) (net : NetParts) → Spares (Fails free rule net)
row_spares free (Remove w) net =
    with_spares _ _ (λ n. unless_spares _ _ _ refl (unless_spares _ _ _ refl (unless_spares _ _ _ refl passed_spares)))
row_spares free (Add w body) net =
    unless_spares _ _ _ refl (unless_spares _ _ _ refl (unless_spares _ _ _ refl (unless_spares _ _ _ refl passed_spares)))
row_spares free (Divide w by body) net =
    with_spares _ _ (λ n.
    with_spares _ _ (λ d.
    unless_spares _ _ _ refl (unless_spares _ _ _ refl (unless_spares _ _ _ refl (unless_spares _ _ _ refl (unless_spares _ _ _ refl passed_spares))))))
row_spares free (Wire w) net = with_spares _ _ (λ n. unless_spares _ _ _ refl (unless_spares _ _ _ refl passed_spares))
row_spares free (Collapse w) net =
    with_spares _ _ (λ n. unless_spares _ _ _ refl (unless_spares _ _ _ refl (unless_spares _ _ _ refl (unless_spares _ _ _ refl passed_spares))))
row_spares free (Narrow w d u body) net =
    with_spares _ _ (λ n.
    unless_spares _ _ _ refl (unless_spares _ _ _ refl (unless_spares _ _ _ refl (
    unless_spares _ _ _ refl (unless_spares _ _ _ refl (unless_spares _ _ _ refl (unless_spares _ _ _ refl passed_spares)))))))
row_spares free (Fill w out) net = with_spares _ _ (λ n. unless_spares _ _ _ refl (unless_spares _ _ _ refl (unless_spares _ _ _ refl (unless_spares _ _ _ refl passed_spares))))
row_spares free (Merge w gone into) net = with_spares _ _ (λ n. unless_spares _ _ _ refl (unless_spares _ _ _ refl (unless_spares _ _ _ refl passed_spares)))
row_spares free (Encode w names codes) net =
    with_spares _ _ (λ n.
    unless_spares _ _ _ refl (unless_spares _ _ _ refl (unless_spares _ _ _ refl (
    unless_spares _ _ _ refl (unless_spares _ _ _ refl (unless_spares _ _ _ refl passed_spares))))))

pub never_memory : (free : Bool) (rule : Rule) (net : NetParts) → Fails free rule net Memory → ⊥
never_memory free rule net f = (row_spares free rule net).none f
