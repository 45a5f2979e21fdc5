-- What may not stand in a body.
use Rattle.std.proofs.Common.{◌≡◌, ℕ, false, Option, Some, None, refl}
use Rattle.std.specs.Option.{IsSome, is_some}
use Rattle.mv_entry.specs.declared.rule.BodyLine.{BodyLine}
use Rattle.mv_step.specs.declared.fault.StepFault.TheVariants.{Syntax}
use Rattle.mv_step.specs.declared.said.Said.{Said}
use Rattle.mv_step.specs.declared.said.Said.TheVariants.{Line, Default, End}
use Rattle.mv_step.specs.Certificates.{fault_at}
use Rattle.mv_step.specs.Reading.{place_in}

-- behind the default anything but the end
pub refused-behind : (n rule : ℕ) (default : Option ℕ) (s : Said) → IsSome default → (s ≡ End → ⊥) → fault_at n (place_in rule default) s ≡ Some (Syntax n)
refused-behind n rule None s some other = cc
refused-behind n rule (Some set) End some other = absurd (other refl)
refused-behind n rule (Some set) _ some other = refl

-- before it anything but a line, a default and the end
pub refused-before : (n rule : ℕ) (default : Option ℕ) (s : Said) → is_some default ≡ false → ((l : BodyLine) → s ≡ Line l → ⊥) → ((set : ℕ) → s ≡ Default set → ⊥) → (s ≡ End → ⊥) → fault_at n (place_in rule default) s ≡ Some (Syntax n)
refused-before n rule (Some set) s none line default end = cc
refused-before n rule None (Line l) none line default end = absurd (line l refl)
refused-before n rule None (Default set) none line default end = absurd (default set refl)
refused-before n rule None End none line default end = absurd (end refl)
refused-before n rule None _ none line default end = refl
