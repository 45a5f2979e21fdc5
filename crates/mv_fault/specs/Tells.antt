-- Lists of faults, in the order in which they can be told, and what a check answers of them: the
-- first.
use Rattle.std.specs.Prelude.{◌≡◌, Bool, List, [], ◌∷◌, Option, Some, None, Result, ◌⊎◌, MatchResult, if◌then◌else◌}
use Rattle.mv_fault.specs.declared.fault.ParseFault.{ParseFault}
use Rattle.mv_fault.specs.declared.fault.ParseFault.TheVariants.{Memory}

-- the fault where a test holds
abbrev pub when : {F : Type 0} → Bool → F → List F
when test f = if test then f ∷ [] else []

-- the first of a list of faults
abbrev pub first : {F : Type 0} → List F → Option F
first [] = None
first (f ∷ fs) = Some f

-- a check of what has these faults: it answers Ok only where there is none, and a fault only if it
-- is the first of them, or the one that says want of memory
abbrev pub TellsFirst : {T F : Type 0} → F → Result T F → List F → Type 0
TellsFirst memory result faults =
    MatchResult result (λ _. faults ≡ []) (λ f. (f ≡ memory) ⊎ (first faults ≡ Some f))

-- a reader of lines with these faults
abbrev pub Tells : {T : Type 0} → Result T ParseFault → List ParseFault → Type 0
Tells result faults = TellsFirst Memory result faults
