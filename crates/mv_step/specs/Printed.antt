-- Rules whose lines, as they are printed, list them again.
use Rattle.std.specs.Prelude.{◌≡◌, ℕ, Bool, true, ◌&&◌, ◌==◌, nat_lt, nat_le, List, length, Some, None, All, IfSome, map}
use Rattle.std.specs.List.{list_all}
use Rattle.mv_base.specs.Set.{empty, IsSet}
use Rattle.mv_base.specs.declared.limits.TheConstants.{MAX_WORD_BYTES}
use Rattle.mv_lex.specs.declared.lines.LexLine.{LexLine}
use Rattle.mv_entry.specs.declared.rule.BodyLit.{BodyLit}
use Rattle.mv_entry.specs.declared.rule.BodyLine.{BodyLine}
use Rattle.mv_entry.specs.declared.rule.Body.{Body}
use Rattle.mv_entry.specs.declared.rule.Code.{Code}
use Rattle.mv_entry.specs.declared.rule.Rule.{Rule}
use Rattle.mv_entry.specs.declared.rule.Rule.TheVariants.{Remove, Add, Divide, Wire, Collapse, Narrow, Merge, Encode, Fill}
use Rattle.mv_step.specs.declared.step.Step.{Step}
use Rattle.mv_step.specs.Certificates.{fault_of, steps_of}

-- a set that a word can say: it has a value, and only such as a net may have
pub record IsSayable (set : ℕ) : Type 0 where
  pub some : set ≡ empty → ⊥
  pub small : IsSet set

-- each set of a line is one
pub record IsSayableLine (l : BodyLine) : Type 0 where
  pub lits : All (λ (m : BodyLit). IsSayable m.set) l.lits
  pub out : IsSayable l.out

-- each set of a body is one
pub record IsSayableBody (body : Body) : Type 0 where
  pub lines : All IsSayableLine body.lines
  pub default : IfSome body.default IsSayable

-- each set of a rule is one
abbrev pub AreSayableSets : Rule → Type 0
AreSayableSets (Remove net) = Unit {0}
AreSayableSets (Add net body) = IsSayableBody body
AreSayableSets (Divide net by body) = IsSayableBody body
AreSayableSets (Wire net) = Unit {0}
AreSayableSets (Collapse net) = Unit {0}
AreSayableSets (Narrow net d u body) = IsSayableBody body
AreSayableSets (Merge net gone into) = Unit {0}
AreSayableSets (Encode net names list) = Unit {0}
AreSayableSets (Fill net out) = IsSayable out

-- a number that a word can say where no set stands
abbrev pub is_sayable_number : ℕ → Bool
is_sayable_number n = nat_lt n 65536

-- a code that a word can say where there are so many names: it has a bit for each of them
abbrev pub is_sayable_code : ℕ → Code → Bool
is_sayable_code count c = (length c.bits == count) && nat_lt 0 count && nat_le count MAX_WORD_BYTES

-- the numbers and the codes of a rule are such
abbrev pub is_sayable_form : Rule → Bool
is_sayable_form (Remove net) = true
is_sayable_form (Add net body) = true
is_sayable_form (Divide net by body) = true
is_sayable_form (Wire net) = true
is_sayable_form (Collapse net) = true
is_sayable_form (Narrow net d u body) = is_sayable_number d && is_sayable_number u
is_sayable_form (Merge net gone None) = is_sayable_number gone.0
is_sayable_form (Merge net gone (Some into)) = is_sayable_number gone.0 && is_sayable_number into.0
is_sayable_form (Encode net names list) = is_sayable_number (length names)
    && list_all (is_sayable_code (length names)) list
is_sayable_form (Fill net out) = true

-- a rule whose lines can say it
pub record IsSayableRule (rule : Rule) : Type 0 where
  pub sets : AreSayableSets rule
  pub form : is_sayable_form rule ≡ true

-- the lines are a certificate, and list these rules
pub record Lists (lines : List LexLine) (rules : List Rule) : Type 0 where
  pub faultless : fault_of lines ≡ None
  pub rules_are : map (λ (s : Step). s.rule) (steps_of lines) ≡ rules
