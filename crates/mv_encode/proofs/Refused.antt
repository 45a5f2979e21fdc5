-- Why the rule for a net is refused: of its checks three can fail, since the codes are right and the names are fresh.
use Rattle.std.proofs.Common.{◌≡◌, ◌∙◌, ℕ, ◌≤◌, Bool, false, List, length, All, inl, inr, sym, subst, arith}
use Rattle.mv_base.specs.declared.limits.TheConstants.{MAX_NETS}
use Rattle.mv_codes.specs.Codes.{AreCodes}
use Rattle.mv_entry.specs.declared.fault.RuleFault.{RuleFault}
use Rattle.mv_entry.specs.declared.fault.RuleFault.TheVariants.{Nets, Varied, Wide}
use Rattle.mv_entry.specs.declared.note.Why.TheVariants.{Lines, Varied as varied_table}
use Rattle.mv_entry.specs.declared.rule.Rule.{Rule}
use Rattle.mv_net.specs.declared.parts.NetParts.{NetParts}
use Rattle.mv_net.specs.Formed.{WellFormed}
use Rattle.mv_net.specs.Nets.{slot, name_in, values_in}
use Rattle.mv_net.specs.Plain.{IsPlainNet}
use Rattle.mv_net.proofs.Known.{values_few}
use Rattle.mv_plans.specs.Checks.{AreNewNames, IsNewName}
use Rattle.mv_plans.specs.Encoding.{EncodeRow, FailsEncode}
use Rattle.mv_plans.proofs.Named.{one_tabled}
use Rattle.mv_rules.specs.Applies.{Fails}
use Rattle.mv_visit.proofs.Tabled.{its_table}
use Rattle.mv_encode.specs.Encodes.{AreBitNames, IsRefusedCoding, IsToEncode, StaysFor, codes_of, rule_of}
use Rattle.mv_encode.specs.Encoding.{IsRuleFor, WasRefused}
use Rattle.mv_encode.proofs.Binary.{are_codes, few_bits}
use Rattle.mv_encode.proofs.Firsts.{are_new}

-- the fault is one of three
data IsFault (net : NetParts) (n : ℕ) (fault : RuleFault) : Type 0 where
  IsVaried : (IsPlainNet net.nets n → ⊥) → fault ≡ Varied → IsFault net n fault
  IsWide : fault ≡ Wide → IsFault net n fault
  IsFull : fault ≡ Nets → IsFault net n fault

module _ (net : NetParts) (n : ℕ) (formed : WellFormed net) (few : length net.nets ≤ MAX_NETS) (to : IsToEncode net n) where
  abbrev values : ℕ
  values = values_in (slot net.nets n)

  module _ (names : List (List ℕ)) (are : AreBitNames net n names) (each : All (IsNewName net.nets) names) where
    form : AreCodes values (length names) (codes_of (length names) values)
    form = are_codes values (length names) to.several (values_few net n formed) are.few

    new : AreNewNames net.nets names
    new = let short = few_bits values (length names) (values_few net n formed) are.few in are_new net.nets few names (omega (arith, short)) are.fresh each

    row_fault : (fault : RuleFault) → EncodeRow names (codes_of (length names) values) net n fault → IsFault net n fault
    row_fault fault (inl (seen, is)) = absurd (seen (record { unseen = to.unseen }))
    row_fault fault (inr (unseen, inl (varied, is))) = IsVaried varied is
    row_fault fault (inr (unseen, inr (plain, inl (none, is)))) = absurd (none form)
    row_fault fault (inr (unseen, inr (plain, inr (codes, inl (taken, is))))) = absurd (taken new)
    row_fault fault (inr (unseen, inr (plain, inr (codes, inr (fresh, inl (wide, is)))))) = IsWide is
    row_fault fault (inr (unseen, inr (plain, inr (codes, inr (fresh, inr (narrow, inl (full, is))))))) = IsFull is
    row_fault fault (inr (unseen, inr (plain, inr (codes, inr (fresh, inr (narrow, inr (room, nothing))))))) = absurd nothing

    -- the net that is found by the name is n
    rule_fault : (fault : RuleFault) → FailsEncode net (name_in (slot net.nets n)) names (codes_of (length names) values) fault → IsFault net n fault
    rule_fault fault (inl (none, is)) = absurd (none n (its_table net.nets n to.tabled))
    rule_fault fault (inr (m, tabled, row)) =
        let e : m ≡ n = one_tabled net (name_in (slot net.nets n)) m n formed tabled (its_table net.nets n to.tabled) in
        row_fault fault (subst (λ k. EncodeRow names (codes_of (length names) values) net k fault) e row)

  module _ (rule : Rule) (fault : RuleFault) (was : WasRefused net n rule fault) where
    named : Fails false (rule_of net n was.is_rule.names) net fault
    named = subst (λ r. Fails false r net fault) was.is_rule.rule_is was.fails

    its_fault : IsFault net n fault
    its_fault = rule_fault was.is_rule.names was.is_rule.are was.is_rule.new fault named

    refused_as : (other : RuleFault) → fault ≡ other → IsRefusedCoding net n other
    refused_as other e = record { names = was.is_rule.names; are = was.is_rule.are; fails = subst (λ f. Fails false (rule_of net n was.is_rule.names) net f) e named }

    pub stays_varied : fault ≡ Varied → StaysFor net n varied_table
    stays_varied e = by its_fault
      where
        by : IsFault net n fault → IsPlainNet net.nets n → ⊥
        by (IsVaried varied is) = varied
        by (IsWide is) = let bad : Wide ≡ Varied = sym is ∙ e in absurd cc
        by (IsFull is) = let bad : Nets ≡ Varied = sym is ∙ e in absurd cc

    pub stays_wide : fault ≡ Wide → StaysFor net n Lines
    stays_wide e = refused_as Wide e

    pub is_full : fault ≡ Nets → IsRefusedCoding net n Nets
    is_full e = refused_as Nets e

    pub no_other : (fault ≡ Varied → ⊥) → (fault ≡ Wide → ⊥) → (fault ≡ Nets → ⊥) → ⊥
    no_other not_varied not_wide not_full = by its_fault
      where
        by : IsFault net n fault → ⊥
        by (IsVaried varied is) = not_varied is
        by (IsWide is) = not_wide is
        by (IsFull is) = not_full is

-- a rule for the net that is refused is so whether values are free or not
pub was_refused : (free : Bool) (net : NetParts) (n : ℕ) (rule : Rule) (fault : RuleFault) → IsRuleFor net n rule → Fails free rule net fault → WasRefused net n rule fault
was_refused free net n rule fault is fails =
    record { is_rule = is; fails = subst (λ r. Fails false r net fault) (sym is.rule_is) (subst (λ r. Fails free r net fault) is.rule_is fails) }
