-- The sets of a rule that applies can be said: each is some of the values of a net.
use Rattle.std.proofs.Common.{◌≡◌, ◌∙◌, ℕ, ◌<◌, ◌≤◌, Bool, true, ◌&&◌, ◌==◌, nat_le, nat_lt, List, [], ◌∷◌, length, map, All, Option, Some, None, refl, sym, arith, eq-eqb}
use Rattle.std.specs.List.{flat_map, list_all}
use Rattle.std.specs.Option.{option_to_list}
use Rattle.std.proofs.lemmas.Bool.{and_from, le-leb, lt-ltb, ltb-true}
use Rattle.std.proofs.lemmas.List.Elements.{All-nil, All-cons, All-head, All-tail, All-append, All-push}
use Rattle.mv_base.specs.declared.limits.TheConstants.{MAX_CODE_BITS, MAX_VALUES, MAX_WINDOW_STEPS, MAX_WORD_BYTES}
use Rattle.mv_base.proofs.Sets.{has-full}
use Rattle.mv_coding.proofs.CodeValues.{some_bits}
use Rattle.mv_cover.specs.Lines.{IsOutput}
use Rattle.mv_body.specs.Bodies.{literals_said, IsTidy, IsTidyLine}
use Rattle.mv_body.proofs.Tidying.{tidy_lines}
use Rattle.mv_entry.specs.declared.rule.BodyLit.{BodyLit}
use Rattle.mv_entry.specs.declared.rule.BodyLine.{BodyLine}
use Rattle.mv_entry.specs.declared.rule.Body.{Body}
use Rattle.mv_entry.specs.declared.rule.Code.{Code}
use Rattle.mv_entry.specs.declared.rule.Rule.{Rule}
use Rattle.mv_entry.specs.declared.rule.Rule.TheVariants.{Remove, Add, Divide, Wire, Collapse, Narrow, Fill, Merge, Encode}
use Rattle.mv_net.specs.declared.parts.NetParts.{NetParts}
use Rattle.mv_net.specs.Formed.{IsLiteral, WellFormed}
use Rattle.mv_net.specs.Nets.{slot, values_in}
use Rattle.mv_net.proofs.Known.{values_few}
use Rattle.mv_rules.specs.Applies.{Applies}
use Rattle.mv_step.specs.Printed.{IsSayable, is_sayable_code, is_sayable_form, is_sayable_number}
use Rattle.mv_entries_back.specs.Printable.{line_sets, body_sets, rule_sets}

-- some of the values of a net
output : (values set : ℕ) → values ≤ MAX_VALUES → IsOutput values set → IsSayable set
output values set few is = record {
  some = is.some;
  small = record { below = λ v h. let low = ltb-true v values (sym (has-full values v) ∙ is.within v h) in omega (arith, low, few) };
}

-- the steps of a window are few
few_steps : (d : ℕ) → d ≤ MAX_WINDOW_STEPS → is_sayable_number d ≡ true
few_steps d few = lt-ltb d 65536 (omega (arith, few))

-- the values of a net are few
few_value : (v values : ℕ) → v < values → values ≤ MAX_VALUES → is_sayable_number v ≡ true
few_value v values low few = lt-ltb v 65536 (omega (arith, low, few))

-- codes of so many bits
sayable_codes : (bits : ℕ) (codes : List Code) → 0 < bits → bits ≤ MAX_CODE_BITS → All (λ (c : Code). length c.bits ≡ bits) codes → list_all (is_sayable_code bits) codes ≡ true
sayable_codes bits [] some few all = refl
sayable_codes bits (c ∷ cs) some few all =
    let long = All-head (λ (d : Code). length d.bits ≡ bits) c cs all in
    and_from (is_sayable_code bits c) (list_all (is_sayable_code bits) cs)
    (and_from (length c.bits == bits && nat_lt 0 bits) (nat_le bits MAX_WORD_BYTES)
    (and_from (length c.bits == bits) (nat_lt 0 bits) (eq-eqb (length c.bits) bits long) (lt-ltb 0 bits some)) (le-leb bits MAX_WORD_BYTES (omega (arith, few))))
    (sayable_codes bits cs some few (All-tail (λ (d : Code). length d.bits ≡ bits) c cs all))

module _ (net : NetParts) (formed : WellFormed net) where
  lits : (ls : List BodyLit) → All (IsLiteral net.nets) (literals_said net.nets ls) → All IsSayable (map (λ (m : BodyLit). m.set) ls)
  lits [] all = All-nil IsSayable
  lits (l ∷ ls) all =
      let here = All-head (IsLiteral net.nets) _ (literals_said net.nets ls) all in
      All-cons IsSayable l.set (map (λ (m : BodyLit). m.set) ls) (output _ l.set (values_few net _ formed) here.set) (lits ls (All-tail (IsLiteral net.nets) _ (literals_said net.nets ls) all))

  module _ (values : ℕ) (few : values ≤ MAX_VALUES) where
    lines : (ls : List BodyLine) → All (IsTidyLine net.nets values) ls → All IsSayable (flat_map line_sets ls)
    lines [] all = All-nil IsSayable
    lines (l ∷ ls) all =
        let here = All-head (IsTidyLine net.nets values) l ls all in
        All-append IsSayable (line_sets l) (flat_map line_sets ls)
        (All-push IsSayable (map (λ (m : BodyLit). m.set) l.lits) l.out (lits l.lits here.cube.each) (output values l.out few here.out))
        (lines ls (All-tail (IsTidyLine net.nets values) l ls all))

    body : (b : Body) → IsTidy net.nets values b → All IsSayable (body_sets b)
    body b tidy =
        All-append IsSayable (flat_map line_sets b.lines) (option_to_list b.default) (lines b.lines (tidy_lines net.nets values b tidy).each) (default b.default refl)
      where
        default : (d : Option ℕ) → b.default ≡ d → All IsSayable (option_to_list d)
        default None e = All-nil IsSayable
        default (Some set) e = All-cons IsSayable set [] (output values set few (tidy.cover.default set e)) (All-nil IsSayable)

  pub rule_sayable : (free : Bool) (rule : Rule) (new : NetParts) → Applies free rule net new → All IsSayable (rule_sets rule)
  rule_sayable free (Remove w) new p = All-nil IsSayable
  rule_sayable free (Add w b) new p = body 2 (omega arith) b p.form.tidy
  rule_sayable free (Divide w by b) new p = body (values_in (slot net.nets p.number)) (values_few net p.number formed) b p.form
  rule_sayable free (Wire w) new p = All-nil IsSayable
  rule_sayable free (Collapse w) new p = All-nil IsSayable
  rule_sayable free (Narrow w d u b) new p = body (values_in (slot net.nets p.number)) (values_few net p.number formed) b p.form.tidy
  rule_sayable free (Fill w out) new p =
      All-cons IsSayable out [] (output (values_in (slot net.nets p.number)) out (values_few net p.number formed) p.form.output) (All-nil IsSayable)
  rule_sayable free (Merge w gone into) new p = All-nil IsSayable
  rule_sayable free (Encode w names codes) new p = All-nil IsSayable

  -- its numbers too, which those of a narrowing's window are, and its codes
  pub rule_formed : (free : Bool) (rule : Rule) (new : NetParts) → Applies free rule net new → is_sayable_form rule ≡ true
  rule_formed free (Remove w) new p = refl
  rule_formed free (Add w b) new p = refl
  rule_formed free (Divide w by b) new p = refl
  rule_formed free (Wire w) new p = refl
  rule_formed free (Collapse w) new p = refl
  rule_formed free (Narrow w d u b) new p = and_from (is_sayable_number d) (is_sayable_number u) (few_steps d p.form.down) (few_steps u p.form.up)
  rule_formed free (Fill w out) new p = refl
  rule_formed free (Merge w gone None) new p = few_value gone.0 (values_in (slot net.nets p.number)) p.form.low (values_few net p.number formed)
  rule_formed free (Merge w gone (Some into)) new p =
      let few = values_few net p.number formed in
      let values = values_in (slot net.nets p.number) in
      and_from (is_sayable_number gone.0) (is_sayable_number into.0) (few_value gone.0 values p.form.low few) (few_value into.0 values p.form.other.0 few)
  rule_formed free (Encode w names codes) new p =
      let form = p.can.form in
      let some = some_bits (values_in (slot net.nets p.number)) (length names) codes form in
      and_from (is_sayable_number (length names)) (list_all (is_sayable_code (length names)) codes) (lt-ltb (length names) 65536 (omega (arith, form.few))) (sayable_codes (length names) codes some form.few form.long)
