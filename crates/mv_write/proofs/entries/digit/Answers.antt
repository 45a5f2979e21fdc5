-- The bits are those of one value, which is below ten and has no name.
use Rattle.std.proofs.Common.{◌≡◌, ◌∙◌, ◌<◌, [], sym, ap, subst, arith}
use Rattle.std.specs.Int.Count.{count_trailing_zeros}
use Rattle.std.proofs.lemmas.Nat.{one_shl}
use Rattle.std.proofs.lemmas.Bool.{eqb-true}
use Rattle.std.proofs.lemmas.List.{nil_from_length}
use Rattle.mv_base.specs.Set.{one}
use Rattle.mv_cover.specs.Lines.{IsOutput}
use Rattle.mv_net.specs.Nets.{slot, values_in, spelled_in, spelled_values}
use Rattle.mv_net.specs.Index.{value_names_in}
use Rattle.mv_text.specs.Text.{entry_word}
use Rattle.mv_write.specs.Walk.{AreValues}
use Rattle.mv_write.proofs.Spelling.{spelled-is, are-values, entry-digit}
use Rattle.mv_write.proofs.entries.digit.Goals as goal

pub returns : goal.returns
unfolding one
returns c =
    let f = slot c.args.net.now.nets c.args.n.0 in
    let count = values_in f in
    let v = count_trailing_zeros 64 c.args.bits in
    let low : v < 10 = omega (arith, c.if-value-gt9.false) in
    let wide : v < 64 = omega arith in
    let is : c.args.bits ≡ one v = c.if-bits-value.false ∙ one_shl v 64 wide in
    let unnamed : value_names_in f ≡ [] = sym c.value_names.ensures ∙ nil_from_length _ (eqb-true _ 0 (sym c.is_empty.ensures ∙ c.if-not-is_empty.false)) in
    let plain : spelled_in f ≡ spelled_values count [] = sym (spelled-is f c.requires.held) ∙ ap (spelled_values count) unnamed in
    let values : AreValues count [] = rw (← unnamed) (are-values c.args.net.now c.args.n.0 c.well_formed-2.ensures c.requires.held) in
    let more : count ≡ 1 → ⊥ = λ e. c.if-values-eq1.false (c.values.ensures ∙ e) in
    (λ i. entry_word (plain i) (is i)) ∙ entry-digit count v values (subst (IsOutput count) is c.requires.set) more low
