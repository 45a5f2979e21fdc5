-- A buffer copies the net of its first literal.
use Rattle.std.proofs.Common.{◌∙◌, ℕ, Bool, List, ap, sym, subst, arith}
use Rattle.std.specs.Prelude.{MatchBool}
use Rattle.mv_base.proofs.Lists.{none_from}
use Rattle.mv_cover.specs.declared.line.Line.{Line}
use Rattle.mv_net.specs.Nets.{slot, values_in}
use Rattle.mv_net.specs.Plain.{AreCopies, first_net}
use Rattle.mv_net.proofs.Known.{values_few}
use Rattle.mv_net.proofs.Plainness.{first_held, buffer_meets, buffer_found}
use Rattle.mv_net.proofs.network.Network.plain_buffer.Goals as goal

pub values-requires : goal.values-requires
values-requires c =
    first_held c.args.self.now c.args.n.0 c.in-Some.cover.now c.in-Some-first_net.read c.well_formed-2.ensures (sym c.in-Some.ensures) (sym (c.in-Some-first_net.ensures ∙ ap first_net c.as_slice.ensures))

pub are_copies-requires : goal.are_copies-requires
are_copies-requires c = omega (arith, values_few c.args.self.now c.args.n.0 c.well_formed-2.ensures, c.values-values.ensures)

pub returns-then-not-are_copies : goal.returns-then-not-are_copies
returns-then-not-are_copies c = λ m p.
    let net = c.args.self.now in
    let n = c.args.n.0 in
    let cover = c.in-Some.cover.now in
    let read = c.in-Some-first_net.read in
    let b = buffer_meets net n m cover read c.well_formed-2.ensures (sym c.in-Some.ensures) (sym (c.in-Some-first_net.ensures ∙ ap first_net c.as_slice.ensures)) p in
    let P : ℕ → List Line → Type 0 = λ values lines. AreCopies values read.0 lines in
    let Says : Bool → Type 0 = λ a. MatchBool a (P c.values-values.result c.as_slice-2.result.now) (P c.values-values.result c.as_slice-2.result.now → ⊥) in
    subst Says c.if-not-are_copies.true c.are_copies.ensures
    (subst (P c.values-values.result) (sym c.as_slice-2.ensures) (subst (λ k. P k cover.lines) (sym c.values-values.ensures) b.copies))

pub returns : goal.returns
returns c =
    let net = c.args.self.now in
    let n = c.args.n.0 in
    let cover = c.in-Some.cover.now in
    let read = c.in-Some-first_net.read in
    let P : ℕ → List Line → Type 0 = λ values lines. AreCopies values read.0 lines in
    let Says : Bool → Type 0 = λ a. MatchBool a (P c.values-values.result c.as_slice-2.result.now) (P c.values-values.result c.as_slice-2.result.now → ⊥) in
    let copies = subst Says c.if-not-are_copies.false c.are_copies.ensures in
    buffer_found net.nets n read.0 cover (sym c.in-Some.ensures) (none_from cover.default (sym c.is_some.ensures ∙ c.if-is_some.false)) (sym c.values.ensures ∙ (c.if-values.false ∙ c.values-values.ensures))
    (subst (P (values_in (slot net.nets n))) c.as_slice-2.ensures (subst (λ k. P k c.as_slice-2.result.now) c.values-values.ensures copies))
