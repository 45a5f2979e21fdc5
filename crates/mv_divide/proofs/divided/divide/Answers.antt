-- The quotients are those of the table, and so are the lines that were made.
use Rattle.std.proofs.Common.{◌≡◌, List, [], All, subst, sym}
use Rattle.std.proofs.lemmas.Bool.{iff_false}
use Rattle.mv_divide.specs.declared.quotient.Quotient.{Quotient}
use Rattle.mv_divide.specs.Grouped.{AreBelow, AreMade}
use Rattle.mv_divide.proofs.Products.{all_below, divided_from}
use Rattle.mv_divide.proofs.divided.divide.Goals as goal

pub divided_lines-requires : goal.divided_lines-requires
divided_lines-requires c =
    subst (λ (qs : List Quotient). All (λ (q : Quotient). All (AreBelow c.args.n) q.cubes) qs) (sym c.as_slice-2.ensures.value)
    (all_below c.args.lines.now c.args.parts.now c.args.divisor.now c.args.n c.in_ok-quotients.quotients.items c.requires.parts c.requires.some c.in_ok-quotients.ensures c.requires.below)

pub returns : goal.returns
returns c =
    let quotients = c.in_ok-quotients.quotients.items in
    let new = c.in_ok-divided_lines.field-0.items in
    let some : All (λ (q : Quotient). q.cubes ≡ []) quotients → ⊥ = λ none.
    iff_false c.are_empty.ensures c.if-are_empty.false (subst (λ (qs : List Quotient). All (λ (q : Quotient). q.cubes ≡ []) qs) (sym c.as_slice.ensures.value) none) in
    divided_from c.args.lines.now c.args.parts.now c.args.divisor.now c.args.n quotients new c.requires.parts c.in_ok-quotients.ensures some
    (subst (λ (qs : List Quotient). AreMade c.args.lines.now c.args.divisor.now c.args.n qs new) c.as_slice-2.ensures.value c.in_ok-divided_lines.ensures)
